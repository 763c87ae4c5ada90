-- The key documents and the new master key are read, then the keys are made anew; or one of these isn't done.
use Rattle.std.proofs.Common.{◌≡◌, ◌∙◌, ℕ, ℤ, ap, arith, length, rules, subst, Ok, Err}
use Rattle.std.proofs.lemmas.Int.{of_z-to_z}
use Rattle.std.specs.Int.{cast_signed, cast_unsigned, w64}
use Rattle.rewrap_keys.specs.Answers.{Rewraps}
use Rattle.rewrap_keys.proofs.Written.{few_keys}
use Rattle.rewrap_keys.specs.Rewrapped.{change, draws_of}
use Rattle.fle_engine.specs.KeyRulings.{stop_for}
use Rattle.fle_engine.proofs.KeyAnswers.{draws_few, faulty_few, keys_faulty, loaded_from, made_anew, master_faulty}
use Rattle.fle_engine.proofs.KeyAnswers.{not_anew, wants_few}
use Rattle.fle_engine.proofs.rewrapping.rewrap_under.Goals as goal

pub rewrap_vault-requires-clause-loaded : goal.rewrap_vault-requires-clause-loaded
rewrap_vault-requires-clause-loaded g c =
    (loaded_from c.args.bytes.now c.in-Ok.vault c.in-Ok.ensures.reads).0

pub rewrap_vault-requires-clause-small : goal.rewrap_vault-requires-clause-small
rewrap_vault-requires-clause-small g c =
    (loaded_from c.args.bytes.now c.in-Ok.vault c.in-Ok.ensures.reads).1

pub returns-in-Err : goal.returns-in-Err
returns-in-Err g c =
    let seen = g.N.Entropy.seen c.args.entropy.now in
    rw c.stop_of.ensures.stop
    (record {
      answers = keys_faulty c.args.from.now c.args.time c.args.new_master.now c.args.bytes.now seen
          seen c.in-Err.fault c.in-Err.ensures.reads;
      few = faulty_few c.in-Err.fault;
    })

pub returns-in-Err-load_master : goal.returns-in-Err-load_master
returns-in-Err-load_master g c =
    let seen = g.N.Entropy.seen c.args.entropy.now in
    rw c.stop_of-in-Err-load_master.ensures.stop
    (record {
      answers = master_faulty c.args.from.now c.args.time c.args.new_master.now c.args.bytes.now
          seen seen c.in-Err-load_master.fault c.in-Ok.vault c.in-Ok.ensures.reads c.in-Err-load_master.ensures.reads;
      few = faulty_few c.in-Err-load_master.fault;
    })

pub returns-in-Ok-rewrap_vault : goal.returns-in-Ok-rewrap_vault
returns-in-Ok-rewrap_vault g c =
    let back : cast_unsigned w64 (cast_signed w64 c.args.time) ≡ c.args.time =
    of_z-to_z w64 c.args.time (search rules) in
    let bits : cast_unsigned w64 (cast_signed w64 (cast_unsigned w64 c.cast_signed.result)) ≡ c.args.time =
    ap (λ (z : ℤ). cast_unsigned w64 (cast_signed w64 (cast_unsigned w64 z))) c.cast_signed.ensures
    ∙ (ap (λ (n : ℕ). cast_unsigned w64 (cast_signed w64 n)) back ∙ back) in
    let answer = subst (λ (t : ℕ). Rewraps (change c.args.from.now c.in-Ok-load_master.to t) c.args.bytes.now
    c.in-Ok.vault (g.N.Entropy.seen c.args.entropy.now) (g.N.Entropy.seen c.rewrap_vault.new.entropy)
    (Ok c.in-Ok-rewrap_vault.made)) bits c.in-Ok-rewrap_vault.ensures.answer in
    record {
      answers = made_anew c.args.from.now c.args.time c.args.new_master.now c.args.bytes.now
          (g.N.Entropy.seen c.args.entropy.now) (g.N.Entropy.seen c.rewrap_vault.new.entropy) c.in-Ok.vault
          c.in-Ok-load_master.to c.in-Ok-rewrap_vault.made c.in-Ok.ensures.reads c.in-Ok-load_master.ensures.reads
          answer c.in-Ok-rewrap_vault.ensures.size;
      few = tt;
    }

pub returns : goal.returns
returns g c =
    let back : cast_unsigned w64 (cast_signed w64 c.args.time) ≡ c.args.time =
    of_z-to_z w64 c.args.time (search rules) in
    let bits : cast_unsigned w64 (cast_signed w64 (cast_unsigned w64 c.cast_signed.result)) ≡ c.args.time =
    ap (λ (z : ℤ). cast_unsigned w64 (cast_signed w64 (cast_unsigned w64 z))) c.cast_signed.ensures
    ∙ (ap (λ (n : ℕ). cast_unsigned w64 (cast_signed w64 n)) back ∙ back) in
    let bytes = c.args.bytes.now in
    let fault = c.in-Err-rewrap_vault.fault in
    let answer = subst (λ (t : ℕ). Rewraps (change c.args.from.now c.in-Ok-load_master.to t) bytes c.in-Ok.vault
    (g.N.Entropy.seen c.args.entropy.now) (g.N.Entropy.seen c.rewrap_vault.new.entropy) (Err fault)) bits
    c.in-Err-rewrap_vault.ensures.answer in
    let loaded = loaded_from bytes c.in-Ok.vault c.in-Ok.ensures.reads in
    rw (c.stop_for.ensures.stop ∙ ap (λ (n : ℕ). stop_for (length bytes) n fault) (ap draws_of c.keys.ensures.same))
    (record {
      answers = not_anew c.args.from.now c.args.time c.args.new_master.now bytes
          (g.N.Entropy.seen c.args.entropy.now) (g.N.Entropy.seen c.rewrap_vault.new.entropy) c.in-Ok.vault
          c.in-Ok-load_master.to fault c.in-Ok.ensures.reads c.in-Ok-load_master.ensures.reads
          answer c.in-Err-rewrap_vault.ensures.sure;
      few = wants_few (length bytes) (draws_of c.in-Ok.vault) fault
          (omega (
            arith,
            draws_few c.in-Ok.vault,
            few_keys bytes c.in-Ok.vault (λ i. omega (arith, c.type_inv.bytes i)) loaded.0,
            loaded.1,
          ));
    })
