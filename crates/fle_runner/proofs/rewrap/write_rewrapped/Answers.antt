-- The file is made and written, or it isn't made.
use Rattle.std.proofs.Common.{◌≡◌, ◌∙◌, ℕ, ℤ, List, Option, length, ap, refl, rules, subst, sym}
use Rattle.std.proofs.lemmas.Int.{of_z-to_z}
use Rattle.std.specs.Int.{cast_unsigned, cast_signed, w64}
use Rattle.fle_stream.specs.Acted.{Acted, AreAny, objects}
use Rattle.fle_stream.specs.Task.{one_document}
use Rattle.fle_runner.specs.Rewrap.{rewrap_plan, unless_damaged}
use Rattle.rewrap_keys.specs.Rewrapped.{change, rewrapped_file}
use Rattle.fle_runner.proofs.Rewraps.{fault_kind, fault_undrawn, output_drawn, output_kind, output_written}
use Rattle.fle_runner.proofs.Rewraps.{rewrap_stops}
use Rattle.fle_runner.proofs.rewrap.write_rewrapped.Goals as goal

pub returns-in-Ok : goal.returns-in-Ok
returns-in-Ok g c =
    let held = c.args.held.now in
    let time = c.args.time in
    let back : cast_unsigned w64 (cast_signed w64 time) ≡ time = of_z-to_z w64 time (search rules) in
    let stamp = cast_unsigned w64 (cast_signed w64 (cast_unsigned w64 c.cast_signed.result)) in
    let bits : stamp ≡ time =
    ap (λ (z : ℤ). cast_unsigned w64 (cast_signed w64 (cast_unsigned w64 z))) c.cast_signed.ensures
    ∙ (ap (λ (n : ℕ). cast_unsigned w64 (cast_signed w64 n)) back ∙ back) in
    let answer = c.in-Ok.ensures.answer in
    let ends = c.write_made.ensures in
    let same = c.as_slice.ensures.same in
    let made : ℕ → List ℕ → List ℕ =
    λ (t : ℕ) (bytes : List ℕ). rewrapped_file (change held.from held.to t) bytes answer.1.blocks in
    let plan = rewrap_plan (change held.from held.to time) held.vault.bytes held.vault.keys in
    record {
      run = λ input files.
          subst (λ (o : Option ℕ). Acted AreAny (λ _. unless_damaged o plan) one_document
          (objects input files (g.O.Sink.seen c.args.out.now) (g.N.Entropy.seen c.args.entropy.now))
          (objects input files (g.O.Sink.seen c.write_made.new.out) (g.N.Entropy.seen c.rewrap_vault.new.entropy))
          c.write_made.result) (sym answer.0)
          (ends.run plan answer.1.blocks input files _ _ answer.1.number
          (c.deref.ensures.value ∙ (answer.1.is ∙ (ap (λ (bytes : List ℕ). made stamp bytes) same
          ∙ ap (λ (t : ℕ). made t held.vault.bytes) bits)))
          (ap length c.deref.ensures.value ∙ (c.in-Ok.ensures.size ∙ ap length same)) answer.1.draws);
      kind = output_kind _ ends.kind;
      unwritten = λ none. absurd (output_written _ ends.kind none);
      undrawn = λ none. absurd (output_drawn _ ends.kind none);
    }

pub returns-in-Err : goal.returns-in-Err
returns-in-Err g c =
    let says = c.in-Err.ensures in
    let stamp = cast_unsigned w64 (cast_signed w64 (cast_unsigned w64 c.cast_signed.result)) in
    rw c.unread.ensures.unread (rw c.why_fault.ensures.why (record {
      run = λ input files.
          rewrap_stops g.N.Entropy.seen c.args.time c.args.held.now c.in-Err.fault input files
          (g.O.Sink.seen c.args.out.now) stamp c.as_slice.result.now says.answer says.unopened says.undrawn says.sure;
      kind = fault_kind c.in-Err.fault;
      unwritten = λ _. refl;
      undrawn = fault_undrawn c.in-Err.fault says.unopened says.undrawn;
    }))
