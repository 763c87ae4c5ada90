use Rattle.std.proofs.Common.{◌≡◌, length, rules, take, sym, subst, Err}
use Rattle.fle_aead.specs.Sealed.{iv_of}
use Rattle.local_kms.specs.Wrapped.{Unwraps}
use Rattle.local_kms.proofs.Unwrapped.{ok_is, told_err, told_long, told_ok}
use Rattle.local_kms.proofs.wrapping.unwrap_bytes.Goals as goal

pub returns-then-material-ne-MATERIAL : goal.returns-then-material-ne-MATERIAL
returns-then-material-ne-MATERIAL g c = record
    { answer = told_long c.args.master.now c.args.material.now c.if-material-ne-MATERIAL.true }

pub returns-in-Ok : goal.returns-in-Ok
returns-in-Ok g c =
    let long : length c.args.material.now ≡ 160 = search rules in
    let size : c.in-Ok.n ≡ length (take c.in-Ok.n c.open_into.new.out) =
    ok_is c.in-Ok.n (length (take c.in-Ok.n c.open_into.new.out))
    (c.in-Ok.ensures.opens (iv_of c.args.material.now) (take c.in-Ok.n c.open_into.new.out) c.in-Ok.ensures.ok) in
    record {
      answer = subst (λ m. Unwraps m c.args.material.now c.key_by.result) c.key.ensures.key
          (told_ok c.key.result.now c.args.material.now c.open_into.new.out c.in-Ok.n c.key_by.result long
          (record {
            short = c.in-Ok.ensures.short;
            tag = c.in-Ok.ensures.tag;
            padding = c.in-Ok.ensures.padding;
          }) c.in-Ok.ensures.message size c.key_by.ensures);
    }

pub returns-in-Err : goal.returns-in-Err
returns-in-Err g c =
    let long : length c.args.material.now ≡ 160 = search rules in
    record {
      answer = subst (λ m. Unwraps m c.args.material.now (Err c.fault_of.result)) c.key.ensures.key
          (subst (λ f. Unwraps c.key.result.now c.args.material.now (Err f)) (sym c.fault_of.ensures)
          (told_err c.key.result.now c.args.material.now c.in-Err.fault long
          (record {
            short = c.in-Err.ensures.short;
            tag = c.in-Err.ensures.tag;
            padding = c.in-Err.ensures.padding;
          }) c.in-Err.ensures.message));
    }
