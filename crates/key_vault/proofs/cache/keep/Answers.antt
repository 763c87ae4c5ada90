use Rattle.std.proofs.Common.{◌∙◌, sym, subst, ap, Ok, length, refl}
use Rattle.std.specs.Prelude.{bytes_eq}
use Rattle.local_kms.specs.Wrapped.{Unwraps}
use Rattle.key_vault.proofs.Kept.{after_put, cap_put, kept_put, unwrapped_long}
use Rattle.key_vault.proofs.cache.keep.Goals as goal

pub array_of-material-requires : goal.array_of-material-requires
array_of-material-requires c =
    ap length c.as_slice.ensures.same ∙ unwrapped_long c.args.master.now c.args.key.now.material c.args.opened
    c.requires.right

pub returns-clause-opened : goal.returns-clause-opened
returns-clause-opened c =
    let right =
    subst (λ m. Unwraps c.args.master.now m (Ok c.args.opened))
    (sym (c.array_of-material.ensures ∙ c.as_slice.ensures.same)) c.requires.right in
    after_put c.args.master.now bytes_eq c.args.kept.now c.put.new.self c.args.key.now.id _ c.put.result
    c.requires.opened right c.put.ensures.entries c.put.ensures.err

pub returns-clause-capacity : goal.returns-clause-capacity
returns-clause-capacity c =
    cap_put bytes_eq c.args.kept.now c.put.new.self c.args.key.now.id _ c.put.result c.put.ensures.entries
    c.put.ensures.err

pub returns-clause-kept : goal.returns-clause-kept
returns-clause-kept c =
    kept_put c.args.key.now c.args.opened (record {
      material = c.array_of-material.result;
      key = c.args.opened;
    }) c.args.kept.now c.put.new.self c.put.result
    (c.array_of-material.ensures ∙ c.as_slice.ensures.same) refl c.put.ensures.entries
    c.put.ensures.err c.put.ensures.succeeds
