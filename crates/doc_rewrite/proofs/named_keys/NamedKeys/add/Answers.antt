use Rattle.std.proofs.Common.{◌≡◌, length, rules, sym}
use Rattle.doc_rewrite.specs.declared.named_keys.NamedEntry.{NamedEntry}
use Rattle.doc_rewrite.proofs.Entries.{added, long_added}
use Rattle.doc_rewrite.proofs.named_keys.NamedKeys.add.Goals as goal

pub invariant_of-self-in-Ok-put_first : goal.invariant_of-self-in-Ok-put_first
invariant_of-self-in-Ok-put_first c =
    let e : NamedEntry = record { name = c.args.name; id = c.args.id; key = c.args.key } in
    let named : c.in-Ok.copy.items ≡ c.args.name = search rules in
    let count : c.len-number.result ≡ length c.self.inside.entries.items = search rules in
    let long : length c.args.id ≡ 16 = search rules in
    rw c.in-Ok-push.ensures.items (
      added c.self.inside.entries.items e c.self.inside.numbers c.put_first.new.numbers c.len-number.result
          (rw (sym named) c.in-Ok-put_first.ensures.put) c.self.invariant.0 count,
      long_added c.self.inside.entries.items e c.self.invariant.1 long,
    )
