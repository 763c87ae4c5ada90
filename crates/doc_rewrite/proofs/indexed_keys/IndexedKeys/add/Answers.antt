use Rattle.std.proofs.Common.{◌≡◌, length, rules}
use Rattle.doc_rewrite.proofs.Numbered.{added}
use Rattle.doc_rewrite.proofs.indexed_keys.IndexedKeys.add.Goals as goal

pub invariant_of-self-in-Ok-put_first : goal.invariant_of-self-in-Ok-put_first
invariant_of-self-in-Ok-put_first c =
    let count : c.len-number.result ≡ length c.self.inside.entries.items = search rules in
    rw c.in-Ok.ensures.items (added c.self.inside.entries.items c.args.entry c.self.inside.numbers
    c.put_first.new.numbers c.len-number.result c.in-Ok-put_first.ensures.put c.self.invariant count)
