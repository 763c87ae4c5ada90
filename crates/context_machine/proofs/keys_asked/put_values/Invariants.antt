use Rattle.std.proofs.Common.{◌≡◌, ◌≤◌, ◌+◌, ◌*◌, ◌++◌, drop, length}
use Rattle.bson_tree.specs.Spelling.{items_bytes}
use Rattle.context_machine.specs.Asks.{listed, numbered, room_for}
use Rattle.context_machine.specs.Needs.{needs_seen}
use Rattle.context_machine.proofs.keys_asked.put_values.Given as goal

abbrev pub invariant-loop-n : goal.invariant-loop-n
invariant-loop-n l = record {
  put : l.out.items ++ items_bytes (numbered l.i (listed l.choice (needs_seen (drop l.n-index l.needs))))
      ≡ l.fn.out.items ++ items_bytes (numbered 0 (listed l.choice (needs_seen l.needs)));
  size : length l.out.items + room_for l.choice (needs_seen (drop l.n-index l.needs))
      ≤ length l.fn.out.items + room_for l.choice (needs_seen l.needs);
  few : 63 * l.i + room_for l.choice (needs_seen (drop l.n-index l.needs)) ≤ room_for l.choice (needs_seen l.needs);
}
