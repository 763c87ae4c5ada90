use Rattle.std.proofs.Common.{◌≡◌, ◌≤◌, ◌++◌, ◌∙◌, ap, arith, length, List, ℕ, take}
use Rattle.bson_tree.specs.Spelling.{items_bytes}
use Rattle.bson_codec.specs.Cuts.{items_before}
use Rattle.bson_splice.proofs.Cuts.{puts_before, room_before}
use Rattle.bson_splice.proofs.splicing.put_before.Goals as goal

pub put-end-requires : goal.put-end-requires
put-end-requires g c =
    let room = room_before c.next_start.result (g.P.Putter.spans c.args.putter.now) c.next_start.ensures.next
    c.args.items.now c.args.at (length c.args.out.now) c.requires.room in
    record { room = omega (arith, room, ap length c.skip_to-met.ensures.bytes) }

pub returns-clause-put : goal.returns-clause-put
returns-clause-put g c =
    let ss = g.P.Putter.spans c.args.putter.now in
    let bytes : take c.put-end.result c.put-end.new.out
    ≡ take c.args.at c.args.out.now ++ items_bytes (items_before c.next_start.result c.args.items.now) =
    c.put-end.ensures.put ∙ ap (λ (x : List ℕ). take c.args.at c.args.out.now ++ x) c.skip_to-met.ensures.bytes in
    let within : c.put-end.result ≤ length c.put-end.new.out =
    omega (
      arith,
      c.put-end.ensures.end,
      c.put-end.ensures.size,
      room_before c.next_start.result ss c.next_start.ensures.next c.args.items.now c.args.at
          (length c.args.out.now) c.requires.room,
      ap length c.skip_to-met.ensures.bytes,
    ) in
    puts_before c.next_start.result ss c.next_start.ensures.next c.args.items.now c.skip_to-met.result.1
    c.skip_to-met.new.self c.args.out.now c.put-end.new.out c.args.at c.put-end.result
    c.skip_to-met.ensures.taken bytes within
