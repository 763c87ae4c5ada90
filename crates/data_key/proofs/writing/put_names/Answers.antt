use Rattle.std.proofs.Common.{◌<◌, ◌∙◌, ◌++◌, ap, append_assoc, length, rules, arith}
use Rattle.bson_tree.specs.Spelling.{items_bytes}
use Rattle.data_key.specs.Written.{numbered}
use Rattle.data_key.proofs.Joined.{names_room, put_names}
use Rattle.data_key.proofs.writing.put_names.Goals as goal

pub close-requires-clause-small : goal.close-requires-clause-small
close-requires-clause-small c =
    let room =
    names_room c.args.names.now c.args.out.now.items c.put_name.new.out.items c.open.new.out.items
    c.put_texts.new.out.items c.requires.few
    c.requires.small c.requires.room c.in_ok-put_name.ensures.named c.in_ok-open.ensures.opened
    c.in_ok-put_texts.ensures.put in
    omega (arith, room)

pub returns : goal.returns
returns c =
    let some : 0 < length c.args.names.now = search rules in
    let array = items_bytes (numbered 0 c.args.names.now) in
    record {
      put = put_names c.args.names.now c.args.out.now.items c.put_name.new.out.items c.close.new.out.items some
          c.in_ok-put_name.ensures.named
          (c.in_ok-close.ensures.closed c.put_name.new.out.items array (search rules)
          (c.in_ok-put_texts.ensures.put ∙ ap (λ x. x ++ array) c.in_ok-open.ensures.opened
          ∙ append_assoc c.put_name.new.out.items _ array));
    }
