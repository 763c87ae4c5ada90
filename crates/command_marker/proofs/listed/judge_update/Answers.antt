use Rattle.std.proofs.Common.{◌≡◌, ◌==◌, ◌∙◌, true, false, sym, rules}
use Rattle.bson_tree.specs.Tree.{tag_of}
use Rattle.command_marker.proofs.Held.{update_array, update_at, update_clean, update_other}
use Rattle.command_marker.proofs.listed.judge_update.Goals as goal

pub returns-then-tag-eq-ARRAY : goal.returns-then-tag-eq-ARRAY
returns-then-tag-eq-ARRAY c =
    let t = c.args.item.now.tree in
    let array : (tag_of t == 4) ≡ true = search rules in
    record { judged = update_array c.args.rows.now c.args.item.now.name t array }

pub returns-then-tag-eq-DOCUMENT : goal.returns-then-tag-eq-DOCUMENT
returns-then-tag-eq-DOCUMENT c =
    let name = c.args.item.now.name in
    let t = c.args.item.now.tree in
    let array : (tag_of t == 4) ≡ false = search rules in
    let document : (tag_of t == 3) ≡ true = search rules in
    record {
      judged = (
        c.change_place-update.ensures.station ∙ sym (update_at name t document),
        c.change_place-update.ensures.stands,
        update_clean c.args.rows.now name t array document,
      );
    }

pub returns : goal.returns
returns c =
    let t = c.args.item.now.tree in
    let array : (tag_of t == 4) ≡ false = search rules in
    let document : (tag_of t == 3) ≡ false = search rules in
    record { judged = update_other c.args.rows.now c.args.item.now.name t array document }
