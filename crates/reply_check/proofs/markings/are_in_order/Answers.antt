use Rattle.std.proofs.Common.{◌∙◌, [], ◌∷◌, ◌++◌}
use Rattle.payload6.specs.Needs.{need_seen}
use Rattle.reply_check.specs.Fields.{field_bytes}
use Rattle.reply_check.proofs.Pieces.{goes, stops}
use Rattle.reply_check.proofs.markings.are_in_order.Goals as goal

pub returns-in_default-behind_field : goal.returns-in_default-behind_field
returns-in_default-behind_field c =
    let f = field_bytes c.args.algorithm (need_seen c.args.need) c.args.item.now.tree in
    record {
      order = stops c.in-Some.others.now (f c.args.second) (f c.args.third ++ 0 ∷ [])
          c.in_default-behind_field.ensures.behind
          ∙ goes c.args.bytes.now (f c.args.first) (f c.args.second ++ (f c.args.third ++ 0 ∷ []))
          c.in-Some.others.now c.in-Some.ensures.behind;
    }

pub returns-in_default-behind_field-2 : goal.returns-in_default-behind_field-2
returns-in_default-behind_field-2 c =
    let f = field_bytes c.args.algorithm (need_seen c.args.need) c.args.item.now.tree in
    record {
      order = stops c.in-Some-behind_field.last.now (f c.args.third) (0 ∷ [])
          c.in_default-behind_field-2.ensures.behind
          ∙ goes c.in-Some.others.now (f c.args.second) (f c.args.third ++ 0 ∷ [])
          c.in-Some-behind_field.last.now c.in-Some-behind_field.ensures.behind
          ∙ goes c.args.bytes.now (f c.args.first) (f c.args.second ++ (f c.args.third ++ 0 ∷ []))
          c.in-Some.others.now c.in-Some.ensures.behind;
    }

pub returns : goal.returns
returns c =
    let f = field_bytes c.args.algorithm (need_seen c.args.need) c.args.item.now.tree in
    record {
      order = c.is_end.ensures.end
          ∙ goes c.in-Some-behind_field.last.now (f c.args.third) (0 ∷ [])
          c.in-Some-behind_field-2.end.now c.in-Some-behind_field-2.ensures.behind
          ∙ goes c.in-Some.others.now (f c.args.second) (f c.args.third ++ 0 ∷ [])
          c.in-Some-behind_field.last.now c.in-Some-behind_field.ensures.behind
          ∙ goes c.args.bytes.now (f c.args.first) (f c.args.second ++ (f c.args.third ++ 0 ∷ []))
          c.in-Some.others.now c.in-Some.ensures.behind;
    }
