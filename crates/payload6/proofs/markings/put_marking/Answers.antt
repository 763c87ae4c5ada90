use Rattle.std.proofs.Common.{◌≡◌, ◌+◌, ◌++◌, ℕ, List, ap, ◌∙◌, length, arith}
use Rattle.bson_tree.specs.Spelling.{value_bytes}
use Rattle.payload6.specs.Needs.{need_bytes, need_seen}
use Rattle.payload6.proofs.MarkingForm.{put_parts}
use Rattle.payload6.proofs.markings.put_marking.Goals as goal

pub returns : goal.returns
returns c =
    let value : length c.value.result.now ≡ length (value_bytes c.args.item.now.tree) =
    ap length c.value.ensures.spelling in
    let size : length c.value.result.now + c.len.result + 24
    ≡ length (value_bytes c.args.item.now.tree) + length (need_bytes (need_seen c.args.need)) + 24 =
    omega (arith, value, c.len.ensures.len) in
    record {
      appended = put_parts _ _ _ _ _ _ _ _ _ size
          c.in_ok-append.ensures.appended
          c.in_ok-put_length.ensures.length
          c.in_ok-put_fields.ensures.fields
          c.in_ok-append-2.ensures.appended;
    }
