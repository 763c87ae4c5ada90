-- The parts of a binary.
use Rattle.std.proofs.Common.{arith}
use Rattle.std.proofs.lemmas.List.{length-drop}
use Rattle.bson_codec.proofs.Items.{binary_spelled, binary_long, contents_are}
use Rattle.bson_codec.proofs.item.contents_of.Goals as goal

pub split_at-requires : goal.split_at-requires
split_at-requires c =
    let long = binary_long c.args.value.now (binary_spelled c.args.value.now c.requires) in
    omega (arith, long)

pub split_at-requires-2 : goal.split_at-requires-2
split_at-requires-2 c =
    let long = binary_long c.args.value.now (binary_spelled c.args.value.now c.requires) in
    rw c.split_at.ensures.back (omega (arith, long, length-drop 4 c.args.value.now))

pub returns : goal.returns
returns c = record {
  contents = rw (c.split_at-2.ensures.back, c.split_at.ensures.back)
      (contents_are c.args.value.now (binary_spelled c.args.value.now c.requires));
}
