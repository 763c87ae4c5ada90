-- The parts of a string.
use Rattle.bson_codec.proofs.Items.{string_spelled, string_long, text_is}
use Rattle.bson_codec.proofs.item.text_of.Goals as goal

pub string_text-requires : goal.string_text-requires
string_text-requires c = string_long c.args.value.now (string_spelled c.args.value.now c.requires)

pub returns : goal.returns
returns c = record {
  text = rw c.string_text.ensures.text
      (text_is c.args.value.now (string_spelled c.args.value.now c.requires));
}
