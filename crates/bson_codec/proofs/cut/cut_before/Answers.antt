-- Where there is no offset, the elements are all of the bytes.
use Rattle.bson_codec.proofs.Cuts.{whole_width}
use Rattle.bson_codec.proofs.cut.cut_before.Goals as goal

pub returns-in-None-clause-width : goal.returns-in-None-clause-width
returns-in-None-clause-width c = rw c.in-None.is (whole_width c.args.bytes.now c.requires.spelled)
