use Rattle.std.proofs.Common.{length}
use Rattle.bson_splice.proofs.Whole.{room_whole, whole}
use Rattle.bson_splice.proofs.splicing.splice.Goals as goal

pub splice_document-requires-clause-room : goal.splice_document-requires-clause-room
splice_document-requires-clause-room g c =
    room_whole (g.P.Putter.spans c.args.putter.now) c.args.document.now
    (length c.args.out.now) c.requires.stands c.requires.room

pub returns-in-Ok-clause-spliced : goal.returns-in-Ok-clause-spliced
returns-in-Ok-clause-spliced g c =
    whole g.P.Putter.puts g.P.Putter.spans c.args.document.now c.args.putter.now c.splice_document.new.putter
    c.args.out.now c.splice_document.new.out c.in-Ok.end
    c.requires.stands c.in-Ok.ensures.within c.in-Ok.ensures.spliced
