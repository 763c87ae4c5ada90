-- A command is no longer than so many bytes, and no longer than any may be.
use Rattle.std.proofs.Common.{length}
use Rattle.bson_tree.specs.Spelling.{doc_bytes}
use Rattle.fle_c.proofs.Wants.{below_both, close_by, wants_by, wants_of}
use Rattle.fle_c.proofs.need.most_wanted.Goals as goal

pub returns-clause-enough : goal.returns-clause-enough
returns-clause-enough c = λ set keys infos db command plan few within is.
    let n = c.min-size.result in
    let most = below_both (length (doc_bytes command)) c.args.size n c.min-size.ensures few within in
    wants_by n c.saturating_sub-values.result c.min-room.result c.min-drawn.result plan c.saturating_sub-values.ensures
    c.min-room.ensures c.min-drawn.ensures (wants_of n set keys infos db command plan most is)

pub returns-clause-close : goal.returns-clause-close
returns-clause-close c =
    close_by c.args.size c.min-size.result c.saturating_sub-values.result c.min-room.result c.min-drawn.result
    c.min-size.ensures c.saturating_sub-values.ensures c.min-room.ensures c.min-drawn.ensures
