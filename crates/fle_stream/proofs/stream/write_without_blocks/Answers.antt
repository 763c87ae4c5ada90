-- What was done with no block is done with any.
use Rattle.fle_stream.proofs.Acts.{acts_undrawing}
use Rattle.fle_stream.proofs.stream.write_without_blocks.Goals as goal

pub returns-clause-run : goal.returns-clause-run
returns-clause-run g c = λ files e.
    acts_undrawing (g.W.DocumentWriter.verdict c.args.writer) e c.requires.quiet c.write_stream.ensures.kind
    (c.write_stream.ensures.undrawn c.requires.quiet) (c.write_stream.ensures.run files)
