-- All elements stand before an offset that is behind them.
use Rattle.bson_codec.proofs.Cuts.{all_before, none_behind}
use Rattle.bson_codec.proofs.cut.cut_at.Goals as goal

pub returns-then-start-bytes-clause-width : goal.returns-then-start-bytes-clause-width
returns-then-start-bytes-clause-width c =
    all_before c.args.at c.args.start c.args.bytes.now c.requires.spelled c.if-start-bytes.true

pub returns-then-start-bytes-clause-met : goal.returns-then-start-bytes-clause-met
returns-then-start-bytes-clause-met c =
    none_behind c.args.at c.args.start c.args.bytes.now c.requires.spelled c.if-start-bytes.true
