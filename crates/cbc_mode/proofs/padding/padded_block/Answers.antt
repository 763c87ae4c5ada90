use Rattle.std.proofs.Common.{◌<◌, ◌≤◌, length, drop, arith}
use Rattle.std.proofs.lemmas.List.{length-drop, take_rest}
use Rattle.cbc_mode.proofs.Padded.{drop-pad, take-pad_short, take-pad_long}
use Rattle.cbc_mode.proofs.padding.padded_block.Goals as goal

pub returns-then-rest-lt-BLOCK : goal.returns-then-rest-lt-BLOCK
returns-then-rest-lt-BLOCK c =
    let short : length (drop c.args.at c.args.plain.now) < 16 =
    omega (arith, length-drop c.args.at c.args.plain.now, c.if-rest-lt-BLOCK.true) in
    record {
      block = rw (drop-pad _ _ c.requires.inside c.requires.whole, take-pad_short _ short)
          (rw take_rest at c.last_block.ensures);
    }

pub returns-else-rest-lt-BLOCK : goal.returns-else-rest-lt-BLOCK
returns-else-rest-lt-BLOCK c =
    let long : 16 ≤ length (drop c.args.at c.args.plain.now) =
    omega (arith, length-drop c.args.at c.args.plain.now, c.if-rest-lt-BLOCK.false) in
    record {
      block = rw (drop-pad _ _ c.requires.inside c.requires.whole, take-pad_long _ long)
          (rw take_rest at c.block_at.ensures.block);
    }
