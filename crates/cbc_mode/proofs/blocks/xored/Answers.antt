use Rattle.std.proofs.Common.{◌∙◌, sym, add-one, arith, rules}
use Rattle.std.proofs.lemmas.List.{length-set, take_more_set}
use Rattle.cbc_mode.proofs.Chained.{xor_bytes-more}
use Rattle.cbc_mode.proofs.blocks.xored.Goals as goal

pub loop-i-preserved : goal.loop-i-preserved
loop-i-preserved c = record {
  long = length-set _ _ _ ∙ c.loop-i.invariant.long;
  so_far =
      take_more_set c.loop-i.out c.loop-i.i _ (omega arith)
      ∙ rw (c.loop-i.invariant.so_far, add-one) (sym
      (xor_bytes-more c.args.a c.args.b c.loop-i.i (search rules) (search rules)));
}
