use Rattle.std.proofs.Common.{◌∙◌, arith, rules, length-append}
use Rattle.aes_block.proofs.Expanding.{take-first_words, take-word_at, whole}
use Rattle.aes_block.proofs.expansion.expanded_words.Goals as goal

pub loop-i-init : goal.loop-i-init
loop-i-init c = record {
  long = simp length-append (omega (arith, c.copy_from_slice.ensures.len));
  so_far = take-first_words c.args.key.now _ _ c.copy_from_slice.ensures.len
      (c.copy_from_slice.ensures.after ∙ c.key_words.ensures);
}

pub loop-i-preserved : goal.loop-i-preserved
loop-i-preserved c = record {
  long = search rules;
  so_far = take-word_at c.args.key.now c.loop-i.w c.loop-i.i c.word_at.result (omega arith)
      (omega arith) c.loop-i.invariant.so_far c.word_at.ensures;
}

pub returns : goal.returns
returns c = whole c.args.key.now c.loop-i.w c.loop-i.i (omega arith) c.loop-i.invariant.long c.loop-i.invariant.so_far
