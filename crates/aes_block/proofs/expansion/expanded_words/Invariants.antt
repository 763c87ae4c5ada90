use Rattle.std.proofs.Common.{◌≡◌, ◌-◌, length, take}
use Rattle.aes_block.specs.Expansion.{words_to}
use Rattle.aes_block.proofs.expansion.expanded_words.Given as goal

abbrev pub invariant-loop-i : goal.invariant-loop-i
invariant-loop-i l = record { long : length l.w ≡ 60; so_far : take l.i l.w ≡ words_to l.key (l.i - 8) }
