use Rattle.std.proofs.Common.{◌≡◌, ◌++◌, drop}
use Rattle.fle_runner.specs.Keys.{key_lines}
use Rattle.fle_runner.proofs.keys.lines_of.Given as goal

abbrev pub invariant-loop-key : goal.invariant-loop-key
invariant-loop-key l = record {
  put : l.text.items ++ key_lines (drop l.key-index l.keys) ≡ key_lines l.keys;
}
