use Rattle.std.proofs.Common.{◌≡◌, ◌++◌, drop, is_some, true, option_map, List, ℕ}
use Rattle.encrypt_schema.specs.Language.Pointers.{unescaped}
use Rattle.encrypt_schema.specs.Views.Stated.{spelled}
use Rattle.encrypt_schema.proofs.schema.pointers.unescape.Given as goal

abbrev pub invariant-loop-byte : goal.invariant-loop-byte
invariant-loop-byte l =
    (is_some (spelled l.tilde (drop l.byte-index l.token)) ≡ true)
    × (option_map (λ (rest : List ℕ). l.name.items ++ rest) (spelled l.tilde (drop l.byte-index l.token))
    ≡ unescaped l.token)
