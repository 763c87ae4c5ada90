-- The rule of the next mark.
use Rattle.std.proofs.Common.{◌≡◌, ℕ, zero, suc, ◌<◌, List, [], ◌∷◌, length, Option, Some, None, slice_get, IfSome}
use Rattle.std.proofs.Common.{refl, subst}
use Rattle.encrypt_schema.specs.declared.command.marks.Mark.{Mark}
use Rattle.encrypt_schema.specs.Language.Row.{Row}
use Rattle.command_marker.specs.Written.{AreRuled}

rule_there : (rows : List Row) (ms : List Mark) (i : ℕ) (m : Mark) → Some m ≡ slice_get ms i → AreRuled rows ms
    → m.policy < length rows
rule_there rows [] i m e h = absurd cc
rule_there rows (x ∷ xs) zero m e h = let same : x ≡ m = cc in subst (λ (y : Mark). y.policy < length rows) same h.0
rule_there rows (x ∷ xs) (suc i) m e h = rule_there rows xs i m e h.1

-- the rule of a mark is there
pub ruled_next : (rows : List Row) (ms : List Mark) (i : ℕ) (o : Option Mark) → o ≡ slice_get ms i → AreRuled rows ms
    → IfSome o (λ m. m.policy < length rows)
ruled_next rows ms i None e h = tt
ruled_next rows ms i (Some m) e h = rule_there rows ms i m e h
