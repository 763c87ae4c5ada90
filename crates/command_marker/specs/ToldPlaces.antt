-- MongoDB commands: the place at which a refusal is told
use Rattle.std.specs.Prelude.{ℕ, List, [], ◌∷◌, Option, Some, None}
use Rattle.bson_tree.specs.Tree.{Items}
use Rattle.bson_tree.specs.Places.{place_of}
use Rattle.encrypt_schema.specs.declared.command.reason.Reason.{Reason}
use Rattle.encrypt_schema.specs.Commands.Chains.{refusal_at}
use Rattle.encrypt_schema.specs.Language.Collection.{Collection}
use Rattle.encrypt_schema.specs.Language.Row.{Row}
use Rattle.encrypt_schema.specs.Commands.Visits.{Visit, Refusal, target_of, view_of, content_of}

-- where a refusal is told, and why: at the place whose value begins at its offset
abbrev pub told : Items → Refusal → List ℕ × Reason
told c r = (place_of r.at c, r.reason)

-- a place with the reason of its refusal, where it is refused; else what comes later
abbrev pub told_first : List ℕ → Option Refusal → Option (List ℕ × Reason) → Option (List ℕ × Reason)
told_first place None later = later
told_first place (Some r) later = Some (place, r.reason)

-- the first of these places of a command that a pass refuses, and why
abbrev pub first_refused_by : (Visit → Option Reason) → List Row → Items → List (List ℕ) → Option (List ℕ × Reason)
first_refused_by pass rows c [] = None
first_refused_by pass rows c (place ∷ others) =
    told_first place (refusal_at pass rows 0 c place) (first_refused_by pass rows c others)

-- the first of two, where it is told
abbrev pub told_else : Option (List ℕ × Reason) → Option (List ℕ × Reason) → Option (List ℕ × Reason)
told_else None later = later
told_else (Some first) later = Some first

-- the first of these places that is refused: by the target pass; else by the view; else by the content pass
abbrev pub first_refused : List ℕ → Option Collection → List Row → Items → List (List ℕ) → Option (List ℕ × Reason)
first_refused db info rows c ps =
    told_else (first_refused_by (target_of db) rows c ps)
    (told_else (first_refused_by (view_of info) rows c ps) (first_refused_by (content_of rows) rows c ps))
