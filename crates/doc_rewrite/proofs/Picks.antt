-- The payload of a number, picked out of all.
use Rattle.std.proofs.Common.{◌≡◌, ◌∙◌, ℕ, List, [], ◌∷◌, ◌++◌, Option, Some, None, refl, sym, ap, append-nil}
use Rattle.std.specs.Prelude.{slice_get}
use Rattle.doc_rewrite.specs.declared.found.FoundAt.{FoundAt}
use Rattle.doc_rewrite.specs.declared.picking.Picking.{Picking}
use Rattle.doc_rewrite.specs.Finding.{Tells, picked_of}

-- it was told of one more
abbrev pub Picks : Picking → Picking → FoundAt → Type 0
Picks a b f = (rest : List FoundAt) → picked_of b.before b.picked rest ≡ picked_of a.before a.picked (f ∷ rest)

picks_all : (a b : Picking) (fs rest : List FoundAt) → Tells Picks a b fs
    → picked_of b.before b.picked rest ≡ picked_of a.before a.picked (fs ++ rest)
picks_all a b [] rest told = ap (λ (s : Picking). picked_of s.before s.picked rest) (sym told)
picks_all a b (f ∷ fs) rest told = picks_all told.0 b fs rest told.2 ∙ told.1 (fs ++ rest)

none_to_come : (before : ℕ) (picked : Option FoundAt) → picked_of before picked [] ≡ picked
none_to_come before (Some f) = refl
none_to_come before None = refl

pub picked_is : (i : ℕ) (b : Picking) (fs gs : List FoundAt) → Tells Picks (record { before = i; picked = None }) b fs
    → fs ≡ gs → b.picked ≡ slice_get gs i
picked_is i b fs gs told same =
    sym (none_to_come b.before b.picked)
    ∙ picks_all (record { before = i; picked = None }) b fs [] told
    ∙ ap (λ (hs : List FoundAt). slice_get hs i) (append-nil fs ∙ same)
