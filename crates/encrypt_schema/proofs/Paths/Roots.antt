-- The front of the empty path is the first one.
use Rattle.std.proofs.Common.{◌≡◌, eqb, ℕ, Bool, true, false, List, [], ◌∷◌, Some, get_or}
use Rattle.std.proofs.Common.{refl, sym}
use Rattle.std.proofs.Common.{◌∙◌}
use Rattle.std.proofs.lemmas.Bool.{eqb-true, eqb-false}
use Rattle.encrypt_schema.specs.Language.Row.{Row}
use Rattle.encrypt_schema.specs.Paths.Classes.{number_of}
use Rattle.encrypt_schema.specs.Views.Fronts.{fronts}
use Rattle.encrypt_schema.specs.Views.Parts.{is_nil}
use Rattle.encrypt_schema.proofs.Paths.Fronts.{fronts_first}
use Rattle.encrypt_schema.proofs.Paths.Numbers.{number_there}

some_same : (i j : ℕ) → Some i ≡ Some j → i ≡ j
some_same i j e = cc

root_by : (rows : List Row) (n : ℕ) (path : List (List ℕ)) (b : Bool) → eqb n 0 ≡ b
    → get_or (fronts rows) n [] ≡ path → number_of 0 path (fronts rows) ≡ Some n → b ≡ is_nil path
root_by rows n [] true h p s = refl
root_by rows n [] false h p s =
    absurd (eqb-false n 0 h (some_same n 0 (sym s ∙ fronts_first rows)))
root_by rows n (name ∷ path) true h p s =
    let z : n ≡ 0 = eqb-true n 0 h in
    let first = number_there [] (fronts rows) 0 (fronts_first rows) in
    absurd cc
root_by rows n (name ∷ path) false h p s = refl

-- a front stands for the empty path where it is number 0
pub front_root : (rows : List Row) (n : ℕ) → number_of 0 (get_or (fronts rows) n []) (fronts rows) ≡ Some n
    → eqb n 0 ≡ is_nil (get_or (fronts rows) n [])
front_root rows n s = root_by rows n (get_or (fronts rows) n []) (eqb n 0) refl refl s
