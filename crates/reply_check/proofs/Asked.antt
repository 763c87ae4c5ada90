-- The elements of a reply that are left to be read.
use Rattle.std.proofs.Common.{◌≡◌, ◌∙◌, ℕ, ◌+◌, cond, List}
use Rattle.std.proofs.Common.{◌∷◌, [], ◌++◌, length, Some}
use Rattle.std.proofs.Common.{sym, ap}
use Rattle.bson_codec.specs.Borrowed.{At, Elem}
use Rattle.bson_codec.specs.Elements.{TakesElement}
use Rattle.bson_tree.specs.Spelling.{value_bytes}
use Rattle.reply_check.specs.Wrong.{first_misshapen, is_misshapen}

-- the next element is misshapen, or one behind it
pub next_misshapen : (elder : List (List ℕ)) (here rest : At) (e : Elem) → TakesElement here (Some e) rest
    → first_misshapen elder here.start here.tree
    ≡ cond (is_misshapen elder e.name e.tree) (Some e.start)
    (first_misshapen (elder ++ e.name ∷ []) rest.start rest.tree)
next_misshapen elder here rest e taken =
    let p : here.start + (2 + length e.name) ≡ e.start = sym taken.1 in
    let q : e.start + length (value_bytes e.tree) ≡ rest.start = sym taken.2 in
    ap (first_misshapen elder here.start) taken.0
    ∙ ap (λ (n : ℕ). cond (is_misshapen elder e.name e.tree) (Some n)
    (first_misshapen (elder ++ e.name ∷ []) (n + length (value_bytes e.tree)) rest.tree)) p
    ∙ ap (λ (n : ℕ). cond (is_misshapen elder e.name e.tree) (Some e.start)
    (first_misshapen (elder ++ e.name ∷ []) n rest.tree)) q
