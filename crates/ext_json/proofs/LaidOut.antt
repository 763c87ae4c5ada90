-- The parts of raw values that were laid out (BSON 1.1).
use Rattle.std.proofs.Common.{◌≡◌, ℕ, ◌-◌, ◌<◌, List, [], ◌∷◌, ◌++◌, length, take, drop, refl, sym, ap, ◌∙◌, arith}
use Rattle.std.proofs.Common.{append-nil}
use Rattle.std.proofs.lemmas.List.{take_at, drop_at, length-append}
use Rattle.bson_codec.specs.Layout.{IsName, string_bytes}
use Rattle.ext_json.specs.Parts.{text_of, before_zero, after_zero, pattern_of, options_of, namespace_of, id_of}
use Rattle.ext_json.proofs.Scopes.{text_of_string}
use Rattle.ext_json.proofs.Zeros.{before_more, after_more, before_here, after_here}

some : (b : ℕ) → 0 < b → b ≡ 0 → ⊥
some b more e = omega (arith, more, e)

-- a name that stands in front
before_front : (name rest : List ℕ) → IsName name → before_zero ((name ++ 0 ∷ []) ++ rest) ≡ name
before_front [] rest h = before_here 0 rest refl
before_front (b ∷ name) rest h = before_more b ((name ++ 0 ∷ []) ++ rest) (some b h.0)
    ∙ ap (λ (x : List ℕ). b ∷ x) (before_front name rest h.1)

after_front : (name rest : List ℕ) → IsName name → after_zero ((name ++ 0 ∷ []) ++ rest) ≡ rest
after_front [] rest h = after_here 0 rest refl
after_front (b ∷ name) rest h = after_more b ((name ++ 0 ∷ []) ++ rest) (some b h.0) ∙ after_front name rest h.1

pub pattern_laid : (pattern options : List ℕ) → IsName pattern
    → pattern_of ((pattern ++ 0 ∷ []) ++ (options ++ 0 ∷ [])) ≡ pattern
pattern_laid pattern options h = before_front pattern (options ++ 0 ∷ []) h

pub options_laid : (pattern options : List ℕ) → IsName pattern → IsName options
    → options_of ((pattern ++ 0 ∷ []) ++ (options ++ 0 ∷ [])) ≡ options
options_laid pattern options h k =
    ap before_zero (after_front pattern (options ++ 0 ∷ []) h)
    ∙ (ap before_zero (sym (append-nil (options ++ 0 ∷ []))) ∙ before_front options [] k)

string_size : (space id : List ℕ) → length id ≡ 12
    → length (string_bytes space ++ id) - 12 ≡ length (string_bytes space)
string_size space id size = omega (arith, length-append (string_bytes space) id, size)

pub namespace_laid : (space id : List ℕ) → length id ≡ 12 → namespace_of (string_bytes space ++ id) ≡ space
namespace_laid space id size =
    ap text_of (ap (λ (n : ℕ). take n (string_bytes space ++ id)) (string_size space id size)
    ∙ take_at (string_bytes space) id (length (string_bytes space)) refl) ∙ text_of_string space

pub id_laid : (space id : List ℕ) → length id ≡ 12 → id_of (string_bytes space ++ id) ≡ id
id_laid space id size = ap (λ (n : ℕ). drop n (string_bytes space ++ id)) (string_size space id size)
    ∙ drop_at (string_bytes space) id (length (string_bytes space)) refl
