-- Texts of parts from their front: one byte more, and the end of a part.
use Rattle.std.proofs.Common.{◌≡◌, ◌<◌, ◌+◌, ◌==◌, ℕ, Bool, true, false, cond, List, [], ◌∷◌, ◌++◌, length, take, drop}
use Rattle.std.proofs.Common.{get_or, refl, sym, ap, ap₂, ◌∙◌}
use Rattle.std.proofs.lemmas.List.{take_more, drop_more}
use Rattle.encrypt_schema.specs.Language.Separated.{in_front, separated}
use Rattle.encrypt_schema.specs.Views.Parts.{before}

before_push : (front : List ℕ) (byte : ℕ) (parts : List (List ℕ))
    → before (front ++ byte ∷ []) parts ≡ before front (in_front byte parts)
before_push [] byte parts = refl
before_push (b ∷ front) byte parts = ap (in_front b) (before_push front byte parts)

before_end : (front : List ℕ) (parts : List (List ℕ)) → before front ([] ∷ parts) ≡ front ∷ parts
before_end [] parts = refl
before_end (b ∷ front) parts = ap (in_front b) (before_end front parts)

by_byte : (separator byte : ℕ) (bytes : List ℕ) (b : Bool) → (byte == separator) ≡ b
    → separated separator (byte ∷ bytes)
    ≡ cond b ([] ∷ separated separator bytes) (in_front byte (separated separator bytes))
by_byte separator byte bytes b e =
    ap (λ (c : Bool). cond c ([] ∷ separated separator bytes) (in_front byte (separated separator bytes))) e

-- another byte than the separator belongs to the part
pub goes_on : (separator : ℕ) (bytes : List ℕ) (i : ℕ) → i < length bytes → (get_or bytes i 0 == separator) ≡ false
    → before (take i bytes) (separated separator (drop i bytes)) ≡ separated separator bytes
    → before (take (i + 1) bytes) (separated separator (drop (i + 1) bytes)) ≡ separated separator bytes
goes_on separator bytes i below other so =
    ap (λ (f : List ℕ). before f (separated separator (drop (i + 1) bytes))) (take_more bytes i 0 below)
    ∙ before_push (take i bytes) (get_or bytes i 0) (separated separator (drop (i + 1) bytes))
    ∙ ap (before (take i bytes)) (sym (by_byte separator (get_or bytes i 0) (drop (i + 1) bytes) false other)
    ∙ ap (separated separator) (sym (drop_more bytes i 0 below)))
    ∙ so

-- the separator ends the part
pub ends_there : (separator : ℕ) (bytes : List ℕ) (i : ℕ) → i < length bytes → (get_or bytes i 0 == separator) ≡ true
    → before (take i bytes) (separated separator (drop i bytes)) ≡ separated separator bytes
    → separated separator bytes ≡ take i bytes ∷ separated separator (drop (i + 1) bytes)
ends_there separator bytes i below there so =
    sym so
    ∙ ap (before (take i bytes)) (ap (separated separator) (drop_more bytes i 0 below)
    ∙ by_byte separator (get_or bytes i 0) (drop (i + 1) bytes) true there)
    ∙ before_end (take i bytes) (separated separator (drop (i + 1) bytes))

-- the end of the bytes does
pub ends_last : (separator : ℕ) (bytes front left : List ℕ) → front ≡ bytes → left ≡ []
    → before front (separated separator left) ≡ separated separator bytes
    → separated separator bytes ≡ bytes ∷ []
ends_last separator bytes front left whole none so =
    sym so
    ∙ ap₂ (λ (f l : List ℕ). before f (separated separator l)) whole none
    ∙ before_end bytes []
