-- The text of a string's bytes.
use Rattle.std.proofs.Common.{◌≡◌, ◌∙◌, ℕ, ◌-◌, List, [], ◌∷◌, ◌++◌, length, take, ap, arith, length-append}
use Rattle.std.proofs.Math.Seq.{take-append_seam}
use Rattle.bson_codec.specs.Layout.{string_bytes}
use Rattle.bson_codec.specs.Values.{text_of}

pub text_is : (bytes text : List ℕ) → bytes ≡ string_bytes text → text_of bytes ≡ text
text_is bytes text e =
    let n : length (string_bytes text) - 5 ≡ length text = omega (arith, length-append text (0 ∷ [])) in
    let m : text_of (string_bytes text) ≡ take (length text) (text ++ 0 ∷ []) =
    ap (λ (k : ℕ). take k (text ++ 0 ∷ [])) n in
    ap text_of e ∙ (m ∙ take-append_seam text (0 ∷ []))
