-- The time's 64 bits come back from the signed number that is written.
use Rattle.std.proofs.Common.{◌≡◌, ◌∙◌, ℕ, ℤ, length, ap, rules}
use Rattle.std.proofs.lemmas.Int.{of_z-to_z}
use Rattle.std.specs.Int.{cast_unsigned, cast_signed, w64}
use Rattle.bson_tree.specs.Spelling.{doc_bytes}
use Rattle.data_key.specs.Written.{key_fields}
use Rattle.local_kms.proofs.Documents.{document_long}
use Rattle.local_kms.proofs.document.document_of.Goals as goal

pub returns-clause-document : goal.returns-clause-document
returns-clause-document c =
    let back : cast_unsigned w64 (cast_signed w64 c.args.time) ≡ c.args.time =
    of_z-to_z w64 c.args.time (search rules) in
    let bits : cast_unsigned w64 (cast_signed w64 (cast_unsigned w64 c.cast_signed-ms.result)) ≡ c.args.time =
    ap (λ (z : ℤ). cast_unsigned w64 (cast_signed w64 (cast_unsigned w64 z))) c.cast_signed-ms.ensures
    ∙ (ap (λ (n : ℕ). cast_unsigned w64 (cast_signed w64 n)) back ∙ back) in
    c.in_ok-bytes.ensures.written ∙ ap (λ (t : ℕ). doc_bytes (key_fields c.args.key.now t t 0)) bits

pub returns-clause-size : goal.returns-clause-size
returns-clause-size c =
    let back : cast_unsigned w64 (cast_signed w64 c.args.time) ≡ c.args.time =
    of_z-to_z w64 c.args.time (search rules) in
    let bits : cast_unsigned w64 (cast_signed w64 (cast_unsigned w64 c.cast_signed-ms.result)) ≡ c.args.time =
    ap (λ (z : ℤ). cast_unsigned w64 (cast_signed w64 (cast_unsigned w64 z))) c.cast_signed-ms.ensures
    ∙ (ap (λ (n : ℕ). cast_unsigned w64 (cast_signed w64 n)) back ∙ back) in
    ap length (c.in_ok-bytes.ensures.written ∙ ap (λ (t : ℕ). doc_bytes (key_fields c.args.key.now t t 0)) bits)
    ∙ document_long c.args.key.now c.args.time c.requires.long.0 c.requires.long.1
