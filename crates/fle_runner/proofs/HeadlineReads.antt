-- The documents of a stream of bytes: each is spelled by its bytes.
use Rattle.std.proofs.Common.{◌≡◌, ℕ, zero, suc, ◌+◌, ◌∙◌, ◌<◌, ◌≤◌, inl, inr, Result, Ok, Err, List, [], ◌∷◌, ◌++◌}
use Rattle.std.proofs.Common.{length, take, drop, refl, sym, ap, subst, arith}
use Rattle.std.specs.List.{All}
use Rattle.std.proofs.lemmas.Bool.{cases_lt}
use Rattle.std.proofs.lemmas.List.{get_or_past, length-take-le, take_at}
use Rattle.std.proofs.lemmas.List.Elements.{All-drop, All-get_or, All-take}
use Rattle.bson_tree.specs.Spelling.{doc_bytes, items_bytes}
use Rattle.bson_tree.specs.Tree.{Items}
use Rattle.bson_codec.specs.Bytes.{AreBytes}
use Rattle.bson_codec.specs.Layout.{IsDoc}
use Rattle.bson_codec.specs.Reading.{document}
use Rattle.bson_codec.specs.declared.fault.BsonFault.{BsonFault}
use Rattle.bson_codec.proofs.Documents.{document_takes}
use Rattle.fle_stream.specs.Pairs.{answer_limit}
use Rattle.fle_stream.specs.Streams.{Docs, Standing, doc, document_limit, documents, documents_within, ends, first_by}
use Rattle.fle_stream.specs.Streams.{rounds, spelled, standing, stated, stops, whole}
use Rattle.fle_stream.proofs.Streams.{standing_whole}

-- a document of n bytes: it has a spelling, of as many bytes
pub record IsRead (n : ℕ) (c : Items) : Type 0 where
  pub laid : IsDoc c
  pub bytes : All (λ b. b < 256) (items_bytes c)
  pub size : n ≡ length (doc_bytes c)

abbrev pub AreRead : Docs → Type 0
AreRead (ends rest) = Unit {0}
AreRead (doc n c docs) = IsRead n c × AreRead docs

inside_bytes : (c : Items) → All (λ b. b < 256) (doc_bytes c) → All (λ b. b < 256) (items_bytes c)
inside_bytes c h =
    let elements = items_bytes c in
    let tail : All (λ b. b < 256) (elements ++ 0 ∷ []) = All-drop (λ b. b < 256) 4 (doc_bytes c) h in
    subst (λ (bs : List ℕ). All (λ b. b < 256) bs) (take_at elements (0 ∷ []) (length elements) refl)
    (All-take (λ b. b < 256) (length elements) (elements ++ 0 ∷ []) tail)

are_bytes : (bs : List ℕ) → All (λ b. b < 256) bs → AreBytes bs
are_bytes bs h i = elim (cases_lt i (length bs)) [
  | inl lt ↦ All-get_or (λ b. b < 256) bs i 0 lt h
  | inr le ↦ rw (get_or_past bs i 0 le) (omega arith)
]

spelled_read : (behind : List ℕ → Docs) (m : ℕ) (bytes : List ℕ) (r : Result Items BsonFault)
    → document (take m bytes) ≡ r → m ≤ length bytes → All (λ b. b < 256) bytes → AreRead (behind (drop m bytes))
    → AreRead (spelled behind m bytes r)
spelled_read behind m bytes (Ok c) read within all others =
    let front = All-take (λ b. b < 256) m bytes all in
    let is = document_takes (take m bytes) c (are_bytes (take m bytes) front) read in (
      record {
        laid = is.doc;
        bytes = inside_bytes c (subst (λ (bs : List ℕ). All (λ b. b < 256) bs) is.parts front);
        size = sym (length-take-le m bytes within) ∙ ap length is.parts;
      },
      others,
    )
spelled_read behind m bytes (Err fault) read within all others = tt

first_read : (limit : ℕ) (behind : List ℕ → Docs) (bytes : List ℕ) (s : Standing) → standing limit bytes ≡ s → All
    (λ b. b < 256) bytes
    → ((m : ℕ) → AreRead (behind (drop m bytes))) → AreRead (first_by behind bytes s)
unfolding standing
first_read limit behind bytes (stops rest) is all others = tt
first_read limit behind bytes (whole m) is all others =
    spelled_read behind m bytes (document (take m bytes)) refl
    (standing_whole limit (length bytes) (stated bytes) m is).within all (others m)

rounds_read : (limit other n : ℕ) (bytes : List ℕ) → All (λ b. b < 256) bytes → AreRead (rounds limit other n bytes)
unfolding rounds
rounds_read limit other zero bytes all = tt
rounds_read limit other (suc n) bytes all =
    first_read limit (rounds other limit n) bytes (standing limit bytes) refl all
    (λ m. rounds_read other limit n (drop m bytes) (All-drop (λ b. b < 256) m bytes all))

pub documents_read : (bytes : List ℕ) → All (λ b. b < 256) bytes → AreRead (documents bytes)
unfolding documents_within
documents_read bytes all = rounds_read document_limit document_limit (length bytes + 1) bytes all

-- and those of a stream of pairs
pub pairs_read : (bytes : List ℕ) → All (λ b. b < 256) bytes
    → AreRead (documents_within document_limit answer_limit bytes)
unfolding documents_within
pairs_read bytes all = rounds_read document_limit answer_limit (length bytes + 1) bytes all
