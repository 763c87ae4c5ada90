-- What the two directions of reading say of the grammar.
use Rattle.std.proofs.Common.{◌≡◌, ℕ, List, [], ◌++◌, length, Result, Ok, Err, refl, sym, ap, subst, ◌∙◌, arith, ◌↔◌}
use Rattle.std.specs.Prelude.{IsOk, is_ok}
use Rattle.std.proofs.lemmas.List.{append-nil, nil_from_length, length-append}
use Rattle.bson_tree.specs.Tree.{Items}
use Rattle.bson_tree.specs.Spelling.{doc_bytes}
use Rattle.bson_codec.specs.declared.fault.BsonFault.{BsonFault}
use Rattle.bson_codec.specs.Bytes.{AreBytes}
use Rattle.bson_codec.specs.Layout.{IsDoc}
use Rattle.bson_codec.specs.Reading.{IsReadBack, document, front_document}
use Rattle.bson_codec.proofs.Steps.{ok_is}
use Rattle.bson_codec.proofs.Pieces.{Begins, begins_of}
use Rattle.bson_codec.proofs.Documents.{document_takes, document_again, front_again}

pub tree_read : (bytes : List ℕ) (is : Items) → AreBytes bytes → (document bytes ≡ Ok is)
    ↔ (IsDoc is × (bytes ≡ doc_bytes is))
tree_read bytes is fits =
    (λ e. let read = document_takes bytes is fits e in (read.doc, read.parts), λ h. document_again bytes is h.0 h.1)

spelled : (bytes : List ℕ) (r : Result Items BsonFault) → AreBytes bytes → document bytes ≡ r → IsOk r
    → (is : Items) × IsDoc is × (bytes ≡ doc_bytes is)
spelled bytes (Ok is) fits e h = let read = document_takes bytes is fits e in (is, read.doc, read.parts)
spelled bytes (Err d) fits e h = absurd cc

pub no_fault : (bytes : List ℕ) → AreBytes bytes → IsOk (document bytes)
    ↔ ((is : Items) × IsDoc is × (bytes ≡ doc_bytes is))
no_fault bytes fits = (
  spelled bytes (document bytes) fits refl,
  λ h. ap (λ (r : Result Items BsonFault). is_ok r) (document_again bytes h.0 h.1 h.2),
)

pub read_back : (is : Items) → IsReadBack is ↔ (IsDoc is × AreBytes (doc_bytes is))
read_back is = (
  λ h. let read = document_takes (doc_bytes is) is h.0 h.1 in (read.doc, h.0),
  λ h. (h.1, document_again (doc_bytes is) is h.0 refl),
)

pub front_read : (bytes rest : List ℕ) (is : Items) → IsDoc is → bytes ≡ doc_bytes is ++ rest
    → front_document bytes ≡ Ok (is, length (doc_bytes is))
front_read bytes rest is doc e =
    let begins : Begins bytes (doc_bytes is) (length (doc_bytes is)) =
    subst (λ (x : List ℕ). Begins x (doc_bytes is) (length (doc_bytes is))) (sym e) (begins_of (doc_bytes is) rest) in
    front_again bytes is (length (doc_bytes is)) doc begins

pub same_tree : (is js : Items) → IsDoc is → IsDoc js → doc_bytes is ≡ doc_bytes js → is ≡ js
same_tree is js a b e = ok_is is js (sym (document_again (doc_bytes is) is a refl)
    ∙ document_again (doc_bytes is) js b e)

pub nothing_follows : (is js : Items) (rest : List ℕ) → IsDoc is → IsDoc js → doc_bytes is ≡ doc_bytes js ++ rest
    → rest ≡ []
nothing_follows is js rest a b e =
    let first = front_read (doc_bytes is) [] is a (sym (append-nil (doc_bytes is))) in
    let second = front_read (doc_bytes is) rest js b e in
    let same = ok_is (is, length (doc_bytes is)) (js, length (doc_bytes js)) (sym first ∙ second) in
    let width : length (doc_bytes is) ≡ length (doc_bytes js) = ap (λ (x : Items × ℕ). x.1) same in
    nil_from_length rest (omega (arith, width, ap length e, length-append (doc_bytes js) rest))
