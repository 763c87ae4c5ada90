-- What reading says of a result, said by the grammar.
use Rattle.std.proofs.Common.{◌≡◌, ℕ, ◌≤◌, List, ◌++◌, length, take, Result, Ok, Err, subst, sym}
use Rattle.std.specs.Prelude.{IfOk}
use Rattle.bson_tree.specs.Tree.{Items}
use Rattle.bson_tree.specs.Spelling.{doc_bytes}
use Rattle.bson_codec.specs.declared.fault.BsonFault.{BsonFault}
use Rattle.bson_codec.specs.declared.fault.CodecFault.{CodecFault}
use Rattle.bson_codec.specs.Fault.{Gives}
use Rattle.bson_codec.specs.Layout.{IsDoc}
use Rattle.bson_codec.specs.Reading.{document, front_document}
use Rattle.bson_codec.specs.Bytes.{AreBytes}
use Rattle.bson_codec.proofs.Pieces.{Begins, begins_is, begins_fits, begins_of}
use Rattle.bson_codec.proofs.Documents.{document_takes, document_again, front_takes, front_again}

module _ {X : Type 0} (view : X → Items) (bs : List ℕ) where
  pub is_found : (r : Result X CodecFault) → AreBytes bs → Gives view r (document bs)
      → IfOk r (λ x. IsDoc (view x) × (bs ≡ doc_bytes (view x)))
  is_found (Ok x) fits given = let read = document_takes bs (view x) fits given in (read.doc, read.parts)
  is_found (Err e) fits given = tt

  pub is_only : (r : Result X CodecFault) → Gives view r (document bs) → (is : Items) → IsDoc is → bs ≡ doc_bytes is
      → Gives view r (Ok is)
  is_only r given is doc e = subst (λ (read : Result Items BsonFault). Gives view r read)
      (document_again bs is doc e) given

module _ {X : Type 0} (view : X → Items × ℕ) (bs : List ℕ) where
  pub front_is_found : (r : Result X CodecFault) → AreBytes bs → Gives view r (front_document bs)
      → IfOk r (λ x. IsDoc (view x).0 × ((view x).1 ≤ length bs) × (take (view x).1 bs ≡ doc_bytes (view x).0))
  front_is_found (Ok x) fits given =
      let read = front_takes bs (view x) fits given in
      (read.doc, begins_fits bs _ (view x).1 read.parts, begins_is bs _ (view x).1 read.parts)
  front_is_found (Err e) fits given = tt

  pub front_is_only : (r : Result X CodecFault) → Gives view r (front_document bs) → (is : Items) (rest : List ℕ)
      → IsDoc is → bs ≡ doc_bytes is ++ rest
      → Gives view r (Ok (is, length (doc_bytes is)))
  front_is_only r given is rest doc e =
      let begins : Begins bs (doc_bytes is) (length (doc_bytes is)) =
      subst (λ (x : List ℕ). Begins x (doc_bytes is) (length (doc_bytes is))) (sym e) (begins_of (doc_bytes is) rest) in
      subst (λ (read : Result (Items × ℕ) BsonFault). Gives view r read)
      (front_again bs is (length (doc_bytes is)) doc begins) given
