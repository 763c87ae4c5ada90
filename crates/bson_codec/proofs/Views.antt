-- What the bytes of checked documents spell.
use Rattle.std.proofs.Common.{◌≡◌, ℕ, List, ◌++◌, length, take, drop, Result, Ok, Err, refl, sym, ap, subst, ◌∙◌}
use Rattle.bson_tree.specs.Tree.{Items}
use Rattle.bson_tree.specs.Spelling.{doc_bytes}
use Rattle.bson_codec.specs.declared.fault.BsonFault.{BsonFault}
use Rattle.bson_codec.specs.Bytes.{AreBytes}
use Rattle.bson_codec.specs.Layout.{IsDoc}
use Rattle.bson_codec.specs.Reading.{document, front_document, fault_of, width_of}
use Rattle.bson_codec.specs.Borrowed.{or_none, doc_of, SpellsDoc}
use Rattle.bson_codec.proofs.Steps.{made, ok_is, refused}
use Rattle.bson_codec.proofs.Pieces.{begins_is}
use Rattle.bson_codec.proofs.Documents.{document_takes, document_again, front_takes}

-- the document of bytes that spell one
pub doc_of_spelling : (bs : List ℕ) (is : Items) → IsDoc is → bs ≡ doc_bytes is → doc_of bs ≡ is
unfolding doc_of
doc_of_spelling bs is doc e = ap or_none (document_again bs is doc e)

pub spells_itself : (bs : List ℕ) → SpellsDoc bs → bs ≡ doc_bytes (doc_of bs)
spells_itself bs s = s.parts ∙ ap doc_bytes (sym (doc_of_spelling bs s.tree s.doc s.parts))

pub spelled_doc : (bs : List ℕ) → SpellsDoc bs → IsDoc (doc_of bs)
spelled_doc bs s = subst IsDoc (sym (doc_of_spelling bs s.tree s.doc s.parts)) s.doc

-- ---- all of the bytes

without_fault : (r : Result Items BsonFault) (u : Unit {0}) → fault_of r ≡ Ok u → r ≡ Ok (or_none r)
without_fault (Ok is) u e = refl
without_fault (Err d) u e = absurd (refused d u e)

pub checked : (bs : List ℕ) (u : Unit {0}) → fault_of (document bs) ≡ Ok u → document bs ≡ Ok (doc_of bs)
unfolding doc_of
checked bs u e = without_fault (document bs) u e

pub checked_spells : (bs : List ℕ) (u : Unit {0}) → AreBytes bs → fault_of (document bs) ≡ Ok u → SpellsDoc bs
checked_spells bs u fits e =
    let read = document_takes bs (doc_of bs) fits (checked bs u e) in
    record { tree = doc_of bs; doc = read.doc; parts = read.parts }

pub checked_only : (bs : List ℕ) (u : Unit {0}) → fault_of (document bs) ≡ Ok u → (is : Items) → IsDoc is
    → bs ≡ doc_bytes is → made is ≡ made (doc_of bs)
checked_only bs u e is doc parts = sym (document_again bs is doc parts) ∙ checked bs u e

with_fault : (r : Result Items BsonFault) (d : BsonFault) → fault_of r ≡ Err d → r ≡ Err d
with_fault (Ok is) d e = absurd (refused d tt (sym e))
with_fault (Err f) d e = let same : f ≡ d = cc in ap (λ (g : BsonFault). Err g) same

pub checked_fault : (bs : List ℕ) (d : BsonFault) → fault_of (document bs) ≡ Err d → document bs ≡ Err d
checked_fault bs d e = with_fault (document bs) d e

pub refused_only : (bs : List ℕ) (d : BsonFault) → fault_of (document bs) ≡ Err d → (is : Items) → IsDoc is
    → bs ≡ doc_bytes is → made is ≡ Err d
refused_only bs d e is doc parts = sym (document_again bs is doc parts) ∙ checked_fault bs d e

-- ---- the bytes at the front

-- the document at the front of bytes whose number of bytes is n
pub record FrontKnown (bs : List ℕ) (n : ℕ) : Type 0 where
  pub read : front_document bs ≡ Ok (doc_of (take n bs), n)
  pub doc : IsDoc (doc_of (take n bs))
  pub front : take n bs ≡ doc_bytes (doc_of (take n bs))
  pub parts : bs ≡ doc_bytes (doc_of (take n bs)) ++ drop n bs
  pub size : length (doc_bytes (doc_of (take n bs))) ≡ n

record Sized (r : Result (Items × ℕ) BsonFault) (n : ℕ) : Type 0 where
  tree : Items
  is : r ≡ Ok (tree, n)

sized : (r : Result (Items × ℕ) BsonFault) (n : ℕ) → width_of r ≡ Ok n → Sized r n
sized (Ok x) n e = let width : x.1 ≡ n = ok_is x.1 n e in record {
  tree = x.0;
  is = ap (λ (m : ℕ). made (x.0, m)) width;
}
sized (Err d) n e = absurd (refused d n e)

pub front_known : (bs : List ℕ) (n : ℕ) → AreBytes bs → width_of (front_document bs) ≡ Ok n → FrontKnown bs n
front_known bs n fits e =
    let s = sized (front_document bs) n e in
    let read = front_takes bs (s.tree, n) fits s.is in
    let text : take n bs ≡ doc_bytes s.tree = begins_is bs _ n read.parts in
    let same : s.tree ≡ doc_of (take n bs) = sym (doc_of_spelling (take n bs) s.tree read.doc text) in
    record {
      read = s.is ∙ ap (λ (is : Items). made (is, n)) same;
      doc = subst IsDoc same read.doc;
      front = text ∙ ap doc_bytes same;
      parts = read.parts.parts ∙ ap (λ (is : Items). doc_bytes is ++ drop n bs) same;
      size = sym (ap (λ (is : Items). length (doc_bytes is)) same) ∙ read.parts.size;
    }

pub front_spells : (bs : List ℕ) (n : ℕ) → FrontKnown bs n → SpellsDoc (take n bs)
front_spells bs n k = record { tree = doc_of (take n bs); doc = k.doc; parts = k.front }

front_fault : (r : Result (Items × ℕ) BsonFault) (d : BsonFault) → width_of r ≡ Err d → r ≡ Err d
front_fault (Ok x) d e = absurd (refused d x.1 (sym e))
front_fault (Err f) d e = let same : f ≡ d = cc in ap (λ (g : BsonFault). Err g) same

pub front_refused : (bs : List ℕ) (d : BsonFault) → width_of (front_document bs) ≡ Err d → front_document bs ≡ Err d
front_refused bs d e = front_fault (front_document bs) d e
