-- The bytes of one document: read whole, ended, or failed on the way.
use Rattle.std.proofs.Common.{◌≡◌, ℕ, ◌+◌, ◌^◌, ◌<◌, ◌≤◌, Option, Some, Result, Ok, Err, List, [], ◌++◌, length, take}
use Rattle.std.proofs.Common.{drop, min, refl, sym, ◌∙◌, ap, subst, arith, append_assoc, length-append}
use Rattle.std.specs.Int.{from_le_bytes, w32}
use Rattle.std.proofs.lemmas.List.{drop_all, drop_min, drop_at, drop-drop, take_at}
use Rattle.std.proofs.Math.Seq.{take-append-add}
use Rattle.bson_tree.specs.Tree.{Items}
use Rattle.bson_codec.specs.Reading.{document}
use Rattle.bson_codec.specs.declared.fault.BsonFault.{BsonFault}
use Rattle.fle_outside.specs.Filling.{FillTakes}
use Rattle.fle_outside.specs.declared.filling.Fill.TheVariants as fills
use Rattle.fle_stream.specs.Next.{Handed}
use Rattle.fle_stream.specs.Streams.{ends, doc, faulty, short, stated, spelled, documents_within, first_size}
use Rattle.fle_stream.proofs.Streams.{IsSize, short_body, whole_body, first_size_body, first_size_least, short_head}

-- the first four bytes are read, and state the length
pub size_of_head : (limit : ℕ) (head told : List ℕ) (m : ℕ) → length head ≡ 4 → from_le_bytes w32 head ≡ m → 5 ≤ m
    → m ≤ limit → limit < 2 ^ 31
    → IsSize limit (head ++ told) m
unfolding stated
size_of_head limit head told m four says least most small = record {
  says = ap (λ (x : List ℕ). from_le_bytes w32 x) (take_at head told 4 four) ∙ says;
  least = least;
  most = most;
  signed = omega (arith, most, small);
  four = omega (arith, length-append head told, four);
}

-- the four bytes of the length are read
pub record HeadRead (told piece : List ℕ) (after : Option (List ℕ)) (size : ℕ) : Type 0 where
  pub four : 4 ≤ length told
  pub says : stated told ≡ size
  pub is : piece ++ drop 4 told ≡ told
  pub left : after ≡ Some (drop 4 told)

pub head_read : (told piece : List ℕ) (after : Option (List ℕ)) (size : ℕ) → length piece ≡ 4
    → size ≡ from_le_bytes w32 piece → FillTakes told after fills.Whole piece → HeadRead told piece after size
unfolding stated
head_read told piece after size four says takes =
    let is : told ≡ piece ++ drop 4 told = subst (λ (x : ℕ). told ≡ piece ++ drop x told) four takes.0 in
    let front : take 4 told ≡ piece = ap (λ (x : List ℕ). take 4 x) is ∙ take_at piece (drop 4 told) 4 four in
    record {
      four = omega (arith, ap length is, length-append piece (drop 4 told), four);
      says = ap (λ (x : List ℕ). from_le_bytes w32 x) front ∙ sym says;
      is = sym is;
      left = subst (λ (x : ℕ). after ≡ Some (drop x told)) four takes.1;
    }

-- so many bytes were handed out, if there were so many
pub handed : (told : List ℕ) (k most : ℕ) (after : Option (List ℕ)) → after ≡ Some (drop k told)
    → min k (length told) ≤ most → Handed told after most
handed told k most after is within = (
  min k (length told),
  within,
  is
      ∙ ap (λ (x : List ℕ). Some x) (sym (drop_min k told)),
)

-- the source failed before the length was read
pub failed_head : (limit other : ℕ) (told piece : List ℕ) (after : Option (List ℕ)) → length piece ≡ 4
    → FillTakes told after fills.Failed piece
    → Handed told after (first_size (documents_within limit other told) (length told))
failed_head limit other told piece after four takes =
    handed told takes.0 _ after takes.2 (omega (arith, takes.1, four, first_size_least limit other told))

-- all that was left is read
pub all_read : (told : List ℕ) (after : Option (List ℕ)) (n : ℕ) → length told ≡ n → after ≡ Some []
    → after ≡ Some (drop n told)
all_read told after n size is = is ∙ ap (λ (x : List ℕ). Some x) (sym (drop_all n told (omega (arith, size))))

-- a stream of n bytes that ends too soon, all of it read
abbrev pub EndsShort : ℕ → ℕ → List ℕ → Option (List ℕ) → ℕ → Type 0
EndsShort limit other told after n =
    (documents_within limit other told ≡ ends (short n)) × (after ≡ Some (drop n told))

-- the fault of such a stream
pub ended_by : (limit other : ℕ) (told : List ℕ) (after : Option (List ℕ)) (n : ℕ) (fault : BsonFault)
    → faulty n fault ≡ short n
    → EndsShort limit other told after n
    → (k : ℕ) × (documents_within limit other told ≡ ends (faulty k fault)) × (after ≡ Some (drop k told))
ended_by limit other told after n fault is ended = (n, ended.0 ∙ ap ends (sym is), ended.1)

-- the source ended before the length was read
pub ended_head : (limit other : ℕ) (told piece : List ℕ) (after : Option (List ℕ)) (n : ℕ)
    → FillTakes told after (fills.Ended n) piece
    → 0 < n → n < 4 → EndsShort limit other told after n
ended_head limit other told piece after n takes some few = (
  subst (λ (x : ℕ). documents_within limit other told ≡ ends (short x)) takes.0
      (short_head limit other told (omega (arith, takes.0, some)) (omega (arith, takes.0, few))),
  all_read told after n takes.0 takes.2,
)

-- there was no memory for the document, whose length alone is read
pub unread_body : (limit other : ℕ) (head told : List ℕ) (m : ℕ) → length head ≡ 4 → IsSize limit (head ++ told) m
    → Handed (head ++ told) (Some told)
    (first_size (documents_within limit other (head ++ told)) (length (head ++ told)))
unread_body limit other head told m four size =
    handed (head ++ told) 4 _ (Some told) (ap (λ (x : List ℕ). Some x) (sym (drop_at head told 4 four)))
    (omega (arith, size.least, first_size_body limit other (head ++ told) m size))

pub failed_body : (limit other : ℕ) (told piece : List ℕ) (after : Option (List ℕ)) (m : ℕ) → IsSize limit told m
    → length piece ≡ m
    → FillTakes told after fills.Failed piece
    → Handed told after (first_size (documents_within limit other told) (length told))
failed_body limit other told piece after m size long takes =
    handed told takes.0 _ after takes.2 (omega (arith, takes.1, long, first_size_body limit other told m size))

pub ended_body : (limit other : ℕ) (told piece : List ℕ) (after : Option (List ℕ)) (m n : ℕ) → IsSize limit told m
    → FillTakes told after (fills.Ended n) piece → n < m → EndsShort limit other told after n
ended_body limit other told piece after m n size takes less = (
  subst (λ (x : ℕ). documents_within limit other told ≡ ends (short x)) takes.0 (short_body limit other told m size
      (omega (arith, takes.0, less))),
  all_read told after n takes.0 takes.2,
)

-- the document's bytes are read
pub framed : (limit other : ℕ) (told piece bytes : List ℕ) (after : Option (List ℕ)) (m : ℕ) → IsSize limit told m
    → length piece ≡ m
    → FillTakes told after fills.Whole piece → bytes ≡ piece
    → (documents_within limit other told
    ≡ spelled (documents_within other limit) (length bytes) told (document bytes))
    × (after ≡ Some (drop (length bytes) told))
framed limit other told piece bytes after m size long takes is =
    let told_is : told ≡ piece ++ drop m told = subst (λ (x : ℕ). told ≡ piece ++ drop x told) long takes.0 in
    let enough : m ≤ length told = omega (arith, ap length told_is, length-append piece (drop m told), long) in
    let front : take m told ≡ piece = ap (λ (x : List ℕ). take m x) told_is ∙ take_at piece (drop m told) m long in
    let same : m ≡ length bytes = sym long ∙ ap length (sym is) in (
      whole_body limit other told m size enough
          ∙ ap (λ (x : List ℕ). spelled (documents_within other limit) m told (document x)) (front ∙ sym is)
          ∙ ap (λ (n : ℕ). spelled (documents_within other limit) n told (document bytes)) same,
      subst (λ (n : ℕ). after ≡ Some (drop n told)) (ap length (sym is)) takes.1,
    )

-- the first document of a stream is read: n bytes
pub record DocRead (limit other : ℕ) (told : List ℕ) (after : Option (List ℕ)) (n : ℕ) (is : Items) : Type 0 where
  pub stands : documents_within limit other told ≡ doc n is (documents_within other limit (drop n told))
  pub left : after ≡ Some (drop n told)

pub read_ok : (limit other : ℕ) (told bytes : List ℕ) (after : Option (List ℕ)) (n : ℕ) (is : Items)
    → n ≡ length bytes
    → documents_within limit other told ≡ spelled (documents_within other limit) (length bytes) told (document bytes)
    → after ≡ Some (drop (length bytes) told)
    → document bytes ≡ Ok is
    → DocRead limit other told after n is
read_ok limit other told bytes after n is long stands left ok =
    subst (λ (m : ℕ). DocRead limit other told after m is) (sym long)
    (record {
      stands = stands ∙ ap (λ (x : Result Items BsonFault). spelled (documents_within other limit)
          (length bytes) told x) ok;
      left = left;
    })

-- its bytes have a fault
pub read_fault : (limit other : ℕ) (told bytes : List ℕ) (fault : BsonFault)
    → documents_within limit other told ≡ spelled (documents_within other limit) (length bytes) told (document bytes)
    → document bytes ≡ Err fault
    → documents_within limit other told ≡ ends (faulty (length bytes) fault)
read_fault limit other told bytes fault stands err = stands
    ∙ ap (λ (x : Result Items BsonFault). spelled (documents_within other limit) (length bytes) told x) err

-- what is left behind the head and k bytes more
drop_head : (head told : List ℕ) (k : ℕ) → drop (length head + k) (head ++ told) ≡ drop k told
drop_head head told k = sym (drop-drop k (length head) (head ++ told))
    ∙ ap (λ (x : List ℕ). drop k x) (drop_at head told (length head) refl)

-- what filling the rest of a document's buffer takes is what filling it whole takes
pub fill_whole : (head told rest : List ℕ) (after : Option (List ℕ)) → FillTakes told after fills.Whole rest
    → FillTakes (head ++ told) after fills.Whole (head ++ rest)
fill_whole head told rest after takes =
    let left : drop (length (head ++ rest)) (head ++ told) ≡ drop (length rest) told =
    ap (λ (x : ℕ). drop x (head ++ told)) (length-append head rest) ∙ drop_head head told (length rest) in (
      ap (λ (x : List ℕ). head ++ x) takes.0 ∙ (sym (append_assoc head rest (drop (length rest) told))
          ∙ ap (λ (x : List ℕ). (head ++ rest) ++ x) (sym left)),
      takes.1 ∙ ap (λ (x : List ℕ). Some x) (sym left),
    )

pub fill_ended : (head told rest : List ℕ) (after : Option (List ℕ)) (n : ℕ) → FillTakes told after (fills.Ended n) rest
    → FillTakes (head ++ told) after (fills.Ended (length head + n)) (head ++ rest)
fill_ended head told rest after n takes = (
  length-append head told ∙ ap (λ (x : ℕ). length head + x) takes.0,
  ap (λ (x : List ℕ). head ++ x) takes.1 ∙ sym (take-append-add head rest n),
  takes.2,
)

pub fill_failed : (head told rest : List ℕ) (after : Option (List ℕ)) → FillTakes told after fills.Failed rest
    → FillTakes (head ++ told) after fills.Failed (head ++ rest)
fill_failed head told rest after takes = (
  length head + takes.0,
  omega (arith, takes.1, length-append head rest),
  takes.2
      ∙ ap (λ (x : List ℕ). Some x) (sym (drop_head head told takes.0)),
)
