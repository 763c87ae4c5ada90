-- Bytes that spell a document are answered by what is asked of it.
use Rattle.std.proofs.Common.{◌≡◌, ℕ, ◌≤◌, nat_lt, Bool, false, List, length, Result, Ok, sym, subst, arith}
use Rattle.std.proofs.lemmas.Bool.Decides.{nat_tests}
use Rattle.bson_codec.specs.Reading.{document}
use Rattle.bson_codec.specs.declared.fault.BsonFault.{BsonFault}
use Rattle.bson_tree.specs.Tree.{Items}
use Rattle.fle_c.specs.Calls.{JudgesAs, ReadsAs, SizedAs}
use Rattle.fle_c.specs.Telling.{malformed}
use Rattle.fle_c.specs.declared.told.Told.{Told}

pub sized : {A : Type 0} (most : ℕ) (faulty : BsonFault → Told) (is : Items → Type 0) (bytes : List ℕ)
    (before after : A) (told : Told) (d : Items) → length bytes ≤ most → document bytes ≡ Ok d → is d
    → SizedAs (nat_lt most (length bytes)) faulty is bytes before after told
sized {A} most faulty is bytes before after told d few read so =
    let short : nat_lt most (length bytes) ≡ false = grind (arith, nat_tests) in
    subst (λ (b : Bool). SizedAs {A = A} b faulty is bytes before after told) (sym short)
    (subst (λ (r : Result Items BsonFault). ReadsAs {A = A} faulty is r before after told) (sym read) so)

pub judged : (most : ℕ) (is : Items → Type 0) (bytes before after : List ℕ) (told : Told) (d : Items)
    → length bytes ≤ most → document bytes ≡ Ok d → is d → JudgesAs most is bytes before after told
judged most is bytes before after told d few read so =
    sized most malformed is bytes before after told d few read so
