-- A document inside, by the levels that it may add.
use Rattle.std.proofs.Common.{◌≡◌, ℕ, zero, suc, Bool, ◌-◌, List, refl, ap, arith}
use Rattle.std.specs.Prelude.{◌==◌, ◌&&◌, not, true, length, Result, Ok, Err}
use Rattle.bson_tree.specs.Tree.{Items}
use Rattle.bson_codec.specs.declared.fault.BsonFault.{BsonFault}
use Rattle.bson_codec.specs.declared.fault.BsonKind.TheVariants as kinds
use Rattle.bson_codec.specs.Fault.{◌>>=◌, fault_if}
use Rattle.bson_codec.specs.Reading.{Reader, nested_at, inside_at, inside_length_at, int32_at, length_at, framed_at}

-- with no level left it is refused whatever would read what is inside
deep : (r : Result ℕ BsonFault) (p : ℕ) (k : ℕ → Result ℕ BsonFault) (f g : ℕ → Result (Items × ℕ) BsonFault)
    → ((r >>= λ stated. fault_if true kinds.Deep p >>= λ _. k stated) >>= f)
    ≡ ((r >>= λ stated. fault_if true kinds.Deep p >>= λ _. k stated) >>= g)
deep (Ok n) p k f g = refl
deep (Err e) p k f g = refl

none_left : (f g : Reader) (fills : Bool) (p : ℕ) (bs : List ℕ) → nested_at f 0 fills p bs ≡ nested_at g 0 fills p bs
unfolding nested_at inside_length_at
none_left f g fills p bs =
    deep (int32_at p bs) p (λ stated. length_at 5 0 stated p bs >>= λ n. fault_if
    (fills && not (n == length bs)) kinds.Length p >>= λ _. Ok n) (λ n. framed_at f n p bs)
    (λ n. framed_at g n p bs)

pub inside_is : (levels : ℕ) (fills : Bool) (p : ℕ) (bs : List ℕ)
    → inside_at levels fills p bs ≡ nested_at (inside_at (levels - 1)) levels fills p bs
unfolding inside_at
inside_is zero fills p bs = none_left _ _ fills p bs
inside_is (suc levels) fills p bs =
    let one_less : levels ≡ suc levels - 1 = omega arith in
    ap (λ (l : ℕ). nested_at (inside_at l) (suc levels) fills p bs) one_less
