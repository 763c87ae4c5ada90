-- One reading after another: what it says that none of them failed.
use Rattle.std.proofs.Common.{◌≡◌, ℕ, Bool, true, false, cond, ◌||◌, Result, Ok, Err, refl}
use Rattle.bson_codec.specs.declared.fault.BsonKind.{BsonKind}
use Rattle.bson_codec.specs.declared.fault.BsonFault.{BsonFault}
use Rattle.bson_codec.specs.Fault.{fault_if, ◌>>=◌}

abbrev pub made : {A : Type 0} → A → Result A BsonFault
made x = Ok x

pub ok_is : {A : Type 0} (x y : A) → made x ≡ made y → x ≡ y
ok_is x y e = cc

-- the value of a step that did not fail, and that the next one did not fail
pub record Passed {A B : Type 0} (r : Result A BsonFault) (f : A → Result B BsonFault) (y : B) : Type 0 where
  pub value : A
  pub first : r ≡ Ok value
  pub then : f value ≡ Ok y

pub bind_ok : {A B : Type 0} (r : Result A BsonFault) (f : A → Result B BsonFault) (y : B) → (r >>= f) ≡ Ok y
    → Passed r f y
bind_ok (Ok x) f y e = record { value = x; first = refl; then = e }
bind_ok (Err d) f y e = absurd cc

-- two ways to go on that agree on the value of the first step
pub bind_same : {A B : Type 0} (r : Result A BsonFault) (f g : A → Result B BsonFault)
    → ((x : A) → r ≡ Ok x → f x ≡ g x) → (r >>= f) ≡ (r >>= g)
bind_same (Ok x) f g h = h x refl
bind_same (Err d) f g h = refl

-- a test that found no fault
pub none_if : (b : Bool) (kind : BsonKind) (p : ℕ) (u : Unit {0}) → fault_if b kind p ≡ Ok u → b ≡ false
none_if true kind p u e = absurd cc
none_if false kind p u e = refl

-- a choice between a fault and a value that came to the value
pub chose_ok : {A : Type 0} (b : Bool) (d : BsonFault) (x y : A) → cond b (Err d) (Ok x) ≡ Ok y → (b ≡ false) × (x ≡ y)
chose_ok true d x y e = absurd cc
chose_ok false d x y e = (refl, ok_is x y e)

-- of two tests that found nothing together, neither did
pub neither : (a b : Bool) → (a || b) ≡ false → (a ≡ false) × (b ≡ false)
neither true b e = absurd cc
neither false b e = (refl, e)

-- a fault is no value
pub refused : {A : Type 0} (d : BsonFault) (y : A) → Err d ≡ made y → ⊥
refused d y e = cc
