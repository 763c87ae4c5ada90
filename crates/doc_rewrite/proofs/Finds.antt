-- Payloads that are found.
use Rattle.std.proofs.Common.{◌≡◌, ◌∙◌, ℕ, ◌+◌, ◌-◌, ◌%◌, ◌/◌, ◌<◌, ◌==◌, ◌&&◌, Bool, true, false, nat_lt, List}
use Rattle.std.proofs.Common.{◌++◌, length, sym, ap, refl, subst, arith}
use Rattle.std.proofs.Common.{length-append}
use Rattle.std.proofs.lemmas.Bool.{eq-eqb, eqb-true}
use Rattle.std.proofs.lemmas.Bool.Decides.{nat_tests}
use Rattle.bson_tree.specs.Tree.{Tree, leaf}
use Rattle.bson_tree.specs.Spelling.{value_bytes}
use Rattle.payload6.specs.Payload.{head, IsPayloadLength}
use Rattle.payload6.specs.Verdicts.{id_in}
use Rattle.payload6.proofs.PayloadForm.{head-size}
use Rattle.doc_rewrite.specs.declared.found.FoundAt.{FoundAt}
use Rattle.doc_rewrite.specs.Finding.{FailsAs, FindsAll, found_at}
use Rattle.doc_rewrite.specs.Founds.{Place, contents_of, founds_in, opens_here, place_of}
use Rattle.doc_rewrite.specs.Opened.{first_wrong, is_payload_length, misshapen}
use Rattle.doc_rewrite.proofs.Walks.{none_found, one_found}

-- ---- lengths

both : (a b : Bool) → a ≡ true → b ≡ true → (a && b) ≡ true
both a b p q = rw (p, q) refl

pub length_is : (n : ℕ) → IsPayloadLength n → is_payload_length n ≡ true
length_is n h =
    let high : nat_lt 66 n ≡ true = grind (arith, nat_tests, h.1, h.2) in
    let whole : (n - 66) % 16 ≡ 0 = omega (arith, h.2) in
    both (nat_lt 66 n) ((n - 66) % 16 == 0) high (eq-eqb ((n - 66) % 16) 0 whole)

not_both : (n : ℕ) (a b : Bool) → nat_lt 66 n ≡ a → ((n - 66) % 16 == 0) ≡ b → (IsPayloadLength n → ⊥)
    → (a && b) ≡ false
not_both n false b p q h = refl
not_both n true false p q h = refl
not_both n true true p q h =
    let high : 66 < n = grind (arith, nat_tests) in
    let whole : (n - 66) % 16 ≡ 0 = eqb-true ((n - 66) % 16) 0 q in
    absurd (h ((n - 66) / 16, omega (arith, high, whole), omega (arith, high, whole)))

pub length_not : (n : ℕ) → (IsPayloadLength n → ⊥) → is_payload_length n ≡ false
length_not n h = not_both n (nat_lt 66 n) ((n - 66) % 16 == 0) refl refl h

-- what is taken apart has a payload's length
pub length_of_parts : (kind type : ℕ) (id h c b : List ℕ) → length id ≡ 16 → h ≡ head kind id type → 48 < length c
    → length c % 16 ≡ 0
    → b ≡ h ++ c → IsPayloadLength (length b)
length_of_parts kind type id h c b long is some whole parts =
    let size : length h ≡ 18 = ap length is ∙ head-size kind id type long in
    let all : length b ≡ length h + length c = ap length parts ∙ length-append h c in
    ((length c - 48) / 16, omega (arith, some, whole), omega (arith, some, whole, size, all))

-- ---- one value

-- what is told of one
pub told : (levels at n m : ℕ) (t : Tree) (id : List ℕ) → n ≡ at → m ≡ at + length (value_bytes t)
    → id ≡ id_in (contents_of t)
    → record { start = n; end = m; key_id = id; levels = levels } ≡ found_at (place_of levels at t)
told levels at n m t id p q r = rw (p, q, r) refl

pub finds_wrong : (levels at : ℕ) (t : Tree) (tag : ℕ) (bytes : List ℕ) → t ≡ leaf tag bytes → opens_here t ≡ true
    → (IsPayloadLength (length (contents_of t)) → ⊥) → FailsAs (founds_in levels at t) (record { at = at })
finds_wrong levels at t tag bytes is on short =
    let test = length_not (length (contents_of t)) short in
    ap (first_wrong misshapen) (one_found levels at t tag bytes is on) ∙ rw test refl

module _ {S : Type 0} (step : S → S → FoundAt → Type 0) (levels at : ℕ) (t : Tree) (tag : ℕ) (bytes : List ℕ)
    (is : t ≡ leaf tag bytes) (n : ℕ) (before : S) where
  pub passes : opens_here t ≡ false → FindsAll step (founds_in levels at t) n before before n
  passes off =
      subst (λ (ps : List Place). FindsAll step ps n before before n) (sym (none_found levels at t tag bytes is off))
      (record { told = refl; shaped = refl; count = omega arith })

  pub finds_one : (f : FoundAt) (after : S) → opens_here t ≡ true → IsPayloadLength (length (contents_of t))
      → f ≡ found_at (place_of levels at t) → step before after f
      → FindsAll step (founds_in levels at t) n before after (n + 1)
  finds_one f after on long same did =
      let test = length_is (length (contents_of t)) long in
      subst (λ (ps : List Place). FindsAll step ps n before after (n + 1))
      (sym (one_found levels at t tag bytes is on))
      (record {
        told = (after, subst (step before after) same did, refl);
        shaped = rw test refl;
        count = omega arith;
      })
