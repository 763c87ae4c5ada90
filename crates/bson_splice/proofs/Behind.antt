-- Values that take places stand in reading order.
use Rattle.std.proofs.Common.{◌≡◌, ℕ, ◌+◌, ◌<◌, ◌≤◌, List, [], ◌∷◌, length, refl, ◌∙◌, subst, arith}
use Rattle.bson_tree.specs.Tree.{Tree, Items, item}
use Rattle.bson_tree.specs.Spelling.{framed, value_bytes, items_bytes}
use Rattle.bson_splice.specs.Splices.{Put}
use Rattle.bson_splice.specs.Takes.{TakesIn, own, raw, inside, Takes, done, next}
use Rattle.bson_tree.proofs.Sizes.{framed_size, element_size}

-- they begin behind an offset
abbrev pub AreBehind : ℕ → List Put → Type 0
AreBehind n [] = Unit {0}
AreBehind n (p ∷ ps) = (n < p.start) × AreBehind n ps

-- the first one, if there is one, begins behind an offset
abbrev pub IsNextBehind : ℕ → List Put → Type 0
IsNextBehind n [] = Unit {0}
IsNextBehind n (p ∷ ps) = n < p.start

-- behind an offset is behind an earlier one
pub earlier : (k n : ℕ) (ps : List Put) → k ≤ n → AreBehind n ps → AreBehind k ps
earlier k n [] h b = tt
earlier k n (p ∷ ps) h b = (omega (arith, h, b.0), earlier k n ps h b.1)

first_behind : (k n : ℕ) (ps : List Put) → k ≤ n → IsNextBehind n ps → IsNextBehind k ps
first_behind k n [] h b = tt
first_behind k n (p ∷ ps) h b = omega (arith, h, b)

mutual
  pub behind_in : {at : ℕ} {t : Tree} {ps rest : List Put} → TakesIn at t ps rest → (n : ℕ) → n < at
      → AreBehind (at + length (value_bytes t)) rest → AreBehind n ps
  behind_in (own at t p ps s e) n h b = (
    omega (arith, s, h),
    earlier n (at + length (value_bytes t)) ps (omega (arith, h)) b,
  )
  behind_in (raw at tag bytes ps) n h b = earlier n (at + length bytes) ps (omega (arith, h)) b
  behind_in (inside at tag is ps rest d) n h b =
      earlier n (at + 4) ps (omega (arith, h))
      (behind d (earlier (at + 4 + length (items_bytes is)) (at + length (framed (items_bytes is))) rest
      (omega (arith, framed_size (items_bytes is))) b))

  -- where those that are left begin behind the elements, all begin behind the elements' first byte
  pub behind : {at : ℕ} {is : Items} {ps rest : List Put} → Takes at is ps rest
      → AreBehind (at + length (items_bytes is)) rest → AreBehind at ps
  behind (done at ps) b = earlier at (at + 0) ps (omega arith) b
  behind (next at name t is ps mid rest d ds) b =
      behind_in d at (omega arith)
      (behind ds (earlier (at + (2 + length name) + length (value_bytes t) + length (items_bytes is))
      (at + length (items_bytes (item name t is))) rest (omega (arith, element_size name t is)) b))

mutual
  pub untouched_in : {at : ℕ} {t : Tree} {ps rest : List Put} → TakesIn at t ps rest
      → IsNextBehind (at + length (value_bytes t)) ps → ps ≡ rest
  untouched_in (own at t p ps s e) b = absurd (omega (arith, s, b))
  untouched_in (raw at tag bytes ps) b = refl
  untouched_in (inside at tag is ps rest d) b =
      untouched d (first_behind (at + 4 + length (items_bytes is)) (at + length (framed (items_bytes is))) ps
      (omega (arith, framed_size (items_bytes is))) b)

  -- elements that end before the first one take none
  pub untouched : {at : ℕ} {is : Items} {ps rest : List Put} → Takes at is ps rest
      → IsNextBehind (at + length (items_bytes is)) ps → ps ≡ rest
  untouched (done at ps) b = refl
  untouched (next at name t is ps mid rest d ds) b =
      let first : ps ≡ mid = untouched_in d (first_behind (at + (2 + length name) + length (value_bytes t))
      (at + length (items_bytes (item name t is))) ps (omega (arith, element_size name t is)) b) in
      let end : at + length (items_bytes (item name t is))
      ≡ at + (2 + length name) + length (value_bytes t) + length (items_bytes is) =
      omega (arith, element_size name t is) in
      let others : IsNextBehind (at + (2 + length name) + length (value_bytes t) + length (items_bytes is)) mid =
      subst (λ (n : ℕ). IsNextBehind n mid) end (subst
      (λ (ns : List Put). IsNextBehind (at + length (items_bytes (item name t is))) ns) first b) in
      first ∙ untouched ds others
