-- One payload, opened.
use Rattle.std.proofs.Common.{◌≡◌, ℕ, zero, suc, ◌+◌, ◌-◌, ◌≤◌, List, [], ◌++◌, length, Some, refl, subst, arith}
use Rattle.bson_tree.specs.Tree.{Tree, item, no_items}
use Rattle.bson_tree.specs.Spelling.{value_bytes}
use Rattle.bson_codec.specs.Borrowed.{SpellsValue, SpellsWithin}
use Rattle.bson_codec.specs.Layout.{IsItems, IsValue}
use Rattle.bson_codec.proofs.Deeper.{elements_more, items_more}
use Rattle.bson_codec.proofs.Items.{value_is}
use Rattle.fle_aead.specs.Sealed.{iv_of}
use Rattle.fle_aead.proofs.SealedForm.{sealed-length}
use Rattle.payload6.specs.Opening.{IsOriginal}
use Rattle.payload6.specs.Payload.{head, IsSealedPayload}
use Rattle.payload6.specs.Verdicts.{plain_in, value_in}
use Rattle.payload6.proofs.PayloadForm.{message_in}
use Rattle.payload6.proofs.Verdicts.{type_is}

-- a value takes no more levels than there are
pub more : (levels : ℕ) (t : Tree) (k n : ℕ) → n ≡ k + levels → IsValue (IsItems levels) t → IsValue (IsItems n) t
more levels t zero n e laid = let same : levels ≡ n =
    omega (arith, e) in subst (λ (m : ℕ). IsValue (IsItems m) t) same laid
more levels t (suc k) n e laid =
    let less = more levels t k (k + levels) refl laid in
    let one = (elements_more (IsItems (k + levels)) (IsItems (suc (k + levels))) (items_more (k + levels))
    (item [] t no_items) (tt, less, tt)).1 in
    let same : suc (k + levels) ≡ n = omega (arith, e) in
    subst (λ (m : ℕ). IsValue (IsItems m) t) same one

spells_value : (levels type : ℕ) (p : List ℕ) → levels ≤ 99 → SpellsWithin levels type p → SpellsValue type p
spells_value levels type p low s =
    let all : 99 ≡ (99 - levels) + levels = omega (arith, low) in
    record { tree = s.tree; laid = more levels s.tree (99 - levels) 99 all s.laid; type = s.type; parts = s.parts }

module _ (kind : ℕ) (id key : List ℕ) (type levels : ℕ) (h c : List ℕ) (long : length id ≡ 16) (is : h
    ≡ head kind id type) where
  -- the value has the bytes that were sealed
  pub value_bytes_are : (p : List ℕ) → levels ≤ 99 → plain_in key (h ++ c) ≡ Some p → IsOriginal levels type p
      → value_bytes (value_in key (h ++ c)) ≡ p
  unfolding value_in
  value_bytes_are p low plain o =
      let sort = type_is kind id type h c long is in
      rw (plain, sort) (value_is type p (spells_value levels type p low o.spelled))

  -- and is shorter than what stood there, by IV, tag and padding
  pub shorter_is : (p : List ℕ) → IsSealedPayload kind id key type (iv_of c) p (h ++ c) → length p + 49 ≤ length c
  shorter_is p s = omega (
    arith,
    sealed-length key h (iv_of c) p c (message_in kind id key type (iv_of c) p h c long is s),
  )
