-- The elements before the first that the next place meets stay as they are.
use Rattle.std.proofs.Common.{◌≡◌, ◌∙◌, ℕ, ◌+◌, ◌≤◌, Bool, true, false, ◌||◌, List, [], ◌∷◌, ◌++◌, length, take}
use Rattle.std.proofs.Common.{Option, MatchOption, refl, sym, ap, subst, append_assoc, arith, length-append}
use Rattle.std.specs.Prelude.{◌==◌}
use Rattle.std.proofs.lemmas.List.{append-nil}
use Rattle.bson_tree.specs.Tree.{Tree, leaf, node, Items, no_items, item, tag_of}
use Rattle.bson_tree.specs.Spelling.{framed, value_bytes, items_bytes}
use Rattle.bson_codec.specs.Borrowed.{At, Elem}
use Rattle.bson_codec.specs.Cuts.{meets, before_meeting, from_meeting, items_before, items_from}
use Rattle.bson_codec.specs.Elements.{TakesElement}
use Rattle.bson_codec.proofs.Cuts.{behind_one, fewer}
use Rattle.bson_splice.specs.Spans.{Span, AreFits, IsNextAt}
use Rattle.bson_splice.specs.Splices.{Put, start_by, is_before_by, left_by, left_in_by, spliced_by}
use Rattle.bson_splice.specs.Splices.{spliced_in_by}
use Rattle.bson_splice.specs.Splicing.{HasRoom, PutsBefore, elements_made}
use Rattle.bson_splice.proofs.Fitting.{blanks, blanks_fit}
use Rattle.bson_splice.proofs.Steps.{fits_start}

neither : (p q : Bool) → (p || q) ≡ false → (p ≡ false) × (q ≡ false)
neither false q e = (refl, e)
neither true q e = absurd cc

-- ---- whatever takes the places

module _ {A : Type 0} (start : A → ℕ) (put : A → Tree → Tree) where
  -- a value that the next one doesn't meet
  unmet : (at : ℕ) (t : Tree) (x : A) (xs : List A) → meets (start x) at t ≡ false
      → (spliced_in_by start put at (x ∷ xs) t ≡ t) × (left_in_by start at (x ∷ xs) t ≡ x ∷ xs)
  unmet at (leaf tag bytes) x xs e =
      let off : (start x == at) ≡ false = (neither _ _ e).0 in
      rw off (refl, refl)
  unmet at (node tag is) x xs e =
      let off : (start x == at) ≡ false = (neither _ _ e).0 in
      let shut : is_before_by start (at + length (framed (items_bytes is))) (x ∷ xs) ≡ false = (neither _ _ e).1 in
      rw (off, shut) (refl, refl)

  -- a value where none is left
  untouched : (at : ℕ) (t : Tree) → (spliced_in_by start put at [] t ≡ t) × (left_in_by start at [] t ≡ [])
  untouched at (leaf tag bytes) = (refl, refl)
  untouched at (node tag is) = (refl, refl)

  -- elements of which those at the front stay as they are, and the others are these
  abbrev IsSplit : List A → At → Items → At → Type 0
  IsSplit xs s front rest =
      (items_bytes (spliced_by start put s.start xs s.tree)
      ≡ items_bytes front ++ items_bytes (spliced_by start put rest.start xs rest.tree))
      × (left_by start s.start xs s.tree ≡ left_by start rest.start xs rest.tree)

  -- none is left
  all_stay : (at : ℕ) (is : Items) → (spliced_by start put at [] is ≡ is) × (left_by start at [] is ≡ [])
  all_stay at no_items = (refl, refl)
  all_stay at (item name t is) =
      let here = at + (2 + length name) in
      let behind = here + length (value_bytes t) in
      let one = untouched here t in
      let others = all_stay behind is in (
        ap (λ (u : Tree). item name u (spliced_by start put behind (left_in_by start here [] t) is)) one.0
            ∙ ap (λ (xs : List A). item name t (spliced_by start put behind xs is)) one.1
            ∙ ap (item name t) others.0,
        ap (λ (xs : List A). left_by start behind xs is) one.1 ∙ others.1,
      )

  one_stays : (x : A) (xs : List A) (at : ℕ) (name : List ℕ) (t : Tree) (is : Items) (b : Bool)
      → meets (start x) (at + (2 + length name)) t ≡ b
      → IsSplit (x ∷ xs) (record { tree = is; start = at + (2 + length name) + length (value_bytes t) })
      (before_meeting (start x) (at + (2 + length name) + length (value_bytes t)) is)
      (from_meeting (start x) (at + (2 + length name) + length (value_bytes t)) is)
      → IsSplit (x ∷ xs) (record { tree = item name t is; start = at }) (before_meeting (start x) at (item name t is))
      (from_meeting (start x) at (item name t is))
  one_stays x xs at name t is true e others = rw e (refl, refl)
  one_stays x xs at name t is false e others =
      let here = at + (2 + length name) in
      let behind = here + length (value_bytes t) in
      let front = before_meeting (start x) behind is in
      let rest = from_meeting (start x) behind is in
      let one = unmet here t x xs e in
      let made : items_bytes (spliced_by start put at (x ∷ xs) (item name t is))
      ≡ tag_of t ∷ (name ++ (0 ∷ (value_bytes t ++ items_bytes (spliced_by start put behind (x ∷ xs) is)))) =
      ap (λ (u : Tree). items_bytes
      (item name u (spliced_by start put behind (left_in_by start here (x ∷ xs) t) is))) one.0
      ∙ ap (λ (ys : List A). items_bytes (item name t (spliced_by start put behind ys is))) one.1 in
      let bytes : items_bytes (spliced_by start put at (x ∷ xs) (item name t is))
      ≡ items_bytes (item name t front) ++ items_bytes (spliced_by start put rest.start (x ∷ xs) rest.tree) =
      made
      ∙ ap (λ (y : List ℕ). tag_of t ∷ (name ++ (0 ∷ (value_bytes t ++ y)))) others.0
      ∙ sym (behind_one name t front (items_bytes (spliced_by start put rest.start (x ∷ xs) rest.tree))) in
      let left : left_by start at (x ∷ xs) (item name t is) ≡ left_by start rest.start (x ∷ xs) rest.tree =
      ap (λ (ys : List A). left_by start behind ys is) one.1 ∙ others.1 in
      rw e (bytes, left)

  some_stay : (x : A) (xs : List A) (at : ℕ) (is : Items)
      → IsSplit (x ∷ xs) (record { tree = is; start = at }) (before_meeting (start x) at is)
      (from_meeting (start x) at is)
  some_stay x xs at no_items = (refl, refl)
  some_stay x xs at (item name t is) =
      one_stays x xs at name t is (meets (start x) (at + (2 + length name)) t) refl
      (some_stay x xs (at + (2 + length name) + length (value_bytes t)) is)

  split : (xs : List A) (s : At) → IsSplit xs s (items_before (start_by start xs) s) (items_from (start_by start xs) s)
  split [] s =
      let all = all_stay s.start s.tree in
      (ap items_bytes all.0 ∙ sym (append-nil (items_bytes s.tree)), all.1)
  split (x ∷ xs) s = some_stay x xs s.start s.tree

  -- the elements before the next one stay as they are
  pub stay_before : (next : Option ℕ) (xs : List A) (s : At) → start_by start xs ≡ next
      → (items_bytes (spliced_by start put s.start xs s.tree)
      ≡ items_bytes (items_before next s)
      ++ items_bytes (spliced_by start put (items_from next s).start xs (items_from next s).tree))
      × (left_by start s.start xs s.tree ≡ left_by start (items_from next s).start xs (items_from next s).tree)
  stay_before next xs s same =
      subst (λ (o : Option ℕ). IsSplit xs s (items_before o s) (items_from o s)) same (split xs s)

-- ---- what takes places

module _ (next : Option ℕ) (ss : List Span) (told : MatchOption next (ss ≡ []) (λ at. IsNextAt ss at)) (s : At) where
  made_before : (ps : List Put) → AreFits ss ps
      → elements_made s.start s.tree ps
      ≡ items_bytes (items_before next s) ++ elements_made (items_from next s).start (items_from next s).tree ps
  made_before ps f =
      (stay_before (λ (p : Put). p.start) (λ (p : Put). p.value) next ps s (fits_start next ss ps told f)).0

  -- there is room for them
  pub room_before : (at size : ℕ) → HasRoom ss (elements_made s.start s.tree) at size
      → at + length (items_bytes (items_before next s)) ≤ size
  room_before at size room =
      let rest = elements_made (items_from next s).start (items_from next s).tree (blanks ss) in
      let long = ap length (made_before (blanks ss) (blanks_fit ss))
      ∙ length-append (items_bytes (items_before next s)) rest in
      omega (arith, long, room (blanks ss) (blanks_fit ss))

  -- they were put, and one was taken, if there was one
  pub puts_before : (met : Option Elem) (rest : At) (old new : List ℕ) (at end : ℕ)
      → TakesElement (items_from next s) met rest
      → take end new ≡ take at old ++ items_bytes (items_before next s)
      → end ≤ length new → PutsBefore ss s met rest old new at end
  puts_before met rest old new at end taken put within = record {
    mid = items_from next s;
    taken = taken;
    made = λ ps f.
        let others = elements_made (items_from next s).start (items_from next s).tree ps in
        ap (λ (x : List ℕ). x ++ others) put
        ∙ append_assoc (take at old) (items_bytes (items_before next s)) others
        ∙ ap (λ (x : List ℕ). take at old ++ x) (sym (made_before ps f));
    left = λ ps f.
        sym (stay_before (λ (p : Put). p.start) (λ (p : Put). p.value) next ps s (fits_start next ss ps told f)).1;
    fewer = fewer next s;
    within = within;
  }
