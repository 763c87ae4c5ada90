-- One element or one document of a spliced one.
use Rattle.std.proofs.Common.{◌≡◌, ◌∙◌, ℕ, ◌+◌, ◌<◌, ◌≤◌, List, [], ◌∷◌, ◌++◌, length, take, drop, replicate, arith}
use Rattle.std.proofs.Common.{refl, sym, ap, subst, length-append, length-take-le, take-add}
use Rattle.std.proofs.lemmas.List.{length-drop, length-replicate, append-nil, append_assoc}
use Rattle.bson_tree.specs.Tree.{Tree, leaf, node, item, no_items, tag_of}
use Rattle.bson_tree.specs.Spelling.{framed, items_bytes}
use Rattle.bson_tree.proofs.Sizes.{framed_size, element_size}
use Rattle.bson_codec.specs.Borrowed.{At, Elem}
use Rattle.bson_splice.specs.Spans.{Span, AreFits, IsNextAt, most_next}
use Rattle.bson_splice.specs.Splicing.{HasRoom, PutsOne, Splices, Stops, element_made, element_left, elements_made}
use Rattle.bson_splice.specs.Splicing.{elements_left, document_made, document_left}
use Rattle.bson_splice.specs.Splices.{Put, left_in, left, spliced_in, spliced}
use Rattle.bson_splice.proofs.Fitting.{blank, blanks, blanks_fit}
use Rattle.bson_splice.proofs.Steps.{puts}

-- the first of them takes the element's own place
own : (e : Elem) (p : Put) (ps : List Put) → p.start ≡ e.start
    → (spliced_in e.start (p ∷ ps) e.tree ≡ p.value e.tree) × (left_in e.start (p ∷ ps) e.tree ≡ ps)
own e p ps s = puts (λ (q : Put). q.start) e.start (λ (q : Put). q.value) e.tree p (p ∷ ps) ps refl s

module _ (ss : List Span) where
  -- ---- room

  pub room_document : (d : At) (at size : ℕ) → HasRoom ss (document_made d) at size → at + 5 ≤ size
  room_document d at size room =
      omega (
        arith,
        room (blanks ss) (blanks_fit ss),
        framed_size (items_bytes (spliced (d.start + 4) (blanks ss) d.tree)),
      )

  pub room_items : (d : At) (at size : ℕ) → HasRoom ss (document_made d) at size
      → HasRoom ss (elements_made (d.start + 4) d.tree) (at + 4) size
  room_items d at size room ps f =
      omega (arith, room ps f, framed_size (items_bytes (spliced (d.start + 4) ps d.tree)))

  pub room_keep : (e : Elem) (at size : ℕ) → HasRoom ss (element_made e) at size
      → ((ps : List Put) → AreFits ss ps → spliced_in e.start ps e.tree ≡ e.tree)
      → at + length (items_bytes (item e.name e.tree no_items)) ≤ size
  room_keep e at size room is =
      subst (λ (t : Tree). at + length (items_bytes (item e.name t no_items)) ≤ size) (is (blanks ss) (blanks_fit ss))
      (room (blanks ss) (blanks_fit ss))

  pub room_name : (e : Elem) (at size : ℕ) → HasRoom ss (element_made e) at size → at + 2 + length e.name ≤ size
  room_name e at size room =
      omega (
        arith,
        room (blanks ss) (blanks_fit ss),
        element_size e.name (spliced_in e.start (blanks ss) e.tree) no_items,
      )

  pub room_open : (e : Elem) (d : At) (at size named : ℕ) → HasRoom ss (element_made e) at size
      → named ≡ at + 2 + length e.name
      → ((ps : List Put) → AreFits ss ps → spliced_in e.start ps e.tree
      ≡ node (tag_of e.tree) (spliced (d.start + 4) ps d.tree))
      → HasRoom ss (document_made d) named size
  room_open e d at size named room end is ps f =
      let low = subst (λ (t : Tree). at + length (items_bytes (item e.name t no_items)) ≤ size) (is ps f) (room ps f) in
      omega (arith, low, end, element_size e.name (node (tag_of e.tree) (spliced (d.start + 4) ps d.tree)) no_items)

pub room_put : (ss : List Span) (e : Elem) (at size : ℕ) → HasRoom ss (element_made e) at size → IsNextAt ss e.start
    → at + 2 + length e.name + most_next ss e.tree ≤ size
room_put [] e at size room next = absurd next
room_put (s ∷ ss) e at size room next =
    let all = blanks (s ∷ ss) in
    let made = (own e (blank s) (blanks ss) next).0 in
    let low = subst (λ (t : Tree). at + length (items_bytes (item e.name t no_items)) ≤ size) made
    (room all (blanks_fit (s ∷ ss))) in
    omega (
      arith,
      low,
      element_size e.name (leaf 0 (replicate (s.most e.tree) 0)) no_items,
      length-replicate {A = ℕ} (s.most e.tree) 0,
    )

module _ {S : Type 0} (step : S → S → Put → Type 0) (spans : S → List Span) where
  -- ---- what was written

  pub keeps : (e : Elem) (at end : ℕ) (b : S) (old new : List ℕ)
      → ((ps : List Put) → AreFits (spans b) ps → (spliced_in e.start ps e.tree ≡ e.tree)
      × (left_in e.start ps e.tree ≡ ps))
      → take end new ≡ take at old ++ items_bytes (item e.name e.tree no_items)
      → Splices step spans (element_made e) (element_left e) b b old new at end
  keeps e at end b old new is written = record {
    puts = [];
    runs = refl;
    fits = λ rest f. f;
    written = λ rest f. written ∙ ap (λ (t : Tree). take at old ++ items_bytes (item e.name t no_items))
        (sym (is rest f).0);
    left = λ rest f. (is rest f).1;
  }

  -- the element's own place was taken
  pub takes : (e : Elem) (at end : ℕ) (before after : S) (old new : List ℕ) → IsNextAt (spans before) e.start
      → PutsOne step spans e before after old new at end
      → Splices step spans (element_made e) (element_left e) before after old new at end
  takes e at end before after old new next one =
      let starts : one.span.start ≡ e.start = subst (λ (ss : List Span). IsNextAt ss e.start) one.next next in
      let here : one.it.start ≡ e.start = one.fits.start ∙ starts in
      record {
        puts = one.it ∷ [];
        runs = (after, one.did, refl);
        fits = λ rest f. subst (λ (ss : List Span). AreFits ss (one.it ∷ rest)) (sym one.next) (one.fits, f);
        written = λ rest f.
            one.written
            ∙ ap (λ (t : Tree). take at old ++ items_bytes (item e.name t no_items))
            (sym (own e one.it rest here).0);
        left = λ rest f. (own e one.it rest here).1;
      }

  -- nothing was put in before the next one was refused
  pub refused : (stops : S → S → Type 0) (before after : S) → stops before after → Stops step stops before after
  refused stops before after stop = record { puts = []; mid = before; runs = refl; stop = stop }

  -- an element with a document in which places were taken
  pub opened : (e : Elem) (d : At) (at named end : ℕ) (before after : S) (old mid new : List ℕ)
      → ((ps : List Put) → AreFits (spans before) ps
      → (spliced_in e.start ps e.tree ≡ node (tag_of e.tree) (spliced (d.start + 4) ps d.tree))
      × (left_in e.start ps e.tree ≡ left (d.start + 4) ps d.tree))
      → take named mid ≡ take at old ++ (tag_of e.tree ∷ (e.name ++ 0 ∷ []))
      → Splices step spans (document_made d) (document_left d) before after mid new named end
      → Splices step spans (element_made e) (element_left e) before after old new at end
  opened e d at named end before after old mid new is name s = record {
    puts = s.puts;
    runs = s.runs;
    fits = s.fits;
    written = λ rest f.
        let ps = s.puts ++ rest in
        let js = spliced (d.start + 4) ps d.tree in
        let one : (take at old ++ (tag_of e.tree ∷ (e.name ++ 0 ∷ []))) ++ framed (items_bytes js)
        ≡ take at old ++ items_bytes (item e.name (node (tag_of e.tree) js) no_items)
        = simp (append_assoc, append-nil) in
        s.written rest f ∙ ap (λ (x : List ℕ). x ++ framed (items_bytes js)) name ∙ one
        ∙ ap (λ (t : Tree). take at old ++ items_bytes (item e.name t no_items)) (sym (is ps (s.fits rest f)).0);
    left = λ rest f. (is (s.puts ++ rest) (s.fits rest f)).1 ∙ s.left rest f;
  }

  -- where the elements of a document end
  pub ends_at : (d : At) (before after : S) (old new : List ℕ) (at end : ℕ)
      → (s : Splices step spans (elements_made (d.start + 4) d.tree)
      (elements_left (d.start + 4) d.tree) before after old new (at + 4) end)
      → HasRoom (spans before) (document_made d) at (length old) → length new ≡ length old → end ≤ length new
      → (at + 4 ≤ end) × (end < length new)
  ends_at d before after old new at end s room same within =
      let rest = blanks (spans after) in
      let f = blanks_fit (spans after) in
      let ps = s.puts ++ rest in
      let made = elements_made (d.start + 4) d.tree ps in
      let fits = room ps (s.fits rest f) in
      let frame = framed_size (items_bytes (spliced (d.start + 4) ps d.tree)) in
      let ends : end ≡ at + 4 + length made =
      omega (
        arith,
        ap length (s.written rest f),
        length-append (take (at + 4) old) made,
        length-take-le end new within,
        length-take-le (at + 4) old (omega (arith, fits, frame)),
      ) in
      (omega (arith, ends), omega (arith, ends, fits, frame, same))

  pub document_splices : (d : At) (before after : S) (old new out : List ℕ) (at end behind : ℕ)
      → Splices step spans (elements_made (d.start + 4) d.tree)
      (elements_left (d.start + 4) d.tree) before after old new (at + 4) end
      → at + 5 ≤ length old
      → ((front four elements : List ℕ) → length front ≡ at → length four ≡ 4
      → take end new ≡ (front ++ four) ++ elements → take behind out ≡ front ++ framed elements)
      → Splices step spans (document_made d) (document_left d) before after old out at behind
  document_splices d before after old new out at end behind s low closed = record {
    puts = s.puts;
    runs = s.runs;
    fits = s.fits;
    written = λ rest f.
        let made = elements_made (d.start + 4) d.tree (s.puts ++ rest) in
        let front : length (take at old) ≡ at = length-take-le at old (omega (arith, low)) in
        let four : length (take 4 (drop at old)) ≡ 4 =
        length-take-le 4 (drop at old) (omega (arith, low, length-drop at old)) in
        closed (take at old) (take 4 (drop at old)) made front four
        (s.written rest f ∙ ap (λ (x : List ℕ). x ++ made) (take-add at 4 old));
    left = s.left;
  }
