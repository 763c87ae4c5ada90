-- The text of a pointer's target stands in the command's bytes where its span says.
use Rattle.std.proofs.Common.{◌≡◌, ◌==◌, ℕ, zero, suc, ◌+◌, ◌-◌, ◌≤◌, Bool, true, false, cond, List, [], ◌∷◌, ◌++◌}
use Rattle.std.proofs.Common.{length, map, take, drop, Option, Some, None, option_map, option_and_then, refl, sym, ap}
use Rattle.std.proofs.Common.{◌∙◌}
use Rattle.std.proofs.Common.{subst, arith, length-append}
use Rattle.std.specs.Int.{to_le_bytes, w32}
use Rattle.std.proofs.lemmas.List.{append_assoc, append-nil, take-append-le}
use Rattle.bson_tree.specs.Tree.{Tree, leaf, node, Items, no_items, item, tag_of}
use Rattle.bson_tree.specs.Spelling.{value_bytes, items_bytes, doc_bytes}
use Rattle.bson_codec.specs.Borrowed.{Elem}
use Rattle.encrypt_schema.specs.declared.command.marks.Mark.{Mark}
use Rattle.encrypt_schema.specs.declared.schema.policy.KeyRef.{KeyRef}
use Rattle.encrypt_schema.specs.declared.schema.policy.KeyRef.TheVariants.{Id, Pointer}
use Rattle.encrypt_schema.specs.Language.Names.{named, is_among}
use Rattle.encrypt_schema.specs.Language.Row.{Row}
use Rattle.encrypt_schema.specs.Language.Values.{names_of, text_of}
use Rattle.encrypt_schema.specs.Paths.Classes.{class}
use Rattle.encrypt_schema.specs.Paths.Dotted.{is_clear}
use Rattle.encrypt_schema.specs.Commands.Pointers.{Target, Targets, only, target_in, target_of}
use Rattle.encrypt_schema.specs.Commands.Pointers.{targets_of, is_whole, pointed, nth_target}
use Rattle.encrypt_schema.specs.Commands.Stations.{Station, Outside, Store, Compare, station}
use Rattle.encrypt_schema.specs.Commands.Visits.{entry, command_entry, Visit, visits_in, visits, command_visits}
use Rattle.encrypt_schema.specs.Commands.Visits.{roles}
use Rattle.encrypt_schema.specs.Commands.Visits.{mark_at, marks, station_of, text_in, text_at, texts}

-- bytes that begin at `from` are a part of others that begin at `at`
pub record Part (at : ℕ) (bytes : List ℕ) (from : ℕ) (part : List ℕ) : Type 0 where
  pub front : List ℕ
  pub behind : List ℕ
  pub whole : bytes ≡ front ++ (part ++ behind)
  pub starts : from ≡ at + length front

-- a part of a part
pub part_of_part : (at : ℕ) (bytes : List ℕ) (from : ℕ) (part : List ℕ) (inner : ℕ) (least : List ℕ)
    → Part at bytes from part → Part from part inner least → Part at bytes inner least
part_of_part at bytes from part inner least p q = record {
  front = p.front ++ q.front;
  behind = q.behind ++ p.behind;
  whole =
      p.whole
      ∙ ap (λ (x : List ℕ). p.front ++ (x ++ p.behind)) q.whole
      ∙ ap (λ (x : List ℕ). p.front ++ x) (append_assoc q.front (least ++ q.behind) p.behind)
      ∙ ap (λ (x : List ℕ). p.front ++ (q.front ++ x)) (append_assoc least q.behind p.behind)
      ∙ sym (append_assoc p.front q.front (least ++ (q.behind ++ p.behind)));
  starts = omega (arith, p.starts, q.starts, length-append p.front q.front);
}

-- the value of a first element
pub value_part : (at : ℕ) (name : List ℕ) (t : Tree) (is : Items)
    → Part at (items_bytes (item name t is)) (at + (2 + length name)) (value_bytes t)
value_part at name t is = record {
  front = tag_of t ∷ (name ++ 0 ∷ []);
  behind = items_bytes is;
  whole = ap (λ (x : List ℕ). tag_of t ∷ x) (sym (append_assoc name (0 ∷ []) (value_bytes t ++ items_bytes is)));
  starts = omega (arith, length-append name (0 ∷ []));
}

-- the elements behind it
pub rest_part : (at : ℕ) (name : List ℕ) (t : Tree) (is : Items)
    → Part at (items_bytes (item name t is)) (at + (2 + length name) + length (value_bytes t)) (items_bytes is)
rest_part at name t is = record {
  front = (tag_of t ∷ (name ++ 0 ∷ [])) ++ value_bytes t;
  behind = [];
  whole =
      ap (λ (x : List ℕ). tag_of t ∷ x) (sym (append_assoc name (0 ∷ []) (value_bytes t ++ items_bytes is)))
      ∙ ap (λ (x : List ℕ). (tag_of t ∷ (name ++ 0 ∷ [])) ++ (value_bytes t ++ x)) (sym (append-nil (items_bytes is)))
      ∙ sym (append_assoc (tag_of t ∷ (name ++ 0 ∷ [])) (value_bytes t) (items_bytes is ++ []));
  starts = omega (arith, length-append name (0 ∷ []), length-append (tag_of t ∷ (name ++ 0 ∷ [])) (value_bytes t));
}

-- the elements of a document
pub items_part : (at tag : ℕ) (is : Items) → Part at (value_bytes (node tag is)) (at + 4) (items_bytes is)
items_part at tag is = record {
  front = to_le_bytes w32 (length (items_bytes is) + 5);
  behind = 0 ∷ [];
  whole = refl;
  starts = refl;
}

-- the value of the only element of a name
only_by : (word : List ℕ) (at : ℕ) (name : List ℕ) (t : Tree) (is : Items) (e : Elem) (a b : Bool)
    → cond a (cond b None (Some (record { name = name; tree = t; start = at + (2 + length name) })))
    (only word (at + (2 + length name) + length (value_bytes t)) is) ≡ Some e
    → (only word (at + (2 + length name) + length (value_bytes t)) is ≡ Some e
    → Part (at + (2 + length name) + length (value_bytes t)) (items_bytes is) e.start (value_bytes e.tree))
    → Part at (items_bytes (item name t is)) e.start (value_bytes e.tree)
only_by word at name t is e true true h later = absurd cc
only_by word at name t is e true false h later =
    let same : record { name = name; tree = t; start = at + (2 + length name) } ≡ e = cc in
    subst (λ (x : Elem). Part at (items_bytes (item name t is)) x.start (value_bytes x.tree)) same
    (value_part at name t is)
only_by word at name t is e false b h later =
    part_of_part at (items_bytes (item name t is)) (at + (2 + length name) + length (value_bytes t)) (items_bytes is)
    e.start (value_bytes e.tree) (rest_part at name t is) (later h)

pub only_part : (word : List ℕ) (at : ℕ) (is : Items) (e : Elem) → only word at is ≡ Some e
    → Part at (items_bytes is) e.start (value_bytes e.tree)
only_part word at no_items e h = absurd cc
only_part word at (item name t is) e h =
    only_by word at name t is e (named word name) (is_among word (names_of is)) h
    (only_part word (at + (2 + length name) + length (value_bytes t)) is e)

-- a target's text stands where its span says, in bytes that begin at `at`
pub record IsAt (at : ℕ) (bytes : List ℕ) (target : Target) : Type 0 where
  pub from : at ≤ target.span.start
  pub to : target.span.end ≡ target.span.start + length target.text
  pub text : take (length target.text) (drop (target.span.start - at) bytes) ≡ target.text

taken_le : (n : ℕ) (xs : List ℕ) → length (take n xs) ≤ length xs
taken_le zero xs = omega arith
taken_le (suc n) [] = omega arith
taken_le (suc n) (x ∷ xs) = omega (arith, taken_le n xs)

take_again : (n : ℕ) (xs : List ℕ) → take (length (take n xs)) xs ≡ take n xs
take_again zero xs = refl
take_again (suc n) [] = refl
take_again (suc n) (x ∷ xs) = ap (λ (ys : List ℕ). x ∷ ys) (take_again n xs)

drop_front : (front rest : List ℕ) (k : ℕ) → drop (length front + k) (front ++ rest) ≡ drop k rest
drop_front [] rest k = let z : 0 + k ≡ k = omega arith in ap (λ (n : ℕ). drop n rest) z
drop_front (x ∷ front) rest k =
    let e : length (x ∷ front) + k ≡ suc (length front + k) = omega arith in
    ap (λ (n : ℕ). drop n ((x ∷ front) ++ rest)) e ∙ drop_front front rest k

none_taken : (n k : ℕ) (xs text : List ℕ) → [] ≡ text → n ≡ length text → take n xs ≡ text
none_taken n k xs text e l =
    let z : n ≡ 0 = l ∙ ap length (sym e) in ap (λ (m : ℕ). take m xs) z ∙ e

more_behind : (n k : ℕ) (mid behind text : List ℕ) → n ≡ length text → take n (drop k mid) ≡ text
    → take n (drop k (mid ++ behind)) ≡ text
more_behind n zero mid behind text l h =
    take-append-le n mid behind (omega (arith, l, ap length h, taken_le n mid)) ∙ h
more_behind zero (suc k) [] behind text l h = h
more_behind (suc n) (suc k) [] behind text l h = none_taken (suc n) k (drop (suc k) behind) text h l
more_behind n (suc k) (x ∷ mid) behind text l h = more_behind n k mid behind text l h

-- what stands in a part stands in the whole
pub lifted : (at : ℕ) (bytes : List ℕ) (from : ℕ) (part : List ℕ) (target : Target) → Part at bytes from part
    → IsAt from part target → IsAt at bytes target
lifted at bytes from part target p i =
    let k = target.span.start - from in
    let n = length target.text in
    let e : target.span.start - at ≡ length p.front + k = omega (arith, p.starts, i.from) in
    record {
      from = omega (arith, p.starts, i.from);
      to = i.to;
      text =
          ap (λ (m : ℕ). take n (drop m bytes)) e
          ∙ ap (λ (x : List ℕ). take n (drop (length p.front + k) x)) p.whole
          ∙ ap (take n) (drop_front p.front (part ++ p.behind) k)
          ∙ more_behind n k part p.behind target.text refl i.text;
    }

text_by : (at tag : ℕ) (bytes : List ℕ) (target : Target) (b : Bool)
    → cond b (Some (record {
      text = text_of bytes;
      span = record { start = at + 4; end = at + 4 + length (text_of bytes) };
    })) None ≡ Some target
    → IsAt at bytes target
text_by at tag bytes target true h =
    let own : Target = record {
      text = text_of bytes;
      span = record { start = at + 4; end = at + 4 + length (text_of bytes) };
    } in
    let same : own ≡ target = cc in
    let four : at + 4 - at ≡ 4 = omega arith in
    subst (IsAt at bytes) same (record {
      from = omega arith;
      to = refl;
      text =
          ap (λ (m : ℕ). take (length (text_of bytes)) (drop m bytes)) four
          ∙ take_again (length bytes - 5) (drop 4 bytes);
    })
text_by at tag bytes target false h = absurd cc

inside_by : (f : Elem → Option Target) (o : Option Elem) (target : Target) (b : Bool) {P : Type 0}
    → cond b (option_and_then f o) None ≡ Some target
    → ((e : Elem) → o ≡ Some e → f e ≡ Some target → P) → P
inside_by f None target true h later = absurd cc
inside_by f (Some e) target true h later = later e refl h
inside_by f o target false h later = absurd cc

-- the target of names from a value stands in the value's bytes
pub target_stands : (names : List (List ℕ)) (at : ℕ) (t : Tree) (target : Target)
    → target_in names at t ≡ Some target → IsAt at (value_bytes t) target
target_stands [] at (leaf tag bytes) target h = text_by at tag bytes target (tag == 2) h
target_stands [] at (node tag is) target h = absurd cc
target_stands (name ∷ names) at (leaf tag bytes) target h = absurd cc
target_stands (name ∷ names) at (node tag is) target h =
    inside_by (λ e. target_in names e.start e.tree) (only name (at + 4) is) target (tag == 3) h
    (λ e found inner.
    lifted at (value_bytes (node tag is)) (at + 4) (items_bytes is) target (items_part at tag is)
    (lifted (at + 4) (items_bytes is) e.start (value_bytes e.tree) target (only_part name (at + 4) is e found)
    (target_stands names e.start e.tree target inner)))

-- all targets of a list do
abbrev pub AreAt : ℕ → List ℕ → Targets → Type 0
AreAt at bytes [] = Unit {0}
AreAt at bytes (None ∷ ts) = AreAt at bytes ts
AreAt at bytes (Some target ∷ ts) = IsAt at bytes target × AreAt at bytes ts

all_lifted : (at : ℕ) (bytes : List ℕ) (from : ℕ) (part : List ℕ) (ts : Targets) → Part at bytes from part
    → AreAt from part ts → AreAt at bytes ts
all_lifted at bytes from part [] p i = tt
all_lifted at bytes from part (None ∷ ts) p i = all_lifted at bytes from part ts p i
all_lifted at bytes from part (Some target ∷ ts) p i =
    (lifted at bytes from part target p i.0, all_lifted at bytes from part ts p i.1)

one_stands : (at : ℕ) (bytes : List ℕ) (o : Option Target) (ts : Targets)
    → ((target : Target) → o ≡ Some target → IsAt at bytes target) → AreAt at bytes ts → AreAt at bytes (o ∷ ts)
one_stands at bytes None ts h a = a
one_stands at bytes (Some target) ts h a = (h target refl, a)

key_stands : (rows : List Row) (at : ℕ) (is : Items) (key : KeyRef) (target : Target)
    → target_of rows at is key ≡ Some target → IsAt at (doc_bytes is) target
key_stands rows at is (Id id) target h = absurd cc
key_stands rows at is (Pointer names) target h = by (is_clear (class rows names)) h where
  by : (b : Bool) → cond b (target_in names at (node 3 is)) None ≡ Some target → IsAt at (doc_bytes is) target
  by true h = target_stands names at (node 3 is) target h
  by false h = absurd cc

all_stand : (rows all : List Row) (at : ℕ) (is : Items)
    → AreAt at (doc_bytes is) (map (λ row. target_of all at is row.policy.key) rows)
all_stand [] all at is = tt
all_stand (row ∷ rows) all at is =
    one_stands at (doc_bytes is) (target_of all at is row.policy.key)
    (map (λ row. target_of all at is row.policy.key) rows) (key_stands all at is row.policy.key)
    (all_stand rows all at is)

-- and the targets inside a document do
pointed_stand : (rows : List Row) (s : Station) (ts : Targets) (at : ℕ) (is : Items) (b : Bool) (first : ℕ)
    (bytes : List ℕ) → Part first bytes at (doc_bytes is) → AreAt first bytes ts
    → AreAt first bytes (cond b (targets_of rows at is) ts)
unfolding targets_of
pointed_stand rows s ts at is true first bytes p a =
    all_lifted first bytes at (doc_bytes is) (map (λ row. target_of rows at is row.policy.key) rows) p
    (all_stand rows rows at is)
pointed_stand rows s ts at is false first bytes p a = a

-- those of each place do
abbrev pub VisitsAt : ℕ → List ℕ → List Visit → Type 0
VisitsAt at bytes [] = Unit {0}
VisitsAt at bytes (v ∷ vs) = AreAt at bytes v.targets × VisitsAt at bytes vs

both_stand : (at : ℕ) (bytes : List ℕ) (vs us : List Visit) → VisitsAt at bytes vs → VisitsAt at bytes us
    → VisitsAt at bytes (vs ++ us)
both_stand at bytes [] us a b = b
both_stand at bytes (v ∷ vs) us a b = (a.0, both_stand at bytes vs us a.1 b)

mutual
  stand_in : (first : ℕ) (bytes : List ℕ) (rows : List Row) (s : Station) (ts : Targets) (at : ℕ) (t : Tree)
      → Part first bytes at (value_bytes t) → AreAt first bytes ts → VisitsAt first bytes (visits_in rows s ts at t)
  stand_in first bytes rows s ts at (leaf tag b) p a = tt
  stand_in first bytes rows s ts at (node tag is) p a =
      stand_among first bytes rows s (pointed rows s ts at is) (at + 4) [] is
      (part_of_part first bytes at (value_bytes (node tag is)) (at + 4) (items_bytes is) p (items_part at tag is))
      (pointed_stand rows s ts at is (is_whole s) first bytes p a)

  stand_among : (first : ℕ) (bytes : List ℕ) (rows : List Row) (s : Station) (ts : Targets) (at : ℕ)
      (elder : List (List ℕ)) (is : Items)
      → Part first bytes at (items_bytes is) → AreAt first bytes ts
      → VisitsAt first bytes (visits rows s ts at elder is)
  stand_among first bytes rows s ts at elder no_items p a = tt
  stand_among first bytes rows s ts at elder (item name t is) p a = (
    a,
    both_stand first bytes (visits_in rows (station rows s (entry name t)) ts (at + (2 + length name)) t)
        (visits rows s ts (at + (2 + length name) + length (value_bytes t)) (elder ++ name ∷ []) is)
        (stand_in first bytes rows (station rows s (entry name t)) ts (at + (2 + length name)) t
        (part_of_part first bytes at (items_bytes (item name t is)) (at + (2 + length name)) (value_bytes t) p
        (value_part at name t is)) a)
        (stand_among first bytes rows s ts (at + (2 + length name) + length (value_bytes t)) (elder ++ name ∷ []) is
        (part_of_part first bytes at (items_bytes (item name t is)) (at + (2 + length name) + length (value_bytes t))
        (items_bytes is) p (rest_part at name t is)) a),
  )

-- a command's targets stand in its bytes
pub command_stands : (rows : List Row) (at : ℕ) (c : Items) → VisitsAt at (doc_bytes c) (command_visits rows at c)
command_stands rows at c =
    let u = station rows Outside (command_entry c) in
    let self : Part at (doc_bytes c) at (doc_bytes c) = record {
      front = [];
      behind = [];
      whole = sym (append-nil (doc_bytes c));
      starts = omega arith;
    } in (
      tt,
      stand_among at (doc_bytes c) rows u (pointed rows u [] at c) (at + 4) [] c
          (items_part at 3 c)
          (pointed_stand rows u [] at c (is_whole u) at (doc_bytes c) self tt),
    )

nth_stands : (at : ℕ) (bytes : List ℕ) (i : ℕ) (ts : Targets) (o : Option Target) → AreAt at bytes ts
    → nth_target i ts ≡ o
    → option_map (text_in at bytes) (option_map (λ t. t.span) o) ≡ option_map (λ t. t.text) o
nth_stands at bytes i ts None a e = refl
nth_stands at bytes i ts (Some target) a e =
    let is = nth_at i ts a e in
    let n : target.span.end - target.span.start ≡ length target.text = omega (arith, is.to) in
    ap (λ (x : List ℕ). Some x)
    (ap (λ (m : ℕ). take m (drop (target.span.start - at) bytes)) n ∙ is.text) where
      nth_at : (i : ℕ) (ts : Targets) → AreAt at bytes ts → nth_target i ts ≡ Some target → IsAt at bytes target
      nth_at i [] a e = absurd cc
      nth_at zero (None ∷ ts) a e = absurd cc
      nth_at zero (Some t ∷ ts) a e =
          let same : t ≡ target = cc in subst (IsAt at bytes) same a.0
      nth_at (suc i) (None ∷ ts) a e = nth_at i ts a e
      nth_at (suc i) (Some t ∷ ts) a e = nth_at i ts a.1 e

own_text : (at : ℕ) (bytes : List ℕ) (s : Station) (v : Visit) → AreAt at bytes v.targets
    → map (λ m. option_map (text_in at bytes) m.name) (mark_at s v) ≡ text_at s v
own_text at bytes (Store i) v a =
    ap (λ (o : Option (List ℕ)). o ∷ []) (nth_stands at bytes i v.targets (nth_target i v.targets) a refl)
own_text at bytes (Compare i) v a =
    ap (λ (o : Option (List ℕ)). o ∷ []) (nth_stands at bytes i v.targets (nth_target i v.targets) a refl)
own_text at bytes _ v a = refl

map_both : (f : Mark → Option (List ℕ)) (ms ns : List Mark) (xs ys : List (Option (List ℕ))) → map f ms ≡ xs
    → map f ns ≡ ys → map f (ms ++ ns) ≡ xs ++ ys
map_both f [] ns xs ys p q = ap (λ (zs : List (Option (List ℕ))). zs ++ map f ns) p
    ∙ ap (λ (zs : List (Option (List ℕ))). xs ++ zs) q
map_both f (m ∷ ms) ns xs ys p q =
    ap (λ (zs : List (Option (List ℕ))). f m ∷ zs) (map_both f ms ns (map f ms) ys refl q)
    ∙ ap (λ (zs : List (Option (List ℕ))). zs ++ ys) p

all_texts : (at : ℕ) (bytes : List ℕ) (rows : List Row) (vs : List Visit) → VisitsAt at bytes vs
    → map (λ m. option_map (text_in at bytes) m.name) (marks rows vs) ≡ texts rows vs
all_texts at bytes rows [] a = refl
all_texts at bytes rows (v ∷ vs) a =
    map_both (λ m. option_map (text_in at bytes) m.name) (mark_at (station_of rows v) v) (marks rows vs)
    (text_at (station_of rows v) v) (texts rows vs)
    (own_text at bytes (station_of rows v) v a.0) (all_texts at bytes rows vs a.1)

-- the names of a command's marks are the texts of their rules' targets
pub names_are_texts : (rows : List Row) (at : ℕ) (c : Items)
    → map (λ m. option_map (text_in at (doc_bytes c)) m.name) (roles rows at c) ≡ texts rows (command_visits rows at c)
names_are_texts rows at c = all_texts at (doc_bytes c) rows (command_visits rows at c) (command_stands rows at c)
