-- The texts of pointers' targets are told by a command's blank, wherever the command begins.
use Rattle.std.proofs.Common.{◌≡◌, ◌==◌, ℕ, zero, suc, ◌+◌, Bool, true, false, cond, List, [], ◌∷◌, ◌++◌, length, map}
use Rattle.std.proofs.Common.{Option, Some}
use Rattle.std.proofs.Common.{None, option_map, option_and_then, refl, sym, ap, ap₂, ◌∙◌, if◌then◌else◌}
use Rattle.std.proofs.lemmas.Bool.{false≢true}
use Rattle.bson_tree.specs.Tree.{Tree, leaf, node, Items, no_items, item}
use Rattle.bson_tree.specs.Spelling.{value_bytes}
use Rattle.encrypt_schema.specs.declared.schema.policy.KeyRef.{KeyRef}
use Rattle.encrypt_schema.specs.declared.schema.policy.KeyRef.TheVariants.{Id, Pointer}
use Rattle.encrypt_schema.specs.Language.Names.{named, is_among}
use Rattle.encrypt_schema.specs.Language.Row.{Row}
use Rattle.encrypt_schema.specs.Language.Values.{text_of}
use Rattle.encrypt_schema.specs.Paths.Classes.{class}
use Rattle.encrypt_schema.specs.Paths.Dotted.{is_clear}
use Rattle.encrypt_schema.specs.Commands.Pointers.{Target, Targets, is_whole, pointed, nth_target}
use Rattle.encrypt_schema.specs.Commands.Skeletons.{Skeleton, hole, plain, branch, Skeletons, no_more, more, blank_hole}
use Rattle.encrypt_schema.specs.Commands.Skeletons.{skeletons, blank_in, blanks, blank, width_of}
use Rattle.encrypt_schema.specs.Commands.Stations.{Station, Outside, Store, Compare, station, has_role}
use Rattle.encrypt_schema.specs.Commands.Visits.{entry, command_entry, Visit, visit, visits, command_visits}
use Rattle.encrypt_schema.specs.Commands.Visits.{command_visit}
use Rattle.encrypt_schema.specs.Commands.Visits.{text_at, texts}
use Rattle.encrypt_schema.proofs.Commands.Tables.{command_without_role}
use Rattle.encrypt_schema.proofs.Commands.Widths.{names_in, entry_in}
use Rattle.encrypt_schema.proofs.Commands.Blanks.{station_blank, names_blank}
use Rattle.encrypt_schema.proofs.Commands.EqualPlaces.{blanked_in, blanked, blanks_kept}
use Rattle.encrypt_schema.proofs.Commands.EqualTexts.{texts_append, cut}
use Rattle.encrypt_schema.proofs.Commands.Pointed.{Shade, only_seen, target_seen, key_seen, all_seen}
use Rattle.encrypt_schema.proofs.Commands.Pointed.{pointed_kept}
use Rattle.encrypt_schema.proofs.Commands.Worlds.{shown_in, shown}

abbrev pub Texts : Type 0
Texts = List (Option (List ℕ))

abbrev pub text : Option Target → Option (List ℕ)
text o = option_map (λ t. t.text) o

-- the only element of a name, wherever it stands
abbrev only_part : List ℕ → Skeletons → Option Skeleton
only_part word no_more = None
only_part word (more name k ks) =
    if named word name then (if is_among word (names_in ks) then None else Some k) else only_part word ks

-- the text to which names lead
abbrev text_seen : List (List ℕ) → Skeleton → Option (List ℕ)
text_seen [] (hole tag width payload) = None
text_seen [] (plain tag bytes) = if tag == 2 then Some (text_of bytes) else None
text_seen [] (branch tag ks) = None
text_seen (name ∷ names) (hole tag width payload) = None
text_seen (name ∷ names) (plain tag bytes) = None
text_seen (name ∷ names) (branch tag ks) =
    if tag == 3 then option_and_then (text_seen names) (only_part name ks) else None

part_by : (a b : Bool) (e : Shade) (o : Option Shade) (p : Option Skeleton) → option_map (λ x. x.part) o ≡ p
    → option_map (λ (x : Shade). x.part) (cond a (cond b None (Some e)) o) ≡ cond a (cond b None (Some e.part)) p
part_by true true e o p h = refl
part_by true false e o p h = refl
part_by false b e o p h = h

only_is : (word : List ℕ) (at : ℕ) (ks : Skeletons)
    → option_map (λ (e : Shade). e.part) (only_seen word at ks) ≡ only_part word ks
only_is word at no_more = refl
only_is word at (more name k ks) =
    part_by (named word name) (is_among word (names_in ks))
    (record { name = name; part = k; start = at + (2 + length name) })
    (only_seen word (at + (2 + length name) + width_of k) ks) (only_part word ks)
    (only_is word (at + (2 + length name) + width_of k) ks)

through : (f : Shade → Option Target) (g : Skeleton → Option (List ℕ)) (o : Option Shade) (b : Bool)
    → ((e : Shade) → text (f e) ≡ g e.part)
    → text (cond b (option_and_then f o) None) ≡ cond b (option_and_then g (option_map (λ (e : Shade). e.part) o)) None
through f g None true h = refl
through f g (Some e) true h = h e
through f g o false h = refl

leaf_text : (at tag : ℕ) (bytes : List ℕ) (b : Bool)
    → text (cond b (Some (record {
      text = text_of bytes;
      span = record { start = at + 4; end = at + 4 + length (text_of bytes) };
    })) None) ≡ cond b (Some (text_of bytes)) None
leaf_text at tag bytes true = refl
leaf_text at tag bytes false = refl

text_is : (names : List (List ℕ)) (at : ℕ) (k : Skeleton) → text (target_seen names at k) ≡ text_seen names k
text_is [] at (hole tag width payload) = refl
text_is [] at (plain tag bytes) = leaf_text at tag bytes (tag == 2)
text_is [] at (branch tag ks) = refl
text_is (name ∷ names) at (hole tag width payload) = refl
text_is (name ∷ names) at (plain tag bytes) = refl
text_is (name ∷ names) at (branch tag ks) =
    through (λ e. target_seen names e.start e.part) (text_seen names) (only_seen name (at + 4) ks) (tag == 3)
    (λ e. text_is names e.start e.part)
    ∙ ap (λ (o : Option Skeleton). cond (tag == 3) (option_and_then (text_seen names) o) None)
    (only_is name (at + 4) ks)

names_blanked : (ks : Skeletons) → names_in (blanked ks) ≡ names_in ks
names_blanked no_more = refl
names_blanked (more name k ks) = ap (λ (ns : List (List ℕ)). name ∷ ns) (names_blanked ks)

blank_by : (a b : Bool) (k : Skeleton) (o : Option Skeleton)
    → cond a (cond b None (Some (blanked_in k))) (option_map blanked_in o)
    ≡ option_map blanked_in (cond a (cond b None (Some k)) o)
blank_by true true k o = refl
blank_by true false k o = refl
blank_by false b k o = refl

only_blanked : (word : List ℕ) (ks : Skeletons) → only_part word (blanked ks)
    ≡ option_map blanked_in (only_part word ks)
only_blanked word no_more = refl
only_blanked word (more name k ks) =
    ap (λ (ns : List (List ℕ)). cond (named word name) (cond (is_among word ns) None (Some (blanked_in k)))
    (only_part word (blanked ks))) (names_blanked ks)
    ∙ ap
    (λ (o : Option Skeleton). cond (named word name)
    (cond (is_among word (names_in ks)) None (Some (blanked_in k))) o)
    (only_blanked word ks)
    ∙ blank_by (named word name) (is_among word (names_in ks)) k (only_part word ks)

into : (f : Skeleton → Option (List ℕ)) (o : Option Skeleton) (b : Bool) → ((k : Skeleton) → f (blanked_in k) ≡ f k)
    → cond b (option_and_then f (option_map blanked_in o)) None ≡ cond b (option_and_then f o) None
into f None true h = refl
into f (Some k) true h = h k
into f o false h = refl

-- a blank tells the text: a hole has none, whatever is known of it
text_blanked : (names : List (List ℕ)) (k : Skeleton) → text_seen names (blanked_in k) ≡ text_seen names k
text_blanked [] (hole tag width payload) = refl
text_blanked [] (plain tag bytes) = refl
text_blanked [] (branch tag ks) = refl
text_blanked (name ∷ names) (hole tag width payload) = refl
text_blanked (name ∷ names) (plain tag bytes) = refl
text_blanked (name ∷ names) (branch tag ks) =
    ap (λ (o : Option Skeleton). cond (tag == 3) (option_and_then (text_seen names) o) None) (only_blanked name ks)
    ∙ into (text_seen names) (only_part name ks) (tag == 3) (text_blanked names)

-- the text of a key's target, read from a blank
abbrev key_text : List Row → Skeletons → KeyRef → Option (List ℕ)
key_text rows ks (Id id) = None
key_text rows ks (Pointer names) = if is_clear (class rows names) then text_seen names (branch 3 ks) else None

key_by : (b : Bool) (o : Option Target) (p : Option (List ℕ)) → text o ≡ p → text (cond b o None) ≡ cond b p None
key_by true o p h = h
key_by false o p h = refl

key_is : (rows : List Row) (at : ℕ) (ks : Skeletons) (key : KeyRef)
    → text (key_seen rows at ks key) ≡ key_text rows (blanked ks) key
key_is rows at ks (Id id) = refl
key_is rows at ks (Pointer names) =
    key_by (is_clear (class rows names)) (target_seen names at (branch 3 ks)) (text_seen names (branch 3 (blanked ks)))
    (text_is names at (branch 3 ks) ∙ sym (text_blanked names (branch 3 ks)))

abbrev all_texts : List Row → Skeletons → Texts
all_texts rows ks = map (λ row. key_text rows ks row.policy.key) rows

abbrev texts_pointed : List Row → Station → Texts → Skeletons → Texts
texts_pointed rows s xs ks = if is_whole s then all_texts rows ks else xs

all_are : (rows all : List Row) (at : ℕ) (ks : Skeletons)
    → map text (map (λ row. key_seen all at ks row.policy.key) rows)
    ≡ map (λ row. key_text all (blanked ks) row.policy.key) rows
all_are [] all at ks = refl
all_are (row ∷ rows) all at ks =
    ap₂ (λ (x : Option (List ℕ)) (xs : Texts). x ∷ xs) (key_is all at ks row.policy.key) (all_are rows all at ks)

pointed_by : (rows : List Row) (ts : Targets) (at : ℕ) (ks : Skeletons) (b : Bool)
    → map text (cond b (all_seen rows at ks) ts) ≡ cond b (all_texts rows (blanked ks)) (map text ts)
pointed_by rows ts at ks true = all_are rows rows at ks
pointed_by rows ts at ks false = refl

-- the texts of what is pointed at inside a document are told by its blank
texts_told : (rows : List Row) (s : Station) (ts : Targets) (at : ℕ) (is : Items)
    → map text (pointed rows s ts at is) ≡ texts_pointed rows s (map text ts) (blanks rows s is)
texts_told rows s ts at is =
    ap (map text) (pointed_kept rows s ts at is)
    ∙ pointed_by rows ts at (skeletons rows s is) (is_whole s)
    ∙ ap (texts_pointed rows s (map text ts)) (sym (blanks_kept rows s is))

abbrev nth_text : ℕ → Texts → Option (List ℕ)
nth_text i [] = None
nth_text zero (x ∷ xs) = x
nth_text (suc i) (x ∷ xs) = nth_text i xs

abbrev text_by : Station → Texts → Texts
text_by (Store i) xs = nth_text i xs ∷ []
text_by (Compare i) xs = nth_text i xs ∷ []
text_by _ xs = []

-- the texts of the marks, read from blanks
abbrev mutual
  told_in : List Row → Station → Texts → Skeleton → Texts
  told_in rows s xs (hole tag width payload) = []
  told_in rows s xs (plain tag bytes) = []
  told_in rows s xs (branch tag ks) = told rows s (texts_pointed rows s xs ks) ks

  told : List Row → Station → Texts → Skeletons → Texts
  told rows s xs no_more = []
  told rows s xs (more name k ks) =
      text_by (station rows s (entry_in name k)) xs
      ++ (told_in rows (station rows s (entry_in name k)) xs k ++ told rows s xs ks)

nth_is : (i : ℕ) (ts : Targets) → text (nth_target i ts) ≡ nth_text i (map text ts)
nth_is i [] = refl
nth_is zero (t ∷ ts) = refl
nth_is (suc i) (t ∷ ts) = nth_is i ts

own_is : (s : Station) (v : Visit) → text_at s v ≡ text_by s (map text v.targets)
own_is (Store i) v = ap (λ (x : Option (List ℕ)). x ∷ []) (nth_is i v.targets)
own_is (Compare i) v = ap (λ (x : Option (List ℕ)). x ∷ []) (nth_is i v.targets)
own_is _ v = refl

told_node : (rows : List Row) (s : Station) (ts : Targets) (at tag : ℕ) (is : Items) (b : Bool)
    → texts rows (shown rows s (pointed rows s ts at is) (at + 4) [] is)
    ≡ told rows s (texts_pointed rows s (map text ts) (blanks rows s is)) (blanks rows s is)
    → texts rows (cond b [] (shown rows s (pointed rows s ts at is) (at + 4) [] is))
    ≡ told_in rows s (map text ts) (cond b blank_hole (branch tag (blanks rows s is)))
told_node rows s ts at tag is true h = refl
told_node rows s ts at tag is false h = h

told_leaf : (rows : List Row) (s : Station) (xs : Texts) (tag : ℕ) (bytes : List ℕ) (b : Bool)
    → [] ≡ told_in rows s xs (cond b blank_hole (plain tag bytes))
told_leaf rows s xs tag bytes true = refl
told_leaf rows s xs tag bytes false = refl

mutual
  shown_told_in : (rows : List Row) (s : Station) (ts : Targets) (at : ℕ) (t : Tree)
      → texts rows (shown_in rows s ts at t) ≡ told_in rows s (map text ts) (blank_in rows s t)
  shown_told_in rows s ts at (leaf tag bytes) = told_leaf rows s (map text ts) tag bytes (has_role s)
  shown_told_in rows s ts at (node tag is) =
      told_node rows s ts at tag is (has_role s)
      (shown_told rows s (pointed rows s ts at is) (at + 4) [] is
      ∙ ap (λ (xs : Texts). told rows s xs (blanks rows s is)) (texts_told rows s ts at is))

  shown_told : (rows : List Row) (s : Station) (ts : Targets) (at : ℕ) (elder : List (List ℕ)) (is : Items)
      → texts rows (shown rows s ts at elder is) ≡ told rows s (map text ts) (blanks rows s is)
  shown_told rows s ts at elder no_items = refl
  shown_told rows s ts at elder (item name t is) =
      let u = station rows s (entry name t) in
      let k = blank_in rows u t in
      let xs = map text ts in
      ap (λ (ys : Texts). text_at u (visit s ts elder at name t) ++ ys)
      (texts_append rows (shown_in rows u ts (at + (2 + length name)) t)
      (shown rows s ts (at + (2 + length name) + length (value_bytes t)) (elder ++ name ∷ []) is))
      ∙ ap (λ (ys : Texts). ys ++ (texts rows (shown_in rows u ts (at + (2 + length name)) t)
      ++ texts rows (shown rows s ts (at + (2 + length name) + length (value_bytes t)) (elder ++ name ∷ []) is)))
      (own_is u (visit s ts elder at name t))
      ∙ ap (λ (ys : Texts). text_by u xs ++ (ys
      ++ texts rows (shown rows s ts (at + (2 + length name) + length (value_bytes t)) (elder ++ name ∷ []) is)))
      (shown_told_in rows u ts (at + (2 + length name)) t)
      ∙ ap (λ (ys : Texts). text_by u xs ++ (told_in rows u xs k ++ ys))
      (shown_told rows s ts (at + (2 + length name) + length (value_bytes t)) (elder ++ name ∷ []) is)
      ∙ ap (λ (x : Station). text_by x xs ++ (told_in rows x xs k ++ told rows s xs (blanks rows s is)))
      (station_blank rows s name t)

own_none : (u : Station) (c : Items) → has_role u ≡ false → text_at u (command_visit c) ≡ []
own_none (Store i) c h = absurd (false≢true (sym h))
own_none (Compare i) c h = absurd (false≢true (sym h))
own_none _ c h = refl

-- those of a command
abbrev told_of : List Row → Skeletons → Texts
told_of rows ks =
    told rows (station rows Outside (entry_in [] (branch 3 ks)))
    (texts_pointed rows (station rows Outside (entry_in [] (branch 3 ks))) [] ks) ks

command_told : (rows : List Row) (at : ℕ) (c : Items)
    → texts rows (command_visits rows at c) ≡ told_of rows (blank rows c)
command_told rows at c =
    let u = station rows Outside (command_entry c) in
    let ts = pointed rows u [] at c in
    ap (λ (ys : Texts). ys ++ texts rows (visits rows u ts (at + 4) [] c))
    (own_none u c (command_without_role rows (command_entry c)))
    ∙ sym (cut rows u ts (at + 4) [] c)
    ∙ shown_told rows u ts (at + 4) [] c
    ∙ ap (λ (xs : Texts). told rows u xs (blanks rows u c)) (texts_told rows u [] at c)
    ∙ ap (λ (ns : List (List ℕ)). told rows (station rows Outside (record {
      name = [];
      tag = 3;
      names = ns;
      raw = [];
      payload = false;
    })) (texts_pointed rows (station rows Outside (record {
      name = [];
      tag = 3;
      names = ns;
      raw = [];
      payload = false;
    })) [] (blank rows c)) (blank rows c)) (sym (names_blank rows u c))

-- commands with equal blanks have the same texts, wherever they begin
pub blank_texts : (rows : List Row) (at from : ℕ) (c d : Items) → blank rows c ≡ blank rows d
    → texts rows (command_visits rows at c) ≡ texts rows (command_visits rows from d)
blank_texts rows at from c d e =
    command_told rows at c ∙ (ap (told_of rows) e ∙ sym (command_told rows from d))
