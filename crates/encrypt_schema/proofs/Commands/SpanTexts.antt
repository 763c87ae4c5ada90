-- The texts to which pointers lead, as marks' spans read them: wherever a command begins, they are its targets' texts.
use Rattle.std.proofs.Common.{◌≡◌, ◌∙◌, ◌==◌, ℕ, zero, suc, ◌+◌, ◌-◌, Bool, true, false, cond, List, [], ◌∷◌}
use Rattle.std.proofs.Common.{length, map, take, drop, Option, Some, None, option_map, option_and_then, refl, ap}
use Rattle.std.proofs.Common.{arith}
use Rattle.std.specs.Prelude.{codes}
use Rattle.bson_tree.specs.Tree.{Tree, leaf, node, Items, no_items, item}
use Rattle.bson_tree.specs.Spelling.{value_bytes, doc_bytes}
use Rattle.bson_codec.specs.Borrowed.{Elem}
use Rattle.encrypt_schema.specs.declared.schema.policy.KeyRef.{KeyRef}
use Rattle.encrypt_schema.specs.declared.schema.policy.KeyRef.TheVariants as keys
use Rattle.encrypt_schema.specs.Language.Names.{named, is_among}
use Rattle.encrypt_schema.specs.Language.Row.{Row}
use Rattle.encrypt_schema.specs.Language.Values.{names_of, text_of}
use Rattle.encrypt_schema.specs.Paths.Classes.{class}
use Rattle.encrypt_schema.specs.Paths.Dotted.{is_clear}
use Rattle.encrypt_schema.specs.Commands.Pointers.{Target, Targets, is_whole, nth_span, nth_target, only, pointed}
use Rattle.encrypt_schema.specs.Commands.Pointers.{target_in, target_of, targets_of}
use Rattle.encrypt_schema.specs.Commands.Stations.{Station, Outside, Insert, Update, Delete, Find, Passed}
use Rattle.encrypt_schema.specs.Commands.Stations.{command_of, library_of, is_passed, station}
use Rattle.encrypt_schema.proofs.Commands.Tables.{library_elim}
use Rattle.encrypt_schema.specs.Commands.Visits.{command_entry, text_in}
use Rattle.encrypt_schema.proofs.Commands.PointerTexts.{IsAt, Part, lifted, target_stands}

-- the text for a rule, as its span reads it in bytes that begin at an offset
abbrev pub by_span : ℕ → List ℕ → ℕ → Targets → Option (List ℕ)
by_span first bytes i ts = option_map (text_in first bytes) (nth_span i ts)

-- and as its target has it
abbrev pub by_text : ℕ → Targets → Option (List ℕ)
by_text i ts = option_map (λ t. t.text) (nth_target i ts)

-- the spans of some targets read the texts of others
abbrev pub Tells : ℕ → List ℕ → Targets → Targets → Type 0
Tells first bytes ts us = (i : ℕ) → by_span first bytes i ts ≡ by_text i us

-- ---- the text of a target is the same wherever its document begins

abbrev text : Option Target → Option (List ℕ)
text o = option_map (λ t. t.text) o

abbrev value_in : Option Elem → Option Tree
value_in o = option_map (λ (e : Elem). e.tree) o

one_moved : (a b : Bool) (e f : Elem) (o p : Option Elem) → e.tree ≡ f.tree → value_in o ≡ value_in p
    → value_in (cond a (cond b None (Some e)) o) ≡ value_in (cond a (cond b None (Some f)) p)
one_moved true true e f o p same h = refl
one_moved true false e f o p same h = ap (λ (t : Tree). Some t) same
one_moved false b e f o p same h = h

only_moved : (word : List ℕ) (at from : ℕ) (is : Items) → value_in (only word at is) ≡ value_in (only word from is)
only_moved word at from no_items = refl
only_moved word at from (item name t is) =
    one_moved (named word name) (is_among word (names_of is))
    (record { name = name; tree = t; start = at + (2 + length name) })
    (record { name = name; tree = t; start = from + (2 + length name) })
    (only word (at + (2 + length name) + length (value_bytes t)) is)
    (only word (from + (2 + length name) + length (value_bytes t)) is)
    refl
    (only_moved word (at + (2 + length name) + length (value_bytes t))
    (from + (2 + length name) + length (value_bytes t)) is)

leaf_moved : (at from : ℕ) (bytes : List ℕ) (b : Bool)
    → text (cond b (Some (record {
      text = text_of bytes;
      span = record { start = at + 4; end = at + 4 + length (text_of bytes) };
    })) None)
    ≡ text (cond b (Some (record {
      text = text_of bytes;
      span = record { start = from + 4; end = from + 4 + length (text_of bytes) };
    })) None)
leaf_moved at from bytes true = refl
leaf_moved at from bytes false = refl

inside_moved : (g : Elem → Option Target) (o p : Option Elem) (b : Bool) → value_in o ≡ value_in p
    → ((e f : Elem) → e.tree ≡ f.tree → text (g e) ≡ text (g f))
    → text (cond b (option_and_then g o) None) ≡ text (cond b (option_and_then g p) None)
inside_moved g None None true h each = refl
inside_moved g (Some e) None true h each = absurd cc
inside_moved g None (Some f) true h each = absurd cc
inside_moved g (Some e) (Some f) true h each = let same : e.tree ≡ f.tree = cc in each e f same
inside_moved g o p false h each = refl

target_moved : (names : List (List ℕ)) (at from : ℕ) (t : Tree)
    → text (target_in names at t) ≡ text (target_in names from t)
target_moved [] at from (leaf tag bytes) = leaf_moved at from bytes (tag == 2)
target_moved [] at from (node tag is) = refl
target_moved (name ∷ names) at from (leaf tag bytes) = refl
target_moved (name ∷ names) at from (node tag is) =
    inside_moved (λ e. target_in names e.start e.tree) (only name (at + 4) is) (only name (from + 4) is) (tag == 3)
    (only_moved name (at + 4) (from + 4) is)
    (λ e f same. target_moved names e.start f.start e.tree
    ∙ ap (λ (t : Tree). text (target_in names f.start t)) same)

key_moved : (rows : List Row) (at from : ℕ) (is : Items) (key : KeyRef)
    → text (target_of rows at is key) ≡ text (target_of rows from is key)
key_moved rows at from is (keys.Id id) = refl
key_moved rows at from is (keys.Pointer names) = by (is_clear (class rows names)) where
  by : (b : Bool) → text (cond b (target_in names at (node 3 is)) None)
      ≡ text (cond b (target_in names from (node 3 is)) None)
  by true = target_moved names at from (node 3 is)
  by false = refl

-- ---- its span reads it

reads : (first : ℕ) (bytes : List ℕ) (o : Option Target) → ((t : Target) → o ≡ Some t → IsAt first bytes t)
    → option_map (text_in first bytes) (option_map (λ t. t.span) o) ≡ text o
reads first bytes None h = refl
reads first bytes (Some t) h =
    let is = h t refl in
    let n : t.span.end - t.span.start ≡ length t.text = omega (arith, is.to) in
    ap (λ (x : List ℕ). Some x) (ap (λ (m : ℕ). take m (drop (t.span.start - first) bytes)) n ∙ is.text)

key_stands : (rows : List Row) (at : ℕ) (is : Items) (key : KeyRef) (t : Target)
    → target_of rows at is key ≡ Some t → IsAt at (doc_bytes is) t
key_stands rows at is (keys.Id id) t h = absurd cc
key_stands rows at is (keys.Pointer names) t h = by (is_clear (class rows names)) h where
  by : (b : Bool) → cond b (target_in names at (node 3 is)) None ≡ Some t → IsAt at (doc_bytes is) t
  by true h = target_stands names at (node 3 is) t h
  by false h = absurd cc

all_told : (rows all : List Row) (first : ℕ) (bytes : List ℕ) (at from : ℕ) (is : Items)
    → Part first bytes at (doc_bytes is) → (i : ℕ)
    → by_span first bytes i (map (λ row. target_of all at is row.policy.key) rows)
    ≡ by_text i (map (λ row. target_of all from is row.policy.key) rows)
all_told [] all first bytes at from is p i = refl
all_told (row ∷ rows) all first bytes at from is p zero =
    reads first bytes (target_of all at is row.policy.key)
    (λ t h. lifted first bytes at (doc_bytes is) t p (key_stands all at is row.policy.key t h))
    ∙ key_moved all at from is row.policy.key
all_told (row ∷ rows) all first bytes at from is p (suc i) = all_told rows all first bytes at from is p i

-- and so inside a document
pub told_inside : (rows : List Row) (first : ℕ) (bytes : List ℕ) (ts us : Targets) (at from : ℕ) (is : Items)
    (b : Bool)
    → Part first bytes at (doc_bytes is) → Tells first bytes ts us
    → Tells first bytes (cond b (targets_of rows at is) ts) (cond b (targets_of rows from is) us)
unfolding targets_of
told_inside rows first bytes ts us at from is true p h = all_told rows rows first bytes at from is p
told_inside rows first bytes ts us at from is false p h = h

-- ---- a command itself is no stored document

chosen : (a b c d e : Bool) (s : Station) → is_whole s ≡ false
    → is_whole (cond a Insert (cond b Update (cond c Delete (cond d Find (cond e Passed s))))) ≡ false
chosen true b c d e s h = refl
chosen false true c d e s h = refl
chosen false false true d e s h = refl
chosen false false false true e s h = refl
chosen false false false false true s h = refl
chosen false false false false false s h = h

pub not_whole : (names : List (List ℕ)) → is_whole (command_of names) ≡ false
not_whole [] = refl
not_whole (name ∷ names) =
    chosen (named name (codes "insert")) (named name (codes "update")) (named name (codes "delete"))
    (named name (codes "find")) (is_passed name) (library_of name)
    (library_elim (λ s. is_whole s ≡ false) (λ l c. refl) refl name)

none_told : (first : ℕ) (bytes : List ℕ) (ts us : Targets) (b : Bool) → b ≡ false
    → Tells first bytes (cond b ts []) (cond b us [])
none_told first bytes ts us true e = absurd cc
none_told first bytes ts us false e = λ i. refl

pub command_told : (rows : List Row) (first : ℕ) (bytes : List ℕ) (at from : ℕ) (c : Items)
    → Tells first bytes (pointed rows (station rows Outside (command_entry c)) [] at c)
    (pointed rows (station rows Outside (command_entry c)) [] from c)
command_told rows first bytes at from c =
    none_told first bytes (targets_of rows at c) (targets_of rows from c)
    (is_whole (station rows Outside (command_entry c))) (not_whole (command_entry c).names)
