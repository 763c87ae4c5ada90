-- Refusals of a command's fields.
use Rattle.std.proofs.Common.{◌≡◌, ◌==◌, ℕ, ◌+◌, Bool, true, false, cond, ◌||◌, ◌&&◌, not, codes, List, [], ◌∷◌, ◌++◌}
use Rattle.std.proofs.Common.{length, Option, Some, None, Ok, Err, refl, sym, ap, ap₂, ◌∙◌}
use Rattle.std.proofs.lemmas.Bool.{false≢true}
use Rattle.std.proofs.lemmas.Slice.Eq.{bytes_eq-Decides}
use Rattle.bson_tree.specs.Tree.{Tree, Items, leaf, no_items, item, tag_of}
use Rattle.bson_tree.specs.Spelling.{value_bytes}
use Rattle.bson_codec.specs.Borrowed.{At, Elem}
use Rattle.bson_codec.specs.Elements.{TakesElement}
use Rattle.encrypt_schema.specs.declared.command.reason.Reason.{Reason}
use Rattle.encrypt_schema.specs.declared.command.reason.Reason.TheVariants.{NotACommand, BadField, WrongDb}
use Rattle.encrypt_schema.specs.Language.Names.{named, is_among}
use Rattle.encrypt_schema.specs.Commands.Stations.{Entry, Station, Insert, Update, Delete, Find, Passed, Unknown}
use Rattle.encrypt_schema.specs.Commands.Stations.{Fields, is_passed, command_of, library_of}
use Rattle.encrypt_schema.specs.Commands.ListedFields.{is_command}
use Rattle.encrypt_schema.specs.declared.command.listed.Listed.{Listed}
use Rattle.encrypt_schema.specs.declared.command.listed.Listed.TheVariants as lists
use Rattle.encrypt_schema.proofs.Commands.Tables.{library_elim, library_unmarked}
use Rattle.encrypt_schema.specs.Commands.Offences.{when, least, text_of, is_db, is_empty, is_marked, is_string}
use Rattle.encrypt_schema.specs.Commands.Offences.{of_field, target_offence, is_library}
use Rattle.encrypt_schema.specs.Commands.Visits.{names_of, entry, raw_of, command_visit, command_visits, first_refusal}
use Rattle.encrypt_schema.specs.Commands.Visits.{target_of, target_verdict, Refusal, refused_at, or_else}
use Rattle.bson_codec.specs.Layout.{string_bytes}
use Rattle.encrypt_schema.proofs.Language.Texts.{text_is}
use Rattle.encrypt_schema.proofs.Commands.Fields.{fields_refusal, command_alone, target_anyhow, target_shallow}
use Rattle.command_marker.specs.Commands.{is_library_command, is_marked_command, passes, AimsAt, Refuses}
use Rattle.command_marker.specs.declared.destination.Target.TheVariants as targets
use Rattle.encrypt_schema.specs.Commands.Targets.{rows_of}
use Rattle.encrypt_schema.proofs.Commands.Unmarked.{passed_command}
use Rattle.command_marker.proofs.Unmarked.{passing_verdict}
use Rattle.command_marker.specs.Fields.{is_library_name, is_marked_name, first_reasons, later_reasons}
use Rattle.command_marker.specs.Fields.{later_refusal}
use Rattle.encrypt_schema.specs.declared.command.marks.MarkFault.{MarkFault}
use Rattle.encrypt_schema.specs.declared.command.marks.MarkFault.TheVariants as faults

-- what is wrong with a later field
pub least_later : (name form other : Bool)
    → least (when name BadField ++ when form BadField ++ when other WrongDb)
    ≡ cond (name || form) (Some BadField) (cond other (Some WrongDb) None)
least_later true true true = refl
least_later true true false = refl
least_later true false true = refl
least_later true false false = refl
least_later false true true = refl
least_later false true false = refl
least_later false false true = refl
least_later false false false = refl

-- the text of a string, and what is asked of it
pub text_found : (t : Tree) (text : List ℕ) → t ≡ leaf 2 (string_bytes text) → text ≡ text_of (raw_of t)
text_found t text e = rw e (sym (text_is text))

pub empty_found : (t : Tree) (text : List ℕ) → t ≡ leaf 2 (string_bytes text)
    → is_empty text ≡ (not (tag_of t == 2) || is_empty (text_of (raw_of t)))
empty_found t text e = rw e (ap is_empty (sym (text_is text)))

pub empty_none : (t : Tree) → (tag_of t == 2) ≡ false → true ≡ (not (tag_of t == 2) || is_empty (text_of (raw_of t)))
empty_none t e = ap (λ (b : Bool). not b || is_empty (text_of (raw_of t))) (sym e)

pub other_found : (t : Tree) (text word : List ℕ) → t ≡ leaf 2 (string_bytes text)
    → not (named text word) ≡ ((tag_of t == 2) && not (named (text_of (raw_of t)) word))
other_found t text word e = rw e (ap (λ (x : List ℕ). not (named x word)) (sym (text_is text)))

pub other_none : (t : Tree) (word : List ℕ) → (tag_of t == 2) ≡ false
    → false ≡ ((tag_of t == 2) && not (named (text_of (raw_of t)) word))
other_none t word e = ap (λ (b : Bool). b && not (named (text_of (raw_of t)) word)) (sym e)

-- the station of a command by the tests of its name, and what it is by none
abbrev pub station_by : (i u d f p : Bool) → Station → Station
station_by i u d f p s = cond i Insert (cond u Update (cond d Delete (cond f Find (cond p Passed s))))

marked_by : (i u d f p : Bool) (s : Station) → is_marked s ≡ false
    → is_marked (station_by i u d f p s) ≡ (i || (u || (d || f)))
marked_by true u d f p s h = refl
marked_by false true d f p s h = refl
marked_by false false true f p s h = refl
marked_by false false false true p s h = refl
marked_by false false false false true s h = refl
marked_by false false false false false s h = h

-- which commands are marked
pub marked_name : (name : List ℕ)
    → is_marked_name name ≡ (named name (codes "insert") ||
    (named name (codes "update") || (named name (codes "delete") || named name (codes "find"))))
marked_name name =
    marked_by (named name (codes "insert")) (named name (codes "update")) (named name (codes "delete"))
    (named name (codes "find")) (is_passed name) (library_of name) (library_unmarked name)

-- which are a library's: neither one that is marked nor one that passes, and of these names
library_by : (i u d f p k g q r : Bool)
    → is_library (station_by i u d f p (cond k (Fields lists.Count) (cond g (Fields lists.FindAndModify)
    (cond q (Fields lists.Distinct) (cond r (Fields lists.CreateIndexes) Unknown)))))
    ≡ cond (i || (u || (d || f))) false (cond p false (k || (g || (q || r))))
library_by true u d f p k g q r = refl
library_by false true d f p k g q r = refl
library_by false false true f p k g q r = refl
library_by false false false true p k g q r = refl
library_by false false false false true k g q r = refl
library_by false false false false false true g q r = refl
library_by false false false false false false true q r = refl
library_by false false false false false false false true r = refl
library_by false false false false false false false false true = refl
library_by false false false false false false false false false = refl

-- the tests of a library's names
abbrev pub is_one_of_a_library : List ℕ → Bool
is_one_of_a_library name =
    named name (codes "count") || (named name (codes "findAndModify") || (named name (codes "distinct")
    || named name (codes "createIndexes")))

library_told : (name : List ℕ)
    → is_library_name name
    ≡ cond (is_marked_name name) false (cond (is_passed name) false (is_one_of_a_library name))
library_told name =
    library_by (named name (codes "insert")) (named name (codes "update")) (named name (codes "delete"))
    (named name (codes "find")) (is_passed name) (named name (codes "count")) (named name (codes "findAndModify"))
    (named name (codes "distinct")) (named name (codes "createIndexes"))
    ∙ ap (λ (b : Bool). cond b false (cond (is_passed name) false (is_one_of_a_library name))) (sym (marked_name name))

pub library_marked : (name : List ℕ) → is_marked_name name ≡ true → false ≡ is_library_name name
library_marked name m =
    sym (library_told name
    ∙ ap (λ (b : Bool). cond b false (cond (is_passed name) false (is_one_of_a_library name))) m)

pub library_passed : (name : List ℕ) → is_marked_name name ≡ false → is_passed name ≡ true
    → false ≡ is_library_name name
library_passed name m p =
    sym (library_told name
    ∙ ap (λ (b : Bool). cond b false (cond (is_passed name) false (is_one_of_a_library name))) m
    ∙ ap (λ (b : Bool). cond b false (is_one_of_a_library name)) p)

pub library_rest : (name : List ℕ) → is_marked_name name ≡ false → is_passed name ≡ false
    → is_one_of_a_library name ≡ is_library_name name
library_rest name m p =
    sym (library_told name
    ∙ ap (λ (b : Bool). cond b false (cond (is_passed name) false (is_one_of_a_library name))) m
    ∙ ap (λ (b : Bool). cond b false (is_one_of_a_library name)) p)

-- the names of elder siblings

same_name : (x y : List ℕ) (a b : Bool) → named x y ≡ a → named y x ≡ b → a ≡ b
unfolding named
same_name x y true true p q = refl
same_name x y true false p q = sym ((bytes_eq-Decides y x).1 (sym ((bytes_eq-Decides x y).0 p))) ∙ q
same_name x y false true p q = sym p ∙ (bytes_eq-Decides x y).1 (sym ((bytes_eq-Decides y x).0 q))
same_name x y false false p q = refl

either_either : (a b c : Bool) → (a || (b || c)) ≡ ((a || b) || c)
either_either true b c = refl
either_either false b c = refl

either_none : (a : Bool) → (a || false) ≡ a
either_none true = refl
either_none false = refl

-- `$db` stands among names and one more
pub seen_more : (others : List (List ℕ)) (name : List ℕ)
    → is_among (codes "$db") (others ++ name ∷ []) ≡ (is_among (codes "$db") others || is_db name)
unfolding is_db
seen_more [] name = either_none (named (codes "$db") name) ∙ same_name (codes "$db") name _ _ refl refl
seen_more (other ∷ others) name =
    ap (λ (b : Bool). named (codes "$db") other || b) (seen_more others name)
    ∙ either_either (named (codes "$db") other) (is_among (codes "$db") others) (named name (codes "$db"))

again_by : (name : List ℕ) (others : List (List ℕ)) (x b : Bool) → named name (codes "$db") ≡ b
    → (b && (is_among name others || x)) ≡ (b && (is_among (codes "$db") others || x))
unfolding named
again_by name others x true h = ap (λ (n : List ℕ). is_among n others || x) ((bytes_eq-Decides name (codes "$db")).0 h)
again_by name others x false h = refl

-- a field named `$db` stands for the second time where `$db` was seen
again_db : (name : List ℕ) (others : List (List ℕ)) (x : Bool)
    → (is_db name && (is_among name others || x)) ≡ (is_db name && (is_among (codes "$db") others || x))
unfolding is_db
again_db name others x = again_by name others x (named name (codes "$db")) refl

-- the fields of a marked command

marked_offence : (db : List ℕ) (s : Station) (elder : List (List ℕ)) (e : Entry) → is_marked s ≡ true
    → target_offence db s elder e ≡ least (of_field db elder e)
unfolding target_offence
marked_offence db Insert elder e h = refl
marked_offence db Update elder e h = refl
marked_offence db Delete elder e h = refl
marked_offence db Find elder e h = refl
marked_offence db _ elder e h = absurd (false≢true h)

pub later_reason : (db command : List ℕ) (others : List (List ℕ)) (e : Entry)
    → least (of_field db (command ∷ others) e) ≡ least (later_reasons db command (is_among (codes "$db") others) e)
later_reason db command others e =
    ap
    (λ (b : Bool). least
    (when (named e.name command) BadField
    ++ when b BadField
    ++ when (is_db e.name && is_string e && not (named (text_of e.raw) db)) WrongDb))
    (again_db e.name others (not (is_string e)))

-- later fields behind these
later_fields : (db : List ℕ) (s : Station) (at : ℕ) (command : List ℕ) (others : List (List ℕ)) (is : Items)
    → is_marked s ≡ true
    → fields_refusal (target_of db) s [] at (command ∷ others) is
    ≡ later_refusal db command (is_among (codes "$db") others) at is
later_fields db s at command others no_items h = refl
later_fields db s at command others (item name t is) h =
    let behind = at + (2 + length name) + length (value_bytes t) in
    ap₂ (λ (r : Option Reason) (later : Option Refusal). or_else (refused_at (at + (2 + length name)) r) later)
    (marked_offence db s (command ∷ others) (entry name t) h ∙ later_reason db command others (entry name t))
    (later_fields db s behind command (others ++ name ∷ []) is h
    ∙ ap (λ (seen : Bool). later_refusal db command seen behind is) (seen_more others name))

-- the fields of a command of this station, told by whether it is marked
abbrev FieldsTold : (db name : List ℕ) (t : Tree) (is : Items) (n m : ℕ) → Station → Type 0
FieldsTold db name t is n m s =
    or_else (refused_at n (target_offence db s [] (entry name t)))
    (fields_refusal (target_of db) s [] m (name ∷ []) is)
    ≡ or_else
    (refused_at n
    (least
    (when (not (is_marked s)) NotACommand
    ++ when (is_marked s && (not (is_string (entry name t)) || is_empty (text_of (entry name t).raw))) BadField)))
    (later_refusal db name false m is)

-- a command of a library is refused as one that isn't known
listed_told : (db name : List ℕ) (t : Tree) (is : Items) (n m : ℕ) (l : Listed) → is_command l ≡ true
    → FieldsTold db name t is n m (Fields l)
unfolding target_offence
listed_told db name t is n m lists.Index c = absurd (false≢true c)
listed_told db name t is n m _ c = refl

unknown_told : (db name : List ℕ) (t : Tree) (is : Items) (n m : ℕ) → FieldsTold db name t is n m Unknown
unfolding target_offence
unknown_told db name t is n m = refl

by_command : (db name : List ℕ) (t : Tree) (is : Items) (n m : ℕ) (i u d f p : Bool) (s : Station) → p ≡ false
    → FieldsTold db name t is n m s → FieldsTold db name t is n m (station_by i u d f p s)
unfolding target_offence
by_command db name t is n m true u d f p s h k = ap (or_else _) (later_fields db Insert m name [] is refl)
by_command db name t is n m false true d f p s h k = ap (or_else _) (later_fields db Update m name [] is refl)
by_command db name t is n m false false true f p s h k = ap (or_else _) (later_fields db Delete m name [] is refl)
by_command db name t is n m false false false true p s h k = ap (or_else _) (later_fields db Find m name [] is refl)
by_command db name t is n m false false false false true s h k = absurd (false≢true (sym h))
by_command db name t is n m false false false false false s h k = k

root_free : (db : List ℕ) (name : List ℕ) (t : Tree) (is : Items) → target_of db (command_visit (item name t is)) ≡ None
unfolding target_offence
root_free db name t is = refl

-- the target pass over a command that doesn't pass
pub fields_told : (db : List ℕ) (at : ℕ) (name : List ℕ) (t : Tree) (is : Items) → is_passed name ≡ false
    → target_verdict db at (item name t is)
    ≡ or_else (refused_at (at + 4 + (2 + length name)) (least (first_reasons (entry name t))))
    (later_refusal db name false (at + 4 + (2 + length name) + length (value_bytes t)) is)
fields_told db at name t is h =
    let c : Items = item name t is in
    let fields = fields_refusal (target_of db) (command_of (name ∷ names_of is)) [] (at + 4) [] c in
    command_alone (target_of db) [] at c (target_shallow db)
    ∙ ap (λ (r : Option Reason). or_else (refused_at 0 r) fields) (root_free db name t is)
    ∙ by_command db name t is (at + 4 + (2 + length name)) (at + 4 + (2 + length name) + length (value_bytes t))
    (named name (codes "insert")) (named name (codes "update")) (named name (codes "delete"))
    (named name (codes "find")) (is_passed name) (library_of name) h
    (library_elim
    (FieldsTold db name t is (at + 4 + (2 + length name)) (at + 4 + (2 + length name) + length (value_bytes t)))
    (listed_told db name t is (at + 4 + (2 + length name)) (at + 4 + (2 + length name) + length (value_bytes t)))
    (unknown_told db name t is (at + 4 + (2 + length name)) (at + 4 + (2 + length name) + length (value_bytes t))) name)

-- the document without a field is no command
pub target_none : (db : List ℕ) (at : ℕ) (c : Items) → c ≡ no_items
    → target_verdict db at c ≡ Some (record { reason = NotACommand; at = 0 })
unfolding target_offence
target_none db at c e = ap (target_verdict db at) e

first_none : (o later : Option Refusal) → or_else o later ≡ None → o ≡ None
first_none None later e = refl
first_none (Some r) later e = e

passed_target : (db : List ℕ) (at : ℕ) (c : Items) → passes c ≡ true → target_verdict db at c ≡ None
passed_target db at c h =
    sym (target_anyhow db (rows_of [] c) at c)
    ∙ first_none (first_refusal (target_of db) (command_visits (rows_of [] c) at c)) _ (passing_verdict db [] at c h)

-- a command that passes is told as one, and nothing of it is refused
pub target_passes : (db : List ℕ) (c : At) (left rest : At) (e : Elem) → TakesElement left (Some e) rest
    → c.tree ≡ left.tree → is_passed e.name ≡ true
    → AimsAt db c (Ok targets.Pass)
target_passes db c left rest e taken is h =
    let passed : passes c.tree ≡ true = ap passes (is ∙ taken.0) ∙ h in
    (passed_target db c.start c.tree passed, passed)

-- the others by their fields
pub target_read : (db : List ℕ) (at : ℕ) (c : Items) (left rest : At) (e : Elem) → TakesElement left (Some e) rest
    → c ≡ left.tree → left.start ≡ at + 4 → is_passed e.name ≡ false
    → target_verdict db at c
    ≡ or_else (refused_at e.start (least (first_reasons (entry e.name e.tree))))
    (later_refusal db e.name false rest.start rest.tree)
target_read db at c left rest e taken is begun h =
    let first = least (first_reasons (entry e.name e.tree)) in
    let start : at + 4 + (2 + length e.name) ≡ e.start =
    ap (λ (n : ℕ). n + (2 + length e.name)) (sym begun) ∙ sym taken.1 in
    let behind : at + 4 + (2 + length e.name) + length (value_bytes e.tree) ≡ rest.start =
    ap (λ (n : ℕ). n + length (value_bytes e.tree)) start ∙ sym taken.2 in
    ap (target_verdict db at) (is ∙ taken.0)
    ∙ fields_told db at e.name e.tree rest.tree h
    ∙ ap₂ (λ (n m : ℕ). or_else (refused_at n first) (later_refusal db e.name false m rest.tree)) start behind

-- a command whose first field isn't refused is marked
pub marked_left : (marked form : Bool) → None ≡ least (when (not marked) NotACommand ++ when form BadField)
    → marked ≡ true
marked_left true form p = refl
marked_left false true p = absurd cc
marked_left false false p = absurd cc

-- and its first field is a string
pub string_left : (marked string empty : Bool)
    → None ≡ least (when (not marked) NotACommand ++ when (marked && (not string || empty)) BadField) → string ≡ true
string_left marked true empty p = refl
string_left true false empty p = absurd cc
string_left false false empty p = absurd cc

marked_name_read : (name : List ℕ) (names : List (List ℕ)) (b : Bool) → is_passed name ≡ b
    → is_marked (command_of (name ∷ names)) ≡ true → b ≡ false
marked_name_read name names true p m = absurd (false≢true (ap is_marked (sym (passed_command name names p)) ∙ m))
marked_name_read name names false p m = refl

-- a marked command doesn't pass unchanged
pub marked_read : (c : Items) → is_marked_command c ≡ true → passes c ≡ false
marked_read no_items m = absurd (false≢true m)
marked_read (item name t is) m = marked_name_read name (names_of is) (is_passed name) refl m

library_name_read : (name : List ℕ) (names : List (List ℕ)) (b : Bool) → is_passed name ≡ b
    → is_library (command_of (name ∷ names)) ≡ true → b ≡ false
library_name_read name names true p m = absurd (false≢true (ap is_library (sym (passed_command name names p)) ∙ m))
library_name_read name names false p m = refl

-- nor does a command of a library
pub library_read : (c : Items) → is_library_command c ≡ true → passes c ≡ false
library_read no_items m = absurd (false≢true m)
library_read (item name t is) m = library_name_read name (names_of is) (is_passed name) refl m

-- a refusal of the later fields is the command's
pub aims_err : (db : List ℕ) (c : At) (refusal : Option Refusal) (fault : MarkFault)
    → target_verdict db c.start c.tree ≡ refusal → Refuses refusal (Err fault) → AimsAt db c (Err fault)
aims_err db c refusal (faults.Refused reason at) is told = is ∙ told
aims_err db c refusal faults.Memory is told = told
