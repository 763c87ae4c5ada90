-- Which command it is, why it is refused itself, and that its places are those of its fields.
use Rattle.std.proofs.Common.{◌≡◌, ◌∙◌, ℕ, Bool, true, false, cond, List, [], ◌∷◌, ◌++◌, length, Ok, Err, ◌<◌}
use Rattle.std.proofs.Common.{arith, codes, Option, Some, None, Result, refl, sym, ap, subst}
use Rattle.std.proofs.lemmas.Bool.{false≢true}
use Rattle.std.proofs.lemmas.Slice.Eq.{bytes_eq-Decides}
use Rattle.bson_tree.specs.Tree.{Items, no_items, item}
use Rattle.bson_codec.specs.Borrowed.{At}
use Rattle.encrypt_schema.specs.declared.command.marks.Mark.{Mark}
use Rattle.encrypt_schema.specs.declared.command.marks.MarkFault.{MarkFault}
use Rattle.encrypt_schema.specs.declared.command.marks.MarkFault.TheVariants as faults
use Rattle.encrypt_schema.specs.declared.command.reason.Reason.{Reason}
use Rattle.encrypt_schema.specs.declared.command.reason.Reason.TheVariants.{BadField}
use Rattle.encrypt_schema.specs.Language.Names.{named}
use Rattle.encrypt_schema.specs.Language.Row.{Row}
use Rattle.encrypt_schema.specs.Commands.Stations.{Entry, Station, Outside, Insert, Update, Delete, Find, Passed}
use Rattle.encrypt_schema.specs.Commands.Stations.{Fields, Unknown, is_passed, command_of, library_of}
use Rattle.encrypt_schema.specs.declared.command.listed.Listed.{Listed}
use Rattle.encrypt_schema.specs.declared.command.listed.Listed.TheVariants as lists
use Rattle.encrypt_schema.proofs.Commands.Tables.{library_unmarked}
use Rattle.encrypt_schema.specs.Commands.Offences.{when, least, is_library, is_marked, of_role, command_lacks}
use Rattle.encrypt_schema.specs.Commands.Offences.{ruled_offence}
use Rattle.encrypt_schema.specs.Commands.Offences.{first_reason, pointer_offence}
use Rattle.encrypt_schema.specs.Commands.Visits.{Visit, names_of, command_entry, command_visit, command_visits}
use Rattle.encrypt_schema.specs.Commands.Visits.{part_visits}
use Rattle.encrypt_schema.specs.Commands.Visits.{mark_at, marks, ruled_of, refused_at, or_else, first_refusal}
use Rattle.encrypt_schema.specs.Views.Walking.{MarksPlaces}
use Rattle.encrypt_schema.proofs.Commands.Elements.{told_as}
use Rattle.encrypt_schema.proofs.Commands.Parts.{unruled, with_rows}
use Rattle.encrypt_schema.proofs.Commands.Unmarked.{no_rows_no_roles}
use Rattle.command_marker.specs.Commands.{first_name, is_library_command, is_marked_command, TellsMarks}
use Rattle.command_marker.specs.Fields.{is_library_name, is_marked_name}
use Rattle.command_marker.specs.Places.{name_station}
use Rattle.command_marker.specs.declared.places.CommandName.{CommandName}
use Rattle.command_marker.specs.declared.places.CommandName.TheVariants as names

-- which command it is, by the tests of its name

by_insert : (b : Bool) (s : Station) → b ≡ true → Insert ≡ cond b Insert s
by_insert true s e = refl
by_insert false s e = absurd (false≢true e)

by_update : (b : Bool) (s : Station) → b ≡ true → Update ≡ cond b Update s
by_update true s e = refl
by_update false s e = absurd (false≢true e)

by_delete : (b : Bool) (s : Station) → b ≡ true → Delete ≡ cond b Delete s
by_delete true s e = refl
by_delete false s e = absurd (false≢true e)

by_find : (f p : Bool) (s : Station) → is_marked s ≡ false → is_marked (cond f Find (cond p Passed s)) ≡ true
    → Find ≡ cond f Find (cond p Passed s)
by_find true p s h m = refl
by_find false true s h m = absurd (false≢true m)
by_find false false s h m = absurd (false≢true (sym h ∙ m))

otherwise : (b : Bool) (s x y : Station) → b ≡ false → s ≡ y → s ≡ cond b x y
otherwise true s x y e h = absurd (false≢true (sym e))
otherwise false s x y e h = h

otherwise_marked : (b : Bool) (x y : Station) → b ≡ false → is_marked (cond b x y) ≡ true → is_marked y ≡ true
otherwise_marked true x y e h = absurd (false≢true (sym e))
otherwise_marked false x y e h = h

pub insert_is : (c : Items) → is_marked_command c ≡ true → named (first_name c) (codes "insert") ≡ true
    → Insert ≡ command_of (names_of c)
insert_is no_items m i = absurd (false≢true m)
insert_is (item name t is) m i = by_insert (named name (codes "insert")) _ i

pub update_is : (c : Items) → is_marked_command c ≡ true → named (first_name c) (codes "insert") ≡ false
    → named (first_name c) (codes "update") ≡ true → Update ≡ command_of (names_of c)
update_is no_items m i u = absurd (false≢true m)
update_is (item name t is) m i u = otherwise (named name (codes "insert")) Update Insert _ i
    (by_update (named name (codes "update")) _ u)

pub delete_is : (c : Items) → is_marked_command c ≡ true → named (first_name c) (codes "insert") ≡ false
    → named (first_name c) (codes "update") ≡ false → named (first_name c) (codes "delete") ≡ true
    → Delete ≡ command_of (names_of c)
delete_is no_items m i u d = absurd (false≢true m)
delete_is (item name t is) m i u d =
    otherwise (named name (codes "insert")) Delete Insert _ i
    (otherwise (named name (codes "update")) Delete Update _ u (by_delete (named name (codes "delete")) _ d))

pub find_is : (c : Items) → is_marked_command c ≡ true → named (first_name c) (codes "insert") ≡ false
    → named (first_name c) (codes "update") ≡ false → named (first_name c) (codes "delete") ≡ false
    → Find ≡ command_of (names_of c)
find_is no_items m i u d = absurd (false≢true m)
find_is (item name t is) m i u d =
    otherwise (named name (codes "insert")) Find Insert _ i
    (otherwise (named name (codes "update")) Find Update _ u
    (otherwise (named name (codes "delete")) Find Delete _ d
    (by_find (named name (codes "find")) (is_passed name) (library_of name) (library_unmarked name)
    (otherwise_marked (named name (codes "delete")) Delete _ d
    (otherwise_marked (named name (codes "update")) Update _ u
    (otherwise_marked (named name (codes "insert")) Insert _ i m))))))

-- a command of a library, by its first name
pub library_first : (c : Items) → is_library_command c ≡ is_library_name (first_name c)
unfolding named is_passed
library_first no_items = refl
library_first (item name t is) = refl

-- so is a marked one
pub marked_first : (c : Items) → is_marked_name (first_name c) ≡ is_marked_command c
unfolding named is_passed
marked_first no_items = refl
marked_first (item name t is) = refl

-- which command of a library it is

at_name : (P : List ℕ → Type 0) (name word : List ℕ) → named name word ≡ true → P word → P name
unfolding named
at_name P name word h p = subst P (sym ((bytes_eq-Decides name word).0 h)) p

of_word : (word : List ℕ) (s : Station) (c : Items) → is_library_command c ≡ true → named (first_name c) word ≡ true
    → ((names : List (List ℕ)) → s ≡ command_of (word ∷ names)) → s ≡ command_of (names_of c)
of_word word s no_items m h p = absurd (false≢true m)
of_word word s (item name t is) m h p =
    at_name (λ (n : List ℕ). s ≡ command_of (n ∷ names_of is)) name word h (p (names_of is))

pub count_is : (c : Items) → is_library_command c ≡ true → named (first_name c) (codes "count") ≡ true
    → Fields lists.Count ≡ command_of (names_of c)
unfolding named is_passed
count_is c m h = of_word (codes "count") (Fields lists.Count) c m h (λ names. refl)

pub modify_is : (c : Items) → is_library_command c ≡ true → named (first_name c) (codes "findAndModify") ≡ true
    → Fields lists.FindAndModify ≡ command_of (names_of c)
unfolding named is_passed
modify_is c m h = of_word (codes "findAndModify") (Fields lists.FindAndModify) c m h (λ names. refl)

pub distinct_is : (c : Items) → is_library_command c ≡ true → named (first_name c) (codes "distinct") ≡ true
    → Fields lists.Distinct ≡ command_of (names_of c)
unfolding named is_passed
distinct_is c m h = of_word (codes "distinct") (Fields lists.Distinct) c m h (λ names. refl)

by_rest : (i u d f p k g q r : Bool)
    → is_library (cond i Insert (cond u Update (cond d Delete (cond f Find (cond p Passed
    (cond k (Fields lists.Count) (cond g (Fields lists.FindAndModify) (cond q (Fields lists.Distinct)
    (cond r (Fields lists.CreateIndexes) Unknown))))))))) ≡ true
    → k ≡ false → g ≡ false → q ≡ false
    → Fields lists.CreateIndexes ≡ cond i Insert (cond u Update (cond d Delete (cond f Find (cond p Passed
    (cond k (Fields lists.Count) (cond g (Fields lists.FindAndModify) (cond q (Fields lists.Distinct)
    (cond r (Fields lists.CreateIndexes) Unknown))))))))
by_rest true u d f p k g q r m a b e = absurd (false≢true m)
by_rest false true d f p k g q r m a b e = absurd (false≢true m)
by_rest false false true f p k g q r m a b e = absurd (false≢true m)
by_rest false false false true p k g q r m a b e = absurd (false≢true m)
by_rest false false false false true k g q r m a b e = absurd (false≢true m)
by_rest false false false false false true g q r m a b e = absurd (false≢true (sym a))
by_rest false false false false false false true q r m a b e = absurd (false≢true (sym b))
by_rest false false false false false false false true r m a b e = absurd (false≢true (sym e))
by_rest false false false false false false false false true m a b e = refl
by_rest false false false false false false false false false m a b e = absurd (false≢true m)

pub indexing_is : (c : Items) → is_library_command c ≡ true → named (first_name c) (codes "count") ≡ false
    → named (first_name c) (codes "findAndModify") ≡ false → named (first_name c) (codes "distinct") ≡ false
    → Fields lists.CreateIndexes ≡ command_of (names_of c)
indexing_is no_items m a b e = absurd (false≢true m)
indexing_is (item name t is) m a b e =
    by_rest (named name (codes "insert")) (named name (codes "update")) (named name (codes "delete"))
    (named name (codes "find")) (is_passed name) (named name (codes "count")) (named name (codes "findAndModify"))
    (named name (codes "distinct")) (named name (codes "createIndexes")) m a b e

-- what is no protected value: it has no reasons of its own, no key and no mark
pub record IsOpen (s : Station) : Type 0 where
  pub role : (rows : List Row) (e : Entry) → of_role rows s e ≡ []
  pub pointer : (rows : List Row) → pointer_offence rows [] s ≡ None
  pub unmarked : (v : Visit) → mark_at s v ≡ []

-- a command is none, nor is a document of which each field is listed
name_open : (n : CommandName) → IsOpen (name_station n)
name_open names.Insert = record { role = λ rows e. refl; pointer = λ rows. refl; unmarked = λ v. refl }
name_open names.Update = record { role = λ rows e. refl; pointer = λ rows. refl; unmarked = λ v. refl }
name_open names.Delete = record { role = λ rows e. refl; pointer = λ rows. refl; unmarked = λ v. refl }
name_open names.Find = record { role = λ rows e. refl; pointer = λ rows. refl; unmarked = λ v. refl }

listed_open : (l : Listed) → IsOpen (Fields l)
listed_open l = record { role = λ rows e. refl; pointer = λ rows. refl; unmarked = λ v. refl }

-- why a command itself is refused: it lacks a field that it must have
own_offence : (rows : List Row) (c : Items) (u : Station) (b : Bool) → IsOpen u → u ≡ command_of (names_of c)
    → when b BadField ≡ command_lacks u (names_of c)
    → ruled_offence rows Outside [] (command_entry c) ≡ least (when b BadField)
unfolding ruled_offence
own_offence rows c u b clear stands has =
    ap (λ (s : Station). least (of_role rows s (command_entry c) ++ command_lacks s (names_of c))) (sym stands)
    ∙ ap (λ (rs : List Reason). least (rs ++ command_lacks u (names_of c))) (clear.role rows (command_entry c))
    ∙ ap least (sym has)

lacking_at : (rows : List Row) (at : ℕ) (c : Items) (u : Station) → IsOpen u → u ≡ command_of (names_of c)
    → when true BadField ≡ command_lacks u (names_of c)
    → first_refusal (ruled_of rows) (command_visits rows at c) ≡ Some (record { reason = BadField; at = 0 })
lacking_at rows at c u clear stands has =
    ap (λ (r : Option Reason). or_else
    (refused_at 0 (first_reason r (pointer_offence rows [] (command_of (names_of c)))))
    (first_refusal (ruled_of rows) (part_visits rows (command_of (names_of c)) at c)))
    (own_offence rows c u true clear stands has)

pub lacking : (rows : List Row) (at : ℕ) (c : Items) (n : CommandName) → name_station n ≡ command_of (names_of c)
    → when true BadField ≡ command_lacks (name_station n) (names_of c)
    → first_refusal (ruled_of rows) (command_visits rows at c) ≡ Some (record { reason = BadField; at = 0 })
lacking rows at c n stands has = lacking_at rows at c (name_station n) (name_open n) stands has

pub listed_lacking : (rows : List Row) (at : ℕ) (c : Items) (l : Listed) → Fields l ≡ command_of (names_of c)
    → when true BadField ≡ command_lacks (Fields l) (names_of c)
    → first_refusal (ruled_of rows) (command_visits rows at c) ≡ Some (record { reason = BadField; at = 0 })
listed_lacking rows at c l stands has = lacking_at rows at c (Fields l) (listed_open l) stands has

-- a command that lacks nothing isn't refused itself
own_clean : (rows : List Row) (c : Items) (u : Station) → IsOpen u → u ≡ command_of (names_of c)
    → when false BadField ≡ command_lacks u (names_of c)
    → ruled_of rows (command_visit c) ≡ None
own_clean rows c u clear stands has =
    ap (λ (r : Option Reason). first_reason r (pointer_offence rows [] (command_of (names_of c))))
    (own_offence rows c u false clear stands has)
    ∙ ap (pointer_offence rows []) (sym stands) ∙ clear.pointer rows

-- the places of a command that lacks nothing: those of its fields
complete_at : (rows : List Row) (command : At) (u : Station) (before after : List Mark)
    (result : Result (Unit {0}) MarkFault) → IsOpen u
    → u ≡ command_of (names_of command.tree)
    → when false BadField ≡ command_lacks u (names_of command.tree)
    → MarksPlaces rows (part_visits rows u command.start command.tree) before after result
    → MarksPlaces rows (command_visits rows command.start command.tree) before after result
complete_at rows command u before after result clear stands has told =
    let c = command.tree in
    let at = command.start in
    told_as _ _ _ _ before after result
    (sym (ap (λ (ms : List Mark). ms ++ marks rows (part_visits rows u at c)) (clear.unmarked (command_visit c)))
    ∙ ap (λ (s : Station). mark_at s (command_visit c) ++ marks rows (part_visits rows s at c)) stands)
    (ap (λ (s : Station). first_refusal (ruled_of rows) (part_visits rows s at c)) stands
    ∙ sym (ap (λ (r : Option Reason). or_else (refused_at 0 r)
    (first_refusal (ruled_of rows) (part_visits rows (command_of (names_of c)) at c)))
    (own_clean rows c u clear stands has)))
    told

pub complete : (rows : List Row) (command : At) (n : CommandName) (before after : List Mark)
    (result : Result (Unit {0}) MarkFault)
    → name_station n ≡ command_of (names_of command.tree)
    → when false BadField ≡ command_lacks (name_station n) (names_of command.tree)
    → MarksPlaces rows (part_visits rows (name_station n) command.start command.tree) before after result
    → MarksPlaces rows (command_visits rows command.start command.tree) before after result
complete rows command n before after result stands has told =
    complete_at rows command (name_station n) before after result (name_open n) stands has told

pub listed_complete : (rows : List Row) (command : At) (l : Listed) (before after : List Mark)
    (result : Result (Unit {0}) MarkFault)
    → Fields l ≡ command_of (names_of command.tree)
    → when false BadField ≡ command_lacks (Fields l) (names_of command.tree)
    → MarksPlaces rows (part_visits rows (Fields l) command.start command.tree) before after result
    → MarksPlaces rows (command_visits rows command.start command.tree) before after result
listed_complete rows command l before after result stands has told =
    complete_at rows command (Fields l) before after result (listed_open l) stands has told

-- without rules a command has no marks and isn't refused
pub no_rows : (rows : List Row) (c : At) → length rows ≡ 0 → TellsMarks rows c (Ok [])
no_rows [] c e = (sym (no_rows_no_roles c.start c.tree), unruled (command_visits [] c.start c.tree))
no_rows (row ∷ rows) c e = absurd (omega (arith, e))

-- with rules, a refusal of a command's places is the verdict on its contents
pub refused_contents : (rows : List Row) (c : At) (before after : List Mark) (fault : MarkFault) → 0 < length rows
    → MarksPlaces rows (command_visits rows c.start c.tree) before after (Err fault) → TellsMarks rows c (Err fault)
refused_contents rows c before after (faults.Refused reason at) some told = with_rows rows c.start c.tree some ∙ told
refused_contents rows c before after faults.Memory some told = told
