-- Listed fields, judged by what they hold; and the documents that have them.
use Rattle.std.proofs.Common.{◌≡◌, ◌==◌, Bool, true, false, cond, not, ◌||◌, ◌&&◌, ℕ, List, [], ◌∷◌, ◌++◌, Option}
use Rattle.std.proofs.Common.{Some, None, Result, Ok, Err, refl, sym, ap, subst, ◌∙◌}
use Rattle.bson_tree.specs.Tree.{Tree, leaf, tag_of, kids_of}
use Rattle.bson_codec.specs.Layout.{string_bytes}
use Rattle.encrypt_schema.proofs.Language.Texts.{text_is}
use Rattle.encrypt_schema.specs.declared.command.listed.FieldKind.{FieldKind}
use Rattle.encrypt_schema.specs.declared.command.listed.FieldKind.TheVariants as kinds
use Rattle.encrypt_schema.specs.declared.command.listed.Listed.{Listed}
use Rattle.encrypt_schema.specs.declared.command.reason.Reason.{Reason}
use Rattle.encrypt_schema.specs.declared.command.reason.Reason.TheVariants.{BadField, BelowProtected, FieldNotAllowed}
use Rattle.encrypt_schema.specs.declared.command.reason.Reason.TheVariants.{Pipeline, PositionalOnPath}
use Rattle.encrypt_schema.specs.declared.command.walking.Next.{Next}
use Rattle.encrypt_schema.specs.declared.path.class.Class.{Class}
use Rattle.encrypt_schema.specs.declared.path.class.Class.TheVariants.{Clear}
use Rattle.encrypt_schema.specs.Paths.Classes.{class}
use Rattle.encrypt_schema.specs.Paths.Dotted.{positional, split}
use Rattle.encrypt_schema.specs.declared.command.walking.Next.TheVariants as nexts
use Rattle.encrypt_schema.specs.Language.Names.{is_among}
use Rattle.encrypt_schema.specs.Language.Row.{Row}
use Rattle.encrypt_schema.specs.Commands.ListedFields.{field_kind, is_index_type}
use Rattle.encrypt_schema.specs.Commands.Offences.{held_wrong, least, of_role, ruled_offence, text_of, text_wrong}
use Rattle.encrypt_schema.specs.Commands.Offences.{is_comparable, path_wrong, positional_path, unless, when}
use Rattle.encrypt_schema.specs.Commands.Stations.{Entry, Station, Fields, IndexKeys, Passed, held_at}
use Rattle.encrypt_schema.specs.Commands.Stations.{Operators, Document, is_document, is_array, is_dollar_first}
use Rattle.encrypt_schema.specs.Commands.Stations.{dotted}
use Rattle.encrypt_schema.specs.Commands.Stations.{update_of}
use Rattle.encrypt_schema.specs.Commands.Visits.{names_of, entry, raw_of}
use Rattle.command_marker.specs.declared.places.CommandPlace.{CommandPlace}
use Rattle.command_marker.specs.Places.{Answers, CommandStands, Holds, Judges, command_station, hint_answer, inside_if}

-- a value of the right type is looked into at this place, or refused
pub held_inside : (rows : List Row) (s : Station) (place : CommandPlace) (reason : Reason) (b : Bool)
    → command_station place rows ≡ s → CommandStands place rows
    → Answers rows (cond b s Passed) (least (when (not b) reason)) (inside_if b place reason)
held_inside rows s place reason true p q = (p, q, refl)
held_inside rows s place reason false p q = refl

-- a hint
pub held_hint : (rows : List Row) (d s : Bool)
    → Answers rows (cond d IndexKeys Passed) (least (when (not (d || s)) FieldNotAllowed)) (hint_answer d s)
held_hint rows true s = (refl, tt, refl)
held_hint rows false true = (refl, tt, refl)
held_hint rows false false = refl

-- one value
pub held_word : (rows : List Row) (b : Bool)
    → Answers rows Passed (least (when b FieldNotAllowed)) (cond b (Err FieldNotAllowed) (Ok nexts.Passed))
held_word rows true = refl
held_word rows false = (refl, tt, refl)

-- an update, by the tests of its type
pub update_array : (rows : List Row) (name : List ℕ) (t : Tree) → (tag_of t == 4) ≡ true
    → Some Pipeline ≡ least (held_wrong rows kinds.Update (entry name t))
update_array rows name t a = rw a refl

pub update_other : (rows : List Row) (name : List ℕ) (t : Tree) → (tag_of t == 4) ≡ false → (tag_of t == 3) ≡ false
    → Some BadField ≡ least (held_wrong rows kinds.Update (entry name t))
update_other rows name t a d = rw (a, d) refl

pub update_clean : (rows : List Row) (name : List ℕ) (t : Tree) → (tag_of t == 4) ≡ false → (tag_of t == 3) ≡ true
    → None ≡ least (held_wrong rows kinds.Update (entry name t))
update_clean rows name t a d = rw (a, d) refl

pub update_at : (name : List ℕ) (t : Tree) → (tag_of t == 3) ≡ true
    → held_at kinds.Update (entry name t) ≡ update_of (names_of (kids_of t))
update_at name t d = rw d refl

-- the path of a distinct
by_position : (rows : List Row) (b : Bool) (c : Class)
    → least (when b PositionalOnPath ++ unless (is_comparable rows (cond b Clear c)) BelowProtected)
    ≡ least (cond b (PositionalOnPath ∷ []) (unless (is_comparable rows c) BelowProtected))
by_position rows true c = refl
by_position rows false c = refl

text_told : (rows : List Row) (text : List ℕ)
    → least (positional_path rows text ++ unless (is_comparable rows (dotted rows text)) BelowProtected)
    ≡ least (text_wrong rows text)
unfolding text_wrong
text_told rows text = by_position rows (positional rows (split text)) (class rows (split text))

pub path_text : (rows : List Row) (name : List ℕ) (t : Tree) (text : List ℕ) → t ≡ leaf 2 (string_bytes text)
    → least (positional_path rows text ++ unless (is_comparable rows (dotted rows text)) BelowProtected)
    ≡ least (path_wrong rows (entry name t))
path_text rows name t text e =
    rw e (text_told rows text ∙ ap (λ (x : List ℕ). least (text_wrong rows x)) (sym (text_is text)))

pub path_other : (rows : List Row) (name : List ℕ) (t : Tree) → (tag_of t == 2) ≡ false
    → Some BadField ≡ least (path_wrong rows (entry name t))
path_other rows name t e = rw e refl

-- the name of a type of index
pub type_found : (t : Tree) (text : List ℕ) → t ≡ leaf 2 (string_bytes text)
    → is_index_type text ≡ ((tag_of t == 2) && is_index_type (text_of (raw_of t)))
type_found t text e = rw e (ap is_index_type (sym (text_is text)))

pub type_none : (t : Tree) → (tag_of t == 2) ≡ false
    → false ≡ ((tag_of t == 2) && is_index_type (text_of (raw_of t)))
type_none t e = ap (λ (b : Bool). b && is_index_type (text_of (raw_of t))) (sym e)

-- what a field holds is said of the kind that it is
pub held_as : (rows : List Row) (kind other : FieldKind) (e : Entry) (result : Result (Next CommandPlace) Reason)
    → kind ≡ other → Holds rows other e result → Holds rows kind e result
held_as rows kind other e result is told = subst (λ (k : FieldKind). Holds rows k e result) (sym is) told

-- a choice of two stations that have no reasons of their own
pub no_reasons : (rows : List Row) (b : Bool) (s u : Station) (e : Entry) → of_role rows s e ≡ []
    → of_role rows u e ≡ []
    → of_role rows (cond b s u) e ≡ []
no_reasons rows true s u e p q = p
no_reasons rows false s u e p q = q

-- a listed field has none by what it is itself
held_role : (rows : List Row) (kind : FieldKind) (e : Entry) → of_role rows (held_at kind e) e ≡ []
held_role rows kinds.Filter e = no_reasons rows (is_document e) _ Passed e refl refl
held_role rows kinds.Update e =
    no_reasons rows (is_document e) _ Passed e
    (no_reasons rows (is_dollar_first e.names) Operators (Document []) e refl refl) refl
held_role rows kinds.Keys e = no_reasons rows (is_document e) _ Passed e refl refl
held_role rows kinds.IndexKeys e = no_reasons rows (is_document e) _ Passed e refl refl
held_role rows kinds.Hint e = no_reasons rows (is_document e) _ Passed e refl refl
held_role rows kinds.Indexes e = no_reasons rows (is_array e) _ Passed e refl refl
held_role rows (kinds.Own own) e = no_reasons rows (is_document e) _ Passed e refl refl
held_role rows kinds.Path e = refl
held_role rows kinds.Word e = refl
held_role rows kinds.Unlisted e = refl

-- the offence of a listed field: it stands for the second time; else by what it holds
listed_offence : (rows : List Row) (l : Listed) (elder : List (List ℕ)) (e : Entry)
    → ruled_offence rows (Fields l) elder e
    ≡ least (cond (is_among e.name elder) (BadField ∷ []) (held_wrong rows (field_kind l e.name) e))
unfolding ruled_offence
listed_offence rows l elder e =
    ap (λ (rs : List Reason). least (rs ++ cond (is_among e.name elder) (BadField ∷ [])
    (held_wrong rows (field_kind l e.name) e))) (held_role rows (field_kind l e.name) e)

pub listed_again : (rows : List Row) (l : Listed) (elder : List (List ℕ)) (e : Entry) → is_among e.name elder ≡ true
    → Some BadField ≡ ruled_offence rows (Fields l) elder e
listed_again rows l elder e again =
    sym (listed_offence rows l elder e
    ∙ ap (λ (b : Bool). least (cond b (BadField ∷ []) (held_wrong rows (field_kind l e.name) e))) again)

pub listed_once : (rows : List Row) (l : Listed) (elder : List (List ℕ)) (e : Entry)
    (result : Result (Next CommandPlace) Reason) → is_among e.name elder ≡ false
    → Holds rows (field_kind l e.name) e result → Judges rows (Fields l) elder e result
listed_once rows l elder e result once told =
    subst (λ (o : Option Reason). Answers rows (held_at (field_kind l e.name) e) o result)
    (sym (listed_offence rows l elder e
    ∙ ap (λ (b : Bool). least (cond b (BadField ∷ []) (held_wrong rows (field_kind l e.name) e))) once)) told
