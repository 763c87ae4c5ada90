-- The info that is found for the collection of a command is kept.
use Rattle.std.proofs.Common.{◌≡◌, ◌∙◌, ℕ, ◌+◌, Bool, true, false, ◌&&◌, cond, List, [], ◌∷◌, length, Option}
use Rattle.std.proofs.Common.{Some, None, refl, sym, ap, subst}
use Rattle.std.proofs.lemmas.Bool.{false≢true}
use Rattle.bson_codec.specs.Borrowed.{At}
use Rattle.bson_tree.specs.Tree.{Items, no_items, item}
use Rattle.command_marker.specs.Commands.{collection_in, is_marked_command, is_wide_command}
use Rattle.command_marker.specs.Fields.{is_marked_name, is_wide_name, first_more, first_reasons}
use Rattle.command_marker.proofs.Checked.{wide_read}
use Rattle.command_marker.proofs.Targets.{fields_told, marked_read, string_left}
use Rattle.command_marker.proofs.TargetsMore.{fields_told as more_told}
use Rattle.encrypt_schema.specs.Commands.More.{target_more_verdict}
use Rattle.encrypt_schema.specs.Commands.Offences.{is_empty, is_string, least, text_of}
use Rattle.encrypt_schema.specs.Commands.Stations.{is_passed}
use Rattle.encrypt_schema.specs.Commands.Targets.{info_of}
use Rattle.encrypt_schema.specs.Commands.Visits.{Refusal, entry, or_else, raw_of, refused_at, target_verdict}
use Rattle.encrypt_schema.specs.Language.Collection.{Collection, collection_of}
use Rattle.encrypt_schema.specs.Language.Names.{named}
use Rattle.encrypt_schema.specs.declared.command.reason.Reason.{Reason}
use Rattle.context_machine.specs.Beginning.{fed_found}
use Rattle.context_machine.specs.States.{Asks}

-- what is found has the name that was asked for

named_by : (i : Collection) (o : Option Collection) (name : List ℕ) (c : Collection) (b : Bool) → named i.name name ≡ b
    → cond b (Some i) o ≡ Some c → (o ≡ Some c → named c.name name ≡ true) → named c.name name ≡ true
named_by i o name c true is found others =
    let same : i ≡ c = cc in
    subst (λ (x : Collection). named x.name name ≡ true) same is
named_by i o name c false is found others = others found

has_name : (infos : List Collection) (name : List ℕ) (c : Collection) → collection_of infos name ≡ Some c
    → named c.name name ≡ true
has_name [] name c found = absurd cc
has_name (i ∷ is) name c found =
    named_by i (collection_of is name) name c (named i.name name) refl found (has_name is name c)

kept_by : (infos : List Collection) (command : At) (o : Option Collection)
    → collection_of infos (collection_in command.tree) ≡ o
    → fed_found (record { command = command; info = None }) o ≡ record { command = command; info = o }
kept_by infos command None found = refl
kept_by infos command (Some c) found =
    let nothing : Asks = record { command = command; info = None } in
    ap (λ (b : Bool). cond (b && true) (record { command = command; info = Some c }) nothing)
    (has_name infos (collection_in command.tree) c found)

pub found_kept : (infos : List Collection) (command : At)
    → fed_found (record { command = command; info = None }) (collection_of infos (collection_in command.tree))
    ≡ record { command = command; info = collection_of infos (collection_in command.tree) }
found_kept infos command = kept_by infos command (collection_of infos (collection_in command.tree)) refl

-- the first field of a marked command that isn't refused names its collection

first_none : (r s : Option Refusal) → or_else r s ≡ None → r ≡ None
first_none None s e = refl
first_none (Some x) s e = absurd cc

unrefused : (at : ℕ) (o : Option Reason) → refused_at at o ≡ None → o ≡ None
unrefused at None e = refl
unrefused at (Some r) e = absurd cc

found_in : (db : List ℕ) (infos : List Collection) (at : ℕ) (c : Items) → target_verdict db at c ≡ None
    → is_marked_command c ≡ true → collection_of infos (collection_in c) ≡ info_of infos c
unfolding info_of
found_in db infos at no_items free marked = absurd (false≢true marked)
found_in db infos at (item name t is) free marked =
    let passed : is_passed name ≡ false = marked_read (item name t is) marked in
    let start = at + 4 + (2 + length name) in
    let fields = sym (fields_told db at name t is passed) ∙ free in
    let first = first_none (refused_at start (least (first_reasons (entry name t)))) _ fields in
    let string : is_string (entry name t) ≡ true =
    string_left (is_marked_name name) (is_string (entry name t)) (is_empty (text_of (raw_of t)))
    (sym (unrefused start _ first)) in
    sym (ap (λ (b : Bool). cond b (collection_of infos (text_of (raw_of t))) None) string)

pub found_info : (db : List ℕ) (infos : List Collection) (command : At)
    → target_verdict db command.start command.tree ≡ None → is_marked_command command.tree ≡ true
    → collection_of infos (collection_in command.tree) ≡ info_of infos command.tree
found_info db infos command free marked = found_in db infos command.start command.tree free marked

-- the same of a command that a library takes
more_in : (db : List ℕ) (infos : List Collection) (at : ℕ) (c : Items) → target_more_verdict db at c ≡ None
    → is_wide_command c ≡ true → collection_of infos (collection_in c) ≡ info_of infos c
unfolding info_of
more_in db infos at no_items free wide = absurd (false≢true wide)
more_in db infos at (item name t is) free wide =
    let passed : is_passed name ≡ false = wide_read (item name t is) wide in
    let start = at + 4 + (2 + length name) in
    let fields = sym (more_told db at name t is passed) ∙ free in
    let first = first_none (refused_at start (least (first_more (entry name t)))) _ fields in
    let string : is_string (entry name t) ≡ true =
    string_left (is_wide_name name) (is_string (entry name t)) (is_empty (text_of (raw_of t)))
    (sym (unrefused start _ first)) in
    sym (ap (λ (b : Bool). cond b (collection_of infos (text_of (raw_of t))) None) string)

pub found_more : (db : List ℕ) (infos : List Collection) (command : At)
    → target_more_verdict db command.start command.tree ≡ None → is_wide_command command.tree ≡ true
    → collection_of infos (collection_in command.tree) ≡ info_of infos command.tree
found_more db infos command free wide = more_in db infos command.start command.tree free wide
