-- Noninterference: two commands with equal skeletons have equal protected places, equal verdicts.
use Rattle.std.proofs.Common.{◌≡◌, ◌==◌, ℕ, ◌+◌, Bool, true, false, cond, codes, List, [], ◌∷◌, map, Option, None}
use Rattle.std.proofs.Common.{if◌then◌else◌, refl, sym, ap, ◌∙◌}
use Rattle.bson_tree.specs.Tree.{Items, no_items, item}
use Rattle.encrypt_schema.specs.declared.command.reason.Reason.{Reason}
use Rattle.encrypt_schema.specs.Language.Collection.{Collection, collection_of}
use Rattle.encrypt_schema.specs.Language.Names.{named}
use Rattle.encrypt_schema.specs.Commands.Offences.{is_marked, text_of}
use Rattle.encrypt_schema.specs.Commands.Targets.{info_of, rows_in, rows_of, verdict}
use Rattle.encrypt_schema.specs.Language.Row.{Row}
use Rattle.encrypt_schema.specs.Commands.Stations.{Entry, Station, Outside, Insert, Update, Delete, Find, Passed}
use Rattle.encrypt_schema.specs.Commands.Stations.{is_passed, command_of, station, has_role}
use Rattle.encrypt_schema.specs.Commands.Pointers.{pointed}
use Rattle.encrypt_schema.specs.Commands.Visits.{names_of, entry, command_entry, Visit, command_visit, command_visits}
use Rattle.encrypt_schema.specs.Commands.Visits.{marks, roles, target_of, view_of, content_of, Refusal, or_else}
use Rattle.encrypt_schema.specs.Commands.Visits.{first_refusal, content_verdict, verdict_on}
use Rattle.encrypt_schema.specs.Commands.Skeletons.{Skeletons, no_more, more, skeleton}
use Rattle.encrypt_schema.proofs.Commands.Tables.{without, library_elim, listed_plain}
use Rattle.encrypt_schema.proofs.Commands.Widths.{entry_in, entry_kept}
use Rattle.encrypt_schema.proofs.Commands.Worlds.{IsVeiled, command_shown, command_seen, veil, command_kept}
use Rattle.encrypt_schema.proofs.Commands.Worlds.{marks_veiled, field_without_role, target_veiled, view_veiled}
use Rattle.encrypt_schema.proofs.Commands.Worlds.{content_veiled, first_veiled}
use Rattle.encrypt_schema.proofs.Commands.Silence.{Alike, alike_cons, cut, IsQuiet, target_quiet, view_quiet}
use Rattle.encrypt_schema.proofs.Commands.Silence.{content_quiet}

-- what is shown of a command has its marks and its refusal in a pass
pub shown_alike : (pass : Visit → Option Reason) (rows : List Row) (at : ℕ) (c : Items) → IsQuiet pass
    → Alike pass rows (command_shown rows at c) (command_visits rows at c)
shown_alike pass rows at c quiet =
    alike_cons pass rows (command_visit c) _ _
    (cut pass rows (station rows Outside (command_entry c))
    (pointed rows (station rows Outside (command_entry c)) [] at c)
    (at + 4) [] c quiet)

-- what is shown of two commands with equal skeletons, behind its veil, is one
pub shown_equal : (rows : List Row) (at : ℕ) (c d : Items) → skeleton rows c ≡ skeleton rows d
    → map (veil rows) (command_shown rows at c) ≡ map (veil rows) (command_shown rows at d)
shown_equal rows at c d e = command_kept rows at c ∙ (ap (command_seen rows at) e ∙ sym (command_kept rows at d))

shown_marks : (rows : List Row) (at : ℕ) (c : Items)
    → marks rows (map (veil rows) (command_shown rows at c)) ≡ roles rows at c
shown_marks rows at c = marks_veiled rows (command_shown rows at c)
    ∙ (shown_alike (target_of []) rows at c (target_quiet [])).marked

-- commands with equal skeletons have the same protected places
pub equal_roles : (rows : List Row) (at : ℕ) (c d : Items) → skeleton rows c ≡ skeleton rows d
    → roles rows at c ≡ roles rows at d
equal_roles rows at c d e =
    sym (shown_marks rows at c) ∙ (ap (marks rows) (shown_equal rows at c d e) ∙ shown_marks rows at d)

first_shown : (pass : Visit → Option Reason) (rows : List Row) (at : ℕ) (c : Items) → IsQuiet pass → IsVeiled pass rows
    → first_refusal pass (map (veil rows) (command_shown rows at c)) ≡ first_refusal pass (command_visits rows at c)
first_shown pass rows at c quiet read =
    first_veiled pass rows (command_shown rows at c) read ∙ (shown_alike pass rows at c quiet).refused

-- and the same first refusal in a pass
pub equal_refusals : (pass : Visit → Option Reason) (rows : List Row) (at : ℕ) (c d : Items) → IsQuiet pass
    → IsVeiled pass rows
    → skeleton rows c ≡ skeleton rows d
    → first_refusal pass (command_visits rows at c) ≡ first_refusal pass (command_visits rows at d)
equal_refusals pass rows at c d quiet read e =
    sym (first_shown pass rows at c quiet read) ∙
    (ap (first_refusal pass) (shown_equal rows at c d e) ∙ first_shown pass rows at d quiet read)

-- commands with equal skeletons have the same verdict on their contents
pub equal_content_verdicts : (rows : List Row) (at : ℕ) (c d : Items) → skeleton rows c ≡ skeleton rows d
    → content_verdict rows at c ≡ content_verdict rows at d
equal_content_verdicts rows at c d e = equal_refusals (content_of rows) rows at c d (content_quiet rows)
    (content_veiled rows) e

-- no field of a command is protected
record IsCommand (rows : List Row) (s : Station) : Type 0 where
  pub fields : (e : Entry) → has_role (station rows s e) ≡ false

is_command_cond : (rows : List Row) (b : Bool) (s u : Station) → IsCommand rows s → IsCommand rows u
    → IsCommand rows (cond b s u)
is_command_cond rows true s u p q = p
is_command_cond rows false s u p q = q

marked_fields : (rows : List Row) (s : Station) → is_marked s ≡ true → IsCommand rows s
marked_fields rows s h = record { fields = λ e. field_without_role rows s e h }

command_without_roles : (rows : List Row) (names : List (List ℕ)) → IsCommand rows (command_of names)
command_without_roles rows [] = record { fields = λ e. refl }
command_without_roles rows (n ∷ ns) =
    is_command_cond rows (named n (codes "insert")) Insert _ (marked_fields rows Insert refl)
    (is_command_cond rows (named n (codes "update")) Update _ (marked_fields rows Update refl)
    (is_command_cond rows (named n (codes "delete")) Delete _ (marked_fields rows Delete refl)
    (is_command_cond rows (named n (codes "find")) Find _ (marked_fields rows Find refl)
    (is_command_cond rows (is_passed n) Passed _ (record { fields = λ e. refl })
    (library_elim (IsCommand rows) (λ l c. record { fields = λ e. listed_plain rows l e })
    (record { fields = λ e. refl }) n)))))

-- the fields of a skeleton's command, as far as the collection is read from them
abbrev info_in : List Collection → Skeletons → Option Collection
info_in collections no_more = None
info_in collections (more name k ks) =
    if (entry_in name k).tag == 2 then collection_of collections (text_of (entry_in name k).raw) else None

info_told : (collections : List Collection) (rows : List Row) (c : Items)
    → info_of collections c ≡ info_in collections (skeleton rows c)
unfolding info_of
info_told collections rows no_items = refl
info_told collections rows (item name t is) =
    let s = command_of (name ∷ names_of is) in
    let kept = sym (ap (λ (b : Bool). cond b (without (entry name t)) (entry name t))
    ((command_without_roles rows (name ∷ names_of is)).fields (entry name t)))
    ∙ entry_kept rows (station rows s (entry name t)) name t in
    ap (λ (e : Entry). if e.tag == 2 then collection_of collections (text_of e.raw) else None) kept

-- and go to the same collection
pub equal_infos : (collections : List Collection) (rows : List Row) (c d : Items) → skeleton rows c ≡ skeleton rows d
    → info_of collections c ≡ info_of collections d
equal_infos collections rows c d e = info_told collections rows c
    ∙ (ap (info_in collections) e ∙ sym (info_told collections rows d))

-- under the same rules
pub equal_rows : (collections : List Collection) (rows : List Row) (c d : Items) → skeleton rows c ≡ skeleton rows d
    → rows_of collections c ≡ rows_of collections d
equal_rows collections rows c d e = ap rows_in (equal_infos collections rows c d e)

-- commands with equal skeletons under the first one's rules have the same verdict
pub equal_verdicts : (db : List ℕ) (collections : List Collection) (at : ℕ) (c d : Items)
    → skeleton (rows_of collections c) c ≡ skeleton (rows_of collections c) d
    → verdict db collections at c ≡ verdict db collections at d
equal_verdicts db collections at c d e =
    let rows = rows_of collections c in
    let info = info_of collections c in
    let t = equal_refusals (target_of db) rows at c d (target_quiet db) (target_veiled db rows) e in
    let v = equal_refusals (view_of info) rows at c d (view_quiet info) (view_veiled info rows) e in
    let r = equal_refusals (content_of rows) rows at c d (content_quiet rows) (content_veiled rows) e in
    ap (λ (q : Option Refusal). or_else q (or_else (first_refusal (view_of info) (command_visits rows at c))
    (first_refusal (content_of rows) (command_visits rows at c)))) t
    ∙ ap (λ (q : Option Refusal). or_else (first_refusal (target_of db) (command_visits rows at d))
    (or_else q (first_refusal (content_of rows) (command_visits rows at c)))) v
    ∙ ap (λ (q : Option Refusal). or_else (first_refusal (target_of db) (command_visits rows at d))
    (or_else (first_refusal (view_of info) (command_visits rows at d)) q)) r
    ∙ ap (λ (i : Option Collection). verdict_on db i (rows_in i) (command_visits (rows_in i) at d))
    (equal_infos collections rows c d e)
