-- What is asked, drawn and measured of a command is read from its skeleton, and its needs from its blank.
use Rattle.std.proofs.Common.{◌≡◌, ◌∙◌, ℕ, ◌+◌, ◌-◌, Bool, true, false, ◌||◌, cond, codes, List, [], ◌∷◌, ◌++◌, length}
use Rattle.std.proofs.Common.{map, Option, unwrap_or, if◌then◌else◌, refl, sym, ap, ap₂, arith}
use Rattle.bson_tree.specs.Spelling.{doc_bytes, items_bytes}
use Rattle.bson_tree.specs.Tree.{Items, no_items, item}
use Rattle.bson_tree.proofs.Sizes.{framed_size}
use Rattle.bson_codec.specs.Borrowed.{At}
use Rattle.command_marker.specs.Commands.{collection_in}
use Rattle.encrypt_schema.specs.Commands.Chains.{use_of_mark, use_of_site}
use Rattle.encrypt_schema.specs.Commands.Offences.{text_of}
use Rattle.encrypt_schema.specs.Commands.Skeletons.{Skeletons, no_more, more, blank, skeleton, widths_of}
use Rattle.encrypt_schema.specs.Commands.Stations.{Entry, Station, Outside, Insert, Update, Delete, Find, Passed}
use Rattle.encrypt_schema.specs.Commands.Stations.{command_of, has_role, is_passed, library_of, station}
use Rattle.encrypt_schema.proofs.Commands.Tables.{library_elim, listed_plain}
use Rattle.encrypt_schema.specs.Commands.Visits.{command_entry, command_visits, entry, names_of, roles, texts}
use Rattle.encrypt_schema.specs.Language.Names.{named}
use Rattle.encrypt_schema.specs.Language.Policies.{policy_at}
use Rattle.encrypt_schema.specs.Language.Row.{Row}
use Rattle.encrypt_schema.specs.declared.command.marks.Mark.{Mark}
use Rattle.encrypt_schema.specs.declared.command.marks.Role.{Role}
use Rattle.encrypt_schema.proofs.Commands.BlankTexts.{blank_texts}
use Rattle.encrypt_schema.proofs.Commands.EqualTexts.{equal_texts}
use Rattle.encrypt_schema.proofs.Commands.Sites.{equal_sites, marks_of_sites}
use Rattle.encrypt_schema.proofs.Commands.Tables.{without}
use Rattle.encrypt_schema.proofs.Commands.TwoWorlds.{equal_roles}
use Rattle.encrypt_schema.proofs.Commands.Widths.{entry_in, entry_kept, widths_kept}
use Rattle.encrypt_schema.proofs.Commands.Worlds.{field_without_role}
use Rattle.payload6.specs.Needs.{Need, Name, name_text, need_by}
use Rattle.doc_rewrite.specs.Sites.{draw, draws_of, grown, need_named, sealed_width, site_of, sites_of}
use Rattle.context_machine.specs.Needs.{NeedAt, first_needs, is_needed, is_same, needs_alone, put_new, with_new}
use Rattle.context_machine.specs.Rings.{need_at, needs_of}
use Rattle.context_machine.proofs.NamesTold.{names_told}

-- ---- the name of the collection

unmarked_by : (rows : List Row) (e : Entry) (insert update delete find pass : Bool) (s : Station)
    → has_role (station rows s e) ≡ false
    → has_role (station rows (cond insert Insert (cond update Update (cond delete Delete (cond find Find
    (cond pass Passed s))))) e) ≡ false
unmarked_by rows e true update delete find pass s h = field_without_role rows Insert e refl
unmarked_by rows e false true delete find pass s h = field_without_role rows Update e refl
unmarked_by rows e false false true find pass s h = field_without_role rows Delete e refl
unmarked_by rows e false false false true pass s h = field_without_role rows Find e refl
unmarked_by rows e false false false false true s h = refl
unmarked_by rows e false false false false false s h = h

-- no field of a command is protected
field_unmarked : (rows : List Row) (name : List ℕ) (names : List (List ℕ)) (e : Entry)
    → has_role (station rows (command_of (name ∷ names)) e) ≡ false
field_unmarked rows name names e =
    unmarked_by rows e (named name (codes "insert")) (named name (codes "update")) (named name (codes "delete"))
    (named name (codes "find")) (is_passed name) (library_of name)
    (library_elim (λ s. has_role (station rows s e) ≡ false) (λ l c. listed_plain rows l e) refl name)

abbrev name_in : Skeletons → List ℕ
name_in no_more = []
name_in (more name k ks) = text_of (entry_in name k).raw

name_told : (rows : List Row) (c : Items) → collection_in c ≡ name_in (skeleton rows c)
name_told rows no_items = refl
name_told rows (item name t is) =
    let s = command_of (name ∷ names_of is) in
    let kept = sym (ap (λ (b : Bool). cond b (without (entry name t)) (entry name t))
    (field_unmarked rows name (names_of is) (entry name t)))
    ∙ entry_kept rows (station rows s (entry name t)) name t in
    ap (λ (e : Entry). text_of e.raw) kept

pub equal_collections : (rows : List Row) (c d : Items) → skeleton rows c ≡ skeleton rows d
    → collection_in c ≡ collection_in d
equal_collections rows c d e = name_told rows c ∙ ap name_in e ∙ sym (name_told rows d)

-- ---- needs, draws and sizes

pub equal_marks : (rows : List Row) (c d : At) → c.start ≡ d.start → skeleton rows c.tree ≡ skeleton rows d.tree
    → roles rows c.start c.tree ≡ roles rows d.start d.tree
equal_marks rows c d start e =
    ap (λ (at : ℕ). roles rows at c.tree) start ∙ equal_roles rows d.start c.tree d.tree e

-- what a mark's rule and its text name
abbrev pub named_by : List Row → ℕ → Option (List ℕ) → Need
named_by rows policy text = unwrap_or (need_by (policy_at policy rows).key text) (Name [])

-- the needs of marks whose texts are these
abbrev pub told_by : List Row → List Mark → List (Option (List ℕ)) → List NeedAt
told_by rows [] xs = []
told_by rows (m ∷ ms) [] = []
told_by rows (m ∷ ms) (x ∷ xs) = record { need = named_by rows m.policy x; at = m.start } ∷ told_by rows ms xs

needs_told : (rows : List Row) (d : At) (ms : List Mark)
    → map need_at (sites_of rows d ms) ≡ told_by rows ms (map (name_text d) ms)
needs_told rows d [] = refl
needs_told rows d (m ∷ ms) =
    ap (λ (ns : List NeedAt). need_at (site_of rows d m) ∷ ns) (needs_told rows d ms)

-- the needs of a command are those of its marks and of the texts of its places
pub needs_by_texts : (rows : List Row) (d : At)
    → needs_of rows d
    ≡ told_by rows (roles rows d.start d.tree) (texts rows (command_visits rows d.start d.tree))
needs_by_texts rows d =
    needs_told rows d (roles rows d.start d.tree)
    ∙ ap (told_by rows (roles rows d.start d.tree)) (names_told rows d)

pub equal_needs : (rows : List Row) (c d : At) → c.start ≡ d.start → skeleton rows c.tree ≡ skeleton rows d.tree
    → needs_of rows c ≡ needs_of rows d
equal_needs rows c d start e =
    needs_by_texts rows c
    ∙ ap₂ (told_by rows) (equal_marks rows c d start e)
    (ap (λ (at : ℕ). texts rows (command_visits rows at c.tree)) start ∙ equal_texts rows d.start c.tree d.tree e)
    ∙ sym (needs_by_texts rows d)

draws_alike : (rows : List Row) (c d : At) (ms : List Mark) → draws_of (sites_of rows c ms)
    ≡ draws_of (sites_of rows d ms)
draws_alike rows c d [] = refl
draws_alike rows c d (m ∷ ms) = ap (λ (n : ℕ). draw (policy_at m.policy rows).algorithm + n) (draws_alike rows c d ms)

grown_alike : (rows : List Row) (c d : At) (ms : List Mark) → grown (sites_of rows c ms) ≡ grown (sites_of rows d ms)
grown_alike rows c d [] = refl
grown_alike rows c d (m ∷ ms) =
    ap (λ (n : ℕ). (sealed_width (m.end - m.start) - (m.end - m.start)) + n) (grown_alike rows c d ms)

pub equal_draws : (rows : List Row) (c d : At) → c.start ≡ d.start → skeleton rows c.tree ≡ skeleton rows d.tree
    → draws_of (sites_of rows c (roles rows c.start c.tree)) ≡ draws_of (sites_of rows d (roles rows d.start d.tree))
equal_draws rows c d start e =
    ap (λ (ms : List Mark). draws_of (sites_of rows c ms)) (equal_marks rows c d start e)
    ∙ draws_alike rows c d (roles rows d.start d.tree)

equal_lengths : (rows : List Row) (c d : Items) → skeleton rows c ≡ skeleton rows d
    → length (doc_bytes c) ≡ length (doc_bytes d)
equal_lengths rows c d e = omega (
  arith,
  framed_size (items_bytes c),
  framed_size (items_bytes d),
  sym (widths_kept rows (station rows Outside (command_entry c)) c)
      ∙ ap widths_of e ∙ widths_kept rows (station rows Outside (command_entry d)) d,
)

pub equal_sizes : (rows : List Row) (c d : At) → c.start ≡ d.start → skeleton rows c.tree ≡ skeleton rows d.tree
    → length (doc_bytes c.tree) + grown (sites_of rows c (roles rows c.start c.tree))
    ≡ length (doc_bytes d.tree) + grown (sites_of rows d (roles rows d.start d.tree))
equal_sizes rows c d start e =
    ap₂ (λ (n m : ℕ). n + m) (equal_lengths rows c.tree d.tree e)
    (ap (λ (ms : List Mark). grown (sites_of rows c ms)) (equal_marks rows c d start e)
    ∙ grown_alike rows c d (roles rows d.start d.tree))

-- ---- needs and draws by rules, roles and texts alone

module _ (rows : List Row) where
  abbrev used_needs : List (ℕ × Role) → List (Option (List ℕ)) → List Need
  used_needs [] xs = []
  used_needs (u ∷ us) [] = []
  used_needs (u ∷ us) (x ∷ xs) = named_by rows u.0 x ∷ used_needs us xs

  abbrev used_draws : List (ℕ × Role) → ℕ
  used_draws [] = 0
  used_draws (u ∷ us) = draw (policy_at u.0 rows).algorithm + used_draws us

  alone_told : (d : At) (ms : List Mark)
      → needs_alone (map need_at (sites_of rows d ms)) ≡ used_needs (map use_of_mark ms) (map (name_text d) ms)
  alone_told d [] = refl
  alone_told d (m ∷ ms) = ap (λ (ns : List Need). need_named rows d m ∷ ns) (alone_told d ms)

  draws_told : (d : At) (ms : List Mark) → draws_of (sites_of rows d ms) ≡ used_draws (map use_of_mark ms)
  draws_told d [] = refl
  draws_told d (m ∷ ms) = ap (λ (n : ℕ). draw (policy_at m.policy rows).algorithm + n) (draws_told d ms)

  equal_uses : (c d : At) → blank rows c.tree ≡ blank rows d.tree
      → map use_of_mark (roles rows c.start c.tree) ≡ map use_of_mark (roles rows d.start d.tree)
  equal_uses c d e =
      marks_of_sites rows c.start c.tree ∙ ap (map use_of_site) (equal_sites rows c.tree d.tree e)
      ∙ sym (marks_of_sites rows d.start d.tree)

  pub equal_alone : (c d : At) → blank rows c.tree ≡ blank rows d.tree
      → needs_alone (needs_of rows c) ≡ needs_alone (needs_of rows d)
  equal_alone c d e =
      alone_told c (roles rows c.start c.tree)
      ∙ ap₂ used_needs (equal_uses c d e)
      (names_told rows c ∙ blank_texts rows c.start d.start c.tree d.tree e ∙ sym (names_told rows d))
      ∙ sym (alone_told d (roles rows d.start d.tree))

  pub blank_draws : (c d : At) → blank rows c.tree ≡ blank rows d.tree
      → draws_of (sites_of rows c (roles rows c.start c.tree)) ≡ draws_of (sites_of rows d (roles rows d.start d.tree))
  blank_draws c d e =
      draws_told c (roles rows c.start c.tree) ∙ ap used_draws (equal_uses c d e)
      ∙ sym (draws_told d (roles rows d.start d.tree))

-- ---- first needs, without where, are read from needs without where

abbrev is_there : Need → List Need → Bool
is_there need [] = false
is_there need (x ∷ xs) = is_same x need || is_there need xs

abbrev put_need : List Need → Need → List Need
put_need xs need = if is_there need xs then xs else xs ++ need ∷ []

abbrev with_needs : List Need → List Need → List Need
with_needs xs [] = xs
with_needs xs (need ∷ needs) = with_needs (put_need xs need) needs

is_told : (need : Need) (ns : List NeedAt) → is_needed need ns ≡ is_there need (needs_alone ns)
is_told need [] = refl
is_told need (n ∷ ns) = ap (λ (b : Bool). is_same n.need need || b) (is_told need ns)

alone_behind : (ns : List NeedAt) (n : NeedAt) → needs_alone (ns ++ n ∷ []) ≡ needs_alone ns ++ n.need ∷ []
alone_behind [] n = refl
alone_behind (m ∷ ms) n = ap (λ (needs : List Need). m.need ∷ needs) (alone_behind ms n)

put_by : (ns : List NeedAt) (n : NeedAt) (b : Bool)
    → needs_alone (cond b ns (ns ++ n ∷ [])) ≡ cond b (needs_alone ns) (needs_alone ns ++ n.need ∷ [])
put_by ns n true = refl
put_by ns n false = alone_behind ns n

put_told : (ns : List NeedAt) (n : NeedAt) → needs_alone (put_new ns n) ≡ put_need (needs_alone ns) n.need
put_told ns n =
    put_by ns n (is_needed n.need ns)
    ∙ ap (λ (b : Bool). cond b (needs_alone ns) (needs_alone ns ++ n.need ∷ [])) (is_told n.need ns)

with_told : (asked ns : List NeedAt) → needs_alone (with_new asked ns) ≡ with_needs (needs_alone asked) (needs_alone ns)
with_told asked [] = refl
with_told asked (n ∷ ns) =
    with_told (put_new asked n) ns ∙ ap (λ (xs : List Need). with_needs xs (needs_alone ns)) (put_told asked n)

pub equal_first : (ns ms : List NeedAt) → needs_alone ns ≡ needs_alone ms
    → needs_alone (first_needs ns) ≡ needs_alone (first_needs ms)
equal_first ns ms e = with_told [] ns ∙ ap (with_needs []) e ∙ sym (with_told [] ms)
