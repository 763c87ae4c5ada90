-- A name that stands where the last one stood is that name.
use Rattle.std.proofs.Common.{◌≡◌, ◌∙◌, ℕ, zero, suc, ◌+◌, List, [], ◌∷◌, Option, Some, None, drop, refl, ap, sym}
use Rattle.std.proofs.Common.{subst, slice_get}
use Rattle.std.specs.Prelude.{IfSome, is_some, map, option_and_then, option_map, unwrap_or, MatchOption, true}
use Rattle.std.specs.Prelude.{if◌then◌else◌}
use Rattle.bson_codec.specs.Borrowed.{At}
use Rattle.bson_tree.specs.Spelling.{items_bytes}
use Rattle.encrypt_schema.specs.declared.command.marks.Mark.{Mark}
use Rattle.encrypt_schema.specs.declared.command.marks.Span.{Span}
use Rattle.encrypt_schema.specs.declared.schema.policy.KeyRef.{KeyRef}
use Rattle.encrypt_schema.specs.declared.schema.policy.KeyRef.TheVariants as refs
use Rattle.encrypt_schema.specs.Commands.Offences.{is_pointer}
use Rattle.encrypt_schema.specs.Commands.Visits.{text_in}
use Rattle.encrypt_schema.specs.Language.Policies.{policy_at}
use Rattle.encrypt_schema.specs.Language.Row.{Row}
use Rattle.payload6.specs.Needs.{Need, Name, need_by}
use Rattle.doc_rewrite.specs.declared.last_name.LastName.{LastName}
use Rattle.doc_rewrite.specs.Keys.{Found, Lookup}
use Rattle.doc_rewrite.specs.LastNames.{IsKept, KeepsLast, found_last, name_in, name_of}
use Rattle.doc_rewrite.specs.Plans.{Planned}
use Rattle.doc_rewrite.specs.Sealed.{any_key}
use Rattle.doc_rewrite.specs.Sites.{Site, need_named, site_of, sites_of}

pointed_by : (d : At) (key : KeyRef) (name : Option Span) (span : Span)
    → (if is_pointer key then name else None) ≡ Some span
    → unwrap_or (need_by key (option_map (text_in (d.start + 4) (items_bytes d.tree)) name)) (Name []) ≡ name_in d span
pointed_by d (refs.Id id) name span e = absurd cc
pointed_by d (refs.Pointer names) None span e = absurd cc
pointed_by d (refs.Pointer names) (Some s) span e = let same : s ≡ span = cc in ap (name_in d) same

-- what names the key of a mark's value is the text in the place of its name
pointed : (rows : List Row) (d : At) (m : Mark) (span : Span) → name_of rows m ≡ Some span
    → need_named rows d m ≡ name_in d span
pointed rows d m span e = pointed_by d (policy_at m.policy rows).key m.name span e

-- by the key of a mark's rule
pub named : (rows : List Row) (m : Mark) (key : KeyRef) → (policy_at m.policy rows).key ≡ key
    → (if is_pointer key then m.name else None) ≡ name_of rows m
named rows m key is = ap (λ (k : KeyRef). if is_pointer k then m.name else None) (sym is)

-- the site of a number is that of the mark of this number
named_from : (rows : List Row) (d : At) (ms : List Mark) (i : ℕ) (s : Site) (rest : List Site)
    → drop i (sites_of rows d ms) ≡ s ∷ rest → (span : Span)
    → option_and_then (name_of rows) (slice_get ms i) ≡ Some span → s.need ≡ name_in d span
named_from rows d [] zero s rest e span named = absurd cc
named_from rows d [] (suc i) s rest e span named = absurd cc
named_from rows d (m ∷ ms) zero s rest e span named =
    let same : site_of rows d m ≡ s = cc in
    ap (λ (x : Site). x.need) (sym same) ∙ pointed rows d m span named
named_from rows d (m ∷ ms) (suc i) s rest e span named = named_from rows d ms i s rest e span named

-- the name of the first site that is left is the text in the place that the plan says
pub named_first : (plan : Planned) (ss : List Site) (d : At) (i : ℕ) (s : Site) (rest : List Site) (name : Option Span)
    → ss ≡ sites_of plan.rows d plan.marks → drop i ss ≡ s ∷ rest
    → name ≡ option_and_then (name_of plan.rows) (slice_get plan.marks i)
    → IfSome name (λ span. s.need ≡ name_in d span)
named_first plan ss d i s rest None own first named = tt
named_first plan ss d i s rest (Some span) own first named =
    named_from plan.rows d plan.marks i s rest
    (subst (λ (rs : List Site). drop i rs ≡ s ∷ rest) own first) span (sym named)

-- so it leads to what is kept where that is the place of the last one
pub known : (keys : Lookup) (d : At) (need : Need) (name : Option Span) (last : Option LastName)
    → IfSome name (λ span. need ≡ name_in d span) → IsKept keys d last
    → IfSome last (λ l. name ≡ Some l.span → keys need ≡ Some (found_last l))
known keys d need name None is kept = tt
known keys d need None (Some l) is kept = λ e. absurd cc
known keys d need (Some span) (Some l) is kept = λ e.
    let same : span ≡ l.span = cc in
    ap keys (is ∙ ap (name_in d) same) ∙ kept

there : (o : Option Found) (f : Found) → is_some o ≡ true → f ≡ unwrap_or o any_key → o ≡ Some f
there None f some e = absurd cc
there (Some g) f some e = ap Some (sym e)

-- what is kept behind a value is what its name leads to, or what was kept before
pub kept_behind : (keys : Lookup) (d : At) (need : Need) (name : Option Span) (before after : Option LastName)
    (found : Span → LastName)
    → IfSome name (λ span. need ≡ name_in d span) → is_some (keys need) ≡ true
    → ((span : Span) → (found span).span ≡ span)
    → ((span : Span) → found_last (found span) ≡ unwrap_or (keys need) any_key)
    → MatchOption name (after ≡ before) (λ span. after ≡ Some (found span))
    → IsKept keys d before → IsKept keys d after
kept_behind keys d need None before after found is some at led put kept =
    subst (IsKept keys d) (sym put) kept
kept_behind keys d need (Some span) before after found is some at led put kept =
    subst (IsKept keys d) (sym put)
    (ap (λ (x : Span). keys (name_in d x)) (at span) ∙ ap keys (sym is)
    ∙ there (keys need) (found_last (found span)) some (led span))
