-- What commands with equal skeletons come to: alike outputs, or the same refusal at the same place.
use Rattle.std.proofs.Common.{◌≡◌, ℕ, ◌+◌, ◌∙◌, Bool, true, false, cond, nat_lt, Option, Some, None, List, [], ◌∷◌}
use Rattle.std.proofs.Common.{◌++◌}
use Rattle.std.proofs.Common.{length, map, option_and_then, option_map, refl, sym, ap, subst, arith}
use Rattle.bson_tree.specs.Places.{place_of, places}
use Rattle.bson_tree.specs.Spelling.{doc_bytes, items_bytes}
use Rattle.bson_tree.specs.Tree.{Items}
use Rattle.bson_tree.proofs.Sizes.{framed_size}
use Rattle.encrypt_schema.specs.declared.command.marks.Mark.{Mark}
use Rattle.encrypt_schema.specs.declared.command.reason.Reason.{Reason}
use Rattle.encrypt_schema.specs.Commands.Chains.{refusal_at}
use Rattle.encrypt_schema.specs.Commands.Skeletons.{skeleton, widths_of}
use Rattle.encrypt_schema.specs.Commands.Stations.{Station, Store, Compare, Outside, has_role, station}
use Rattle.encrypt_schema.specs.Commands.Targets.{info_of, rows_of, verdict}
use Rattle.encrypt_schema.specs.Commands.Visits.{Refusal, Visit, command_entry, command_visits, first_refusal, mark_at}
use Rattle.encrypt_schema.specs.Commands.Pointers.{Targets, nth_target}
use Rattle.encrypt_schema.specs.Commands.Visits.{marks, or_else, refused_at, roles, station_of, text_at, texts}
use Rattle.encrypt_schema.specs.Language.Collection.{Collection}
use Rattle.encrypt_schema.specs.Language.Row.{Row}
use Rattle.encrypt_schema.proofs.Commands.ByPlace.{refusal_by_place}
use Rattle.encrypt_schema.proofs.Commands.Refused.{equal_refusal_at, found, refused_shown}
use Rattle.encrypt_schema.proofs.Commands.Silence.{IsQuiet, child_passed}
use Rattle.encrypt_schema.proofs.Commands.Tables.{station_without, without}
use Rattle.encrypt_schema.proofs.Commands.TwoWorlds.{equal_roles, equal_rows, equal_verdicts}
use Rattle.encrypt_schema.proofs.Commands.Widths.{widths_kept}
use Rattle.encrypt_schema.proofs.Commands.Worlds.{IsVeiled}
use Rattle.command_marker.specs.Marked.{marked}
use Rattle.command_marker.specs.Reply.{is_ruled, reply_limit, reply_to}
use Rattle.command_marker.specs.Splices.{added}
use Rattle.command_marker.specs.Written.{IsPlan, growth_by}
use Rattle.command_marker.proofs.EqualGrowth.{equal_growth}
use Rattle.command_marker.proofs.Planned.{planned}
use Rattle.command_marker.proofs.Replies.{reply_size}
use Rattle.command_marker.proofs.ToldPlaces.{equal_told, told_there}
use Rattle.context_machine.specs.Needs.{NeedAt}
use Rattle.context_machine.specs.Rings.{Finder, first_keyless, needs_of, reason_of}
use Rattle.context_machine.proofs.EqualNeeds.{equal_draws, equal_needs, equal_sizes, named_by, needs_by_texts, told_by}
use Rattle.doc_rewrite.specs.SealedTrees.{rule_of}
use Rattle.doc_rewrite.specs.Sites.{sites_of}
use Rattle.fle_engine.specs.Replies.{mark_ruling, replies}
use Rattle.fle_engine.specs.Rulings.{Ruling, at_front, by_refusal, makes, plain_plan, ruling_with, sized_plan, too_long}
use Rattle.fle_engine.specs.Sealing.{seal_ruling, seal_under, sealed_plan}
use Rattle.fle_stream.specs.Plan.{Plan}
use Rattle.fle_runner.specs.Encrypt.{encrypt_verdict}
use Rattle.fle_runner.specs.Mark.{mark_verdict}
use Rattle.fle_runner.specs.TwoStreams.{ArePlansAlike, AreVerdictsAlike}
use Rattle.fle_runner.specs.Verdicts.{as_verdict}

-- ---- lengths

items_equal : (rows : List Row) (c d : Items) → skeleton rows c ≡ skeleton rows d
    → length (items_bytes c) ≡ length (items_bytes d)
items_equal rows c d e =
    sym (widths_kept rows (station rows Outside (command_entry c)) c)
    ∙ (ap widths_of e ∙ widths_kept rows (station rows Outside (command_entry d)) d)

-- commands with equal skeletons have as many bytes
pub equal_lengths : (rows : List Row) (c d : Items) → skeleton rows c ≡ skeleton rows d
    → length (doc_bytes c) ≡ length (doc_bytes d)
equal_lengths rows c d e =
    omega (arith, items_equal rows c d e, framed_size (items_bytes c), framed_size (items_bytes d))

marked_size : (rows : List Row) (c : Items) → IsPlan rows (at_front c) (roles rows 0 c)
    → length (doc_bytes (marked rows c)) ≡ length (doc_bytes c) + added (growth_by rows (at_front c)) (roles rows 0 c)
marked_size rows c plan =
    let same = ap (λ (is : Items). length (items_bytes is)) plan.made in
    omega (arith, same, plan.size, framed_size (items_bytes c), framed_size (items_bytes (marked rows c)))

reply_long : (rows : List Row) (c : Items)
    → length (reply_to rows c) ≡ length (doc_bytes c) + added (growth_by rows (at_front c)) (roles rows 0 c) + 80
unfolding reply_to
reply_long rows c =
    omega (
      arith,
      marked_size rows c (planned rows rows (at_front c) (at_front c) (roles rows 0 c) refl refl refl),
      reply_size (nat_lt 0 (length (roles rows 0 c))) (is_ruled rows c) (marked rows c),
    )

-- and so have their replies
reply_equal : (rows : List Row) (c d : Items) → skeleton rows c ≡ skeleton rows d
    → length (reply_to rows c) ≡ length (reply_to rows d)
reply_equal rows c d e =
    omega (arith, reply_long rows c, reply_long rows d, equal_lengths rows c d e, equal_growth rows 0 c d e)

-- ---- the first value whose key isn't to be had, as a pass over the places of a command

module _ (keys : Finder) (rows : List Row) where
  -- among these targets
  abbrev key_reason : Targets → ℕ → Option Reason
  key_reason ts i = reason_of (keys (named_by rows i (option_map (λ t. t.text) (nth_target i ts))))

  abbrev station_reason : Targets → Station → Option Reason
  station_reason ts s = option_and_then (key_reason ts) (rule_of s)

  abbrev keyless_of : Visit → Option Reason
  keyless_of v = station_reason v.targets (station_of rows v)

  keyless_quiet : IsQuiet keyless_of
  keyless_quiet = record { clear = λ v h. ap (station_reason v.targets) (child_passed rows v.parent v.entry h) }

  keyless_by : (v : Visit) (b : Bool) → has_role (station_of rows v) ≡ b
      → station_reason v.targets (station rows v.parent (cond b (without v.entry) v.entry)) ≡ keyless_of v
  keyless_by v true h = ap (station_reason v.targets) (station_without rows v.parent v.entry h)
  keyless_by v false h = refl

  keyless_veiled : IsVeiled keyless_of rows
  keyless_veiled = record { read = λ v. keyless_by v (has_role (station_of rows v)) refl }

  keyless_next : (v : Visit) (s : Station) (ms : List Mark) (xs : List (Option (List ℕ))) (later : Option Refusal)
      → first_keyless keys (told_by rows ms xs) ≡ later
      → first_keyless keys (told_by rows (mark_at s v ++ ms) (text_at s v ++ xs))
      ≡ or_else (refused_at v.start (station_reason v.targets s)) later
  keyless_next v (Store i) ms xs later e = ap (or_else (refused_at v.start (key_reason v.targets i))) e
  keyless_next v (Compare i) ms xs later e = ap (or_else (refused_at v.start (key_reason v.targets i))) e
  keyless_next v _ ms xs later e = e

  keyless_pass : (vs : List Visit)
      → first_keyless keys (told_by rows (marks rows vs) (texts rows vs)) ≡ first_refusal keyless_of vs
  keyless_pass [] = refl
  keyless_pass (v ∷ vs) =
      keyless_next v (station_of rows v) (marks rows vs) (texts rows vs) (first_refusal keyless_of vs)
      (keyless_pass vs)

  -- of two commands with equal skeletons it is told at one place
  keyless_told : (c d : Items) (r : Refusal) → skeleton rows c ≡ skeleton rows d
      → first_keyless keys (needs_of rows (at_front c)) ≡ Some r → place_of r.at c ≡ place_of r.at d
  keyless_told c d r e h =
      let first = sym (refusal_by_place keyless_of rows 0 c)
      ∙ (sym (keyless_pass (command_visits rows 0 c))
      ∙ (sym (ap (first_keyless keys) (needs_by_texts rows (at_front c))) ∙ h)) in
      let at = found (refusal_at keyless_of rows 0 c) (places c) r first in
      let shown = refused_shown keyless_of rows c at.place r keyless_quiet at.is in
      let there = sym (equal_refusal_at keyless_of rows c d at.place keyless_veiled e shown) ∙ at.is in
      told_there keyless_of rows c at.place r at.is ∙ sym (told_there keyless_of rows d at.place r there)

-- ---- verdicts

-- what two commands come to is alike
abbrev AreAlike : Items → Items → Ruling → Ruling → Type 0
AreAlike c d v w = AreVerdictsAlike (as_verdict c v) (as_verdict d w)

by_alike : (c d : Items) (o : Option Refusal) (v w : Ruling)
    → ((r : Refusal) → o ≡ Some r → place_of r.at c ≡ place_of r.at d) → AreAlike c d v w
    → AreAlike c d (by_refusal o v) (by_refusal o w)
by_alike c d None v w there alike = alike
by_alike c d (Some r) v w there alike = (refl, there r refl)

sized_by : (c d : Items) (b : Bool) (p q : Plan) → ArePlansAlike p q
    → AreAlike c d (cond b too_long (makes p)) (cond b too_long (makes q))
sized_by c d true p q alike = tt
sized_by c d false p q alike = alike

sized_alike : (c d : Items) (p q : Plan) → ArePlansAlike p q → AreAlike c d (sized_plan p) (sized_plan q)
sized_alike c d p q alike =
    subst (λ (n : ℕ). AreAlike c d (sized_plan p) (cond (nat_lt reply_limit n) too_long (makes q))) alike.size
    (sized_by c d (nat_lt reply_limit p.size) p q alike)

-- what a command comes to by what becomes of one that isn't refused
with_alike : (accepts : List Row → Items → Ruling) (infos : List Collection) (db : List ℕ) (c d : Items)
    → skeleton (rows_of infos c) c ≡ skeleton (rows_of infos c) d
    → AreAlike c d (accepts (rows_of infos c) c) (accepts (rows_of infos c) d)
    → AreAlike c d (ruling_with accepts infos db c) (ruling_with accepts infos db d)
with_alike accepts infos db c d e alike =
    let rows = rows_of infos c in
    let first = ruling_with accepts infos db c in
    let one = by_alike c d (verdict db infos 0 c) (accepts rows c) (accepts rows d)
    (λ r is. equal_told db (info_of infos c) rows c d r e is) alike in
    subst (λ (rs : List Row). AreAlike c d first (by_refusal (verdict db infos 0 d) (accepts rs d)))
    (equal_rows infos rows c d e)
    (subst (λ (o : Option Refusal). AreAlike c d first (by_refusal o (accepts rows d)))
    (equal_verdicts db infos 0 c d e) one)

pub mark_alike : (infos : List Collection) (db : List ℕ) (c d : Items)
    → skeleton (rows_of infos c) c ≡ skeleton (rows_of infos c) d
    → AreVerdictsAlike (mark_verdict infos db c) (mark_verdict infos db d)
unfolding mark_verdict mark_ruling
mark_alike infos db c d e =
    let rows = rows_of infos c in
    with_alike replies infos db c d e
    (sized_alike c d (plain_plan (reply_to rows c)) (plain_plan (reply_to rows d))
    (record { draws = refl; size = reply_equal rows c d e }))

seal_alike : (keys : Finder) (rows : List Row) (c d : Items) → skeleton rows c ≡ skeleton rows d
    → AreAlike c d (seal_under keys rows c) (seal_under keys rows d)
seal_alike keys rows c d e =
    let p = sealed_plan keys (sites_of rows (at_front c) (roles rows 0 c)) c in
    let q = sealed_plan keys (sites_of rows (at_front d) (roles rows 0 d)) d in
    let plans : ArePlansAlike p q = record {
      draws = equal_draws rows (at_front c) (at_front d) refl e;
      size = equal_sizes rows (at_front c) (at_front d) refl e;
    } in
    subst (λ (ns : List NeedAt). AreAlike c d (seal_under keys rows c)
    (by_refusal (first_keyless keys ns) (sized_plan q))) (equal_needs rows (at_front c) (at_front d) refl e)
    (by_alike c d (first_keyless keys (needs_of rows (at_front c))) (sized_plan p) (sized_plan q)
    (λ r is. keyless_told keys rows c d r e is) (sized_alike c d p q plans))

pub encrypt_alike : (keys : Finder) (infos : List Collection) (db : List ℕ) (c d : Items)
    → skeleton (rows_of infos c) c ≡ skeleton (rows_of infos c) d
    → AreVerdictsAlike (encrypt_verdict keys infos db c) (encrypt_verdict keys infos db d)
unfolding encrypt_verdict seal_ruling
encrypt_alike keys infos db c d e =
    with_alike (seal_under keys) infos db c d e (seal_alike keys (rows_of infos c) c d e)
