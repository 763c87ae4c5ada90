-- What an accepted command comes to: its sealed form.
use Rattle.std.proofs.Common.{◌≡◌, ℕ, ◌<◌, ◌∙◌, Bool, true, false, cond, nat_lt, Option, Some, None, Result}
use Rattle.std.proofs.Common.{Ok, Err, List, [], ◌∷◌, length, map, refl, ap}
use Rattle.std.specs.List.{All}
use Rattle.std.specs.Prelude.{is_some, unwrap_or}
use Rattle.bson_tree.specs.Spelling.{items_bytes}
use Rattle.bson_tree.specs.Tree.{Items}
use Rattle.encrypt_schema.specs.Commands.Targets.{info_of, rows_of, verdict}
use Rattle.encrypt_schema.specs.Commands.Visits.{Refusal, command_visits, content_of, content_verdict, first_refusal}
use Rattle.encrypt_schema.specs.Commands.Visits.{or_else, refused_at, roles, target_of, view_of}
use Rattle.encrypt_schema.specs.declared.command.marks.Mark.{Mark}
use Rattle.encrypt_schema.specs.declared.command.reason.Reason.{Reason}
use Rattle.encrypt_schema.specs.Language.Row.{Row}
use Rattle.fle_outside.specs.Blocks.{AreBlocks, Block}
use Rattle.payload6.specs.Needs.{Need, Name, need_of}
use Rattle.bson_codec.specs.Borrowed.{At}
use Rattle.doc_rewrite.specs.Keys.{Found}
use Rattle.doc_rewrite.specs.Sealed.{sealed}
use Rattle.doc_rewrite.specs.SealedCommand.{AreNeeded, HasKey, HasNamed, HasRuleKeys}
use Rattle.doc_rewrite.specs.Sites.{need_named, sites_of}
use Rattle.doc_rewrite.proofs.Names.{clean_named}
use Rattle.doc_rewrite.proofs.RuleKeys.{are_needed}
use Rattle.doc_rewrite.proofs.SealedAsStated.{as_stated}
use Rattle.context_machine.specs.Rings.{Finder, first_keyless, found_in, key_if, need_at, needs_of, reason_of}
use Rattle.fle_stream.specs.Plan.{Plan, writes}
use Rattle.fle_engine.specs.Rulings as rulings
use Rattle.fle_engine.specs.Rulings.{Ruling, by_refusal, makes, sized_plan}
use Rattle.fle_engine.specs.Sealing.{seal_ruling, seal_under, sealed_plan}
use Rattle.command_marker.specs.Reply.{reply_limit}
use Rattle.fle_runner.specs.Encrypt.{at_front, encrypt_verdict}
use Rattle.fle_runner.specs.Headline.{AreByUuid, IsSealedUnder, Setup, sites_in}
use Rattle.fle_runner.specs.Headline.{verdict_of}
use Rattle.fle_runner.specs.Verdicts.{as_verdict}

-- ---- an accepted command

made : (c : Items) (v : Ruling) (plan : Plan) → as_verdict c v ≡ writes plan → v ≡ makes plan
made c (makes p) plan e = let same : p ≡ plan = cc in ap makes same
made c (rulings.refused r) plan e = absurd cc
made c rulings.too_long plan e = absurd cc

unrefused : (r : Option Refusal) (v : Ruling) (plan : Plan) → by_refusal r v ≡ makes plan
    → (r ≡ None) × (v ≡ makes plan)
unrefused None v plan e = (refl, e)
unrefused (Some r) v plan e = absurd cc

below : (b : Bool) (p plan : Plan) → cond b rulings.too_long (makes p) ≡ makes plan → plan ≡ p
below true p plan e = absurd cc
below false p plan e = cc

-- nothing of it is refused, all of its keys are to be had, and what is written is the sealed command
pub record IsAccepted (x : Setup) (c : Items) (plan : Plan) : Type 0 where
  pub none : verdict x.db x.infos 0 c ≡ None
  pub keyed : first_keyless x.keys (needs_of (rows_of x.infos c) (at_front c)) ≡ None
  pub is : plan ≡ sealed_plan x.keys (sites_in x c) c

pub is_accepted : (x : Setup) (c : Items) (plan : Plan) → verdict_of x c ≡ writes plan → IsAccepted x c plan
unfolding encrypt_verdict seal_ruling
is_accepted x c plan e =
    let rows = rows_of x.infos c in
    let p = sealed_plan x.keys (sites_in x c) c in
    let e = made c (seal_ruling x.keys x.infos x.db c) plan e in
    let a = unrefused (verdict x.db x.infos 0 c) (seal_under x.keys rows c) plan e in
    let b = unrefused (first_keyless x.keys (needs_of rows (at_front c))) (sized_plan p) plan a.1 in
    record { none = a.0; keyed = b.0; is = below (nat_lt reply_limit p.size) p plan b.1 }

-- ---- the keys of its rules

neither : (a b : Option Refusal) → or_else a b ≡ None → (a ≡ None) × (b ≡ None)
neither None b e = (refl, e)
neither (Some r) b e = absurd cc

-- nothing is refused of the contents of an accepted command
pub contents_free : (x : Setup) (c : Items) → verdict x.db x.infos 0 c ≡ None
    → content_verdict (rows_of x.infos c) 0 c ≡ None
contents_free x c e =
    let rows = rows_of x.infos c in
    let vs = command_visits rows 0 c in
    let view = first_refusal (view_of (info_of x.infos c)) vs in
    let content = first_refusal (content_of rows) vs in
    (neither view content (neither (first_refusal (target_of x.db) vs) (or_else view content) e).1).1

module _ (keys : Finder) (uuids : AreByUuid keys) where
  had : (need : Need) (at : ℕ) (r : Result Found Reason) → keys need ≡ r → refused_at at (reason_of r) ≡ None
      → HasKey (found_in keys) need
  had need at (Ok found) is e = (found, ap key_if is, uuids need found is)
  had need at (Err reason) is e = absurd cc

  had_named : (o : Option Need) (at : ℕ) → is_some o ≡ true
      → refused_at at (reason_of (keys (unwrap_or o (Name [])))) ≡ None → HasNamed (found_in keys) o
  had_named (Some need) at some e = had need at (keys need) refl e
  had_named None at some e = absurd cc

  rule_keys : (rows : List Row) (d : At) (ms : List Mark) → AreNeeded rows d ms
      → first_keyless keys (map need_at (sites_of rows d ms)) ≡ None → HasRuleKeys (found_in keys) rows d ms
  rule_keys rows d [] needed e = tt
  rule_keys rows d (m ∷ ms) needed e =
      let both = neither (refused_at m.start (reason_of (keys (need_named rows d m))))
      (first_keyless keys (map need_at (sites_of rows d ms))) e in
      (had_named (need_of rows d m) m.start needed.0 both.0, rule_keys rows d ms needed.1 both.1)

-- the key of each protected value of an accepted command is named
all_needed : (x : Setup) (c : Items) → verdict x.db x.infos 0 c ≡ None
    → AreNeeded (rows_of x.infos c) (at_front c) (roles (rows_of x.infos c) 0 c)
all_needed x c e =
    let rows = rows_of x.infos c in
    are_needed rows (at_front c) (roles rows 0 c) (clean_named rows (at_front c) (contents_free x c e))

-- its sealed form
module _ (x : Setup) (uuids : AreByUuid x.keys) where
  pub sealed_under : (c : Items) (plan : Plan) (own : List Block) → All (λ b. b < 256) (items_bytes c)
      → IsAccepted x c plan → AreBlocks own → length own ≡ plan.draws
      → IsSealedUnder x c own (sealed (found_in x.keys) (sites_in x c) own (at_front c))
  sealed_under c plan own bytes a are count = record {
    command = as_stated (found_in x.keys) (rows_of x.infos c) (at_front c) own bytes are
        (rule_keys x.keys uuids (rows_of x.infos c) (at_front c) (roles (rows_of x.infos c) 0 c)
        (all_needed x c a.none) a.keyed);
    count = count ∙ ap (λ (p : Plan). p.draws) a.is;
    ivs = refl;
  }
