use Rattle.std.proofs.Common.{◌≡◌, ◌∙◌, List, length, drop, arith, rules, subst, sym}
use Rattle.bson_splice.specs.Whole.{HasRoomFor}
use Rattle.doc_rewrite.specs.Keys.{key_in}
use Rattle.doc_rewrite.specs.Sealing.{FellShort, HasKeys, IsSealedWhole}
use Rattle.doc_rewrite.specs.Sites.{Site, spans_of, draws_of}
use Rattle.doc_rewrite.proofs.Growth.{room, size_is}
use Rattle.doc_rewrite.proofs.Runs.{name_done, name_stopped, whole, short}
use Rattle.doc_rewrite.proofs.sealing.seal_through.Goals as goal

pub splice-requires-clause-ready : goal.splice-requires-clause-ready
splice-requires-clause-ready g c = (
  c.requires.hooks,
  subst (λ (ss : List Site). HasKeys (key_in c.args.keys.now) ss) (sym c.sites.ensures.sites) c.requires.keyed,
  record {
    document = c.args.document.now;
    own = c.sites.ensures.sites ∙ c.requires.stands.own;
    kept = tt;
  },
)

pub splice-requires-clause-small : goal.splice-requires-clause-small
splice-requires-clause-small g c = omega (arith, c.requires.room, c.sites.ensures.small)

pub splice-requires-clause-room : goal.splice-requires-clause-room
splice-requires-clause-room g c =
    subst (λ (ss : List Site). HasRoomFor (spans_of ss) c.args.document.now (length c.args.out.now))
    (sym c.sites.ensures.sites)
    (room c.args.plan.now.sites c.args.document.now c.requires.stands.places (length c.args.out.now)
    (c.requires.room ∙ size_is c.args.plan.now.sites c.args.document.now c.requires.stands.places
    c.args.plan.now.size c.sites.ensures.long c.requires.stands.size))

pub returns-in-Ok-clause-sealed : goal.returns-in-Ok-clause-sealed
returns-in-Ok-clause-sealed g c =
    let s = c.in-Ok.ensures.spliced in
    let name = name_done (λ x. x.keys.now) (λ x. drop x.next x.sites.now) (λ x. g.N.Entropy.seen x.entropy.now)
    (λ x. x.entropy.ghost_name)
    c.args.document.now _ c.splice.new.putter _ _ s in
    let same : c.splice.new.putter.entropy.now ≡ c.entropy-1.given.0 = search (rules, name) in
    subst (λ e. IsSealedWhole (key_in c.args.keys.now) c.args.plan.now.sites c.args.document.now
    (g.N.Entropy.seen c.args.entropy.now) (g.N.Entropy.seen e) c.splice.new.out) same
    (whole (λ x. x.keys.now) (λ x. drop x.next x.sites.now) (λ x. g.N.Entropy.seen x.entropy.now)
    (λ x. x.entropy.ghost_name)
    c.args.plan.now.sites c.args.document.now _ c.splice.new.putter _ _ c.sites.ensures.sites c.requires.stands.places
    (c.in-Ok.ensures.size ∙ c.requires.room ∙ size_is c.args.plan.now.sites c.args.document.now
    c.requires.stands.places c.args.plan.now.size c.sites.ensures.long c.requires.stands.size) s)

pub returns-in-Err-clause-failed : goal.returns-in-Err-clause-failed
returns-in-Err-clause-failed g c =
    let s = c.in-Err.ensures.spliced in
    let name = name_stopped (λ x. x.keys.now) (λ x. drop x.next x.sites.now) (λ x. g.N.Entropy.seen x.entropy.now)
    (λ x. x.entropy.ghost_name)
    _ c.splice.new.putter s in
    let same : c.splice.new.putter.entropy.now ≡ c.entropy-1.given.0 = search (rules, name) in
    subst (λ e. FellShort (g.N.Entropy.seen c.args.entropy.now) (g.N.Entropy.seen e) (draws_of c.args.plan.now.sites))
    same
    (short (λ x. x.keys.now) (λ x. drop x.next x.sites.now) (λ x. g.N.Entropy.seen x.entropy.now)
    (λ x. x.entropy.ghost_name)
    c.args.plan.now.sites _ c.splice.new.putter c.sites.ensures.sites s)
