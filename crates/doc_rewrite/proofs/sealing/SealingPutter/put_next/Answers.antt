use Rattle.std.proofs.Common.{◌≡◌, ◌+◌, ◌∷◌, refl, ap, arith, drop, length, subst}
use Rattle.bson_tree.specs.Tree.{Tree}
use Rattle.bson_tree.specs.Spelling.{value_bytes}
use Rattle.encrypt_schema.specs.declared.command.marks.Span.{Span}
use Rattle.doc_rewrite.specs.Keys.{Found, key_in}
use Rattle.doc_rewrite.specs.Sealed.{first_block, key_at, put_of, sealed_value}
use Rattle.doc_rewrite.specs.Sealing.{HasKeys}
use Rattle.doc_rewrite.specs.Sites.{sealed_width, site_seen, span_of, spans_of}
use Rattle.doc_rewrite.proofs.Sizes.{first_long, sealed_size}
use Rattle.doc_rewrite.proofs.Spellings.{element_is}
use Rattle.doc_rewrite.proofs.LastNames.{kept_behind, known, named_first}
use Rattle.doc_rewrite.proofs.sealing.SealingPutter.put_next.Goals as goal

pub key_by-found-requires-clause-last : goal.key_by-found-requires-clause-last
key_by-found-requires-clause-last g c =
    let s = site_seen c.in-Some.site in
    let keeps = c.requires.ready.2 in
    known (key_in c.args.self.now.keys.now) keeps.document s.need c.name-name.result c.args.self.now.last.now
    (named_first c.args.self.now.plan.now c.args.self.now.sites.now keeps.document c.args.self.now.next s _
    c.name-name.result keeps.own c.in-Some.ensures.first c.name-name.ensures.name)
    keeps.kept

pub returns-in-Ok-clause-put : goal.returns-in-Ok-clause-put
returns-in-Ok-clause-put g c =
    let s = site_seen c.in-Some.site in
    let v = c.in-Ok.ensures.iv in
    let keys = key_in c.args.self.now.keys.now in
    let block = first_block s.algorithm v.drawn in
    let found = c.key_by-found.ensures.key in
    let id : length (key_at keys s).id ≡ 16 =
    subst (λ (f : Found). length f.id ≡ 16) found c.put_sealed-end.ensures.id in
    let size : (t : Tree) → length (value_bytes (sealed_value keys s block t)) ≡ sealed_width (length (value_bytes t)) =
    λ t. sealed_size keys s block t id (first_long s.algorithm v.drawn v.draws.blocks) in
    record {
      it = put_of keys s block;
      span = span_of s;
      did = (
        record {
          site = s;
          first = c.in-Some.ensures.first;
          drawn = v.drawn;
          count = v.count;
          draws = v.draws;
          is = refl;
          long = size;
        },
        refl,
        refl,
      );
      next = ap spans_of c.in-Some.ensures.first;
      fits = record { start = refl; end = refl; size = λ t. omega (arith, size t) };
      written = element_is keys s block c.args.item.now.name c.args.item.now.tree _ _ _ found
          (c.put_sealed-end.ensures.element block v.is);
      within = c.put_sealed-end.ensures.within;
    }

pub returns-in-Ok-clause-ready : goal.returns-in-Ok-clause-ready
returns-in-Ok-clause-ready g c =
    let s = site_seen c.in-Some.site in
    let keys = key_in c.args.self.now.keys.now in
    let keeps = c.requires.ready.2 in
    let had : HasKeys keys (s ∷ drop (c.args.self.now.next + 1) c.args.self.now.sites.now) =
    subst (HasKeys keys) c.in-Some.ensures.first c.requires.ready.1 in (
      c.requires.ready.0,
      had.1,
      record {
        document = keeps.document;
        own = keeps.own;
        kept = kept_behind keys keeps.document s.need c.name-name.result c.args.self.now.last.now
            c.last_behind-self.result
            (λ (span : Span). record { span = span; id = c.key_by-found.result.0; key = c.key_by-found.result.1 })
            (named_first c.args.self.now.plan.now c.args.self.now.sites.now keeps.document c.args.self.now.next s _
            c.name-name.result keeps.own c.in-Some.ensures.first c.name-name.ensures.name)
            had.0 (λ span. refl) (λ span. c.key_by-found.ensures.key) c.last_behind-self.ensures.last keeps.kept;
      },
    )

pub returns-in-Err-clause-ready : goal.returns-in-Err-clause-ready
returns-in-Err-clause-ready g c =
    let s = site_seen c.in-Some.site in
    let keys = key_in c.args.self.now.keys.now in
    let keeps = c.requires.ready.2 in
    let had : HasKeys keys (s ∷ drop (c.args.self.now.next + 1) c.args.self.now.sites.now) =
    subst (HasKeys keys) c.in-Some.ensures.first c.requires.ready.1 in (
      c.requires.ready.0,
      c.requires.ready.1,
      record {
        document = keeps.document;
        own = keeps.own;
        kept = kept_behind keys keeps.document s.need c.name-name.result c.args.self.now.last.now
            c.last_behind-self.result
            (λ (span : Span). record { span = span; id = c.key_by-found.result.0; key = c.key_by-found.result.1 })
            (named_first c.args.self.now.plan.now c.args.self.now.sites.now keeps.document c.args.self.now.next s _
            c.name-name.result keeps.own c.in-Some.ensures.first c.name-name.ensures.name)
            had.0 (λ span. refl) (λ span. c.key_by-found.ensures.key) c.last_behind-self.ensures.last keeps.kept;
      },
    )
