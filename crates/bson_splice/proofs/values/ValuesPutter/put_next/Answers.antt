use Rattle.std.proofs.Common.{◌∙◌, refl, ap, arith, length, List, ℕ, take, ◌++◌, ◌∷◌, [], ◌+◌, ◌≤◌, subst}
use Rattle.bson_splice.specs.declared.values.NewValue.{NewValue}
use Rattle.bson_splice.specs.Spans.{most_next}
use Rattle.bson_splice.specs.Values.{put_of, span_of, spans_of}
use Rattle.bson_splice.proofs.Given.{one_value}
use Rattle.bson_splice.proofs.values.ValuesPutter.put_next.Goals as goal

pub returns-clause-put : goal.returns-clause-put
returns-clause-put c =
    let v = c.in-Some.value in
    let e = c.in-Some.ensures.first in
    let named = c.put_name-named.ensures.named ∙ ap
    (λ (x : List ℕ). take c.args.at c.args.out.now ++ (v.tag ∷ (x ++ 0 ∷ []))) c.name.ensures.name in
    let room : c.args.at + 2 + length c.args.item.now.name + length v.bytes.now ≤ length c.args.out.now =
    subst (λ (vs : List NewValue). c.args.at + 2 + length c.args.item.now.name + most_next
    (spans_of vs) c.args.item.now.tree ≤ length c.args.out.now) e c.requires.room in
    record {
      it = put_of v;
      span = span_of v;
      did = (v, e, refl);
      next = ap spans_of e;
      fits = record { start = refl; end = refl; size = λ t. omega arith };
      written = c.put-end.ensures.put ∙ one_value (take c.args.at c.args.out.now) c.args.item.now.name v.tag v.bytes.now
          _ named;
      within = omega (
        arith,
        room,
        c.put-end.ensures.end,
        c.put-end.ensures.size,
        c.put_name-named.ensures.end,
        c.put_name-named.ensures.size,
        ap length c.name.ensures.name,
      );
    }
