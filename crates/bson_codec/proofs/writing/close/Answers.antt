-- Where the length is put in, a document stands.
use Rattle.std.proofs.Common.{◌≡◌, ◌∙◌, ◌+◌, ◌-◌, ◌∷◌, ◌++◌, [], length, arith, ap, length-append}
use Rattle.std.proofs.lemmas.List.{take_at}
use Rattle.bson_codec.proofs.Frames.{framed_at, with_end}
use Rattle.bson_codec.proofs.writing.close.Goals as goal

pub returns : goal.returns
returns c = record {
  closed = λ front elements here old.
      let items = with_end _ _ front elements c.in_ok-append.ensures.appended old in
      let long = ap length items in
      let sized : c.len.result - c.args.at ≡ length elements + 5 =
      omega (
        arith,
        long,
        length-append front (0 ∷ (0 ∷ (0 ∷ (0 ∷ (elements ++ 0 ∷ []))))),
        length-append elements (0 ∷ []),
        here,
        c.len.ensures,
        c.append.new.out.ok,
      ) in
      let whole : length c.put_length.new.out ≡ c.append.new.out.len =
      omega (arith, c.put_length.auto.out, c.deref_mut.ensures.len) in
      take_at c.put_length.new.out _ c.append.new.out.len whole
      ∙ (c.put_length.ensures ∙ framed_at front elements c.deref_mut.result.now c.args.at _ here
      (c.deref_mut.ensures.value ∙ items) sized);
}
