-- What the document comes to is what the turn does.
use Rattle.std.proofs.Common.{◌≡◌, ap, arith, subst, sym}
use Rattle.bson_tree.specs.Tree.{Items}
use Rattle.fle_stream.specs.Plan.{DrawsNone, Verdict}
use Rattle.fle_stream.specs.Task.{each, one_document}
use Rattle.fle_stream.specs.Turn.{Progresses}
use Rattle.fle_stream.specs.declared.turning.Turn.TheVariants as turns
use Rattle.fle_stream.proofs.Exits.{did_write, write_kind, write_progress, write_took, write_undrawn}
use Rattle.fle_stream.proofs.Fronts.{front_alone}
use Rattle.fle_stream.proofs.Turned.{none_more}
use Rattle.fle_stream.proofs.one_by_one.OneByOneVerb.go_on.Goals as goal

pub returns : goal.returns
returns g c =
    let v : Items → Verdict = g.W.DocumentWriter.verdict c.args.self.now.writer in
    let first = c.args.first.now in
    let tree : Items = first.document.tree in
    let wrote = c.write_document-wrote.ensures in
    let goes : Progresses one_document first.taken (turns.Wrote first.size 1) = (
      omega (arith, c.requires.begun),
      omega arith,
      omega arith,
      omega (arith, c.requires.least),
      omega (arith, c.requires.most),
      omega (arith, c.requires.most),
    ) in
    rw c.turn_of.ensures.by (record {
      ready = wrote.ready;
      same = ap (λ (u : Items → Verdict). each u) wrote.same;
      progress = write_progress one_document first.taken first.number 1 first.size c.write_document-wrote.result goes;
      kind = write_kind first.number 1 first.size _ _ _ _ (v tree) c.write_document-wrote.result wrote.wrote;
      took = write_took one_document first.size first.number _ _ 1 first.size c.write_document-wrote.result
          (omega arith) (omega arith, omega arith) (omega arith) (omega arith) (omega arith);
      did = did_write (v tree) 1 first.size c.write_document-wrote.result
          (λ told shows. front_alone v first.number first.taken first.size tree _ told c.requires.begun shows)
          (none_more _) (λ a. a) wrote.wrote;
      undrawn = λ quiet. (
        write_undrawn first.number 1 first.size _ _ _ _ (v tree) c.write_document-wrote.result wrote.wrote (quiet tree),
        subst DrawsNone (sym wrote.same) quiet,
      );
    })
