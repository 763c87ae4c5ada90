use Rattle.bson_splice.proofs.Steps.{fits_start, own_by, steps_as}
use Rattle.bson_splice.proofs.step.step_of.Goals as goal

pub returns : goal.returns
returns g c =
    let spans = g.P.Putter.spans c.args.putter.now in
    record {
      step = λ ps f. steps_as c.next_start.result c.args.item.now ps c.step_by.result
          (fits_start c.next_start.result spans ps c.next_start.ensures.next f) c.step_by.ensures.step;
      own = own_by c.next_start.result spans c.args.item.now c.step_by.result c.next_start.ensures.next
          c.step_by.ensures.step;
    }
