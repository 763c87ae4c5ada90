use Rattle.payload6.proofs.MarkingForm.{put_fields}
use Rattle.payload6.proofs.markings.put_fields.Goals as goal

pub returns : goal.returns
returns c = record {
  fields = put_fields _ _ _ _ _ _ _ c.in_ok-put_value.ensures c.in_ok-put_algorithm.ensures
      c.in_ok-put_key.ensures.key;
}
