use Rattle.data_key.proofs.Joined.{put_fields}
use Rattle.data_key.proofs.writing.put_fields.Goals as goal

pub returns : goal.returns
returns c = record {
  fields = put_fields c.args.key.now c.as_slice.result.now c.as_slice-2.result.now c.args.created c.args.updated
      c.args.status c.args.out.now.items c.put_id.new.out.items c.put_names.new.out.items
      c.put_material.new.out.items c.put_history.new.out.items c.as_slice.ensures.same c.as_slice-2.ensures.same
      c.in_ok-put_id.ensures.put c.in_ok-put_names.ensures.put
      c.in_ok-put_material.ensures.put c.in_ok-put_history.ensures.put;
}
