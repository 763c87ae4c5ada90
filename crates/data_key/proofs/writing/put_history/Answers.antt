use Rattle.data_key.proofs.Joined.{put_history}
use Rattle.data_key.proofs.writing.put_history.Goals as goal

pub returns : goal.returns
returns c = record {
  put = put_history c.args.created c.args.updated c.args.status c.args.out.now.items c.put_creation_date.new.out.items
      c.put_update_date.new.out.items
      c.put_status.new.out.items c.put_master_key.new.out.items c.in_ok-put_creation_date.ensures.put
      c.in_ok-put_update_date.ensures.put
      c.in_ok-put_status.ensures.put c.in_ok-put_master_key.ensures.put;
}
