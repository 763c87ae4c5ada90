use Rattle.std.proofs.Common.{arith}
use Rattle.serde_json.specs.View.{items_view}
use Rattle.ext_json.proofs.Members.{values_cut}
use Rattle.ext_json.proofs.Arrays.{goes_on, put_size}
use Rattle.ext_json.proofs.infos.members_in.Goals as goal

pub loop-item-preserved : goal.loop-item-preserved
loop-item-preserved c =
    let put = rw c.item-item.is at c.in-Ok.ensures.put in
    let size = put_size c.loop-item.out.items c.put_member.new.out.items _ put in
    let cut = values_cut c.loop-item.item-index c.deref-item-items.result.now _ c.loop-item-test.true in (
      put.room,
      omega (arith, size, c.loop-item.invariant.1),
      goes_on (items_view c.deref-item-items.result.now) _ _ _ _ _ _ cut put c.loop-item.invariant.2,
    )
