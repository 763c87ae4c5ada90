use Rattle.std.proofs.Common.{◌≡◌, Some, rules, true}
use Rattle.context_machine.specs.Slots.{id_slot, is_free}
use Rattle.context_machine.proofs.Filled.{fill_one_id}
use Rattle.context_machine.proofs.slots.fill_id.Goals as goal

pub returns-in-Some : goal.returns-in-Some
returns-in-Some c =
    let free : is_free (id_slot c.args.ids.now c.args.id.now) ≡ true = search rules in
    record {
      filled = fill_one_id c.args.id.now c.args.ids.now (c.get_mut.follows.lender (Some c.args.number))
          (Some (Some c.args.number)) free ((c.get_mut.follows.holds (Some c.args.number)).3 (search rules));
    }
