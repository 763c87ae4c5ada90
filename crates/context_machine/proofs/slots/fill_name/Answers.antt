use Rattle.std.proofs.Common.{◌≡◌, Some, rules, true}
use Rattle.context_machine.specs.Slots.{name_slot, is_free}
use Rattle.context_machine.proofs.Filled.{fill_one_name}
use Rattle.context_machine.proofs.slots.fill_name.Goals as goal

pub returns-in-Some : goal.returns-in-Some
returns-in-Some c =
    let free : is_free (name_slot c.args.names.now c.args.name.now) ≡ true = search rules in
    record {
      filled = fill_one_name c.args.name.now c.args.names.now (c.get_mut.follows.lender (Some c.args.number))
          (Some (Some c.args.number)) free ((c.get_mut.follows.holds (Some c.args.number)).3 (search rules));
    }
