use Rattle.std.proofs.Common.{◌≡◌, ◌∷◌, [], rules}
use Rattle.context_machine.specs.Asks.{key_filter}
use Rattle.context_machine.specs.Needs.{ids_of, names_of, needs_seen}
use Rattle.context_machine.proofs.Frames.{whole}
use Rattle.context_machine.proofs.keys_asked.key_filter.Goals as goal

pub returns : goal.returns
returns c =
    let four : c.open.new.out.items ≡ 0 ∷ (0 ∷ (0 ∷ (0 ∷ []))) = search rules in
    let needs = needs_seen c.args.needs.now in
    record {
      filter = whole c.open.new.out.items c.put_or.new.out.items c.close.new.out.items
          (key_filter (ids_of needs) (names_of needs)) four c.in_ok-put_or.ensures.put c.in_ok-close.ensures.closed;
    }
