-- A change of master key as the code has it
use Rattle.rewrap_keys.specs.declared.document.Masters.{Masters}
use Rattle.rewrap_keys.specs.Rewrapped.{Change, change}

-- the change that such a value stands for
abbrev pub seen : Masters → Change
seen m = change m.from.now m.to.now m.time
