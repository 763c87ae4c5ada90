use Rattle.std.proofs.Common.{sym, rules}
use Rattle.aes_block.proofs.Entries.{add_round_key-entries}
use Rattle.aes_block.proofs.steps.add_round_key.Goals as goal

pub returns : goal.returns
returns c = sym (add_round_key-entries c.args.s c.args.k (search rules) (search rules))
