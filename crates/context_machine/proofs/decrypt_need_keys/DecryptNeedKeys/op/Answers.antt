-- No payload names its key by an alternate name.
use Rattle.std.proofs.Common.{◌≡◌, rules}
use Rattle.context_machine.specs.Needs.{first_needs, needs_seen}
use Rattle.context_machine.specs.Rings.{needs_in}
use Rattle.context_machine.proofs.Decrypting.{filter_told}
use Rattle.context_machine.proofs.decrypt_need_keys.DecryptNeedKeys.op.Goals as goal

pub returns : goal.returns
returns c =
    let is : needs_seen c.needs.result.now ≡ first_needs (needs_in c.args.self.now.document) = search rules in
    record {
      filter = filter_told c.args.self.now.document (needs_seen c.needs.result.now) c.key_filter.result is
          c.key_filter.ensures.filter;
    }
