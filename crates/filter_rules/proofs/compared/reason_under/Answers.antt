use Rattle.std.specs.Prelude.{◌==◌, ◌||◌, not}
use Rattle.bson_tree.specs.Tree.{tag_of}
use Rattle.encrypt_schema.specs.Language.Policies.{has_type, is_random, policy_at}
use Rattle.encrypt_schema.specs.Commands.Offences.{is_never_allowed}
use Rattle.encrypt_schema.specs.Commands.Visits.{holds_payload}
use Rattle.filter_rules.proofs.Reasons.{stored_first}
use Rattle.filter_rules.proofs.compared.reason_under.Goals as goal

pub returns-in-Some : goal.returns-in-Some
returns-in-Some c =
    let policy = policy_at c.args.i c.args.rows.now in
    let value = c.args.item.now.tree in
    stored_first
    (is_never_allowed (tag_of value) || not (has_type policy.types (tag_of value)))
    (holds_payload value)
    (is_random policy.algorithm)
    (tag_of value == 11)
    c.in-Some.reason
    c.in-Some.ensures.reason
