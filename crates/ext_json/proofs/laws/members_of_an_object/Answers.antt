use Rattle.ext_json.proofs.MemberOrder.{sorted, last}
use Rattle.ext_json.proofs.laws.members_of_an_object.Goals as goal

pub returns-clause-sorted : goal.returns-clause-sorted
returns-clause-sorted c = sorted

pub returns-clause-last : goal.returns-clause-last
returns-clause-last c = last
