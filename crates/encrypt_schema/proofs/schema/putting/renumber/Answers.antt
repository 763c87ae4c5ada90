use Rattle.std.proofs.Common.{◌≡◌, Some, nat_cmp, rules}
use Rattle.std.specs.BTreeMap.{get_by}
use Rattle.std.specs.Cmp.Lexicographic.{slice_cmp}
use Rattle.encrypt_schema.proofs.Language.Renumbered.{renumbers}
use Rattle.encrypt_schema.proofs.schema.putting.renumber.Goals as goal

pub returns-in-Some : goal.returns-in-Some
returns-in-Some c =
    let numbers = c.args.numbers.now in
    let there : Some c.in-Some.there.now ≡ get_by (λ k. slice_cmp nat_cmp c.args.name.now k.items) numbers =
    search rules in
    record {
      renumbered = λ other. renumbers c.args.name.now other numbers (c.get_mut.follows.lender c.args.number)
          c.args.number c.in-Some.there.now there ((c.get_mut.follows.holds c.args.number).3 (search rules));
    }
