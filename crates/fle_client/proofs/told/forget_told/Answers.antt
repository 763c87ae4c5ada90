-- The infos of the database are those with one forgotten, and the others stay.
use Rattle.std.proofs.Common.{◌≡◌, Some, nat_cmp, rules}
use Rattle.std.specs.BTreeMap.{get_by}
use Rattle.std.specs.Cmp.Lexicographic.{slice_cmp}
use Rattle.fle_client.proofs.Tellings.{forgets_one}
use Rattle.fle_client.proofs.told.forget_told.Goals as goal

pub returns-in-Some : goal.returns-in-Some
returns-in-Some c =
    let told = c.args.told.now in
    let new = c.forget.new.self in
    let there : Some c.in-Some.infos.now ≡ get_by (λ k. slice_cmp nat_cmp c.args.db.now k.items) told = search rules in
    record {
      forgotten = forgets_one c.args.db.now c.args.name.now told (c.get_mut.follows.lender new) c.in-Some.infos.now new
          there c.forget.ensures.forgotten ((c.get_mut.follows.holds new).3 (search rules));
    }
