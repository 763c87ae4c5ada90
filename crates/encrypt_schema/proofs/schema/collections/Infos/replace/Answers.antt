use Rattle.std.proofs.Common.{◌≡◌, ◌∙◌, Some, sym, rules, arith, length}
use Rattle.std.specs.Prelude.{vec_len}
use Rattle.encrypt_schema.specs.Language.Collection.{place_from}
use Rattle.encrypt_schema.proofs.Language.Placed.{put_distinct, same_place, set_is_put, within}
use Rattle.encrypt_schema.proofs.schema.collections.Infos.replace.Goals as goal

pub index_mut-requires : goal.index_mut-requires
index_mut-requires c =
    let below = within c.args.info.name c.self.inside.infos.items c.args.number (rw c.self.view_is c.requires.there) in
    let count : vec_len c.self.inside.infos ≡ length c.self.inside.infos.items = search rules in
    omega (arith, below, count)

pub invariant_of-self : goal.invariant_of-self
invariant_of-self c =
    let cs = c.self.inside.infos.items in
    let placed : place_from 0 c.args.info.name cs ≡ Some c.args.number = rw c.self.view_is c.requires.there in
    rw (set_is_put c.args.number c.args.info cs placed) (
      (λ q. c.self.invariant.0 q ∙ sym (same_place 0 c.args.number c.args.info cs q placed)),
      put_distinct c.args.info cs c.self.invariant.1,
    )

pub returns : goal.returns
returns c =
    let cs = c.self.inside.infos.items in
    let placed : place_from 0 c.args.info.name cs ≡ Some c.args.number = rw c.self.view_is c.requires.there in
    rw (sym c.self.view_is) record { put = set_is_put c.args.number c.args.info cs placed }
