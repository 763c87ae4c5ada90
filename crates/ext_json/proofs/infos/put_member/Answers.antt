-- A member's document is the one that is spelled, or there is none that fits.
use Rattle.std.proofs.Common.{◌≡◌, ◌+◌, ◌≤◌, ◌++◌, List, ℕ, length, refl, ap, ◌∙◌, arith}
use Rattle.std.proofs.lemmas.Bool.{false≢true}
use Rattle.serde_json.specs.View.{view}
use Rattle.bson_codec.specs.Layout.{longest}
use Rattle.ext_json.proofs.Arrays.{member_unformed, put_fits}
use Rattle.ext_json.proofs.infos.put_member.Goals as goal

pub returns-then-not-well_formed-clause-none : goal.returns-then-not-well_formed-clause-none
returns-then-not-well_formed-clause-none c _ =
    member_unformed (length c.args.out.now.items)
    (view c.args.item.now) c.in_ok-document.document.kids c.in_ok-document.ensures
    (λ formed. false≢true (c.if-not-well_formed.ensures.spelled.1 formed))

pub returns-in-Ok-append-clause-put : goal.returns-in-Ok-append-clause-put
returns-in-Ok-append-clause-put c =
    let fits : length c.args.out.now.items + length c.in-Ok.bytes.items ≤ longest =
    omega (arith, c.if-len.false, c.requires, c.len.ensures, c.len-2.ensures) in
    let grown : c.append.new.out.items ≡ c.args.out.now.items ++ c.in-Ok.bytes.items =
    c.in-Ok-append.ensures.appended ∙ ap (λ (x : List ℕ). c.args.out.now.items ++ x) c.deref.ensures.value in
    put_fits c.args.out.now.items c.append.new.out.items c.in-Ok.bytes.items
    (view c.args.item.now) c.in_ok-document.document.kids c.in_ok-document.ensures
    (c.if-not-well_formed.ensures.spelled.0 refl) c.in-Ok.ensures.spelling fits grown
