use Rattle.std.proofs.Common.{◌≡◌, sym, ap, arith, length, is_some}
use Rattle.bson_tree.specs.Tree.{tag_of}
use Rattle.bson_tree.specs.Spelling.{value_bytes}
use Rattle.ext_json.specs.BadText.{inside_bad}
use Rattle.ext_json.proofs.Scopes.{scope_bad, is_fifteen}
use Rattle.ext_json.proofs.bad_text.+bad.Goals as goal

pub is_bad-returns-in-Some : goal.is_bad-returns-in-Some
is_bad-returns-in-Some t c =
    let tag : tag_of c.args.item.now.tree ≡ 15 = is_fifteen (tag_of c.args.item.now.tree)
    (sym c.in-Some.ensures.kind) in
    rw (
      scope_bad (λ start is. is_some (inside_bad c.args.levels start is)) c.args.item.now.start
          (tag_of c.args.item.now.tree) (value_bytes c.args.item.now.tree) c.in-Some.code.now c.in-Some.scope.tree tag
          (ap value_bytes c.in-Some.ensures.parts) (omega
          (arith, c.value-value.ensures.room, ap length c.value-value.ensures.spelling)) c.in-Some.ensures.scope,
      sym c.in-Some.ensures.start,
    ) c.is_bad_scope.ensures
