use Rattle.std.proofs.Common.{◌≡◌, true, [], ◌∷◌, length, sym, ap, arith}
use Rattle.fle_outside.proofs.PartWay.{part_put, part_put_stop, part_end}
use Rattle.ext_json.specs.Text.{elements_text, value_text, inside_text}
use Rattle.bson_tree.specs.Tree.{tag_of}
use Rattle.bson_tree.specs.Spelling.{value_bytes}
use Rattle.ext_json.specs.declared.form.Form.TheVariants as forms
use Rattle.ext_json.specs.Fixed.{head_text, middle_text, tail_text}
use Rattle.ext_json.specs.Quoted.{quoted}
use Rattle.ext_json.proofs.Writing.{put_then, put_stops}
use Rattle.ext_json.proofs.Walk.{elements_more, elements_end, inside_more}
use Rattle.ext_json.proofs.Scopes.{scope_text, scope_grouped, is_fifteen}
use Rattle.ext_json.proofs.text.+text.Goals as goal

pub put_element-returns-in-Err : goal.put_element-returns-in-Err
put_element-returns-in-Err g t c = put_stops _ c.in-Err.ensures.wrote

pub put_element-returns-in-Err-put_name : goal.put_element-returns-in-Err-put_name
put_element-returns-in-Err-put_name g t c = put_then _ c.in-Ok.ensures.wrote
    (put_stops _ (rw c.name.ensures.name at c.in-Err-put_name.ensures))

pub put_element-returns : goal.put_element-returns
put_element-returns g t c = put_then _ c.in-Ok.ensures.wrote
    (put_then _ (rw c.name.ensures.name at c.in-Ok-put_name.ensures) c.put_value.ensures)

pub put_elements-returns-in-Err : goal.put_elements-returns-in-Err
put_elements-returns-in-Err g t c =
    part_put_stop (elements_text (value_text (inside_text c.args.levels)) c.args.named (44 ∷ []) c.next.new.self.tree)
    c.loop-item.invariant.2
    (elements_more (value_text (inside_text c.args.levels)) c.args.named c.loop-item.before.now
    c.loop-item.item-iterator.tree c.next.new.self.tree c.in-Some.item c.in-Some.ensures.steps.0) c.in-Err.ensures

pub put_elements-loop-item-preserved : goal.put_elements-loop-item-preserved
put_elements-loop-item-preserved g t c = (
  tt,
  tt,
  rw c.comma-before.ensures.text (part_put c.loop-item.invariant.2
      (elements_more (value_text (inside_text c.args.levels)) c.args.named c.loop-item.before.now
      c.loop-item.item-iterator.tree c.next.new.self.tree c.in-Some.item c.in-Some.ensures.steps.0)
      c.in-Ok.ensures),
)

pub put_elements-returns : goal.put_elements-returns
put_elements-returns g t c =
    part_end (rw (elements_end (value_text (inside_text c.args.levels)) c.args.named c.loop-item.before.now
    c.loop-item.item-iterator.tree c.in-None.ensures.steps.0) at c.loop-item.invariant.2)

pub put_inside-returns-in-Err : goal.put_inside-returns-in-Err
put_inside-returns-in-Err g t c =
    rw (inside_more c.args.levels c.args.named c.args.document.now.tree c.if-levels-eq0.false)
    (put_stops _ (rw c.opening.ensures.text at c.in-Err.ensures.wrote))

pub put_inside-returns-in-Err-put_elements : goal.put_inside-returns-in-Err-put_elements
put_inside-returns-in-Err-put_elements g t c =
    rw (inside_more c.args.levels c.args.named c.args.document.now.tree c.if-levels-eq0.false)
    (put_then _ (rw c.opening.ensures.text at c.in-Ok.ensures.wrote) (put_stops _ c.in-Err-put_elements.ensures))

pub put_inside-returns : goal.put_inside-returns
put_inside-returns g t c =
    rw (inside_more c.args.levels c.args.named c.args.document.now.tree c.if-levels-eq0.false)
    (put_then _ (rw c.opening.ensures.text at c.in-Ok.ensures.wrote)
    (put_then _ c.in-Ok-put_elements.ensures (rw c.closing.ensures.text at c.write_whole-2.ensures.wrote)))

pub put_scope-returns-in-Err : goal.put_scope-returns-in-Err
put_scope-returns-in-Err g t c =
    rw (scope_grouped (head_text forms.Scope) (quoted c.args.code.now) (middle_text forms.Scope)
    (inside_text c.args.levels true c.args.scope.now.tree) (tail_text forms.Scope)) (put_stops _ c.in-Err.ensures)

pub put_scope-returns-in-Err-put_inside : goal.put_scope-returns-in-Err-put_inside
put_scope-returns-in-Err-put_inside g t c =
    rw (scope_grouped (head_text forms.Scope) (quoted c.args.code.now) (middle_text forms.Scope)
    (inside_text c.args.levels true c.args.scope.now.tree) (tail_text forms.Scope))
    (put_then _ c.in-Ok.ensures (put_stops _ c.in-Err-put_inside.ensures))

pub put_scope-returns : goal.put_scope-returns
put_scope-returns g t c =
    rw (scope_grouped (head_text forms.Scope) (quoted c.args.code.now) (middle_text forms.Scope)
    (inside_text c.args.levels true c.args.scope.now.tree) (tail_text forms.Scope))
    (put_then _ c.in-Ok.ensures (put_then _ c.in-Ok-put_inside.ensures
    (rw c.tail.ensures.text at c.write_whole.ensures.wrote)))

pub put_leaf-returns-in-Some : goal.put_leaf-returns-in-Some
put_leaf-returns-in-Some g t c =
    let tag : tag_of c.args.item.now.tree ≡ 15 = is_fifteen (tag_of c.args.item.now.tree)
    (sym c.in-Some.ensures.kind) in
    rw (scope_text (inside_text c.args.levels true) (tag_of c.args.item.now.tree)
    (value_bytes c.args.item.now.tree) c.in-Some.code.now c.in-Some.scope.tree tag
    (ap value_bytes c.in-Some.ensures.parts) (omega
    (arith, c.value-value.ensures.room, ap length c.value-value.ensures.spelling)) c.in-Some.ensures.scope)
    c.put_scope.ensures
