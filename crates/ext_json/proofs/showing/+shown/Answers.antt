-- The text as it is written, and the first bad place.
use Rattle.std.proofs.Common.{◌≡◌, true, [], ◌∷◌, sym, ◌∙◌, rules}
use Rattle.std.specs.Str.{is_utf8}
use Rattle.fle_outside.proofs.PartWay.{part_put, part_put_stop, part_end}
use Rattle.ext_json.specs.BadText.{inside_bad}
use Rattle.ext_json.specs.Showing.{separator}
use Rattle.ext_json.specs.Text.{elements_text, inside_text, value_text}
use Rattle.ext_json.proofs.Writing.{put_then, put_stops}
use Rattle.ext_json.proofs.Walk.{elements_more, elements_end, inside_more}
use Rattle.ext_json.proofs.OneWalk.{shows_then, bad_more, behind_name, elements_fine, elements_found, elements_none}
use Rattle.ext_json.proofs.OneWalk.{no_level}
use Rattle.ext_json.proofs.showing.+shown.Goals as goal

pub show_element-returns-in-Err : goal.show_element-returns-in-Err
show_element-returns-in-Err g t c = (_, put_stops _ c.in-Err.ensures)

pub show_element-returns-in-Err-put_name : goal.show_element-returns-in-Err-put_name
show_element-returns-in-Err-put_name g t c = (
  _,
  put_then _ c.in-Ok.ensures
      (put_stops _ (rw c.name-2.ensures.name at c.in-Err-put_name.ensures)),
)

pub show_element-returns : goal.show_element-returns
show_element-returns g t c =
    let item = c.args.item.now in
    let fine : is_utf8 item.name ≡ true = search rules in
    rw (behind_name (inside_bad c.args.levels) item.start item.name item.tree fine)
    (shows_then _ _ _ _ c.in-Ok.ensures
    (shows_then _ _ _ _ (rw c.name-2.ensures.name at c.in-Ok-put_name.ensures) c.show_value.ensures))

pub show_elements-returns-in-Bad : goal.show_elements-returns-in-Bad
show_elements-returns-in-Bad g t c =
    let left = c.loop-item.item-iterator in
    sym c.loop-item.invariant.2
    ∙ elements_found (inside_bad c.args.levels) left.start left.tree c.next.new.self.tree c.in-Some.item c.in-Bad.at
    c.in-Some.ensures.steps.0 c.in-Some.ensures.steps.1 c.in-Bad.ensures

pub show_elements-returns-in-Failed : goal.show_elements-returns-in-Failed
show_elements-returns-in-Failed g t c = (
  _,
  part_put_stop (elements_text (value_text (inside_text c.args.levels)) c.args.named (44 ∷ []) c.next.new.self.tree)
      c.loop-item.invariant.3
      (elements_more (value_text (inside_text c.args.levels)) c.args.named (separator c.loop-item.first)
      c.loop-item.item-iterator.tree c.next.new.self.tree c.in-Some.item c.in-Some.ensures.steps.0)
      c.in-Failed.ensures.1,
)

pub show_elements-loop-item-preserved : goal.show_elements-loop-item-preserved
show_elements-loop-item-preserved g t c = (
  tt,
  tt,
  elements_fine (inside_bad c.args.levels) c.loop-item.item-iterator.start c.loop-item.item-iterator.tree
      c.next.new.self.tree c.in-Some.item c.next.new.self.start c.in-Some.ensures.steps.0 c.in-Some.ensures.steps.1
      c.in-Some.ensures.steps.2 c.in-Written.ensures.0
      ∙ c.loop-item.invariant.2,
  part_put c.loop-item.invariant.3
      (elements_more (value_text (inside_text c.args.levels)) c.args.named (separator c.loop-item.first)
      c.loop-item.item-iterator.tree c.next.new.self.tree c.in-Some.item c.in-Some.ensures.steps.0)
      c.in-Written.ensures.1,
)

pub show_elements-returns : goal.show_elements-returns
show_elements-returns g t c = (
  sym c.loop-item.invariant.2
      ∙ elements_none (inside_bad c.args.levels) c.loop-item.item-iterator.start c.loop-item.item-iterator.tree
      c.in-None.ensures.steps.0,
  part_end (rw (elements_end (value_text (inside_text c.args.levels)) c.args.named (separator c.loop-item.first)
      c.loop-item.item-iterator.tree c.in-None.ensures.steps.0) at c.loop-item.invariant.3),
)

pub show_inside-returns-then-levels-eq0 : goal.show_inside-returns-then-levels-eq0
show_inside-returns-then-levels-eq0 g t c = no_level c.args.levels c.args.document.now.start c.args.named
    c.args.document.now.tree (g.O.Sink.seen c.args.out.now) c.if-levels-eq0.true

pub show_inside-returns-in-Err : goal.show_inside-returns-in-Err
show_inside-returns-in-Err g t c = (
  _,
  rw (inside_more c.args.levels c.args.named c.args.document.now.tree c.if-levels-eq0.false)
      (put_stops _ (rw c.opening.ensures.text at c.in-Err.ensures.wrote)),
)

pub show_inside-returns-in-Bad : goal.show_inside-returns-in-Bad
show_inside-returns-in-Bad g t c =
    bad_more c.args.levels c.args.document.now.start c.args.document.now.tree c.if-levels-eq0.false ∙ c.in-Bad.ensures

pub show_inside-returns-in-Failed : goal.show_inside-returns-in-Failed
show_inside-returns-in-Failed g t c = (
  _,
  rw (inside_more c.args.levels c.args.named c.args.document.now.tree c.if-levels-eq0.false)
      (put_then _ (rw c.opening.ensures.text at c.in-Ok.ensures.wrote) (put_stops _ c.in-Failed.ensures.1)),
)

pub show_inside-returns-in-Ok-write_whole : goal.show_inside-returns-in-Ok-write_whole
show_inside-returns-in-Ok-write_whole g t c = (
  bad_more c.args.levels c.args.document.now.start c.args.document.now.tree c.if-levels-eq0.false
      ∙ c.in-Written.ensures.0,
  rw (inside_more c.args.levels c.args.named c.args.document.now.tree c.if-levels-eq0.false)
      (put_then _ (rw c.opening.ensures.text at c.in-Ok.ensures.wrote)
      (put_then _ c.in-Written.ensures.1 (rw c.closing.ensures.text at c.in-Ok-write_whole.ensures.wrote))),
)

pub show_inside-returns-in-Err-write_whole : goal.show_inside-returns-in-Err-write_whole
show_inside-returns-in-Err-write_whole g t c = (
  _,
  rw (inside_more c.args.levels c.args.named c.args.document.now.tree c.if-levels-eq0.false)
      (put_then _ (rw c.opening.ensures.text at c.in-Ok.ensures.wrote)
      (put_then _ c.in-Written.ensures.1 (rw c.closing.ensures.text at c.in-Err-write_whole.ensures.wrote))),
)
