-- Elements through a piece.
use Rattle.std.proofs.Common.{[], ◌∷◌, ◌++◌, arith}
use Rattle.ext_json.specs.Text.{elements_text, value_text, inside_text, name_text}
use Rattle.ext_json.proofs.Writing.{put_then, put_stops}
use Rattle.ext_json.proofs.Walk.{elements_more, elements_end, inside_more}
use Rattle.ext_json.proofs.Sending.{sends_held, cut_back, sends_long, sends_more, sends_stop, sends_end}
use Rattle.ext_json.proofs.pieces.+sent.Goals as goal

pub send_long-returns-in-Err : goal.send_long-returns-in-Err
send_long-returns-in-Err g t c = record {
  wrote = put_stops _ c.in-Err.ensures.wrote;
}

pub send_long-returns-in-Err-put_name : goal.send_long-returns-in-Err-put_name
send_long-returns-in-Err-put_name g t c = record {
  wrote = put_then _ c.in-Ok.ensures.wrote
      (put_stops _ (rw c.name.ensures.name at c.in-Err-put_name.ensures));
}

pub send_long-returns : goal.send_long-returns
send_long-returns g t c = record {
  wrote = put_then _ c.in-Ok.ensures.wrote
      (put_then _ (rw c.name.ensures.name at c.in-Ok-put_name.ensures) c.send_value.ensures.wrote);
}

pub send_inside-returns-in-Err : goal.send_inside-returns-in-Err
send_inside-returns-in-Err g t c = record {
  wrote = rw (inside_more c.args.levels c.args.named c.args.document.now.tree c.if-levels-eq0.false)
      (put_stops _ (rw c.opening.ensures.text at c.in-Err.ensures.wrote));
}

pub send_inside-returns-in-Err-send_elements : goal.send_inside-returns-in-Err-send_elements
send_inside-returns-in-Err-send_elements g t c = record {
  wrote = rw (inside_more c.args.levels c.args.named c.args.document.now.tree c.if-levels-eq0.false)
      (put_then _ (rw c.opening.ensures.text at c.in-Ok.ensures.wrote)
      (put_stops _ c.in-Err-send_elements.ensures.wrote));
}

pub send_inside-returns : goal.send_inside-returns
send_inside-returns g t c = record {
  wrote = rw (inside_more c.args.levels c.args.named c.args.document.now.tree c.if-levels-eq0.false)
      (put_then _ (rw c.opening.ensures.text at c.in-Ok.ensures.wrote)
      (put_then _ c.in-Ok-send_elements.ensures.wrote (rw c.closing.ensures.text at c.write_whole-2.ensures.wrote)));
}

pub send_elements-returns-in-Err : goal.send_elements-returns-in-Err
send_elements-returns-in-Err g t c = record {
  wrote = sends_stop c.loop-item.piece.bytes.items c.send_element.new.piece.bytes.items
      (c.loop-item.before.now ++ (name_text c.args.named c.in-Some.item.name
      ++ value_text (inside_text c.args.levels) c.in-Some.item.tree))
      (elements_text (value_text (inside_text c.args.levels)) c.args.named (44 ∷ []) c.next.new.self.tree)
      c.loop-item.invariant.2
      (elements_more (value_text (inside_text c.args.levels)) c.args.named c.loop-item.before.now
      c.loop-item.item-iterator.tree c.next.new.self.tree c.in-Some.item c.in-Some.ensures.steps.0)
      c.in-Err.ensures.sent;
}

pub send_elements-loop-item-preserved : goal.send_elements-loop-item-preserved
send_elements-loop-item-preserved g t c = (
  tt,
  tt,
  rw c.comma-before.ensures.text (sends_more c.loop-item.piece.bytes.items
      (c.loop-item.before.now ++ (name_text c.args.named c.in-Some.item.name
      ++ value_text (inside_text c.args.levels) c.in-Some.item.tree))
      (elements_text (value_text (inside_text c.args.levels)) c.args.named (44 ∷ []) c.next.new.self.tree)
      c.loop-item.invariant.2
      (elements_more (value_text (inside_text c.args.levels)) c.args.named c.loop-item.before.now
      c.loop-item.item-iterator.tree c.next.new.self.tree c.in-Some.item c.in-Some.ensures.steps.0)
      c.in-Ok.ensures.sent),
)

pub send_elements-returns : goal.send_elements-returns
send_elements-returns g t c = record {
  wrote = sends_end _ c.loop-item.invariant.2
      (elements_end (value_text (inside_text c.args.levels)) c.args.named c.loop-item.before.now
      c.loop-item.item-iterator.tree c.in-None.ensures.steps.0)
      (rw c.deref.ensures.value at c.write_whole.ensures.wrote);
}

pub send_element-returns-in-Ok : goal.send_element-returns-in-Ok
send_element-returns-in-Ok g t c = record {
  sent = sends_held _ _ _ _ c.in-Ok.ensures.puts;
}

pub send_element-returns-in-Err-write_whole : goal.send_element-returns-in-Err-write_whole
send_element-returns-in-Err-write_whole g t c = record {
  sent = put_stops _ (rw (cut_back _ _ _ _ _ _ c.in-Err.ensures.puts
      (omega (arith, c.len-held.ensures, c.args.piece.now.bytes.ok)) c.truncate.ensures.items) at
      (rw c.deref.ensures.value at c.in-Err-write_whole.ensures.wrote));
}

pub send_element-returns : goal.send_element-returns
send_element-returns g t c = record {
  sent = sends_long _ (rw (cut_back _ _ _ _ _ _ c.in-Err.ensures.puts
      (omega (arith, c.len-held.ensures, c.args.piece.now.bytes.ok)) c.truncate.ensures.items) at
      (rw c.deref.ensures.value at c.in-Ok-write_whole.ensures.wrote)) c.send_long-sent.ensures.wrote
      c.clear.ensures.items;
}
