use Rattle.std.proofs.Common.{◌≡◌, map}
use Rattle.std.specs.Prelude.{string_bytes}
use Rattle.fle_engine.specs.NewNames.{texts_in}
use Rattle.fle_engine.proofs.NewTexts.{put_before}
use Rattle.fle_engine.proofs.new_names.texts_in.Given as goal

abbrev pub invariant-loop-item : goal.invariant-loop-item
invariant-loop-item l =
    put_before (map string_bytes l.texts.items) (texts_in l.item-iterator.tree) ≡ texts_in l.array.tree
