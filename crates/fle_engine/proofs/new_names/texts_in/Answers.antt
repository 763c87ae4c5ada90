-- Each text is kept, or there is a value that is none.
use Rattle.std.proofs.Common.{map, ap}
use Rattle.std.specs.Prelude.{string_bytes}
use Rattle.fle_engine.proofs.NewTexts.{no_texts}
use Rattle.fle_engine.proofs.new_names.texts_in.Goals as goal

pub returns-in_default : goal.returns-in_default
returns-in_default c =
    record {
      read = no_texts _ _ _ _ _ _ c.in_default.ensures.text c.in-Some.ensures.steps.0 c.loop-item.invariant;
    }
