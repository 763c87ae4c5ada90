-- The spans of marks read the texts that name their keys, which lie outside every hole; in an accepted command there is
-- one for each mark under a pointer.
use Rattle.encrypt_schema.proofs.Commands.PointerTexts.{names_are_texts}
use Rattle.encrypt_schema.proofs.Commands.EqualTexts.{equal_texts}
use Rattle.encrypt_schema.proofs.Commands.BlankTexts.{blank_texts}
use Rattle.command_marker.proofs.Needed.{marks_needed}
use Rattle.command_marker.proofs.laws.key_names.Goals as goal

pub returns : goal.returns
returns c = record {
  texts = names_are_texts;
  worlds = equal_texts;
  blanks = blank_texts;
  accepted = marks_needed;
}
