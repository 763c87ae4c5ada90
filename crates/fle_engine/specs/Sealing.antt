-- Sealing a command: its protected values in the form of payloads.
use Rattle.std.specs.Prelude.{ℕ, ◌+◌, List, Option, length}
use Rattle.bson_codec.specs.Borrowed.{At}
use Rattle.bson_tree.specs.Spelling.{doc_bytes}
use Rattle.bson_tree.specs.Tree.{Items}
use Rattle.context_machine.specs.Ready.{sealed_size, values_of}
use Rattle.context_machine.specs.Rings.{Finder, found_in, first_keyless, needs_of}
use Rattle.doc_rewrite.specs.Sealed.{sealed}
use Rattle.doc_rewrite.specs.Sites.{Site, draws_of, grown, sites_of}
use Rattle.encrypt_schema.specs.Commands.Visits.{roles}
use Rattle.encrypt_schema.specs.Language.Collection.{Collection}
use Rattle.encrypt_schema.specs.Language.Row.{Row}
use Rattle.fle_stream.specs.Plan.{Plan}
use Rattle.fle_engine.specs.Rulings.{Ruling, at_front, by_refusal, contents_with, ruling_with, sized_plan}
use Rattle.fle_engine.specs.declared.answer.Wanted.{Wanted}

-- a command sealed at these sites
abbrev pub sealed_plan : Finder → List Site → Items → Plan
sealed_plan keys ss c = record {
  draws = draws_of ss;
  size = length (doc_bytes c) + grown ss;
  bytes = λ blocks. doc_bytes (sealed (found_in keys) ss blocks (at_front c));
}

-- what becomes of a command under these rules that isn't refused: it stops at the first value whose key isn't to be
-- had, or at 48,000,000 bytes, or its protected values are sealed
abbrev pub seal_under : Finder → List Row → Items → Ruling
seal_under keys rows c =
    by_refusal (first_keyless keys (needs_of rows (at_front c)))
    (sized_plan (sealed_plan keys (sites_of rows (at_front c) (roles rows 0 c)) c))

-- what a command of this database comes to under these keys and infos
unfoldable pub seal_ruling : Finder → List Collection → List ℕ → Items → Ruling
seal_ruling keys infos db c = ruling_with (seal_under keys) infos db c

-- what a command comes to, whose fields aren't refused, by its contents under these rules
abbrev pub seal_contents : Finder → List Row → Items → Ruling
seal_contents keys rows c = contents_with (seal_under keys) rows c

-- what a command of this collection wants as it is sealed
abbrev pub wanted_by : Option Collection → At → Wanted
wanted_by info command =
    record { size = sealed_size info command; draws = draws_of (values_of info command) }
