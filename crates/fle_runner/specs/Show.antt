-- `show`: the text of each document, after MongoDB Extended JSON v2, and a line feed.
use Rattle.std.specs.Prelude.{ℕ, Option, Some, None, List, [], ◌∷◌, ◌++◌}
use Rattle.bson_tree.specs.Tree.{Items}
use Rattle.bson_tree.specs.Places.{place_of}
use Rattle.ext_json.specs.BadText.{first_bad}
use Rattle.ext_json.specs.Text.{text}
use Rattle.fle_stream.specs.Plan.{Verdict, writes, refused}
use Rattle.fle_stream.specs.Task.{Task, each}
use Rattle.fle_stream.specs.declared.why.Number.{Number}
use Rattle.fle_runner.specs.Verdicts.{plain_plan}

-- the number of the reason of a document that has no text
abbrev pub not_text : Number
not_text = record { value = 28 }

-- the text and a line feed
abbrev pub text_line : Items → List ℕ
text_line is = text is ++ (10 ∷ [])

-- a refusal at the place whose value begins at the offset, or the text and a line feed, however long
abbrev pub shown_by : Items → Option ℕ → Verdict
shown_by is (Some at) = refused not_text (place_of at is)
shown_by is None = writes (plain_plan (text_line is))

-- what a document comes to: refused at the first place whose name, text or part of a regular expression isn't UTF-8;
-- a document of the stream begins at 0
unfoldable pub show_verdict : Items → Verdict
show_verdict is = shown_by is (first_bad 0 is)

-- each document is shown, and no file is read
abbrev pub show_task : Task
show_task = each show_verdict
