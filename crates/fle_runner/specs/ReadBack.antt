-- A stream of documents read back: each of them comes to the bytes of a document of a list.
use Rattle.std.specs.Prelude.{◌≡◌, ℕ, ◌+◌, ◌^◌, ◌≤◌, List, [], ◌∷◌, length}
use Rattle.bson_tree.specs.Spelling.{doc_bytes}
use Rattle.bson_tree.specs.Tree.{Items}
use Rattle.bson_codec.specs.Layout.{IsDoc}
use Rattle.fle_stream.specs.Outcome.{Outcome}
use Rattle.fle_stream.specs.Plan.{Output, Verdict, writes}
use Rattle.fle_stream.specs.declared.why.Finish.TheVariants as finishes
pub use Rattle.fle_runner.specs.Headline.{stream}
use Rattle.fle_runner.specs.Verdicts.{plain_plan}

-- documents of the input one by one, each of which comes to the bytes of the document in its place in the list before
abbrev pub ComesTo : (Items → Verdict) → List Items → List Items → Type 0
ComesTo v [] [] = Unit {0}
ComesTo v [] (d ∷ ds) = ⊥
ComesTo v (c ∷ cs) [] = ⊥
ComesTo v (c ∷ cs) (d ∷ ds) =
    IsDoc d × (length (doc_bytes d) ≤ 2 ^ 24) × (v d ≡ writes (plain_plan (doc_bytes c))) × ComesTo v cs ds

-- the outputs of these documents
abbrev pub outputs_back : List Items → List Items → List Output
outputs_back [] ds = []
outputs_back (c ∷ cs) [] = []
outputs_back (c ∷ cs) (d ∷ ds) =
    record { read = length (doc_bytes d); documents = 1; plan = plain_plan (doc_bytes c) } ∷ outputs_back cs ds

-- all documents were read, and the list was written
abbrev pub read_whole : List Items → List Items → Outcome
read_whole cs ds = record {
  finish = finishes.Done;
  number = 1 + length ds;
  outputs = outputs_back cs ds;
  used = length (stream ds);
}
