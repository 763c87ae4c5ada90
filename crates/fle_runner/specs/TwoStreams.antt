-- MongoDB Client Side Encryption, noninterference: streams of commands that differ in protected values alone.
use Rattle.std.specs.Prelude.{◌≡◌, List, [], ◌∷◌}
use Rattle.encrypt_schema.specs.Commands.Skeletons.{skeleton}
use Rattle.encrypt_schema.specs.Commands.Targets.{rows_of}
use Rattle.encrypt_schema.specs.Language.Collection.{Collection}
use Rattle.fle_stream.specs.Outcome.{Outcome}
use Rattle.fle_stream.specs.Plan.{Output, Plan, Verdict, writes, refused, too_long}
use Rattle.fle_stream.specs.Streams.{Docs, doc, ends}

-- the documents have, one by one, equal skeletons under the rules of their collections, and what stands behind the last
-- ones is the same
abbrev pub HaveEqualSkeletons : List Collection → Docs → Docs → Type 0
HaveEqualSkeletons infos (ends rest) (ends other) = rest ≡ other
HaveEqualSkeletons infos (ends rest) (doc m d others) = ⊥
HaveEqualSkeletons infos (doc n c docs) (ends other) = ⊥
HaveEqualSkeletons infos (doc n c docs) (doc m d others) =
    (skeleton (rows_of infos c) c ≡ skeleton (rows_of infos c) d) × HaveEqualSkeletons infos docs others

-- two outputs have as many bytes, and draw as many blocks
pub record ArePlansAlike (p q : Plan) : Type 0 where
  pub draws : p.draws ≡ q.draws
  pub size : p.size ≡ q.size

-- two commands come to outputs that are alike, or are refused for one reason at one place, or both are too long
abbrev pub AreVerdictsAlike : Verdict → Verdict → Type 0
AreVerdictsAlike (writes p) (writes q) = ArePlansAlike p q
AreVerdictsAlike (refused reason place) (refused other there) = (reason ≡ other) × (place ≡ there)
AreVerdictsAlike too_long too_long = Unit {0}
AreVerdictsAlike _ _ = ⊥

-- as many outputs, each from as many bytes of the input and as many documents, and alike
abbrev pub AreOutputsAlike : List Output → List Output → Type 0
AreOutputsAlike [] [] = Unit {0}
AreOutputsAlike [] (p ∷ ps) = ⊥
AreOutputsAlike (o ∷ os) [] = ⊥
AreOutputsAlike (o ∷ os) (p ∷ ps) =
    (o.read ≡ p.read) × (o.documents ≡ p.documents) × ArePlansAlike o.plan p.plan × AreOutputsAlike os ps

-- two runs come to one end at one document, behind outputs that are alike, and read as many bytes
pub record EndAlike (o p : Outcome) : Type 0 where
  pub finish : o.finish ≡ p.finish
  pub number : o.number ≡ p.number
  pub used : o.used ≡ p.used
  pub outputs : AreOutputsAlike o.outputs p.outputs
