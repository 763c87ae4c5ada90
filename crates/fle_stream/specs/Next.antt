-- What reading the next document of a stream gives.
use Rattle.std.specs.Prelude.{◌≡◌, ℕ, ◌-◌, ◌≤◌, Option, Some, List, length, drop}
use Rattle.bson_codec.specs.Reading.{document}
use Rattle.fle_outside.specs.Filling.{RoseBy, RoseWithin}
use Rattle.fle_stream.specs.Outcome.{rest_finish}
use Rattle.fle_stream.specs.Streams.{Rest, documents_within, ends, nothing, spelled, first_size, rest_size}
use Rattle.fle_stream.specs.declared.next.Next.{Next}
use Rattle.fle_stream.specs.declared.next.Next.TheVariants as nexts
use Rattle.fle_stream.specs.declared.why.Cut.{Cut}
use Rattle.fle_stream.specs.declared.why.Cut.TheVariants as cuts
use Rattle.fle_stream.specs.declared.why.Finish.TheVariants as finishes
use Rattle.fle_stream.specs.declared.why.Why.{Why}
use Rattle.fle_stream.specs.declared.why.Why.TheVariants as whys

-- a source that told what it had left has handed out at most so many bytes of it
abbrev pub Handed : List ℕ → Option (List ℕ) → ℕ → Type 0
Handed told after most = (m : ℕ) × (m ≤ most) × (after ≡ Some (drop m told))

-- the answer says what stands first in the stream: bytes, and a document or a fault by what they spell; nothing; or why
-- a run ends there, by what is left, which is read up to its fault, or since the source failed or memory wanted, where
-- at most the first document is read
abbrev pub NextIs : ℕ → ℕ → List ℕ → Option (List ℕ) → Next → Type 0
NextIs limit other told after (nexts.Framed bytes) =
    (documents_within limit other told
    ≡ spelled (documents_within other limit) (length bytes.items) told (document bytes.items))
    × (after ≡ Some (drop (length bytes.items) told))
NextIs limit other told after nexts.Nothing = (documents_within limit other told ≡ ends nothing) × (after ≡ Some told)
NextIs limit other told after (nexts.Stops (whys.Finished finish)) =
    (rest : Rest)
    × (documents_within limit other told ≡ ends rest)
    × (finish ≡ rest_finish rest)
    × (after ≡ Some (drop (rest_size rest) told))
NextIs limit other told after (nexts.Stops (whys.Cut cut)) =
    Handed told after (first_size (documents_within limit other told) (length told))

-- why a run ends where a document begins that isn't read
abbrev pub IsOfNext : Why → Type 0
IsOfNext (whys.Finished (finishes.Limit bound)) = Unit {0}
IsOfNext (whys.Finished (finishes.Malformed fault)) = Unit {0}
IsOfNext (whys.Finished finish) = ⊥
IsOfNext (whys.Cut cuts.Input) = Unit {0}
IsOfNext (whys.Cut cuts.Memory) = Unit {0}
IsOfNext (whys.Cut cut) = ⊥

-- told or not, bytes that were read are as many as a document of the input may have
abbrev pub NextSound : ℕ → Next → Type 0
NextSound limit (nexts.Framed bytes) = (5 ≤ length bytes.items) × (length bytes.items ≤ limit)
NextSound limit nexts.Nothing = Unit {0}
NextSound limit (nexts.Stops why) = IsOfNext why

-- told or not, a source handed out the bytes of the document, and else at most as many as a document may have; `begun`
-- of them before
abbrev pub NextTook : ℕ → ℕ → ℕ → ℕ → Next → Type 0
NextTook limit begun before after (nexts.Framed bytes) = RoseBy before after (length bytes.items - begun)
NextTook limit begun before after nexts.Nothing = RoseWithin before after (limit - begun)
NextTook limit begun before after (nexts.Stops why) = RoseWithin before after (limit - begun)

-- a run ends there by this
abbrev pub StopsBy : Cut → Next → Type 0
StopsBy cut (nexts.Framed bytes) = ⊥
StopsBy cut nexts.Nothing = ⊥
StopsBy cut (nexts.Stops why) = why ≡ whys.Cut cut
