-- The ends that a verb can make, and the statuses that they have.
use Rattle.std.proofs.Common.{◌≡◌, Option, Some, None, refl}
use Rattle.fle_stream.specs.Codes.{status_of}
use Rattle.fle_stream.specs.Ended.{IsUnread}
use Rattle.fle_stream.specs.Turn.{IsOfStream}
use Rattle.fle_stream.specs.declared.why.Cut.{Cut}
use Rattle.fle_stream.specs.declared.why.Cut.TheVariants as cuts
use Rattle.fle_stream.specs.declared.why.Finish.{Finish}
use Rattle.fle_stream.specs.declared.why.Finish.TheVariants as finishes
use Rattle.fle_stream.specs.declared.why.Why.{Why}
use Rattle.fle_stream.specs.declared.why.Why.TheVariants as whys
use Rattle.fle_runner.specs.Keys.{IsOfKeys, IsOfText}
use Rattle.fle_runner.specs.Keygen.{IsOfKeygen}
use Rattle.fle_runner.specs.Rewrap.{IsOfRewrap}
use Rattle.fle_runner.specs.Statuses.{IsStatusOfDemo, IsStatusOfEncrypt, IsStatusOfKeygen, IsStatusOfKeys}
use Rattle.fle_runner.specs.Statuses.{IsStatusOfRewrap, IsStatusOfShow, IsStatusOfUndrawn}

-- an end of a stream is none of words or files
pub stream_reads : (why : Why) → IsOfStream why → IsUnread (status_of why) → ⊥
stream_reads (whys.Finished finishes.Done) kind none = none
stream_reads (whys.Finished (finishes.Refused reason place)) kind none = none
stream_reads (whys.Finished (finishes.Malformed fault)) kind none = none
stream_reads (whys.Finished (finishes.Limit bound)) kind none = none
stream_reads (whys.Finished finishes.Words) kind none = kind
stream_reads (whys.Finished (finishes.Setup file fault document)) kind none = kind
stream_reads (whys.Finished (finishes.Key reason document)) kind none = none
stream_reads (whys.Cut cuts.Folder) kind none = none
stream_reads (whys.Cut cuts.Input) kind none = none
stream_reads (whys.Cut cuts.Output) kind none = none
stream_reads (whys.Cut cuts.Entropy) kind none = none
stream_reads (whys.Cut cuts.Memory) kind none = none

-- nor is one of a text
pub text_reads : (why : Why) → IsOfText why → IsUnread (status_of why) → ⊥
text_reads (whys.Finished finishes.Done) kind none = none
text_reads (whys.Finished (finishes.Refused reason place)) kind none = kind
text_reads (whys.Finished (finishes.Malformed fault)) kind none = kind
text_reads (whys.Finished (finishes.Limit bound)) kind none = kind
text_reads (whys.Finished finishes.Words) kind none = kind
text_reads (whys.Finished (finishes.Setup file fault document)) kind none = kind
text_reads (whys.Finished (finishes.Key reason document)) kind none = kind
text_reads (whys.Cut cuts.Folder) kind none = none
text_reads (whys.Cut cuts.Input) kind none = none
text_reads (whys.Cut cuts.Output) kind none = none
text_reads (whys.Cut cuts.Entropy) kind none = none
text_reads (whys.Cut cuts.Memory) kind none = none

pub text_status : (why : Why) → IsOfText why → IsStatusOfDemo (status_of why)
text_status (whys.Finished finishes.Done) kind = tt
text_status (whys.Finished (finishes.Refused reason place)) kind = kind
text_status (whys.Finished (finishes.Malformed fault)) kind = kind
text_status (whys.Finished (finishes.Limit bound)) kind = kind
text_status (whys.Finished finishes.Words) kind = kind
text_status (whys.Finished (finishes.Setup file fault document)) kind = kind
text_status (whys.Finished (finishes.Key reason document)) kind = kind
text_status (whys.Cut cuts.Folder) kind = kind
text_status (whys.Cut cuts.Input) kind = kind
text_status (whys.Cut cuts.Output) kind = tt
text_status (whys.Cut cuts.Entropy) kind = kind
text_status (whys.Cut cuts.Memory) kind = tt

pub keys_status : (why : Why) → IsOfKeys why → IsStatusOfKeys (status_of why)
keys_status (whys.Finished finishes.Done) kind = tt
keys_status (whys.Finished (finishes.Refused reason place)) kind = kind
keys_status (whys.Finished (finishes.Malformed fault)) kind = kind
keys_status (whys.Finished (finishes.Limit bound)) kind = kind
keys_status (whys.Finished finishes.Words) kind = kind
keys_status (whys.Finished (finishes.Setup file fault document)) kind = tt
keys_status (whys.Finished (finishes.Key reason document)) kind = kind
keys_status (whys.Cut cuts.Folder) kind = tt
keys_status (whys.Cut cuts.Input) kind = tt
keys_status (whys.Cut cuts.Output) kind = tt
keys_status (whys.Cut cuts.Entropy) kind = kind
keys_status (whys.Cut cuts.Memory) kind = tt

pub keygen_status : (why : Why) → IsOfKeygen why → IsStatusOfKeygen (status_of why)
keygen_status (whys.Finished finishes.Done) kind = tt
keygen_status (whys.Finished (finishes.Refused reason place)) kind = kind
keygen_status (whys.Finished (finishes.Malformed fault)) kind = kind
keygen_status (whys.Finished (finishes.Limit bound)) kind = kind
keygen_status (whys.Finished finishes.Words) kind = kind
keygen_status (whys.Finished (finishes.Setup file fault document)) kind = tt
keygen_status (whys.Finished (finishes.Key reason document)) kind = kind
keygen_status (whys.Cut cuts.Folder) kind = tt
keygen_status (whys.Cut cuts.Input) kind = tt
keygen_status (whys.Cut cuts.Output) kind = tt
keygen_status (whys.Cut cuts.Entropy) kind = tt
keygen_status (whys.Cut cuts.Memory) kind = tt

pub rewrap_status : (why : Why) → IsOfRewrap why → IsStatusOfRewrap (status_of why)
rewrap_status (whys.Finished finishes.Done) kind = tt
rewrap_status (whys.Finished (finishes.Refused reason place)) kind = tt
rewrap_status (whys.Finished (finishes.Malformed fault)) kind = kind
rewrap_status (whys.Finished (finishes.Limit bound)) kind = kind
rewrap_status (whys.Finished finishes.Words) kind = kind
rewrap_status (whys.Finished (finishes.Setup file fault document)) kind = tt
rewrap_status (whys.Finished (finishes.Key reason document)) kind = tt
rewrap_status (whys.Cut cuts.Folder) kind = tt
rewrap_status (whys.Cut cuts.Input) kind = tt
rewrap_status (whys.Cut cuts.Output) kind = tt
rewrap_status (whys.Cut cuts.Entropy) kind = tt
rewrap_status (whys.Cut cuts.Memory) kind = tt

-- a stream that reads no file and draws no block
pub show_status : (why : Why) → IsOfStream why → (why ≡ whys.Cut cuts.Entropy → ⊥) → IsStatusOfShow (status_of why)
show_status (whys.Finished finishes.Done) kind undrawn = tt
show_status (whys.Finished (finishes.Refused reason place)) kind undrawn = tt
show_status (whys.Finished (finishes.Malformed fault)) kind undrawn = tt
show_status (whys.Finished (finishes.Limit bound)) kind undrawn = tt
show_status (whys.Finished finishes.Words) kind undrawn = kind
show_status (whys.Finished (finishes.Setup file fault document)) kind undrawn = kind
show_status (whys.Finished (finishes.Key reason document)) kind undrawn = tt
show_status (whys.Cut cuts.Folder) kind undrawn = tt
show_status (whys.Cut cuts.Input) kind undrawn = tt
show_status (whys.Cut cuts.Output) kind undrawn = tt
show_status (whys.Cut cuts.Entropy) kind undrawn = undrawn refl
show_status (whys.Cut cuts.Memory) kind undrawn = tt

-- files and a stream, and no block
pub undrawn_status : (why : Why) → (why ≡ whys.Finished finishes.Words → ⊥) → (why ≡ whys.Cut cuts.Entropy → ⊥)
    → IsStatusOfUndrawn (status_of why)
undrawn_status (whys.Finished finishes.Done) formed undrawn = tt
undrawn_status (whys.Finished (finishes.Refused reason place)) formed undrawn = tt
undrawn_status (whys.Finished (finishes.Malformed fault)) formed undrawn = tt
undrawn_status (whys.Finished (finishes.Limit bound)) formed undrawn = tt
undrawn_status (whys.Finished finishes.Words) formed undrawn = formed refl
undrawn_status (whys.Finished (finishes.Setup file fault document)) formed undrawn = tt
undrawn_status (whys.Finished (finishes.Key reason document)) formed undrawn = tt
undrawn_status (whys.Cut cuts.Folder) formed undrawn = tt
undrawn_status (whys.Cut cuts.Input) formed undrawn = tt
undrawn_status (whys.Cut cuts.Output) formed undrawn = tt
undrawn_status (whys.Cut cuts.Entropy) formed undrawn = undrawn refl
undrawn_status (whys.Cut cuts.Memory) formed undrawn = tt

-- files, a stream and blocks
pub encrypt_status : (why : Why) → (why ≡ whys.Finished finishes.Words → ⊥) → IsStatusOfEncrypt (status_of why)
encrypt_status (whys.Finished finishes.Done) formed = tt
encrypt_status (whys.Finished (finishes.Refused reason place)) formed = tt
encrypt_status (whys.Finished (finishes.Malformed fault)) formed = tt
encrypt_status (whys.Finished (finishes.Limit bound)) formed = tt
encrypt_status (whys.Finished finishes.Words) formed = formed refl
encrypt_status (whys.Finished (finishes.Setup file fault document)) formed = tt
encrypt_status (whys.Finished (finishes.Key reason document)) formed = tt
encrypt_status (whys.Cut cuts.Folder) formed = tt
encrypt_status (whys.Cut cuts.Input) formed = tt
encrypt_status (whys.Cut cuts.Output) formed = tt
encrypt_status (whys.Cut cuts.Entropy) formed = tt
encrypt_status (whys.Cut cuts.Memory) formed = tt

-- words that have a form don't lack it
pub unasked : {A : Type 0} {form : Option A} {asked : A} → form ≡ Some asked → form ≡ None → ⊥
unasked is none = cc

-- what is finished isn't cut short
pub uncut : {finish : Finish} {cut : Cut} → whys.Finished finish ≡ whys.Cut cut → ⊥
uncut at = cc

-- there was no memory
abbrev pub IsMemory : Why → Type 0
IsMemory (whys.Cut cuts.Memory) = Unit {0}
IsMemory _ = ⊥
