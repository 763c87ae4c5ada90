-- MongoDB Client Side Encryption, `encrypt` over a stream of commands: every accepted command was sealed, and nothing
-- else changed.
use Rattle.std.specs.Prelude.{◌≡◌, ℕ, ◌+◌, ◌^◌, ◌<◌, ◌≤◌, ◌&&◌, Bool, not, nat_lt, Ok, None, is_none, List, [], ◌∷◌}
use Rattle.std.specs.Prelude.{◌++◌, length, flat_map, if◌then◌else◌}
use Rattle.bson_tree.specs.Spelling.{doc_bytes}
use Rattle.bson_tree.specs.Tree.{Items}
use Rattle.bson_codec.specs.Layout.{IsDoc}
use Rattle.encrypt_schema.specs.Commands.Targets.{rows_of, verdict}
use Rattle.encrypt_schema.specs.Commands.Visits.{content_verdict, roles}
use Rattle.encrypt_schema.specs.Language.Collection.{Collection}
use Rattle.context_machine.specs.Rings.{Finder, first_keyless, found_in, needs_of}
use Rattle.doc_rewrite.specs.Keys.{Found}
use Rattle.doc_rewrite.specs.Opened.{HasAll, Keyring}
use Rattle.doc_rewrite.specs.PayloadFree.{IsPayloadFree}
use Rattle.doc_rewrite.specs.Sealed.{sealed}
use Rattle.doc_rewrite.specs.SealedCommand.{IsSealedCommand}
use Rattle.doc_rewrite.specs.Sites.{Site, draws_of, grown, sites_of}
use Rattle.fle_outside.specs.Blocks.{Block}
use Rattle.fle_outside.specs.Limits.{output_limit}
use Rattle.fle_outside.specs.Seen.{Draws, EntropySeen, Gains, SinkSeen}
use Rattle.fle_outside.specs.Writing.{IsProperPrefix}
use Rattle.payload6.specs.Needs.{Need}
use Rattle.fle_stream.specs.Plan.{Verdict}
use Rattle.fle_stream.specs.Streams.{Docs, doc, documents, ends}
use Rattle.fle_stream.specs.declared.status.Status.{Status}
use Rattle.fle_stream.specs.declared.status.Status.TheVariants as statuses
use Rattle.doc_rewrite.specs.Sites.{at_front}
use Rattle.fle_runner.specs.Encrypt.{encrypt_verdict}

-- what commands are sealed under: to which data key an id or an alternate name leads, the rules of the collections, the
-- database; and which data key an id has, under which they are opened
pub record Setup : Type 0 where
  pub keys : Finder
  pub opens : Keyring
  pub infos : List Collection
  pub db : List ℕ

-- the spellings of documents, one after another
abbrev pub stream : List Items → List ℕ
stream ds = flat_map doc_bytes ds

-- what a command comes to
abbrev pub verdict_of : Setup → Items → Verdict
verdict_of x c = encrypt_verdict x.keys x.infos x.db c

-- data keys are had by UUIDs alone, ids of 16 bytes
abbrev pub AreByUuid : Finder → Type 0
AreByUuid keys = (need : Need) (found : Found) → keys need ≡ Ok found → length found.id ≡ 16

-- a data key that is had for sealing is had by its id for opening
abbrev pub OpensAgain : Setup → Type 0
OpensAgain x = HasAll x.opens (found_in x.keys)

-- the values of a command that its rules protect
abbrev pub sites_in : Setup → Items → List Site
sites_in x c = sites_of (rows_of x.infos c) (at_front c) (roles (rows_of x.infos c) 0 c)

-- a command is accepted: it isn't refused, each of its protected values has its key, and its sealed form doesn't have
-- more than 48,000,000 bytes
abbrev pub accepts : Setup → Items → Bool
accepts x c =
    is_none (verdict x.db x.infos 0 c)
    && is_none (first_keyless x.keys (needs_of (rows_of x.infos c) (at_front c)))
    && not (nat_lt output_limit (length (doc_bytes c) + grown (sites_in x c)))

-- the commands of a stream before the first that isn't accepted, and before 2^40 bytes were taken
unfoldable pub accepted_in : Setup → ℕ → Docs → List Items
accepted_in x taken (ends rest) = []
accepted_in x taken (doc n c docs) =
    if (nat_lt taken (2 ^ 40) && accepts x c) then c ∷ accepted_in x (taken + n) docs else []

-- a command and its sealed form: exactly its protected values are payloads of them under their rules' policies, and
-- nothing else changed; its random payloads have these blocks as IVs, in reading order
pub record IsSealedUnder (x : Setup) (c : Items) (blocks : List Block) (d : Items) : Type 0 where
  pub command : IsSealedCommand (found_in x.keys) (rows_of x.infos c) c d
  pub count : length blocks ≡ draws_of (sites_in x c)
  pub ivs : d ≡ sealed (found_in x.keys) (sites_in x c) blocks (at_front c)

-- the same for commands one by one, each with its own blocks
abbrev pub AreSealedUnder : Setup → List Items → List Block → List Items → Type 0
AreSealedUnder x [] blocks [] = blocks ≡ []
AreSealedUnder x [] blocks (d ∷ ds) = ⊥
AreSealedUnder x (c ∷ cs) blocks [] = ⊥
AreSealedUnder x (c ∷ cs) blocks (d ∷ ds) =
    (own : List Block)
    × (rest : List Block)
    × (blocks ≡ own ++ rest)
    × IsSealedUnder x c own d
    × AreSealedUnder x cs rest ds

-- the run sealed each of these commands, with the blocks that it drew; it wrote the bytes of the sealed commands, one
-- after another, and nothing else
pub record SealsAllOf (x : Setup) (commands : List Items) (entropy entropy_after : EntropySeen)
    (out out_after : SinkSeen) : Type 0 where
  pub sealed : List Items
  pub blocks : List Block
  pub each : AreSealedUnder x commands blocks sealed
  pub draws : Draws entropy entropy_after blocks
  pub gains : Gains out.told out_after.told (stream sealed)

-- the same of the commands that it accepted
abbrev pub SealsStream : Setup → List ℕ → EntropySeen → EntropySeen → SinkSeen → SinkSeen → Type 0
SealsStream x told entropy entropy_after out out_after =
    SealsAllOf x (accepted_in x 0 (documents told)) entropy entropy_after out out_after

-- the output failed: the next command is there and was sealed with the further blocks, and the further bytes are the
-- first of its sealed form, and not all of them
abbrev pub SealsPart : Setup → List Items → List Block → List ℕ → Type 0
SealsPart x [] more part = ⊥
SealsPart x (c ∷ cs) more part = (d : Items) × IsSealedUnder x c more d × IsProperPrefix part (doc_bytes d)

-- a draw failed: the next command is there and draws more than the further blocks, and no further byte was written
abbrev pub DrawsPart : Setup → List Items → List Block → List ℕ → Type 0
DrawsPart x [] more part = ⊥
DrawsPart x (c ∷ cs) more part = (length more < draws_of (sites_in x c)) × (part ≡ [])

-- what came of the commands that weren't written whole, by the status: with any other than 6 and 7 no block and no byte
abbrev pub SealsNext : Setup → Status → List Items → List Block → List ℕ → Type 0
SealsNext x statuses.WriteFault others more part = SealsPart x others more part
SealsNext x statuses.EntropyFault others more part = DrawsPart x others more part
SealsNext x status others more part = (more ≡ []) × (part ≡ [])

-- whatever cut the run short, it sealed the first of these commands, with the first blocks that it drew, and wrote
-- their bytes, one after another; the further blocks and bytes are what came of the next command
pub record SealsFirstOf (x : Setup) (commands : List Items) (status : Status) (entropy entropy_after : EntropySeen)
    (out out_after : SinkSeen) : Type 0 where
  pub whole : List Items
  pub others : List Items
  pub split : commands ≡ whole ++ others
  pub sealed : List Items
  pub blocks : List Block
  pub more : List Block
  pub each : AreSealedUnder x whole blocks sealed
  pub draws : Draws entropy entropy_after (blocks ++ more)
  pub part : List ℕ
  pub next : SealsNext x status others more part
  pub gains : Gains out.told out_after.told (stream sealed ++ part)

-- the same of the commands that it accepted
abbrev pub SealsFirst : Setup → List ℕ → Status → EntropySeen → EntropySeen → SinkSeen → SinkSeen → Type 0
SealsFirst x told status entropy entropy_after out out_after =
    SealsFirstOf x (accepted_in x 0 (documents told)) status entropy entropy_after out out_after

-- the output failed: the next command is there, and the further bytes are the first of its own, and not all of them
abbrev pub OpensPart : List Items → List ℕ → Type 0
OpensPart [] part = ⊥
OpensPart (c ∷ cs) part = IsProperPrefix part (doc_bytes c)

-- with any other status than 6 no further byte was written
abbrev pub OpensNext : Status → List Items → List ℕ → Type 0
OpensNext statuses.WriteFault others part = OpensPart others part
OpensNext status others part = part ≡ []

-- and of commands that are opened, it wrote the first; the further bytes are what came of the next one
pub record OpensFirst (commands : List Items) (status : Status) (out out_after : SinkSeen) : Type 0 where
  pub whole : List Items
  pub others : List Items
  pub split : commands ≡ whole ++ others
  pub part : List ℕ
  pub next : OpensNext status others part
  pub gains : Gains out.told out_after.told (stream whole ++ part)

-- commands that their sealed forms open to: each has a spelling, is accepted by its contents, and has no payload
-- outside its protected values; the sealed one isn't too long for the input
abbrev pub AreReadable : Setup → List Items → List Items → Type 0
AreReadable x [] ds = Unit {0}
AreReadable x (c ∷ cs) [] = Unit {0}
AreReadable x (c ∷ cs) (d ∷ ds) =
    IsDoc c
    × (content_verdict (rows_of x.infos c) 0 c ≡ None)
    × IsPayloadFree (rows_of x.infos c) c
    × (length (doc_bytes d) ≤ 2 ^ 24)
    × AreReadable x cs ds

-- of commands that were accepted as they were read, what is left of that: no payload stands outside a command's
-- protected values, and its sealed form isn't too long for the input
abbrev pub AreOpenable : Setup → List Items → List Items → Type 0
AreOpenable x [] ds = Unit {0}
AreOpenable x (c ∷ cs) [] = Unit {0}
AreOpenable x (c ∷ cs) (d ∷ ds) =
    IsPayloadFree (rows_of x.infos c) c × (length (doc_bytes d) ≤ 2 ^ 24) × AreOpenable x cs ds
