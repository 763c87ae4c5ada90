-- `encrypt-with` over a stream of commands and marking replies: every accepted command was sealed whose reply is right,
-- and nothing else changed.
use Rattle.std.specs.Prelude.{◌≡◌, ℕ, ◌+◌, ◌<◌, ◌^◌, ◌&&◌, Bool, nat_lt, is_none, Some, None, List, [], ◌∷◌}
use Rattle.std.specs.Prelude.{codes, if◌then◌else◌}
use Rattle.std.specs.List.{All}
use Rattle.bson_tree.specs.Tree.{Items}
use Rattle.encrypt_schema.specs.Commands.Targets.{rows_of, verdict}
use Rattle.fle_engine.specs.Checking.{wrong_to}
use Rattle.fle_outside.specs.Files.{Files}
use Rattle.fle_runner.specs.EncryptWith.{encrypt_pairing}
use Rattle.fle_runner.specs.Headline.{SealsAllOf, SealsFirstOf, Setup, accepts}
use Rattle.fle_runner.specs.HeadlineFiles.{AsksSealing}
use Rattle.fle_stream.specs.Ended.{IsSettled, World}
use Rattle.fle_stream.specs.Pairs.{Pairing, answer_limit}
use Rattle.fle_stream.specs.Streams.{Docs, doc, document_limit, documents_within, ends, nothing}
use Rattle.fle_stream.specs.declared.status.Status.{Status}
use Rattle.reply_check.specs.Right.{IsRight}

-- a pair is accepted: its reply begins before 2^40 bytes were taken and is right, and its command is accepted as by
-- `encrypt`
abbrev pub accepts_pair : Setup → ℕ → Items → Items → Bool
accepts_pair x behind c r = nat_lt behind (2 ^ 40) && accepts x c && is_none (wrong_to x.infos c r)

-- the commands of the pairs before the first one that isn't accepted
unfoldable pub accepted_pairs : Setup → ℕ → Docs → List Items
accepted_pairs x taken (ends rest) = []
accepted_pairs x taken (doc n c (ends rest)) = []
accepted_pairs x taken (doc n c (doc m r docs)) =
    if accepts_pair x (taken + n) c r then c ∷ accepted_pairs x (taken + (n + m)) docs else []

-- the commands of a stream of pairs that are accepted
abbrev pub commands_in : Setup → List ℕ → List Items
commands_in x told = accepted_pairs x 0 (documents_within document_limit answer_limit told)

-- the words are `encrypt-with DB KEYS SCHEMAS MASTER`, and the files say this
abbrev pub IsEncryptWith : List (List ℕ) → Files → Setup → Type 0
IsEncryptWith words all x = AsksSealing (codes "encrypt-with") words all x

-- the first of the accepted commands were sealed and written, whatever cut the run short, and at most a part of the
-- next one's sealed form; and where no object failed and memory lasted, every accepted command was sealed, and nothing
-- else changed
abbrev pub SealsPairs : List (List ℕ) → World → World → Status → Type 0
SealsPairs words before after status =
    (all : Files) (told : List ℕ) (x : Setup) → before.files.told ≡ Some all → before.input.told ≡ Some told
    → IsEncryptWith words all x → All (λ b. b < 256) told
    → SealsFirstOf x (commands_in x told) status before.entropy after.entropy before.out after.out
    × (IsSettled status → SealsAllOf x (commands_in x told) before.entropy after.entropy before.out after.out)

-- how a run judges pairs under this setup
abbrev pub pairing_of : Setup → Pairing
pairing_of x = encrypt_pairing x.keys x.infos x.db

-- pairs of documents, and commands alone: each command is the first document of its pair and isn't refused by itself,
-- and the second one is the right reply to it
abbrev pub AreRightPairs : Setup → Docs → Docs → Type 0
AreRightPairs x (ends rest) (ends other) = (rest ≡ nothing) × (other ≡ nothing)
AreRightPairs x (ends rest) (doc k d es) = ⊥
AreRightPairs x (doc n c (ends rest)) es = ⊥
AreRightPairs x (doc n c (doc m r docs)) (ends other) = ⊥
AreRightPairs x (doc n c (doc m r docs)) (doc k d es) =
    (n ≡ k)
    × (c ≡ d)
    × (verdict x.db x.infos 0 c ≡ None)
    × IsRight (rows_of x.infos c) c r
    × AreRightPairs x docs es
