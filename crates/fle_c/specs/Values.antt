-- MongoDB Client Side Encryption, "ClientEncryption", `encrypt`: what a call comes to that seals one value under a
-- key that is named.
use Rattle.std.specs.Prelude.{ℕ, Bool, true, false, ◌==◌, List, [], length, Option, Some, None}
use Rattle.bson_tree.specs.Tree.{no_items}
use Rattle.data_key.specs.declared.key_doc.KeyDoc.{KeyDoc}
use Rattle.encrypt_schema.specs.declared.schema.policy.Algorithm.{Algorithm}
use Rattle.encrypt_schema.specs.declared.schema.policy.Algorithm.TheVariants.{Deterministic, Random}
use Rattle.fle_client.specs.Clients.{keys_of}
use Rattle.fle_client.specs.declared.client.Client.{Client}
use Rattle.fle_engine.specs.Asked.{key_ruling}
use Rattle.fle_engine.specs.declared.opener.Opener.{Opener}
use Rattle.payload6.specs.Needs.{Need, Id, Name}
use Rattle.fle_c.specs.Blocks.{handed_seen}
use Rattle.fle_c.specs.Calls.{AnswersAs, JudgesAs, Tells, document_limit, undrawing, valuing_of}
use Rattle.fle_c.specs.Telling.{bare}
use Rattle.fle_c.specs.declared.told.Told.{Told}

-- the algorithm that is asked for: the random one, or the deterministic one
abbrev pub algorithm_of : Bool → Algorithm
algorithm_of true = Random
algorithm_of false = Deterministic

-- what is told of a key by its id, which has 16 bytes; where it hasn't, that is told
abbrev pub ById : (Need → Type 0) → Bool → List ℕ → List ℕ → List ℕ → Told → Type 0
ById is true id before after told = is (Id id)
ById is false id before after told = Tells (bare 12) before after told

-- the same of a key by an alternate name, or by its id
abbrev pub ByKey : (Need → Type 0) → Bool → List ℕ → List ℕ → List ℕ → Told → Type 0
ByKey is true name before after told = is (Name name)
ByKey is false id before after told = ById is (length id == 16) id before after told

-- the value of a document of one element is sealed under the key that this leads to
abbrev pub SealsUnder : Opener → Algorithm → List ℕ → List ℕ → List ℕ → List ℕ → Told → Need → Type 0
SealsUnder o algorithm document blocks before after told need =
    JudgesAs document_limit
    (λ d. AnswersAs (valuing_of o need algorithm d) d (handed_seen blocks 0) before after told) document before after
    told

-- the same under keys with their master key; where there is none, that is told as where none is open
abbrev pub SealsValueAs : Option Opener → Bool → List ℕ → Bool → List ℕ → List ℕ → List ℕ → List ℕ → Told → Type 0
SealsValueAs (Some o) named key random document blocks before after told =
    ByKey (SealsUnder o (algorithm_of random) document blocks before after told) named key before after told
SealsValueAs None named key random document blocks before after told = Tells (bare 11) before after told

-- the key that this leads to is asked for where it isn't among these
abbrev pub WantsKey : List KeyDoc → List ℕ → List ℕ → Told → Need → Type 0
WantsKey documents before after told need =
    AnswersAs (undrawing (key_ruling documents need)) no_items (handed_seen [] 0) before after told

-- the same by the client of a slot, with a master key or without one; where none is open, that is told
abbrev pub WantsValueKeyAs : Option Client → Bool → List ℕ → List ℕ → List ℕ → Told → Type 0
WantsValueKeyAs (Some client) named key before after told =
    ByKey (WantsKey (keys_of client.keys) before after told) named key before after told
WantsValueKeyAs None named key before after told = Tells (bare 11) before after told
