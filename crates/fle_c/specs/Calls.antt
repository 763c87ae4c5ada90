-- What a call comes to, by what is in the slot.
use Rattle.std.specs.Prelude.{◌≡◌, ℕ, ◌*◌, ◌^◌, ◌<◌, nat_lt, Bool, true, false, List, [], length, Option, Some, None}
use Rattle.std.specs.Prelude.{Result, Ok, Err}
use Rattle.bson_codec.specs.Reading.{document}
use Rattle.bson_codec.specs.declared.fault.BsonFault.{BsonFault}
use Rattle.bson_tree.specs.Tree.{Items}
use Rattle.context_machine.specs.Rings.{finder, ring}
use Rattle.data_key.specs.declared.key_doc.KeyDoc.{KeyDoc}
use Rattle.encrypt_schema.specs.declared.schema.policy.Algorithm.{Algorithm}
use Rattle.fle_client.specs.Clients.{AsksKeysAs, SameKeys, keys_of, ruling_by}
use Rattle.fle_client.specs.Clients.{MarksAs as ClientMarks, SealsAs as ClientSeals}
use Rattle.fle_client.specs.CommandSets.{info_by, seal_by}
use Rattle.fle_client.specs.declared.client.Client.{Client}
use Rattle.fle_client.specs.declared.client.NoAnswer.{NoAnswer}
use Rattle.fle_client.specs.declared.commands.CommandSet.{CommandSet}
use Rattle.fle_client.specs.declared.keys.Keys.{Keys}
use Rattle.fle_client.specs.declared.keys.Keys.TheVariants as held
use Rattle.fle_client.specs.declared.rules.Rules.{Rules}
use Rattle.fle_client.specs.declared.rules.Rules.TheVariants as kinds
use Rattle.fle_engine.specs.Answers.{AnswerIs}
use Rattle.fle_engine.specs.Asked.{payloads_ruling}
use Rattle.fle_engine.specs.Engines.{EngineIs}
use Rattle.fle_engine.specs.Explicit.{value_ruling}
use Rattle.fle_engine.specs.Loading.{Parts}
use Rattle.fle_engine.specs.Opening.{open_ruling}
use Rattle.fle_engine.specs.Rulings.{Ruling, makes, refused, too_long}
use Rattle.fle_engine.specs.declared.answer.Answer.{Answer}
use Rattle.fle_engine.specs.declared.asking.Asked.{Asked}
use Rattle.fle_engine.specs.declared.engine.Engine.{Engine}
use Rattle.fle_engine.specs.declared.loading.EngineFault.{EngineFault}
use Rattle.fle_engine.specs.declared.opener.Opener.{Opener}
use Rattle.fle_outside.specs.Limits.{output_limit}
use Rattle.fle_outside.specs.Seen.{EntropySeen}
use Rattle.payload6.specs.Needs.{Need}
use Rattle.fle_c.specs.Blocks.{handed_seen}
use Rattle.fle_c.specs.Flags.{FlagsAs, set_of_flags}
use Rattle.fle_c.specs.Telling.{Shows, bare, done, fault_told, malformed, passed, unanswered_told}
use Rattle.fle_c.specs.declared.told.Told.{Told}

-- ---- what is in a slot

-- a client takes these commands, and has the database, the rules, the keys and the master key of an engine of this
-- database and these parts
pub record IsOf (db : List ℕ) (parts : Result Parts EngineFault) (set : CommandSet) (client : Client) : Type 0 where
  pub taken : client.commands ≡ set
  pub engine : Engine
  pub is : EngineIs db parts (Ok engine)
  pub whole : client.rules ≡ kinds.Whole engine.marker
  pub mastered : client.keys ≡ held.Mastered engine.opener

-- such a client is in the slot; or none, for the parts' first fault, which is told
abbrev pub OpensBy : List ℕ → Result Parts EngineFault → CommandSet → Option Client → Told → Type 0
OpensBy db parts set (Some client) told = IsOf db parts set client × (told ≡ done 0 0)
OpensBy db parts set None told = (fault : EngineFault) × EngineIs db parts (Err fault) × (told ≡ fault_told fault)

-- the same by flags, which say what commands it takes
abbrev pub OpensAs : ℕ → List ℕ → Result Parts EngineFault → Option Client → Told → Type 0
OpensAs flags db parts after told = FlagsAs (OpensBy db parts) (set_of_flags flags) after told

-- a client has the rules, the commands, the key documents and the master key of another, or none as it has none
pub record SameClient (before after : Client) : Type 0 where
  pub rules : after.rules ≡ before.rules
  pub commands : after.commands ≡ before.commands
  pub keys : SameKeys before.keys after.keys

-- what is in a slot stays: the same client, or none
abbrev pub StaysIn : Option Client → Option Client → Type 0
StaysIn (Some before) (Some after) = SameClient before after
StaysIn None None = Unit {0}
StaysIn _ _ = ⊥

-- the keys of a client under their master key, where it has one
abbrev pub opener_of : Keys → Option Opener
opener_of (held.Mastered opener) = Some opener
opener_of (held.Unmastered vault) = None

-- the same of the client of a slot
abbrev pub opener_in : Option Client → Option Opener
opener_in (Some client) = opener_of client.keys
opener_in None = None

-- ---- documents

-- this is told, and what was there stays: bytes of which none is written, or a client
pub record Tells {A : Type 0} (wanted : Told) (before after : A) (told : Told) : Type 0 where
  pub numbers : told ≡ wanted
  pub same : after ≡ before

-- bytes that spell a document are answered by what is asked of it, and those that don't by their first fault
abbrev pub ReadsAs : {A : Type 0} → (BsonFault → Told) → (Items → Type 0) → Result Items BsonFault → A → A → Told
    → Type 0
ReadsAs faulty is (Ok c) before after told = is c
ReadsAs faulty is (Err fault) before after told = Tells (faulty fault) before after told

-- the same where there aren't too many of them
abbrev pub SizedAs : {A : Type 0} → Bool → (BsonFault → Told) → (Items → Type 0) → List ℕ → A → A → Told → Type 0
SizedAs true faulty is bytes before after told = Tells (passed 1) before after told
SizedAs false faulty is bytes before after told = ReadsAs faulty is (document bytes) before after told

-- a command has at most 16,777,216 bytes
abbrev pub document_limit : ℕ
document_limit = 16777216

-- the same of a document of at most so many bytes, to which bytes are written
abbrev pub JudgesAs : ℕ → (Items → Type 0) → List ℕ → List ℕ → List ℕ → Told → Type 0
JudgesAs most is bytes before after told =
    SizedAs (nat_lt most (length bytes)) malformed is bytes before after told

-- ---- what keys, or rules, decide by themselves

-- what a document comes to, and how many random bytes are told with it
pub record Judgement : Type 0 where
  pub ruling : Ruling
  pub random : ℕ

-- the answer to a document that comes to this is told, with blocks drawn from a source that was seen as `from`
pub record AnswersAs (v : Judgement) (c : Items) (from : EntropySeen) (before after : List ℕ) (told : Told)
    : Type 0 where
  pub answer : Answer
  pub left : EntropySeen
  pub is : AnswerIs v.ruling c from left answer
  pub shown : Shows v.random answer before after told

-- how many random bytes are drawn for what comes to this: 16 for each block
abbrev pub random_in : Ruling → ℕ
random_in (makes plan) = 16 * plan.draws
random_in (refused r) = 0
random_in too_long = 0

-- what draws blocks tells how many bytes they are
abbrev pub drawing : Ruling → Judgement
drawing v = record { ruling = v; random = random_in v }

-- what draws none tells of none
abbrev pub undrawing : Ruling → Judgement
undrawing v = record { ruling = v; random = 0 }

-- what a document comes to under keys with their master key
abbrev pub opening_of : Opener → Items → Judgement
opening_of o d = undrawing (open_ruling (ring o.keys o.cache.master) d)

-- what a command comes to that is sent to this database, whose info is asked for
abbrev pub info_wanting_of : List ℕ → CommandSet → Rules → Items → Judgement
info_wanting_of db set rules c = undrawing (ruling_by rules db (λ infos. info_by set db c))

-- what a document comes to, of whose keys those are asked for that aren't among these
abbrev pub wanting_to_open : List KeyDoc → Items → Judgement
wanting_to_open documents d = undrawing (payloads_ruling documents d)

-- what a document of one value comes to, by the key that this leads to and this algorithm
abbrev pub valuing_of : Opener → Need → Algorithm → Items → Judgement
valuing_of o need algorithm d = drawing (value_ruling (finder o.keys o.cache.master) need algorithm d)

-- ---- what a client replies

-- what a client answers is told, with so many random bytes; that it has no answer is told, and nothing is written
abbrev pub ShowsReply : ℕ → Result Answer NoAnswer → List ℕ → List ℕ → Told → Type 0
ShowsReply random (Ok answer) before after told = Shows random answer before after told
ShowsReply random (Err why) before after told = Tells (unanswered_told why) before after told

-- a reply such as this is told, with so many random bytes
pub record TellsReply (is : Result Answer NoAnswer → Type 0) (random : ℕ) (before after : List ℕ) (told : Told)
    : Type 0 where
  pub reply : Result Answer NoAnswer
  pub replied : is reply
  pub shown : ShowsReply random reply before after told

-- how many random bytes are drawn for a command that is sent to this database: none without a master key
abbrev pub random_by : CommandSet → Rules → Keys → List ℕ → Items → ℕ
random_by set rules (held.Mastered o) db c =
    random_in (ruling_by rules db (λ infos. seal_by set (finder o.keys o.cache.master) infos db c))
random_by set rules (held.Unmastered vault) db c = 0

-- a command that is sent to this database is sealed by a client, with these blocks
abbrev pub SealsBy : List ℕ → Client → List ℕ → List ℕ → List ℕ → List ℕ → Told → Type 0
SealsBy db client command blocks before after told =
    JudgesAs document_limit (λ c. TellsReply
    (λ reply. (left : EntropySeen) × ClientSeals client db c (handed_seen blocks 0) left reply)
    (random_by client.commands client.rules client.keys db c) before after told) command before after told

-- the same is marked, as one of these, under the rules of a client, with no block
abbrev pub MarksBy : List ℕ → CommandSet → Rules → List ℕ → List ℕ → List ℕ → Told → Type 0
MarksBy db set rules command before after told =
    JudgesAs document_limit (λ c. TellsReply (ClientMarks set rules db c (handed_seen [] 0)) 0 before after told)
    command before after told

-- what is asked for is told, with 16 random bytes for each block that is wanted; that a client has no answer is told,
-- and nothing is written
abbrev pub ShowsAsked : Result Asked NoAnswer → List ℕ → List ℕ → Told → Type 0
ShowsAsked (Ok asked) before after told = Shows (16 * asked.draws) asked.answer before after told
ShowsAsked (Err why) before after told = Tells (unanswered_told why) before after told

-- the random bytes that are wanted can be counted
abbrev pub AreAskedFew : Result Asked NoAnswer → Type 0
AreAskedFew (Ok asked) = 16 * asked.draws < 2 ^ 64
AreAskedFew (Err why) = Unit {0}

-- the keys are asked for that a client lacks of a command that is sent to this database
pub record AsksAs (db : List ℕ) (client : Client) (c : Items) (before after : List ℕ) (told : Told) : Type 0 where
  pub asked : Result Asked NoAnswer
  pub replied : AsksKeysAs client db c (handed_seen [] 0) asked
  pub shown : ShowsAsked asked before after told

-- ---- the calls

-- a command that is sent to this database is sealed by the client of a slot, with the blocks in these bytes; where none
-- is open, that is told
abbrev pub SealsAs : List ℕ → Option Client → List ℕ → List ℕ → List ℕ → List ℕ → Told → Type 0
SealsAs db (Some client) command blocks before after told = SealsBy db client command blocks before after told
SealsAs db None command blocks before after told = Tells (bare 11) before after told

-- a document of at most 48,000,000 bytes is opened under keys with their master key, with no block; where there is
-- none, that is told as where none is open
abbrev pub UnsealsAs : Option Opener → List ℕ → List ℕ → List ℕ → Told → Type 0
UnsealsAs (Some o) bytes before after told =
    JudgesAs output_limit (λ d. AnswersAs (opening_of o d) d (handed_seen [] 0) before after told) bytes before after
    told
UnsealsAs None bytes before after told = Tells (bare 11) before after told

-- a command is marked under the rules of the client of a slot; where none is open, that is told
abbrev pub MarksAs : List ℕ → Option Client → List ℕ → List ℕ → List ℕ → Told → Type 0
MarksAs db (Some client) command before after told =
    MarksBy db client.commands client.rules command before after told
MarksAs db None command before after told = Tells (bare 11) before after told

-- the info of a command is asked for
abbrev pub WantsInfoBy : List ℕ → CommandSet → Rules → List ℕ → List ℕ → List ℕ → Told → Type 0
WantsInfoBy db set rules command before after told =
    JudgesAs document_limit
    (λ c. AnswersAs (info_wanting_of db set rules c) c (handed_seen [] 0) before after told) command before after told

-- the same by the client of a slot; where none is open, that is told
abbrev pub WantsInfoAs : List ℕ → Option Client → List ℕ → List ℕ → List ℕ → Told → Type 0
WantsInfoAs db (Some client) command before after told =
    WantsInfoBy db client.commands client.rules command before after told
WantsInfoAs db None command before after told = Tells (bare 11) before after told

-- the keys of a command are asked for that a client lacks
abbrev pub WantsBy : List ℕ → Client → List ℕ → List ℕ → List ℕ → Told → Type 0
WantsBy db client command before after told =
    JudgesAs document_limit (λ c. AsksAs db client c before after told) command before after told

-- the same by the client of a slot; where none is open, that is told
abbrev pub WantsAs : List ℕ → Option Client → List ℕ → List ℕ → List ℕ → Told → Type 0
WantsAs db (Some client) command before after told = WantsBy db client command before after told
WantsAs db None command before after told = Tells (bare 11) before after told

-- the keys of a document of at most 48,000,000 bytes are asked for that is to be opened, and that aren't among these
abbrev pub WantsToOpenBy : List KeyDoc → List ℕ → List ℕ → List ℕ → Told → Type 0
WantsToOpenBy documents bytes before after told =
    JudgesAs output_limit
    (λ d. AnswersAs (wanting_to_open documents d) d (handed_seen [] 0) before after told) bytes before after told

-- the same of those that the client of a slot lacks, with a master key or without one; where none is open, that is told
abbrev pub WantsToOpenAs : Option Client → List ℕ → List ℕ → List ℕ → Told → Type 0
WantsToOpenAs (Some client) bytes before after told = WantsToOpenBy (keys_of client.keys) bytes before after told
WantsToOpenAs None bytes before after told = Tells (bare 11) before after told
