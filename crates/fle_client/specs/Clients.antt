-- MongoDB Client Side Encryption, "Automatic Encryption": what a client answers to a command.
use Rattle.std.specs.Prelude.{◌≡◌, ℕ, true, false, List, [], Option, Some, None, Result, Ok, Err}
use Rattle.bson_tree.specs.Tree.{Items}
use Rattle.context_machine.specs.Rings.{finder}
use Rattle.data_key.specs.declared.key_doc.KeyDoc.{KeyDoc}
use Rattle.encrypt_schema.specs.Language.Collection.{Collection}
use Rattle.fle_engine.specs.Answers.{AnswerIs}
use Rattle.fle_engine.specs.Asked.{TellsDraws}
use Rattle.fle_engine.specs.Rulings.{Ruling, by_refusal}
use Rattle.fle_engine.specs.declared.answer.Answer.{Answer}
use Rattle.fle_engine.specs.declared.asking.Asked.{Asked}
use Rattle.fle_engine.specs.declared.opener.Opener.{Opener}
use Rattle.fle_outside.specs.Seen.{Draws, EntropySeen}
use Rattle.fle_client.specs.CommandSets.{draws_by, info_by, keys_by, mark_by, seal_by}
use Rattle.fle_client.specs.Known.{foreign, infos_of, lacks_info, own_of}
use Rattle.fle_client.specs.declared.client.Client.{Client}
use Rattle.fle_client.specs.declared.client.NoAnswer.{NoAnswer}
use Rattle.fle_client.specs.declared.client.NoAnswer.TheVariants as unanswered
use Rattle.fle_client.specs.declared.commands.CommandSet.{CommandSet}
use Rattle.fle_client.specs.declared.keys.Keys.{Keys}
use Rattle.fle_client.specs.declared.keys.Keys.TheVariants as keys
use Rattle.fle_client.specs.declared.rules.Rules.{Rules}

-- the key documents of a client
abbrev pub keys_of : Keys → List KeyDoc
keys_of (keys.Mastered opener) = opener.keys
keys_of (keys.Unmastered vault) = vault

-- the master key of a client that has one
abbrev pub master_of : Keys → Option (List ℕ)
master_of (keys.Mastered opener) = Some opener.cache.master
master_of (keys.Unmastered vault) = None

-- the same key documents under the same master key, or under none
abbrev pub SameKeys : Keys → Keys → Type 0
SameKeys before after = (keys_of after ≡ keys_of before) × (master_of after ≡ master_of before)

-- a client of these commands that knows of no collection, and has no key, with this master key or without one
pub record IsStarted (set : CommandSet) (master : Option (List ℕ)) (client : Client) : Type 0 where
  pub taken : client.commands ≡ set
  pub many : own_of client.rules ≡ None
  pub unruled : (db : List ℕ) → infos_of client.rules db ≡ []
  pub keyless : keys_of client.keys ≡ []
  pub under : master_of client.keys ≡ master

-- what a command comes to under the infos that are known of its database; one that is sent to another database than the
-- client's is refused
abbrev pub ruling_by : Rules → List ℕ → (List Collection → Ruling) → Ruling
ruling_by rules db v = by_refusal (foreign rules db) (v (infos_of rules db))

-- a command is answered by what it comes to; or nothing is known of its collection, and no block is drawn
abbrev pub RepliesAs : CommandSet → Rules → List ℕ → (List Collection → Ruling) → Items → EntropySeen → EntropySeen
    → Result Answer NoAnswer → Type 0
RepliesAs set rules db v c before after (Ok answer) =
    (lacks_info set rules db c ≡ false) × AnswerIs (ruling_by rules db v) c before after answer
RepliesAs set rules db v c before after (Err unanswered.NoInfo) =
    (lacks_info set rules db c ≡ true) × Draws before after []
RepliesAs set rules db v c before after (Err unanswered.NoMaster) = ⊥

-- a command is sealed under keys with their master key
abbrev pub SealsUnder : CommandSet → Rules → Opener → List ℕ → Items → EntropySeen → EntropySeen
    → Result Answer NoAnswer → Type 0
SealsUnder set rules opener db c before after result =
    RepliesAs set rules db (λ infos. seal_by set (finder opener.keys opener.cache.master) infos db c) c before after
    result

-- a command is sealed by a client; without a master key it isn't, and no block is drawn
abbrev pub SealsBy : CommandSet → Rules → Keys → List ℕ → Items → EntropySeen → EntropySeen → Result Answer NoAnswer
    → Type 0
SealsBy set rules (keys.Mastered opener) db c before after result =
    SealsUnder set rules opener db c before after result
SealsBy set rules (keys.Unmastered vault) db c before after result =
    (result ≡ Err unanswered.NoMaster) × Draws before after []

-- the same of a client
abbrev pub SealsAs : Client → List ℕ → Items → EntropySeen → EntropySeen → Result Answer NoAnswer → Type 0
SealsAs client db c before after result =
    SealsBy client.commands client.rules client.keys db c before after result

-- a command is marked, as one of these, under the rules of a client
abbrev pub MarksAs : CommandSet → Rules → List ℕ → Items → EntropySeen → Result Answer NoAnswer → Type 0
MarksAs set rules db c seen result = RepliesAs set rules db (λ infos. mark_by set infos db c) c seen seen result

-- the info of a command's collection is asked for
abbrev pub AsksInfoAs : CommandSet → Rules → List ℕ → Items → EntropySeen → Answer → Type 0
AsksInfoAs set rules db c seen answer = AnswerIs (ruling_by rules db (λ infos. info_by set db c)) c seen seen answer

-- the keys of a command are asked for that the client lacks, with the blocks that it draws; or nothing is known of its
-- collection
abbrev pub AsksKeysAs : Client → List ℕ → Items → EntropySeen → Result Asked NoAnswer → Type 0
AsksKeysAs client db c seen (Ok asked) =
    (lacks_info client.commands client.rules db c ≡ false)
    × AnswerIs (ruling_by client.rules db (λ infos. keys_by client.commands (keys_of client.keys) infos db c)) c seen
    seen asked.answer
    × TellsDraws (draws_by client.commands (infos_of client.rules db) c) asked.answer asked.draws
AsksKeysAs client db c seen (Err unanswered.NoInfo) = lacks_info client.commands client.rules db c ≡ true
AsksKeysAs client db c seen (Err unanswered.NoMaster) = ⊥
