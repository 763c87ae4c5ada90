-- `encrypt DB KEYS SCHEMAS MASTER` and `decrypt KEYS MASTER`: what the files of the words say commands are sealed and
-- opened under, and what a run then wrote.
use Rattle.std.specs.Prelude.{◌≡◌, ℕ, ◌<◌, ◌≤◌, ◌^◌, Some, Ok, List, [], ◌∷◌, codes, length}
use Rattle.std.specs.List.{All}
use Rattle.bson_tree.specs.Tree.{Items}
use Rattle.context_machine.specs.Rings.{finder, ring}
use Rattle.data_key.specs.declared.key_doc.KeyDoc.{KeyDoc}
use Rattle.encrypt_schema.specs.Language.Collection.{Collection}
use Rattle.fle_outside.specs.Blocks.{Block}
use Rattle.fle_outside.specs.Files.{Files, file_of}
use Rattle.fle_outside.specs.Seen.{Gains}
use Rattle.fle_stream.specs.Ended.{IsSettled, World}
use Rattle.fle_stream.specs.declared.status.Status.{Status}
use Rattle.fle_stream.specs.declared.status.Status.TheVariants as statuses
use Rattle.key_vault.specs.Loading.{vault}
use Rattle.local_kms.specs.Master.{master_in}
use Rattle.fle_runner.specs.Headline.{AreReadable, AreSealedUnder, OpensFirst, SealsFirst, SealsStream, Setup, stream}
use Rattle.fle_files.specs.Infos.{infos_of}
use Rattle.fle_files.specs.Limits.{file_limit, master_limit}
use Rattle.fle_words.specs.Words.{form_of, mark}

-- the file of this name is there, and has these bytes, at most so many
pub record HoldsBytes (all : Files) (name : List ℕ) (limit : ℕ) (bytes : List ℕ) : Type 0 where
  pub there : file_of all name ≡ Some bytes
  pub within : length bytes ≤ limit

-- the files of these names hold a key vault and a master key: they say to which data key an id or an alternate name
-- leads, and which data key an id has
pub record HoldKeys (all : Files) (keys master : List ℕ) (x : Setup) : Type 0 where
  pub vault_bytes : List ℕ
  pub vault_file : HoldsBytes all keys file_limit vault_bytes
  pub vault_keys : List KeyDoc
  pub vault_says : vault vault_bytes ≡ Ok vault_keys
  pub master_bytes : List ℕ
  pub master_file : HoldsBytes all master master_limit master_bytes
  pub master_key : List ℕ
  pub master_says : master_in master_bytes ≡ Ok master_key
  pub finds : x.keys ≡ finder vault_keys master_key
  pub opens : x.opens ≡ ring vault_keys master_key

-- beside them one holds collection infos: the rules of the collections
pub record HoldSetup (all : Files) (keys schemas master : List ℕ) (x : Setup) : Type 0 where
  pub held : HoldKeys all keys master x
  pub schemas_bytes : List ℕ
  pub schemas_file : HoldsBytes all schemas file_limit schemas_bytes
  pub schemas_say : infos_of schemas_bytes ≡ Some x.infos

-- the words are `VERB DB KEYS SCHEMAS MASTER`, of this verb: DB has 1 to 63 bytes, and the others aren't empty; and the
-- files are there, within their limits, and say this
pub record AsksSealing (verb : List ℕ) (words : List (List ℕ)) (all : Files) (x : Setup) : Type 0 where
  pub keys : List ℕ
  pub schemas : List ℕ
  pub master : List ℕ
  pub form : words ≡ verb ∷ x.db ∷ keys ∷ schemas ∷ master ∷ []
  pub database : (0 < length x.db) × (length x.db ≤ 63)
  pub others : (0 < length keys) × (0 < length schemas) × (0 < length master)
  pub files : HoldSetup all keys schemas master x

-- the words are `encrypt DB KEYS SCHEMAS MASTER`, and the files say this
abbrev pub IsEncrypt : List (List ℕ) → Files → Setup → Type 0
IsEncrypt words all x = AsksSealing (codes "encrypt") words all x

-- the words are `mark DB SCHEMAS`, and the file is there, within its limit, and says this
pub record IsMark (words : List (List ℕ)) (all : Files) (db : List ℕ) (infos : List Collection) : Type 0 where
  pub schemas : List ℕ
  pub form : form_of words ≡ Some (mark db schemas)
  pub schemas_bytes : List ℕ
  pub schemas_file : HoldsBytes all schemas file_limit schemas_bytes
  pub schemas_say : infos_of schemas_bytes ≡ Some infos

-- the words are `decrypt KEYS MASTER`, neither of which is empty, and the files are there, within their limits, and say
-- this
pub record IsDecrypt (words : List (List ℕ)) (all : Files) (x : Setup) : Type 0 where
  pub keys : List ℕ
  pub master : List ℕ
  pub form : words ≡ codes "decrypt" ∷ keys ∷ master ∷ []
  pub others : (0 < length keys) × (0 < length master)
  pub files : HoldKeys all keys master x

-- `encrypt`: the first of the accepted commands were sealed and written, whatever cut the run short, and at most a part
-- of the next one's sealed form; and where no object failed and memory lasted, every accepted command was sealed, and
-- nothing else changed
abbrev pub SealsAll : List (List ℕ) → World → World → Status → Type 0
SealsAll words before after status =
    (all : Files) (told : List ℕ) (x : Setup) → before.files.told ≡ Some all → before.input.told ≡ Some told
    → IsEncrypt words all x → All (λ b. b < 256) told
    → SealsFirst x told status before.entropy after.entropy before.out after.out
    × (IsSettled status → SealsStream x told before.entropy after.entropy before.out after.out)

-- `decrypt` over sealed commands: the first of the commands were written, byte for byte, whatever cut the run short,
-- and at most a part of the next one; and where no object failed and memory lasted, all of them
abbrev pub OpensAll : List (List ℕ) → World → World → Status → Type 0
OpensAll words before after status =
    (all : Files) (x : Setup) (commands : List Items) (blocks : List Block) (sealed : List Items)
    → before.files.told ≡ Some all → before.input.told ≡ Some (stream sealed) → IsDecrypt words all x
    → AreSealedUnder x commands blocks sealed → AreReadable x commands sealed → length (stream sealed) < 2 ^ 40
    → OpensFirst commands status before.out after.out
    × (IsSettled status → (status ≡ statuses.Done) × Gains before.out.told after.out.told (stream commands))
