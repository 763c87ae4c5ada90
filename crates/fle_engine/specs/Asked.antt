-- libmongocrypt, MONGOCRYPT_CTX_NEED_MONGO_COLLINFO and MONGOCRYPT_CTX_NEED_MONGO_KEYS: the info of a command's
-- collection, and the keys that a command needs, and a document that is to be opened, and that key documents lack.
use Rattle.std.specs.Prelude.{◌≡◌, ℕ, List, [], ◌∷◌, if◌then◌else◌}
use Rattle.bson_tree.specs.Spelling.{doc_bytes}
use Rattle.bson_tree.specs.Tree.{Items}
use Rattle.command_marker.specs.Commands.{collection_in, passes}
use Rattle.context_machine.specs.Asks.{collection_filter, filter_of}
use Rattle.context_machine.specs.Kept.{unmet}
use Rattle.context_machine.specs.Needs.{NeedAt, first_needs}
use Rattle.context_machine.specs.Rings.{needs_in, needs_of}
use Rattle.data_key.specs.declared.key_doc.KeyDoc.{KeyDoc}
use Rattle.doc_rewrite.specs.Founds.{payloads_of}
use Rattle.doc_rewrite.specs.Opened.{first_wrong, misshapen}
use Rattle.doc_rewrite.specs.Sites.{draws_of, sites_of}
use Rattle.encrypt_schema.specs.Commands.Visits.{roles, target_verdict}
use Rattle.encrypt_schema.specs.Language.Collection.{Collection}
use Rattle.encrypt_schema.specs.Language.Row.{Row}
use Rattle.payload6.specs.Needs.{Need}
use Rattle.fle_engine.specs.Rulings.{Ruling, at_front, by_refusal, makes, plain_plan, ruling_with}
use Rattle.fle_engine.specs.declared.answer.Answer.{Answer}
use Rattle.fle_engine.specs.declared.answer.Answer.TheVariants as answers

-- the filter of the collection's infos that a command needs; no byte where it passes
abbrev pub info_filter : Items → List ℕ
info_filter c = if passes c then [] else doc_bytes (collection_filter (collection_in c))

-- what a command of this database comes to whose info is asked for: it is refused for a field by itself, or comes to
-- that filter
unfoldable pub info_ruling : List ℕ → Items → Ruling
info_ruling db c = by_refusal (target_verdict db 0 c) (makes (plain_plan (info_filter c)))

-- the filter of the needs that no key of these meets is made; it has no byte where they meet all
abbrev pub filter_ruling : List KeyDoc → List NeedAt → Ruling
filter_ruling keys ns = makes (plain_plan (filter_of (unmet keys ns)))

-- what becomes of a command under these rules that isn't refused: the filter of the keys of its protected values
abbrev pub asks : List KeyDoc → List Row → Items → Ruling
asks keys rows c = filter_ruling keys (first_needs (needs_of rows (at_front c)))

-- what a command of this database comes to under these infos, of whose keys those are asked for that these lack
unfoldable pub keys_ruling : List KeyDoc → List Collection → List ℕ → Items → Ruling
keys_ruling keys infos db c = ruling_with (asks keys) infos db c

-- what a document comes to that is to be opened, of whose keys those are asked for that these lack: the first payload
-- with a length that none has, or the filter of the keys of its payloads
unfoldable pub payloads_ruling : List KeyDoc → Items → Ruling
payloads_ruling keys d =
    by_refusal (first_wrong misshapen (payloads_of (at_front d)))
    (filter_ruling keys (first_needs (needs_in (at_front d))))

-- what is asked for before a value is sealed under the key that this leads to
abbrev pub key_ruling : List KeyDoc → Need → Ruling
key_ruling keys need = filter_ruling keys (record { need = need; at = 0 } ∷ [])

-- how many blocks are drawn for a command under these rules that is sealed: one for each value of the random algorithm
abbrev pub command_draws : List Row → Items → ℕ
command_draws rows c = draws_of (sites_of rows (at_front c) (roles rows 0 c))

-- so many blocks are told of with a filter; none where there isn't one
abbrev pub TellsDraws : ℕ → Answer → ℕ → Type 0
TellsDraws draws (answers.Made output) told = told ≡ draws
TellsDraws draws (answers.Undrawn wanted) told = ⊥
TellsDraws draws _ told = told ≡ 0
