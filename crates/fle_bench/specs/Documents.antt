-- Documents with protected values, sealed and opened (MongoDB Client Side Encryption).
use Rattle.std.specs.Prelude.{ℕ, List, [], ◌∷◌, replicate}
use Rattle.bson_codec.specs.Borrowed.{At}
use Rattle.bson_tree.specs.Spelling.{doc_bytes}
use Rattle.encrypt_schema.specs.Commands.Visits.{roles}
use Rattle.encrypt_schema.specs.Language.Row.{Row}
use Rattle.fle_vectors.specs.declared.data_key.TheConstants.{DATA_KEY}
use Rattle.doc_rewrite.specs.Keys.{Table, key_by_id, key_in}
use Rattle.doc_rewrite.specs.Opened.{ring_of}
use Rattle.doc_rewrite.specs.Opening.{document_opened}
use Rattle.doc_rewrite.specs.Sealed.{sealed}
use Rattle.doc_rewrite.specs.Sites.{Site, draws_of, sites_of}
use Rattle.fle_bench.specs.declared.payload.TheConstants.{KEY_ID, IV}

-- the data key under its id, alone
abbrev pub the_keys : Table
the_keys = record { ids = record { id = KEY_ID; key = DATA_KEY } ∷ []; names = [] }

-- the bytes of a document, sealed under these keys at these sites, each random value under the given IV
unfoldable pub sealed_bytes : Table → List Site → At → List ℕ
sealed_bytes keys sites d = doc_bytes (sealed (key_in keys) sites (replicate (draws_of sites) IV) d)

-- the bytes of a command, its protected values under these rules sealed under the data key
abbrev pub sealed_command : List Row → At → List ℕ
sealed_command rows c = sealed_bytes the_keys (sites_of rows c (roles rows c.start c.tree)) c

-- the bytes of a document with its payloads opened under these keys
abbrev pub opened_bytes : Table → At → List ℕ
opened_bytes keys d = document_opened (ring_of (key_by_id keys.ids)) d
