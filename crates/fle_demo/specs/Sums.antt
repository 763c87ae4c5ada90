-- The line of the demo: a key and N commands are made by generators, each command is sealed and opened again, and a
-- line sums it up.
use Rattle.std.specs.Prelude.{ℕ, ◌+◌, List, [], ◌∷◌, ◌++◌, length, replicate, take, drop, codes, decimal, bytes_eq}
use Rattle.std.specs.Prelude.{Result, Ok, Err, if◌then◌else◌}
use Rattle.hex.specs.Hex.{encode_lower}
use Rattle.sha2.specs.Sha256.{sha256}
use Rattle.bson_tree.specs.Spelling.{doc_bytes}
use Rattle.bson_tree.specs.Tree.{Items}
use Rattle.bson_codec.specs.Borrowed.{At}
use Rattle.bson_codec.specs.Reading.{document}
use Rattle.bson_codec.specs.declared.fault.BsonFault.{BsonFault}
use Rattle.context_machine.specs.Rings.{by_ids, found_in, ring}
use Rattle.data_key.specs.declared.key_doc.KeyDoc.{KeyDoc}
use Rattle.doc_rewrite.specs.Opened.{Keyring, opened}
use Rattle.doc_rewrite.specs.Sealed.{sealed}
use Rattle.doc_rewrite.specs.Sites.{sites_of}
use Rattle.encrypt_schema.specs.Commands.Visits.{Refusal, roles}
use Rattle.encrypt_schema.specs.Language.Row.{Row}
use Rattle.fle_outside.specs.Blocks.{Block}
use Rattle.local_kms.specs.Made.{key_of_blocks}
use Rattle.fle_demo.specs.Commands.{command, rules}
use Rattle.fle_demo.specs.Generator.{after_two, blocks_behind}

-- the master key: 96 bytes 2A
abbrev pub master : List ℕ
master = replicate 96 42

-- the blocks of N commands, behind N + 2^32: eight for the key, and one for each command, whose salary alone is random
abbrev pub blocks : ℕ → List Block
blocks n = blocks_behind (8 + n) (n + 4294967296)

-- the key that the first eight make
unfoldable pub demo_key : ℕ → KeyDoc
demo_key n = key_of_blocks master [] (take 8 (blocks n))

-- a document by itself, whose offsets are from 0
abbrev pub alone : Items → At
alone is = record { start = 0; tree = is }

-- a command sealed under these keys, by their ids, and rules with this block
unfoldable pub sealed_with : Keyring → List Row → Block → Items → List ℕ
sealed_with keys rows block c =
    doc_bytes (sealed (found_in (by_ids keys)) (sites_of rows (alone c) (roles rows 0 c)) (block ∷ []) (alone c))

-- 1 where what was opened are these bytes, else 0
abbrev pub equal_to : List ℕ → Result Items Refusal → ℕ
equal_to bytes (Ok is) = if bytes_eq (doc_bytes is) bytes then 1 else 0
equal_to bytes (Err refusal) = 0

-- 1 where the document that was read opens to these bytes, else 0
abbrev pub equal_by : Keyring → List ℕ → Result Items BsonFault → ℕ
equal_by keys bytes (Ok d) = equal_to bytes (opened keys (alone d))
equal_by keys bytes (Err fault) = 0

-- 1 where sealed bytes are a document that opens to these bytes, else 0
unfoldable pub equals : Keyring → List ℕ → List ℕ → ℕ
equals keys bytes sealed = equal_by keys bytes (document sealed)

-- how many bytes went in and came out, how many commands came back equal, and the sealed commands one after another
pub record Sums : Type 0 where
  pub given : ℕ
  pub made : ℕ
  pub equal : ℕ
  pub sealed : List ℕ

-- no command
abbrev pub no_sums : Sums
no_sums = record { given = 0; made = 0; equal = 0; sealed = [] }

-- a command of these bytes more, sealed to those
abbrev pub counted : Keyring → List ℕ → List ℕ → Sums → Sums
counted keys bytes out s = record {
  given = s.given + length bytes;
  made = s.made + length out;
  equal = s.equal + equals keys bytes out;
  sealed = s.sealed ++ out;
}

-- a command more, sealed with this block
abbrev pub with_command : Keyring → List Row → Block → Items → Sums → Sums
with_command keys rows block c s = counted keys (doc_bytes c) (sealed_with keys rows block c) s

-- the commands from number i on, of the outputs behind x, one for each block
abbrev pub summed : Keyring → List Row → List ℕ → ℕ → ℕ → List Block → Sums → Sums
summed keys rows db i x [] s = s
summed keys rows db i x (block ∷ blocks) s =
    summed keys rows db (i + 1) (after_two x) blocks (with_command keys rows block (command db i x) s)

-- N commands under a key: the rules name it
unfoldable pub sums_of : KeyDoc → List ℕ → ℕ → Sums
sums_of key db n =
    summed (ring (key ∷ []) master) (rules key.id) db 1 n (drop 8 (blocks n)) no_sums

-- FIPS 180-4: the first 32 hexadecimal digits of SHA-256
abbrev pub digest_text : List ℕ → List ℕ
digest_text bytes = take 32 (encode_lower (sha256 bytes))

-- `demo: N commands, I bytes in, O bytes out, E equal, H` and a line feed
unfoldable pub line_of_sums : ℕ → Sums → List ℕ
line_of_sums n s =
    codes "demo: " ++ (decimal n
    ++ (codes " commands, " ++ (decimal s.given
    ++ (codes " bytes in, " ++ (decimal s.made
    ++ (codes " bytes out, " ++ (decimal s.equal
    ++ (codes " equal, " ++ (digest_text s.sealed ++ codes "\n")))))))))

-- the line of N commands under the key that is made first
unfoldable pub demo_text : List ℕ → ℕ → List ℕ
demo_text db n = line_of_sums n (sums_of (demo_key n) db n)
