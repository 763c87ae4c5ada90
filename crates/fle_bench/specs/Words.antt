-- The words of the command line that name what is run.
use Rattle.std.specs.Prelude.{ℕ, List, codes}
use Rattle.encrypt_schema.specs.declared.schema.policy.Algorithm.TheVariants.{Deterministic, Random}
use Rattle.fle_bench.specs.declared.job.Direction.TheVariants.{Seal, Open}
use Rattle.fle_bench.specs.declared.job.Way.TheVariants.{Tables, Closures, Boxes}
use Rattle.fle_bench.specs.declared.job.KeySetup.TheVariants.{Kept, Fresh}
use Rattle.fle_bench.specs.declared.job.Subject.{Subject}
use Rattle.fle_bench.specs.declared.job.Subject.TheVariants.{Cbc, Hmac, AeadSeal, AeadOpen, Payload, BsonCheck}
use Rattle.fle_bench.specs.declared.job.Subject.TheVariants.{Document, RuleNames, VaultKeys, VaultRewrap}

-- the word for a subject
abbrev pub word_of : Subject → List ℕ
word_of (Cbc Seal Tables) = codes "cbc-seal-tables"
word_of (Cbc Seal Closures) = codes "cbc-seal-closures"
word_of (Cbc Seal Boxes) = codes "cbc-seal-boxes"
word_of (Cbc Open Tables) = codes "cbc-open-tables"
word_of (Cbc Open Closures) = codes "cbc-open-closures"
word_of (Cbc Open Boxes) = codes "cbc-open-boxes"
word_of (Hmac Kept) = codes "hmac-kept"
word_of (Hmac Fresh) = codes "hmac-fresh"
word_of (AeadSeal Kept) = codes "aead-seal-kept"
word_of (AeadSeal Fresh) = codes "aead-seal-fresh"
word_of AeadOpen = codes "aead-open-kept"
word_of (Payload Seal Deterministic) = codes "payload-seal-deterministic"
word_of (Payload Seal Random) = codes "payload-seal-random"
word_of (Payload Open Deterministic) = codes "payload-open-deterministic"
word_of (Payload Open Random) = codes "payload-open-random"
word_of BsonCheck = codes "bson-check"
word_of RuleNames = codes "rule-names"
word_of (Document Seal) = codes "document-seal"
word_of (Document Open) = codes "document-open"
word_of VaultRewrap = codes "vault-rewrap"
word_of VaultKeys = codes "vault-keys"
