-- A vault under another master key (MongoDB Client Side Encryption, "rewrapManyDataKey").
use Rattle.std.specs.Prelude.{ℕ, List, replicate}
use Rattle.data_key.specs.declared.key_doc.KeyDoc.{KeyDoc}
use Rattle.rewrap_keys.specs.Rewrapped.{change, draws_of, rewrapped_file}
use Rattle.fle_bench.specs.declared.payload.TheConstants.{IV}

-- the file of these keys under another master key, each local key under the given IV, its last change at 0
unfoldable pub rewrapped_by : List ℕ → List ℕ → List KeyDoc → List ℕ → List ℕ
rewrapped_by from to keys bytes = rewrapped_file (change from to 0) bytes (replicate (draws_of keys) IV)
