-- What a contract sees of the two states of this crate: their key, and the message read so far.
use Rattle.std.specs.Prelude.{ℕ, List, ◌++◌}
use Rattle.sha2.specs.Hashers.{Holds512}
use Rattle.hmac_sha512.specs.Hmac.{padded_key}
use Rattle.hmac_sha512.specs.declared.running.Mac.{Mac}
use Rattle.hmac_sha512.specs.declared.keyed.KeyedMac.{KeyedMac}

-- the state s keeps this key
pub record HasKey (s : KeyedMac) (k : List ℕ) : Type 0 where
  pub inner : Holds512 s.inner (padded_key 0x36 k)
  pub outer : Holds512 s.outer (padded_key 0x5C k)

-- the state s has read this message under this key
pub record HasRead (s : Mac) (k m : List ℕ) : Type 0 where
  pub inner : Holds512 s.inner (padded_key 0x36 k ++ m)
  pub outer : Holds512 s.outer (padded_key 0x5C k)
