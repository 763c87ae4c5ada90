-- `demo DB N`: the totals that are kept while the commands are sealed and opened again.
use Rattle.std.specs.Prelude.{◌≡◌, ◌≤◌, ◌+◌, ◌*◌, ℕ, List, [], ◌∷◌, ◌++◌, Ok, codes, length}
use Rattle.sha2.specs.Hashers.{Holds256}
use Rattle.context_machine.specs.Rings.{ring}
use Rattle.data_key.specs.declared.key_doc.KeyDoc.{KeyDoc}
use Rattle.doc_rewrite.specs.Opened.{Keyring}
use Rattle.encrypt_schema.specs.Language.Collection.{Collection}
use Rattle.encrypt_schema.specs.Language.Collections.{collection_in}
use Rattle.encrypt_schema.specs.Language.Row.{Row}
use Rattle.fle_outside.specs.Blocks.{Block}
use Rattle.fle_demo.specs.Sums.{Sums, no_sums, summed}
use Rattle.fle_demo.specs.Commands.{info, rules}
use Rattle.fle_demo.specs.declared.totals.Totals.{Totals}
use Rattle.key_vault.specs.Lookup.{key_of}

-- the totals are these sums, and the digest has read the sealed commands
pub record IsTotal (t : Totals) (s : Sums) : Type 0 where
  pub given : t.given ≡ s.given
  pub made : t.made ≡ s.made
  pub equal : t.equal ≡ s.equal
  pub digest : Holds256 t.digest s.sealed

-- so many bytes of a command, what it was sealed to, and 1 where it came back equal
abbrev pub one_more : ℕ → List ℕ → ℕ → Sums → Sums
one_more size out same s = record {
  given = s.given + size;
  made = s.made + length out;
  equal = s.equal + same;
  sealed = s.sealed ++ out;
}

-- no more than n commands make, of at most 1,000 bytes each, and sealed at most 48,000,000
pub record IsWithin (t : Totals) (n : ℕ) : Type 0 where
  pub given : t.given ≤ n * 1000
  pub made : t.made ≤ n * 48000000
  pub equal : t.equal ≤ n

-- the totals before command i, with the commands from there on, come to all
pub record Reaches (keys : Keyring) (rows : List Row) (db : List ℕ) (t : Totals) (i x : ℕ) (blocks : List Block)
    (all : Sums) : Type 0 where
  pub sums : Sums
  pub total : IsTotal t sums
  pub rest : summed keys rows db i x blocks sums ≡ all

-- the only key, and the info whose schema names it: it opens under this master key
pub record IsDemoKey (master : List ℕ) (key : KeyDoc) (c : Collection) : Type 0 where
  pub long : length key.id ≡ 16
  pub states : collection_in [] (info key.id) ≡ Ok c
  pub plain : List ℕ
  pub opens : key_of (key ∷ []) master key.id ≡ Ok plain

-- the totals are those of all commands of these blocks
abbrev pub AreSummed : List ℕ → KeyDoc → List ℕ → ℕ → List Block → Totals → Type 0
AreSummed master key db n blocks t =
    IsTotal t (summed (ring (key ∷ []) master) (rules key.id) db 1 n blocks no_sums)

-- the infos are the one that states the collection `demo`, whose schema names the key of this id
pub record IsAlone (id : List ℕ) (infos : List Collection) : Type 0 where
  pub collection : Collection
  pub states : collection_in [] (info id) ≡ Ok collection
  pub only : infos ≡ collection ∷ []
  pub named : collection.name ≡ codes "demo"
