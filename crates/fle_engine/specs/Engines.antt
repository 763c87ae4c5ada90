-- An engine and what it is made of.
use Rattle.std.specs.Prelude.{◌≡◌, ℕ, List, max, min, Result, Ok, Err}
use Rattle.fle_engine.specs.Loading.{Parts}
use Rattle.fle_engine.specs.declared.engine.Engine.{Engine}
use Rattle.fle_engine.specs.declared.loading.EngineFault.{EngineFault}
use Rattle.fle_engine.specs.declared.loading.EngineFault.TheVariants as faults

-- an engine of this database has these parts, or this is their first fault; want of memory may come at any time
abbrev pub EngineIs : List ℕ → Result Parts EngineFault → Result Engine EngineFault → Type 0
EngineIs db parts (Ok engine) =
    (engine.marker.db.items ≡ db)
    × (parts ≡ Ok (record {
      keys = engine.opener.keys;
      infos = engine.marker.infos;
      master = engine.opener.cache.master;
    }))
EngineIs db parts (Err faults.Memory) = Unit {0}
EngineIs db parts (Err fault) = parts ≡ Err fault

-- how many opened keys an engine has room for beside this many keys: all of them, from 64 to 4,096
abbrev pub cache_room : ℕ → ℕ
cache_room keys = max 64 (min keys 4096)
