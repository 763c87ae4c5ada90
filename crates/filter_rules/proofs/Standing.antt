-- The places of a filter stand under any rules.
use Rattle.std.proofs.Common.{List}
use Rattle.std.specs.Prelude.{⊤}
use Rattle.encrypt_schema.specs.declared.command.walking.Next.{Next}
use Rattle.encrypt_schema.specs.declared.command.walking.Next.TheVariants as nexts
use Rattle.encrypt_schema.specs.Language.Row.{Row}
use Rattle.encrypt_schema.specs.Views.Walking.{StandsNext}
use Rattle.filter_rules.specs.declared.places.FilterPlace.{FilterPlace}

pub stands_next : (rows : List Row) (next : Next FilterPlace) → StandsNext {P = FilterPlace} (λ _ _. ⊤) rows next
stands_next rows (nexts.Inside place) = tt
stands_next rows (nexts.Store i) = tt
stands_next rows (nexts.Compare i) = tt
stands_next rows nexts.Bare = tt
stands_next rows nexts.Passed = tt
