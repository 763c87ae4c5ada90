-- A stored document as a whole is the one at the empty path.
use Rattle.std.proofs.Common.{◌≡◌, ℕ, List, [], ◌∷◌, refl}
use Rattle.encrypt_schema.specs.Commands.Pointers.{is_whole}
use Rattle.encrypt_schema.specs.Commands.Stations.{Document}
use Rattle.encrypt_schema.specs.Views.Parts.{is_nil}

pub whole_document : (path : List (List ℕ)) → is_whole (Document path) ≡ is_nil path
whole_document [] = refl
whole_document (name ∷ path) = refl
