-- Definitions of offences that proofs of this crate open, and the lemmas on what stands above a path.
pub use Rattle.encrypt_schema.specs.Commands.Offences.{ruled_offence, renamed}
pub use Rattle.encrypt_schema.proofs.Paths.Steps.{above}
