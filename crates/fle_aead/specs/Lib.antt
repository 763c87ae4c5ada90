pub mod Key
pub mod Sealed
