pub mod Messages
pub mod SameBlocks
pub mod SameIvs
pub mod Asked
pub mod Payloads
pub mod Turns
