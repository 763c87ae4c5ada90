pub mod Cbc
pub mod Padding
