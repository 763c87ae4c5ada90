pub mod Tree
pub mod Spelling
pub mod Places
pub mod Filled
pub mod Code
pub mod View
pub mod Falls
pub mod NameNumbers
