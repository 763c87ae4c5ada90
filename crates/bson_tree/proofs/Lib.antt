pub mod Lists
pub mod NameNumbers
pub mod PartBytes
pub mod Sizes
pub mod Worked
