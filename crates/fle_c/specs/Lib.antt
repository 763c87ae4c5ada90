pub mod Holding
pub mod Blocks
pub mod Telling
pub mod Flags
pub mod Calls
pub mod Values
pub mod Keys
pub mod Filling
