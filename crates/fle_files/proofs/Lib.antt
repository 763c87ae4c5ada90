pub mod InfosRead
pub mod Loaded
pub mod Asks
