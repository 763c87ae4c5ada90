pub mod CommandSets
pub mod Told
pub mod Known
pub mod Clients
pub mod Filling
