pub mod Numbers
pub mod Infos
pub mod Setup
pub mod Limits
