pub mod Offences
pub mod Reasons
pub mod Wholes
