pub mod Words
pub mod Conditions
