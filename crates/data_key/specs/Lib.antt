pub mod Values
pub mod Key
pub mod Seen
pub mod Written
