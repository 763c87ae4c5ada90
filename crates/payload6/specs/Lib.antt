pub mod Payload
pub mod Opening
pub mod Verdicts
pub mod Needs
pub mod Marking
