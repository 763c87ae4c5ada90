pub mod Drawings
pub mod Unwrapped
pub mod Documents
