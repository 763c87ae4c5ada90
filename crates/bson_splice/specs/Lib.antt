pub mod Splices
pub mod Takes
pub mod Spans
pub mod Steps
pub mod Splicing
pub mod Whole
pub mod Values
