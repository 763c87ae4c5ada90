pub mod Generator
pub mod Commands
pub mod Sums
pub mod States
pub mod Totals
