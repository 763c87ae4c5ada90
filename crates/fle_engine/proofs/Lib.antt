pub mod Rulings
pub mod Starts
pub mod Replied
pub mod Seals
pub mod Unmade
pub mod Unseals
pub mod Filters
mod Sent
mod InfosAsked
pub mod Explicits
pub mod Loads
pub mod Checks
pub mod KeyAnswers
pub mod NewTexts
pub mod MoreRulings
pub mod MoreAnswers
pub mod MoreAsked
mod Cleared
