pub mod Kept
mod Filled
mod Frames
mod Listed
pub mod Waits
mod Answered
pub mod Tables
pub mod Decrypting
pub mod Readies
mod Finishing
pub mod Infos
mod Blanked
mod NamesTold
mod NamedAgain
pub mod EqualNeeds
pub mod FoundKeys
mod ByIds
pub mod Vaults
mod Unmet
mod EqualOutputs
pub mod Keyed
pub mod Alike
