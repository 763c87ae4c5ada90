pub mod Policies
pub mod Reasons
pub mod Standing
