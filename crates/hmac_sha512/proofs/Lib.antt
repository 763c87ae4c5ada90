pub mod MacLength
pub mod Computed
