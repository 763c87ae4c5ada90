pub mod Keys
pub mod Lookup
pub mod Loading
pub mod Numbers
pub mod Held
pub mod Cached
pub mod Putting
pub mod Undoing
