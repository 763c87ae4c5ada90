pub mod Master
pub mod Wrapped
pub mod Drawn
pub mod Made
pub mod Seen
pub mod Document
