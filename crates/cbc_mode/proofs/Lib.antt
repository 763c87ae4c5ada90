pub mod Padded
pub mod Chained
pub mod WholeBlocks
pub mod Undone
pub mod Unpadded
pub mod Differences
