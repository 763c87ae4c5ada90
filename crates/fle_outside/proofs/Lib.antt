pub mod PartWay
pub mod Pieces
pub mod Bytes
pub mod Drawings
pub mod Asked
