pub mod Together
pub mod Texts
pub mod Frames
pub mod Sizes
pub mod Laid
pub mod ReadBack
pub mod Joined
