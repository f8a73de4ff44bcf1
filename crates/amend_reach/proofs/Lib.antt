pub mod Merging
pub mod Blocks
pub mod Copies
pub mod Parts
pub mod Whole
