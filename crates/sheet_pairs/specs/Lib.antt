pub mod Picks
pub mod Cells
