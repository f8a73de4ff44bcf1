pub mod Stages
pub mod Cells
