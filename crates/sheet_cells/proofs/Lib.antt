pub mod Street
pub mod Cells
