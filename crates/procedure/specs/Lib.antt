pub mod Approach
pub mod Lines
pub mod Pairs
pub mod Sheet
pub mod Ranges
pub mod Junctions
pub mod Points
