pub mod Record
pub mod Lines
pub mod Example
