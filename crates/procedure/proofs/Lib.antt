pub mod Fair
pub mod Compared
pub mod Finer
pub mod Reading
pub mod Worksheets
