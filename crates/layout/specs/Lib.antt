pub mod Entries
pub mod Sheet
pub mod Diamond
pub mod Open
