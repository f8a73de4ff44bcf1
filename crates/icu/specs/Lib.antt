pub mod Told
pub mod Calls
