pub mod Calls
pub mod Separation
pub mod Working
