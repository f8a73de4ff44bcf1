pub mod Values
pub mod Working
