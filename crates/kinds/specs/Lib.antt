pub mod Kinds
pub mod Working
