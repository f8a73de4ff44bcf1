pub mod Wish
pub mod Working
