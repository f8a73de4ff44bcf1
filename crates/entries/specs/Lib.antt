pub mod Layout
pub mod Judging
pub mod Working
