pub mod Listing
pub mod Working
