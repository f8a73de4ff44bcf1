pub mod Make
pub mod Steps
