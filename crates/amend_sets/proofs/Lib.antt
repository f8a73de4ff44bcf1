pub mod Changes
pub mod Together
pub mod Runs
