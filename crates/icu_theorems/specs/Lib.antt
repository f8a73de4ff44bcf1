pub mod Outcomes
pub mod Offices
