pub mod Laws
pub mod Plans
pub mod Percentile
pub mod Example
