pub mod Numbers
pub mod Order
pub mod Flows
pub mod Times
pub mod LeftLane
pub mod Permitted
pub mod Crossing
pub mod Lines
