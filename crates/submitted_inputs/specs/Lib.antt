pub mod Faults
pub mod Files
pub mod Outcomes
pub mod Submitted
