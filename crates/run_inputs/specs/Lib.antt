pub mod Faults
pub mod Inputs
pub mod Parts
