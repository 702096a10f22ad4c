pub mod Adjusted
pub mod Differences
pub mod Refused
pub mod SoFar
