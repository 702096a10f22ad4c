pub mod Shown
pub mod Stuck
pub mod Summed
pub mod Sums
