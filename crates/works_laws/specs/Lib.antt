pub mod ByNumbers
pub mod OneList
pub mod Reordered
