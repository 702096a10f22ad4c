pub mod OneAdjustment
pub mod Rests
pub mod Rows
pub mod Turning
pub mod Uses
pub mod WithDifferences
