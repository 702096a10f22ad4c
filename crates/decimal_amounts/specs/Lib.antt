pub mod Decimals
pub mod Scaled
