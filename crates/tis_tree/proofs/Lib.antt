pub mod Bits
pub mod Compiling
pub mod Enclosing
mod GroupWords
pub mod OneTable
pub mod WorkedOut
