pub mod Columns
pub mod Sales
pub mod Sources
