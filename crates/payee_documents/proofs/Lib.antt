pub mod Rows
pub mod Sheets
pub mod Slices
