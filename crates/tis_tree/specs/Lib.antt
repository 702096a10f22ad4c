pub mod Territories
pub mod TisRows
pub mod Compiled
