pub mod Page
pub mod Reasons
pub mod Sums
pub mod Tables
