pub mod Filtered
pub mod Groups
pub mod Wide
