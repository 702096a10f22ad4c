pub mod Added
pub mod Begun
pub mod Counted
pub mod Named
pub mod Steps
pub mod Sums
pub mod UsageRows
pub mod UsageTable
