pub mod AnyOrder
pub mod Chains
pub mod RowOrder
pub mod RowSums
pub mod Scales
pub mod Shortening
