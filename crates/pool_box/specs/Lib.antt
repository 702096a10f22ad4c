pub mod Pools
pub mod PoolViews
