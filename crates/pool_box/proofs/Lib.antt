pub mod PoolEnds
pub mod PoolBegins
pub mod PoolOpened
