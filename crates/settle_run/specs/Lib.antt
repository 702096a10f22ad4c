pub mod Settled
pub mod Divided
pub mod Reasons
