pub mod Breakdowns
pub mod Heads
pub mod Notes
pub mod Payees
pub mod Sheet
pub mod Statement
pub mod Uses
