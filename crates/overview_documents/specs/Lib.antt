pub mod Balance
pub mod Heads
pub mod Lines
pub mod Overviews
pub mod Page
pub mod Payees
