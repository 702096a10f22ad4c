pub mod Documents
pub mod Held
pub mod Names
pub mod Payees
pub mod Ready
pub mod Runs
pub mod Slots
pub mod Written
