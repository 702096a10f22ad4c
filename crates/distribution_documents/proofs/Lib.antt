pub mod Accounts
pub mod Balance
pub mod Files
