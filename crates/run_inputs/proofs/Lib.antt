pub mod Made
pub mod OnePayees
pub mod Refusals
