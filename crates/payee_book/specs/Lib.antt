pub mod Run
pub mod Counted
pub mod Statement
pub mod Text
pub mod Waves
