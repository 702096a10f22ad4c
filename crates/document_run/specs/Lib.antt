pub mod Documented
pub mod Names
pub mod OneFile
pub mod Submitters
pub mod Wordings
