pub mod FileLemmas
pub mod OutcomeLemmas
pub mod Refusals
