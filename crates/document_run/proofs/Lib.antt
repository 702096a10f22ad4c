pub mod NameLemmas
pub mod InputLemmas
pub mod SubmitterLemmas
