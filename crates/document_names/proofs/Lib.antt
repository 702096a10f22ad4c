pub mod CodeLemmas
pub mod FirstLemmas
pub mod Zipped
