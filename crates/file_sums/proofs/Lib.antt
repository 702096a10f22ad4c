pub mod DigitLemmas
pub mod LineLemmas
pub mod SealLemmas
pub mod Taking
