pub mod ControlLemmas
pub mod LineBytes
pub mod NumberLemmas
pub mod QuoteLemmas
pub mod ShiftedLemmas
pub mod TypeLemmas
