pub mod Sums
pub mod BlockLemmas
pub mod TakenLemmas
pub mod SendingLemmas
pub mod DivisionLemmas
pub mod EndLemmas
pub mod WorkingLemmas
pub mod ReadingLemmas
pub mod OpeningLemmas
pub mod RunningLemmas
pub mod PooledLemmas
pub mod SeparateLemmas
pub mod WatchedLemmas
pub mod AddsUp
mod Reversals
