pub mod ClaimedLemmas
pub mod OneExplanation
pub mod Postings
pub mod Posted
pub mod LookedLemmas
pub mod SubmittedLemmas
pub mod RowLemmas
