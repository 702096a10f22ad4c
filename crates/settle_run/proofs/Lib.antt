mod BookLemmas
pub mod OneText
mod SettleLemmas
