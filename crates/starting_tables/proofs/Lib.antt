pub mod NumberLemmas
pub mod InForceLemmas
pub mod LawLemmas
pub mod NameLemmas
pub mod OrderLemmas
pub mod PartyLemmas
pub mod WorksLemmas
