pub mod Words
pub mod RowLemmas
