pub mod FewLemmas
pub mod FirstLemmas
pub mod LinkedLemmas
pub mod LinkRows
pub mod NameLemmas
pub mod PassingOver
pub mod PayeeRows
