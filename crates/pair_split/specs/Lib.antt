pub mod Pair
pub mod PairFault
pub mod Rows
