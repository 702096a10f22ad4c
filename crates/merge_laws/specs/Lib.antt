pub mod WholeList
