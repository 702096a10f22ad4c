pub mod JoinedPayees
pub mod ListLemmas
pub mod Moved
pub mod OneFile
pub mod OneLists
pub mod SameRegistries
