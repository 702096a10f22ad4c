pub mod InForce
pub mod Numbers
pub mod Works
pub mod Parties
pub mod Records
