pub mod SubmittedStatements
pub mod Alike
