pub mod Parts
pub mod OneReading
pub mod Submitters
pub mod Accounts
mod Chains
mod FirstFaults
mod TableFaults
mod OneOfSeveral
mod RowFaults
mod LineFaults
mod LinkFaults
mod FileFaults
mod Reports
mod SubmittedReports
