pub mod GoingOn
pub mod Reporting
pub mod FilesRead
pub mod Listing
pub mod Telling
pub mod SubmittedReporting
pub mod SubmittedWhole
pub mod Overclaims
