pub mod SumBelow
pub mod Ranks
pub mod Quotas
pub mod Enumerated
pub mod Places
pub mod ClaimLemmas
pub mod Fair
pub mod Division
pub mod FirstPlaces
pub mod ByAccount
pub mod Over
pub mod UsageRows
pub mod OneTable
mod KeptLemmas
pub mod PortionAccounts
pub mod Signs
pub mod IntSums
pub mod FairSigns
pub mod ByRank
mod WithoutFeeds
