pub mod Claimed
pub mod Explanation
pub mod LookedAt
pub mod Shares
pub mod Submitted
