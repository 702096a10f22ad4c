pub mod Portions
pub mod Shown
pub mod Sections
pub mod Sums
pub mod Lands
pub mod Reversals
pub mod Held
pub mod Money
