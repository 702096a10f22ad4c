pub mod Mails
pub mod LinkViews
pub use Rattle.queue_core.specs.Endings
pub mod Lanes
pub mod LaneViews
pub mod Awaited
