pub mod Relays
pub mod LaneLists
pub use Rattle.queue_core.proofs.Endings
pub mod AwaitedLemmas
