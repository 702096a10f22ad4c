-- How many threads a run has, and the room between them.
use Rattle.std.specs.Prelude.{ℕ, ◌≤◌, ◌<◌}
pub use Rattle.queue_core.specs.declared.TheConstants.{MOST_NODES}
use Rattle.split_run.specs.declared.TheConstants.{MOST_THREADS}

pub record Planned : Type 0 where
  pub workers : ℕ
  pub readers : ℕ
  pub nodes : ℕ

-- 1 to 8 workers, 1 to 8 readers, 1 to 64 nodes
pub record IsPlan (planned : Planned) : Type 0 where
  pub workers : (0 < planned.workers) × (planned.workers ≤ MOST_THREADS)
  pub readers : (0 < planned.readers) × (planned.readers ≤ MOST_THREADS)
  pub nodes : (0 < planned.nodes) × (planned.nodes ≤ MOST_NODES)
