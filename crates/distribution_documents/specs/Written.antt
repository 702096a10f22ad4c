-- Files that were written.
use Rattle.std.specs.Prelude.{ℕ, ◌≡◌, ◌<◌, [], List, get_or, length}
use Rattle.distribution_documents.specs.Documents.{File}

-- these have the names and the bytes of those, in their order
pub record AreWritten {X : Type 0} (has : X → List ℕ → List ℕ → Type 0) (written : List X)
    (files : List File) : Type 0 where
  pub whole : length written ≡ length files
  pub each : (k : ℕ) (d : X) → k < length written → has (get_or written k d) (get_or files k ([], [])).0
      (get_or files k ([], [])).1
