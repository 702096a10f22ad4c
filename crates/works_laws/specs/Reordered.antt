-- Files, rows of the table of works and rows of the table of payees in another order.
use Rattle.std.specs.Prelude.{ℕ, ◌≡◌, List, AllPairs}
use Rattle.std.specs.List.Sorted.{IsPermutation}
use Rattle.linked_works.specs.Linked.{Link}

-- Each submitter has one file and each party one row; and there is the same in another order.
pub record AreReordered (files others : List (List ℕ × List (List ℕ))) (links moved : List Link)
    (rows mixed : List (List ℕ × List ℕ)) : Type 0 where
  pub submitters : AllPairs (λ file later. ¬ (file.0 ≡ later.0)) files
  pub same_files : IsPermutation files others
  pub same_links : IsPermutation links moved
  pub parties : AllPairs (λ row later. ¬ (row.0 ≡ later.0)) rows
  pub same_rows : IsPermutation rows mixed
