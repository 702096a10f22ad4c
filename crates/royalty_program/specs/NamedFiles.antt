-- The values of `--cwr` where submitters have a file each: NAME=F.
use Rattle.std.specs.Prelude.{ℕ, ◌≡◌, ◌≤◌, ◌<◌, ◌==◌, All, List, length, map, string_bytes}
use Rattle.std.specs.List.{after_first, before_first}
use Rattle.linked_works.specs.Submitters.{AreSubmitters}
use Rattle.royalty_program.specs.declared.named_files.NamedFiles.{NamedFiles}

-- what stands before the first `=` of a value, and what stands after it
abbrev pub name_in : List ℕ → List ℕ
name_in value = before_first (λ byte. byte == 61) value

abbrev pub path_in : List ℕ → List ℕ
path_in value = after_first (λ byte. byte == 61) value

-- The values name no more files than have a submitter each, with names of submitters that all differ, and a path each.
pub record AreNamed (values : List (List ℕ)) : Type 0 where
  pub few : length values ≤ 256
  pub names : AreSubmitters (map name_in values)
  pub paths : All (λ value. 0 < length (path_in value)) values

-- and these are the names and the paths
pub record AreNamedBy (values : List (List ℕ)) (files : NamedFiles) : Type 0 where
  pub named : AreNamed values
  pub names : files.names ≡ map name_in values
  pub paths : map string_bytes files.paths.items ≡ map path_in values
