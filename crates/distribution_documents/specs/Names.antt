-- The names of files.
use Rattle.std.specs.Prelude.{ℕ, ◌++◌, List, codes, if◌then◌else◌, nat_le}

-- how many digits the numbers of so many accounts, the residue's 0 among them, are written with
abbrev pub width_for : (accounts : ℕ) → ℕ
width_for accounts = if nat_le accounts 10000 then 4 else 5

-- a file of a payee, by its name and its ending
abbrev pub in_folder : (name ending : List ℕ) → List ℕ
in_folder name ending = codes "payees/" ++ (name ++ ending)
