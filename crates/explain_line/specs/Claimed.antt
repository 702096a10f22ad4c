-- What one share line adds to a claim.
use Rattle.std.specs.Prelude.{ℕ, ◌≡◌, ◌&&◌, List, if◌then◌else◌, map, nat_eq}
use Rattle.std.specs.Cmp.Lexicographic.{pointwise}
use Rattle.cwr_share.specs.ClaimsOn.{decides, share_for}
use Rattle.cwr_share.specs.Registrations.{ShareLine}
use Rattle.line_split.specs.declared.usage.Right.{Right}

-- these are the payees of the share lines
abbrev pub ArePayeesOf : (pay : List ℕ → List ℕ) → (payees : List (List ℕ)) → (shares : List ShareLine) → Type 0
ArePayeesOf pay payees shares = payees ≡ map (λ share. pay share.party) shares

-- its share to that of a payee, where it is the payee's and decides
abbrev pub claimed_by : List (ℕ × List ℕ) → (land : ℕ) → Right → (pay : List ℕ → List ℕ) → (payee : List ℕ) → ShareLine → (later : List ShareLine) → ℕ
claimed_by table land right pay payee share later = if pointwise nat_eq (pay share.party) payee && decides table land share later then share_for right share else 0
