-- What the lines so far came to, while a file is read.
use Rattle.std.specs.Prelude.{ℕ, ◌≡◌, ◌++◌, ◌∷◌, List, All, count_by, Option, Some, None, false, true}
use Rattle.cwr_share.specs.CwrFile.{AreSound, StandsIn}
use Rattle.cwr_share.specs.InForce.{AreShareLines, HasInForce, IsOneRegistration}
use Rattle.cwr_share.specs.Records.{ends_registration, opens_interest, opens_registration}
use Rattle.cwr_share.specs.Registrations.{share_lines_of, work_of}
use Rattle.cwr_share.specs.declared.reading.Reading.{Reading}
use Rattle.cwr_share.specs.declared.reading.Open.{Open}

-- the open registration has these lines so far
pub record IsOpenWith (body : List (List ℕ)) (opening : List ℕ) (registration : Open) : Type 0 where
  pub opens : opens_registration opening ≡ true
  pub work : registration.work.items ≡ work_of opening
  pub stays : All (λ line. ends_registration line ≡ false) body
  pub shares : registration.shares.items ≡ share_lines_of body
  pub sound : AreShareLines registration.shares.items
  pub one : IsOneRegistration registration.shares.items
  pub interest : registration.interest ≡ count_by opens_interest body

-- all lines so far are read: they are as they have to be; the registrations that have ended are in force; and where one is open, it is kept apart
abbrev pub IsReadTo : List (List ℕ) → Reading → Type 0
IsReadTo lines reading = AreSound lines × stands reading.open
  where
    stands : Option Open → Type 0
    stands None = HasInForce lines reading.in_force × ((body : List (List ℕ)) → ¬ StandsIn lines body)
    stands (Some registration) = (earlier : List (List ℕ)) × (opening : List ℕ) × (body : List (List ℕ))
        × (lines ≡ earlier ++ opening ∷ body) × HasInForce earlier reading.in_force × IsOpenWith body opening registration
