-- The registrations in force of a file, as they stand in it.
use Rattle.std.specs.Prelude.{ℕ, ◌∷◌, ◌&&◌, List, [], flat_map, not, if◌then◌else◌}
use Rattle.std.specs.List.{list_any}
use Rattle.cwr_share.specs.Filed.{body_of, opens_work}
use Rattle.cwr_share.specs.Records.{opens_registration}
use Rattle.cwr_share.specs.Registrations.{work_of}

-- a registration: its NWR or REV record, and the lines after it that are its own
pub record Registration : Type 0 where
  pub opening : List ℕ
  pub body : List (List ℕ)

-- its submitter work number
abbrev pub number_of : Registration → List ℕ
number_of registration = work_of registration.opening

-- the registrations of a file, replaced ones too, in its order
unfoldable pub registrations_filed : List (List ℕ) → List Registration
registrations_filed [] = []
registrations_filed (line ∷ later) =
    if opens_registration line then record { opening = line; body = body_of later } ∷ registrations_filed later
    else registrations_filed later

-- those in force: no later NWR or REV has the number
unfoldable pub registrations_in_force : List (List ℕ) → List Registration
registrations_in_force [] = []
registrations_in_force (line ∷ later) =
    if opens_registration line && not (list_any (opens_work (work_of line)) later)
    then record { opening = line; body = body_of later } ∷ registrations_in_force later
    else registrations_in_force later

-- the lines of registrations after their NWR or REV records
abbrev pub bodies_of : List Registration → List (List ℕ)
bodies_of registrations = flat_map (λ registration. registration.body) registrations
