-- The method of largest remainder (Hamilton). Participants are pairs of an account and its share of a base.
use Rattle.std.specs.Prelude.{ℕ, ◌+◌, ◌-◌, ◌*◌, ◌/◌, ◌%◌, List, map, sum_by, count_by, Bool, ◌&&◌, ◌||◌, ◌==◌, nat_lt, if◌then◌else◌}
use Rattle.std.specs.List.{enumerate_from}
use Rattle.line_split.specs.Claims.{base_of, participants_of}

-- what a share of the base is of the amount, rounded down
abbrev pub quota_of : (amount base share : ℕ) → ℕ
quota_of amount base share = amount * share / base

-- what rounding down leaves of it, in parts of a unit, of which the base is one
abbrev pub remainder_of : (amount base share : ℕ) → ℕ
remainder_of amount base share = amount * share % base

-- how many units the quotas leave
abbrev pub units_left : (amount base : ℕ) → List (ℕ × ℕ) → ℕ
units_left amount base participants = amount - sum_by (λ p. quota_of amount base p.1) participants

-- each participant's place and remainder
abbrev pub contenders_of : (amount base : ℕ) → List (ℕ × ℕ) → List (ℕ × ℕ)
contenders_of amount base participants = enumerate_from 0 (map (λ p. remainder_of amount base p.1) participants)

-- One contender comes before another: it has a greater remainder, or an equal one and an earlier place.
abbrev pub comes_before : ℕ × ℕ → ℕ × ℕ → Bool
comes_before contender other = nat_lt other.1 contender.1 || ((contender.1 == other.1) && nat_lt contender.0 other.0)

-- how many contenders come before this one
abbrev pub rank_of : List (ℕ × ℕ) → ℕ × ℕ → ℕ
rank_of contenders contender = count_by (λ other. comes_before other contender) contenders

-- the portion of the participant at a place that has this share: its quota, and a unit more where fewer come before it than units are left
abbrev pub portion_of : (amount base : ℕ) → List (ℕ × ℕ) → (place share : ℕ) → ℕ
portion_of amount base participants place share =
    let rank = rank_of (contenders_of amount base participants) (place, remainder_of amount base share) in
    quota_of amount base share + (if nat_lt rank (units_left amount base participants) then 1 else 0)

-- each participant's account and portion
abbrev pub portions_among : (amount base : ℕ) → List (ℕ × ℕ) → List (ℕ × ℕ)
portions_among amount base participants =
    map (λ e. (e.1.0, portion_of amount base participants e.0 e.1.1)) (enumerate_from 0 participants)

-- the portions of an amount by the claims on it
abbrev pub portions_of : ℕ → List (ℕ × ℕ) → List (ℕ × ℕ)
portions_of amount claims = portions_among amount (base_of claims) (participants_of claims)
