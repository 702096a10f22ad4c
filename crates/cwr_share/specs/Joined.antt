-- The registrations of a work by several submitters, as one list of share lines.
use Rattle.std.specs.Prelude.{ℕ, ◌+◌, ◌++◌, ◌∷◌, List, [], fold, map, max}
use Rattle.cwr_share.specs.Registrations.{ShareLine}

-- A party of a submitter goes by the submitter's name, a colon, and its own. No name of a submitter has a colon in it, so
-- parties of different submitters are different parties.
abbrev pub qualified : (submitter party : List ℕ) → List ℕ
qualified submitter party = submitter ++ 58 ∷ party

-- one more than the greatest interest of share lines, and 0 where there are none
abbrev pub interests_in : List ShareLine → ℕ
interests_in lines = fold max 0 (map (λ line. line.interest + 1) lines)

-- a share line of a submitter behind others, whose interests come first
abbrev pub of_submitter : (submitter : List ℕ) → (first : ℕ) → ShareLine → ShareLine
of_submitter submitter first line = record {
  interest = first + line.interest;
  party = qualified submitter line.party;
  performing = line.performing;
  mechanical = line.mechanical;
  synchronisation = line.synchronisation;
  includes = line.includes;
  territory = line.territory;
}

-- Share lines, and behind them those of one more registration: its interests are others than theirs, and its parties are
-- its submitter's.
abbrev pub followed_by : List ShareLine → List ℕ × List ShareLine → List ShareLine
followed_by lines registration = lines ++ map (of_submitter registration.0 (interests_in lines)) registration.1

-- registrations, each of a submitter, as one list
abbrev pub joined : List (List ℕ × List ShareLine) → List ShareLine
joined registrations = fold followed_by [] registrations
