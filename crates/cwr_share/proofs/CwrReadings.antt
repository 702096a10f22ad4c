-- A CWR file that is read on past the lines that are refused.
use Rattle.std.proofs.Common.{◌≡◌, ◌+◌, ◌⊎◌, ℕ, List, Some, true, is_some, [], ◌∷◌, ◌++◌, length, append_assoc, inl, inr, map, slice_index_or, ap, sym, ◌∙◌, subst, refl, arith}
use Rattle.std.proofs.Math.Seq.{get_or-append_seam, take-append_seam}
use Rattle.std.proofs.lemmas.List.{append-nil, get_or-map, length-map, length_push}
use Rattle.std.proofs.lemmas.List.Elements.{All-weaker}
use Rattle.csv_table.specs.ReadOn.{ReadsOn}
use Rattle.csv_table.specs.ReadOn.ReadsOn.{here, read, left_out, stopped}
use Rattle.csv_table.specs.FirstFault.{IsFirstFault}
use Rattle.cwr_share.specs.CwrFile.{AreSound, HasTooMany, IsFaultOf, IsFaultOfLine, IsFileOf, IsSound, place_of_fault}
use Rattle.cwr_share.specs.CwrReading.{HasReadOn, HasTooManyWithout, IsReadWithout, Reads, Refuses, Stops}
use Rattle.cwr_share.specs.Reading.{IsReadTo}
use Rattle.cwr_share.specs.InForce.{HasInForce, IsOneRegistration}
use Rattle.cwr_share.specs.Parties.{payee_by}
use Rattle.cwr_share.specs.Payees.{payee_of}
use Rattle.cwr_share.specs.Registered.{HasFewPayees, Registered}
use Rattle.cwr_share.specs.RegistryOf.{HasTooManyPayees, IsPayeeAmong, IsRegistryOf}
use Rattle.cwr_share.specs.Registrations.{ShareLine, find_work, shares_in_force}
use Rattle.cwr_share.specs.declared.cwr_fault.CwrFault.{CwrFault}
use Rattle.cwr_share.specs.declared.cwr_fault.CwrFault.TheVariants.{Short, Share, Mark, Land, Party, Work, Many, Accounts, Memory}
use Rattle.cwr_share.specs.declared.cwr_reader.CwrReader.{CwrReader}
use Rattle.cwr_share.specs.declared.reading.Reading.{Reading}
use Rattle.csv_table.proofs.InTurn.{sound_none, sound_push}

-- the last of sound lines is sound after the others
pub sound_last : (lines : List (List ℕ)) (line : List ℕ) → AreSound (lines ++ line ∷ []) → IsSound lines line
sound_last lines line sound =
    rw (take-append_seam, get_or-append_seam) at (sound (length lines) (omega (arith, length_push lines line)))

-- a line that is refused for what is in it is left out
pub left_out_line : (lines : List (List ℕ)) (old new : Reading) (line : List ℕ) (number : ℕ) (fault : CwrFault) → IsReadTo lines old
    → (fault ≡ Memory) ⊎ ((before : List (List ℕ)) → IsReadTo before old → IsFaultOfLine before number line fault)
    → (fault ≡ Memory) ⊎ ((new ≡ old) × (place_of_fault fault ≡ Some number)) → is_some (place_of_fault fault) ≡ true → Refuses lines number line fault × (new ≡ old)
left_out_line lines old new line number fault so_far (inl memory) same placed = cc (rw memory at placed)
left_out_line lines old new line number fault so_far refused (inl memory) placed = cc (rw memory at placed)
left_out_line lines old new line number fault so_far (inr refused) (inr (same, place)) placed = ((refused lines so_far, place), same)

-- reading on without a line that is left out reads all lines
pub all_read : (lines left : List (List ℕ)) (number end : ℕ) (last : List (List ℕ)) → ReadsOn Reads Refuses Stops lines number left [] last end [] → last ≡ lines ++ left
all_read lines left number end last (here _ _ _) = sym (append-nil lines)
all_read lines left number end last (read _ next _ _ _ line rest _ _ (sound, is) on) =
    all_read next rest (number + 1) end last on ∙ (rw is (append_assoc lines (line ∷ []) rest))

-- and what they came to is what all lines come to
pub whole_read : (lines : List (List ℕ)) (from to : CwrReader) → IsReadTo [] from.reading → (from.number ≡ 1) × (from.lines ≡ lines) → HasReadOn from [] to × (to.lines ≡ [])
    → IsReadTo lines to.reading
whole_read lines from to start begun (on, none) =
    let (last, so_far, way) = on [] start in
    let all = all_read [] from.lines from.number to.number last (rw none at way) in
    subst (λ (l : List (List ℕ)). IsReadTo l to.reading) (all ∙ begun.1) so_far

-- the first line that is left out is the first that is refused
pub first_left_out : (lines before left after : List (List ℕ)) (line : List ℕ) (fault : CwrFault) (more : List (List ℕ × CwrFault)) (number end : ℕ) (last : List (List ℕ))
    → lines ≡ before ++ left → AreSound before → length before + 1 ≡ number
    → ReadsOn Reads Refuses Stops before number left ((line, fault) ∷ more) last end after → IsFirstFault AreSound IsFaultOfLine lines fault × ((place : ℕ) × (place_of_fault fault ≡ Some place))
first_left_out lines before left after line fault more number end last split sound count (read _ next _ _ _ one rest _ _ (good, is) on) =
    first_left_out lines next rest after line fault more (number + 1) end last
    (split ∙ rw is (sym (append_assoc before (one ∷ []) rest)))
    (rw is (sound_push IsSound before one sound good))
    (rw (is, length_push before one, count) refl) on
first_left_out lines before left after line fault more number end last split sound count (left_out _ _ _ _ _ _ rest _ _ (refused, place) on) = (
  record {
    before = before;
    row = line;
    after = rest;
    split = split;
    sound = sound;
    refused = rw count refused;
  },
  (number, place),
)
first_left_out lines before left after line fault more number end last split sound count (stopped _ _ _ _ rest never) = absurd never

-- and is what a file is refused for
pub fault_of_first : (rows : List (List ℕ × List ℕ)) (lines : List (List ℕ)) (fault : CwrFault) → IsFirstFault AreSound IsFaultOfLine lines fault → ((place : ℕ) × (place_of_fault fault ≡ Some place)) → IsFaultOf rows lines fault
fault_of_first rows lines (Short n) first placed = first
fault_of_first rows lines (Share n) first placed = first
fault_of_first rows lines (Mark n) first placed = first
fault_of_first rows lines (Land n) first placed = first
fault_of_first rows lines (Party n) first placed = first
fault_of_first rows lines (Work n) first placed = first
fault_of_first rows lines (Many n) first placed = first
fault_of_first rows lines Accounts first (place, is) = cc is
fault_of_first rows lines Memory first placed = tt

-- a file that is read on without a fault is one of sound lines
pub file_read_whole : (rows : List (List ℕ × List ℕ)) (lines : List (List ℕ)) (registered : Registered) → IsReadWithout rows lines [] registered → IsFileOf rows lines registered
file_read_whole rows lines registered whole =
    subst (λ (l : List (List ℕ)). IsFileOf rows l registered) (all_read [] lines 1 whole.end whole.kept whole.read) whole.file

-- the first fault of one that is read on is what it is refused for
pub first_fault_read : (rows : List (List ℕ × List ℕ)) (lines : List (List ℕ)) (line : List ℕ) (fault : CwrFault) (more : List (List ℕ × CwrFault)) (registered : Registered)
    → IsReadWithout rows lines ((line, fault) ∷ more) registered → IsFaultOf rows lines fault
first_fault_read rows lines line fault more registered whole =
    let (first, placed) = first_left_out lines [] lines [] line fault more 1 whole.end whole.kept refl (sound_none IsSound) refl whole.read in
    fault_of_first rows lines fault first placed

-- also where there are too many payees
pub first_fault_of_many : (rows : List (List ℕ × List ℕ)) (lines : List (List ℕ)) (line : List ℕ) (fault : CwrFault) (more : List (List ℕ × CwrFault))
    → HasTooManyWithout rows lines ((line, fault) ∷ more) → IsFaultOf rows lines fault
first_fault_of_many rows lines line fault more whole = by whole.faults whole.read whole.last
  where
    by : (faults : List (List ℕ × CwrFault)) → ReadsOn Reads Refuses Stops [] 1 lines faults whole.kept whole.end [] → (line, fault) ∷ more ≡ faults ++ ([], Accounts) ∷ [] → IsFaultOf rows lines fault
    by [] on is =
        let same : ◌≡◌ {A = List ℕ × CwrFault} (line, fault) ([], Accounts) = cc is in
        let last : fault ≡ Accounts = ap (λ (e : List ℕ × CwrFault). e.1) same in
        subst (λ (f : CwrFault). IsFaultOf rows lines f) (sym last)
        (subst (λ (l : List (List ℕ)). HasTooMany rows l) (all_read [] lines 1 whole.end whole.kept on) whole.many)
    by (one ∷ others) on is =
        let same : one ≡ (line, fault) = cc is in
        let (first, placed) = first_left_out lines [] lines [] line fault others 1 whole.end whole.kept refl (sound_none IsSound) refl (subst (λ (e : List ℕ × CwrFault). ReadsOn Reads Refuses Stops [] 1 lines (e ∷ others) whole.kept whole.end []) same on) in
        fault_of_first rows lines fault first placed

-- one registration has few payees
pub few_of_one : (rows : List (List ℕ × List ℕ)) (shares : List ShareLine) → IsOneRegistration shares → HasFewPayees (payee_of rows) shares
few_of_one rows shares one = (
  map (payee_by rows) shares,
  omega (arith, one.few, length-map shares (payee_by rows)),
  λ k d within. (k, omega (arith, within, length-map shares (payee_by rows)), get_or-map (payee_by rows) shares k d (payee_by rows (slice_index_or shares k d)) within),
)

-- a registry of what is in force is that of the file
pub file_of : (rows : List (List ℕ × List ℕ)) (lines : List (List ℕ)) (works : List (List ℕ × List ShareLine)) (registered : Registered) → AreSound lines
    → ((work : List ℕ) → find_work work works ≡ shares_in_force lines work) → IsRegistryOf rows (λ work. find_work work works) registered → IsFileOf rows lines registered
file_of rows lines works registered sound in_force of = record {
  sound = sound;
  registry = record { in_force = λ work. of.in_force work ∙ in_force work; paid = of.paid };
}

-- too many payees of what is in force are too many of the file
pub too_many_of : (rows : List (List ℕ × List ℕ)) (reading : Reading) (works : List (List ℕ × List ShareLine)) (fault : CwrFault)
    → ((lines : List (List ℕ)) → IsReadTo lines reading → HasInForce lines works)
    → (fault ≡ Memory) ⊎ ((fault ≡ Accounts) × HasTooManyPayees rows (λ work. find_work work works))
    → (fault ≡ Memory) ⊎ ((fault ≡ Accounts) × ((lines : List (List ℕ)) → IsReadTo lines reading → HasTooMany rows lines))
too_many_of rows reading works fault forced (inl memory) = inl memory
too_many_of rows reading works fault forced (inr (accounts, many)) = inr (
  accounts,
  λ lines read. record {
    sound = read.0;
    many = record {
      payees = many.payees;
      rising = many.rising;
      each = All-weaker (IsPayeeAmong rows (λ work. find_work work works)) (IsPayeeAmong rows (shares_in_force lines))
          (λ payee (work, shares, found, at). (work, shares, sym ((forced lines read).in_force work) ∙ found, at)) many.payees many.each;
      many = many.many;
    };
  },
)
