-- A line of a CWR file has one fault, and so has a file; lines that are left out of one are left out for what is in them.
use Rattle.std.proofs.Common.{◌≡◌, ◌∙◌, ◌⊎◌, ◌<◌, ◌++◌, ◌∷◌, [], ℕ, List, Option, None, Some, ap, arith, count_by, inl, inr, refl, subst, sym}
use Rattle.std.proofs.lemmas.Bool.{true≢false}
use Rattle.csv_table.specs.FirstFault.{IsFirstFault}
use Rattle.csv_table.specs.ReadOn.{ReadsOn}
use Rattle.csv_table.proofs.InTurn.{sound_none}
use Rattle.cwr_share.specs.CwrFile.{AreSound, HasFields, HasTooMany, HasWorkField, IsFaultOf, IsFaultOfLine, IsFaultOfOpening, IsFaultOfShare, IsSound, place_of_fault}
use Rattle.cwr_share.specs.CwrReading as reading
use Rattle.cwr_share.specs.CwrReading.{Reads, Refuses, Stops}
use Rattle.cwr_share.specs.Fields.{HasLand, HasMark, HasParty, HasShares, IsFilled, field_of}
use Rattle.cwr_share.specs.Records.{is_share_line, share_fields}
use Rattle.cwr_share.specs.declared.TheConstants.{MOST_SHARES}
use Rattle.cwr_share.specs.declared.cwr_fault.CwrFault.{CwrFault}
use Rattle.cwr_share.specs.declared.cwr_fault.CwrFault.TheVariants.{Short, Share, Mark, Land, Party, Work, Many, Accounts, Memory}
use Rattle.cwr_share.specs.declared.fields.ShareFields.{ShareFields}
use Rattle.cwr_share.specs.declared.fields.TheConstants.{WORK}
use Rattle.cwr_share.proofs.CwrReadings.{first_left_out}
use Rattle.cwr_share.proofs.FileLemmas.{share_stays, stands_same}
use Rattle.cwr_share.proofs.OneRegistry.{share_stands}
use Rattle.explanation_laws.proofs.Chains.{Chain, IsFirstOf, first_once, none_of_met}
use Rattle.explanation_laws.proofs.Chains.Chain.{fine, unless}
use Rattle.explanation_laws.proofs.FirstFaults.{no_first_fault, one_first_fault}

-- ---- one line

module _ (line : List ℕ) (number : ℕ) where
  abbrev of_opening : Chain CwrFault
  of_opening = unless (HasWorkField line) (Short number) (unless (IsFilled (field_of WORK line)) (Work number) fine)

  first_of_opening : (fault : CwrFault) → IsFaultOfOpening line number fault → IsFirstOf of_opening fault
  first_of_opening (Short n) (is, bad) = inl (bad, ap Short is)
  first_of_opening (Work n) (is, long, bad) = inr (long, inl (bad, ap Work is))
  first_of_opening fault never = absurd never

  module _ (earlier : ℕ) (fields : ShareFields) where
    abbrev of_share : Chain CwrFault
    of_share =
        unless (HasFields fields line) (Short number) (unless (HasParty fields line) (Party number) (unless (HasShares fields line) (Share number)
        (unless (HasMark fields line) (Mark number) (unless (HasLand fields line) (Land number) (unless (earlier < MOST_SHARES) (Many number) fine)))))

    first_of_share : (fault : CwrFault) → IsFaultOfShare earlier fields line number fault → IsFirstOf of_share fault
    first_of_share (Short n) (is, bad) = inl (bad, ap Short is)
    first_of_share (Party n) (is, long, bad) = inr (long, inl (bad, ap Party is))
    first_of_share (Share n) (is, long, party, bad) = inr (long, inr (party, inl (bad, ap Share is)))
    first_of_share (Mark n) (is, long, party, shares, bad) = inr (long, inr (party, inr (shares, inl (bad, ap Mark is))))
    first_of_share (Land n) (is, long, party, shares, mark, bad) = inr (long, inr (party, inr (shares, inr (mark, inl (bad, ap Land is)))))
    first_of_share (Many n) (is, long, party, shares, mark, land, many) =
        inr (long, inr (party, inr (shares, inr (mark, inr (land, inl (λ few. omega (arith, few, many), ap Many is))))))
    first_of_share fault never = absurd never

-- a sound line has no fault
not_refused : (before : List (List ℕ)) (number : ℕ) (line : List ℕ) (fault : CwrFault) → IsSound before line → ¬ IsFaultOfLine before number line fault
not_refused before number line fault sound (inl (opens, refused)) =
    let good = sound.opening opens in
    none_of_met (of_opening line number) fault (good.long, (good.work, tt)) (first_of_opening line number fault refused)
not_refused before number line fault sound (inr (shares, body, stands, refused)) =
    share_stands (count_by is_share_line body) (share_fields line) line number fault (sound.share body stands shares) refused

-- and a line has one
once_refused : (before : List (List ℕ)) (number : ℕ) (line : List ℕ) (a b : CwrFault) → IsFaultOfLine before number line a → IsFaultOfLine before number line b → a ≡ b
once_refused before number line a b (inl (_, is)) (inl (_, also)) = first_once (of_opening line number) a b (first_of_opening line number a is) (first_of_opening line number b also)
once_refused before number line a b (inl (opens, _)) (inr (shares, _, _, _)) = absurd (true≢false (sym opens ∙ (share_stays line shares).0))
once_refused before number line a b (inr (shares, _, _, _)) (inl (opens, _)) = absurd (true≢false (sym opens ∙ (share_stays line shares).0))
once_refused before number line a b (inr (_, body, stands, is)) (inr (_, others, also, refused)) =
    let same = stands_same before others body also stands in
    let earlier = count_by is_share_line body in
    let its : IsFaultOfShare earlier (share_fields line) line number b =
    subst (λ (l : List (List ℕ)). IsFaultOfShare (count_by is_share_line l) (share_fields line) line number b) same refused in
    first_once (of_share line number earlier (share_fields line)) a b (first_of_share line number earlier (share_fields line) a is) (first_of_share line number earlier (share_fields line) b its)

-- ---- lines

pub sound_lines_have_none : (lines : List (List ℕ)) (fault : CwrFault) → AreSound lines → ¬ IsFirstFault AreSound IsFaultOfLine lines fault
sound_lines_have_none lines fault sound = no_first_fault IsSound IsFaultOfLine lines not_refused sound fault

pub lines_have_one : (lines : List (List ℕ)) (a b : CwrFault) → IsFirstFault AreSound IsFaultOfLine lines a → IsFirstFault AreSound IsFaultOfLine lines b → a ≡ b
lines_have_one lines =
    one_first_fault IsSound IsFaultOfLine lines once_refused (λ before more number next line other a b sound is also. absurd (not_refused before number line a sound is))

-- ---- a file

module _ (rows : List (List ℕ × List ℕ)) (lines : List (List ℕ)) where
  -- what it is refused for: memory, too many payees, or its first line that is refused
  abbrev Told : CwrFault → Type 0
  Told fault = (fault ≡ Memory) ⊎ ((fault ≡ Accounts) × AreSound lines) ⊎ IsFirstFault AreSound IsFaultOfLine lines fault

  told : (fault : CwrFault) → IsFaultOf rows lines fault → Told fault
  told Memory is = inl refl
  told Accounts is = inr (inl (refl, is.sound))
  told (Short n) is = inr (inr is)
  told (Share n) is = inr (inr is)
  told (Mark n) is = inr (inr is)
  told (Land n) is = inr (inr is)
  told (Party n) is = inr (inr is)
  told (Work n) is = inr (inr is)
  told (Many n) is = inr (inr is)

  pub one_fault_of_file : (a b : CwrFault) → IsFaultOf rows lines a → IsFaultOf rows lines b → ¬ (a ≡ Memory) → ¬ (b ≡ Memory) → a ≡ b
  one_fault_of_file a b is also some other = by (told a is) (told b also)
    where
      by : Told a → Told b → a ≡ b
      by (inl memory) of = absurd (some memory)
      by (inr of) (inl memory) = absurd (other memory)
      by (inr (inl (is, _))) (inr (inl (also, _))) = is ∙ sym also
      by (inr (inl (_, sound))) (inr (inr first)) = absurd (sound_lines_have_none lines b sound first)
      by (inr (inr first)) (inr (inl (_, sound))) = absurd (sound_lines_have_none lines a sound first)
      by (inr (inr first)) (inr (inr later)) = lines_have_one lines a b first later

-- ---- a file that is read on

module _ (lines : List (List ℕ)) where
  abbrev IsReadOn : List (List ℕ × CwrFault) → (kept : List (List ℕ)) → (end : ℕ) → Type 0
  IsReadOn out kept end = ReadsOn Reads Refuses Stops [] 1 lines out kept end []

  -- the first line that is left out is the first that is refused
  pub first_out : (line : List ℕ) (fault : CwrFault) (more : List (List ℕ × CwrFault)) (kept : List (List ℕ)) (end : ℕ) → IsReadOn ((line, fault) ∷ more) kept end
      → IsFirstFault AreSound IsFaultOfLine lines fault × ((place : ℕ) × (place_of_fault fault ≡ Some place))
  first_out line fault more kept end on = first_left_out lines [] lines [] line fault more 1 end kept refl (sound_none IsSound) refl on

  -- and not left out for lack of memory
  pub not_for_memory : (line : List ℕ) (fault : CwrFault) (more : List (List ℕ × CwrFault)) (kept : List (List ℕ)) (end : ℕ) → IsReadOn ((line, fault) ∷ more) kept end → ¬ (fault ≡ Memory)
  not_for_memory line fault more kept end on memory =
      let (first, placed) = first_out line fault more kept end on in
      let none : None ≡ Some placed.0 = ap place_of_fault (sym memory) ∙ placed.1 in
      cc none

  -- where the lines are sound, none is left out
  pub none_out : (out : List (List ℕ × CwrFault)) (kept : List (List ℕ)) (end : ℕ) → IsReadOn out kept end → AreSound lines → out ≡ []
  none_out [] kept end on sound = refl
  none_out ((line, fault) ∷ more) kept end on sound = absurd (sound_lines_have_none lines fault sound (first_out line fault more kept end on).0)

  -- also where the payees are too many in the end
  pub not_for_memory_of_many : (rows : List (List ℕ × List ℕ)) (line : List ℕ) (fault : CwrFault) (more : List (List ℕ × CwrFault))
      → reading.HasTooManyWithout rows lines ((line, fault) ∷ more) → ¬ (fault ≡ Memory)
  not_for_memory_of_many rows line fault more whole = by whole.faults whole.read whole.last
    where
      by : (faults : List (List ℕ × CwrFault)) → IsReadOn faults whole.kept whole.end → (line, fault) ∷ more ≡ faults ++ ([], Accounts) ∷ [] → ¬ (fault ≡ Memory)
      by [] on is memory =
          let head : ◌≡◌ {A = List ℕ × CwrFault} (line, fault) ([], Accounts) = cc is in
          let same : Accounts ≡ Memory = sym (ap (λ (p : List ℕ × CwrFault). p.1) head) ∙ memory in
          cc same
      by ((first, own) ∷ later) on is memory =
          let head : ◌≡◌ {A = List ℕ × CwrFault} (line, fault) (first, own) = cc is in
          not_for_memory first own later whole.kept whole.end on (sym (ap (λ (p : List ℕ × CwrFault). p.1) head) ∙ memory)
