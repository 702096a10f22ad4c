-- How the rows of a table are read one by one, whatever the table.
use Rattle.std.proofs.Common.{◌≡◌, ◌≤◌, ◌<◌, ◌+◌, ℕ, List, [], ◌∷◌, ◌++◌, length, map, ap, sym, refl, ◌∙◌, append_assoc, inl, inr, arith, length-append}
use Rattle.std.proofs.lemmas.List.{append-nil, length_push, length-map, map-append}
use Rattle.csv_table.specs.FirstFault.{IsFirstFault}
use Rattle.csv_table.specs.ReadOn.{ReadsOn}
use Rattle.csv_table.specs.ReadOn.ReadsOn.{here, read, left_out, stopped}
use Rattle.csv_table.specs.RowTable.{AreItems, AreSound, TableRules, IsFaultIn, IsFaultOf, IsReadWithout, IsRefused, IsTable, LeavesOut, Reads, Stops}
use Rattle.csv_table.proofs.InTurn.{sound_at, sound_none, sound_push}

-- the rows that were read so far are these items
pub record Walked {X F : Type 0} (rules : TableRules X F) (rows left : List (List (List ℕ))) (number : ℕ) (items : List X) : Type 0 where
  pub before : List (List (List ℕ))
  pub split : rows ≡ before ++ left
  pub few : length before ≤ rules.most
  pub sound : AreSound rules before
  pub same : items ≡ map rules.item_of before
  pub count : length before + 1 ≡ number

module _ {X F : Type 0} (rules : TableRules X F) where
  -- no row is read yet
  pub walked_start : (rows : List (List (List ℕ))) → Walked rules rows rows 1 []
  walked_start rows = record {
    before = [];
    split = refl;
    few = omega arith;
    sound = sound_none (λ before. rules.IsRow (map rules.item_of before));
    same = refl;
    count = refl;
  }

  -- a row more is an item more
  pub walked_more : (rows left : List (List (List ℕ))) (row : List (List ℕ)) (number : ℕ) (items next : List X)
      → Walked rules rows (row ∷ left) number items → Reads rules items row next → Walked rules rows left (number + 1) next
  walked_more rows left row number items next walked (few, good, is) = record {
    before = walked.before ++ row ∷ [];
    split = walked.split ∙ sym (append_assoc walked.before (row ∷ []) left);
    few = omega (arith, few, ap length walked.same, length-map walked.before rules.item_of, length_push walked.before row);
    sound = sound_push (λ before. rules.IsRow (map rules.item_of before)) walked.before row walked.sound (rw walked.same at good);
    same = rw (is, walked.same) (sym (map-append rules.item_of walked.before (row ∷ [])));
    count = rw (length_push walked.before row, walked.count) refl;
  }

  -- where no row is left, the rows are the items
  pub walked_items : (rows : List (List (List ℕ))) (number : ℕ) (items : List X) → Walked rules rows [] number items → AreItems rules rows items
  walked_items rows number items walked =
      let whole : rows ≡ walked.before = walked.split ∙ append-nil walked.before in
      rw whole record { few = walked.few; sound = walked.sound; same = walked.same }

  -- the rows are refused for the row at hand, which is the first that is refused
  pub walked_fault : (rows left : List (List (List ℕ))) (row : List (List ℕ)) (number : ℕ) (items : List X) (fault : F) → Walked rules rows (row ∷ left) number items
      → ((before : List (List (List ℕ))) → items ≡ map rules.item_of before → IsRefused rules before number row fault) → IsFaultIn rules rows fault
  walked_fault rows left row number items fault walked refused = inr record {
    before = walked.before;
    row = row;
    after = left;
    split = walked.split;
    sound = walked.sound;
    refused = rw walked.count (refused walked.before walked.same);
  }

  -- reading on without a row that is left out reads all rows
  pub walked_on : (rows left after : List (List (List ℕ))) (number end : ℕ) (items last : List X)
      → Walked rules rows left number items → ReadsOn (Reads rules) (LeavesOut rules) (Stops rules) items number left [] last end after → Walked rules rows after end last
  walked_on rows left after number end items last walked (here _ _ _) = walked
  walked_on rows left after number end items last walked (read _ next _ _ _ row rest _ _ step on) =
      walked_on rows rest after (number + 1) end next last (walked_more rows rest row number items next walked step) on

  -- the first row that is left out is the one that the rows are refused for
  pub first_left_out : (rows left after : List (List (List ℕ))) (row : List (List ℕ)) (fault : F) (more : List (List (List ℕ) × F)) (number end : ℕ) (items last : List X)
      → Walked rules rows left number items → ReadsOn (Reads rules) (LeavesOut rules) (Stops rules) items number left ((row, fault) ∷ more) last end after → IsFaultIn rules rows fault
  first_left_out rows left after row fault more number end items last walked (read _ next _ _ _ one rest _ _ step on) =
      first_left_out rows rest after row fault more (number + 1) end next last (walked_more rows rest one number items next walked step) on
  first_left_out rows left after row fault more number end items last walked (left_out _ _ _ _ _ _ rest _ _ (few, refused) on) =
      walked_fault rows rest row number items fault walked
      (λ before same. inr (omega (arith, few, ap length same, length-map before rules.item_of), rw same at refused))
  first_left_out rows left after row fault more number end items last walked (stopped _ _ _ _ rest (is, many)) =
      walked_fault rows rest row number items fault walked
      (λ before same. inl (omega (arith, many, ap length same, length-map before rules.item_of), is))

  -- ---- from the first row, which counts as 1

  pub read_to_the_end : (rows left : List (List (List ℕ))) (number end : ℕ) (items last : List X) → (items ≡ []) × (number ≡ 1)
      → ReadsOn (Reads rules) (LeavesOut rules) (Stops rules) items number rows [] last end left → left ≡ [] → AreItems rules rows last
  read_to_the_end rows left number end items last (none, first) on all =
      let on = rw (none, first, all) at on in
      walked_items rows end last (walked_on rows rows [] 1 end [] last (walked_start rows) on)

  pub read_to_a_fault : (rows left : List (List (List ℕ))) (row : List (List ℕ)) (fault : F) (number end : ℕ) (items last : List X) → (items ≡ []) × (number ≡ 1)
      → ReadsOn (Reads rules) (LeavesOut rules) (Stops rules) items number rows ((row, fault) ∷ []) last end left → IsFaultIn rules rows fault
  read_to_a_fault rows left row fault number end items last (none, first) on =
      let on = rw (none, first) at on in
      first_left_out rows rows left row fault [] 1 end [] last (walked_start rows) on

  -- ---- below a header

  pub headed_fault : (rows below : List (List (List ℕ))) (fault : F) → rows ≡ rules.header ∷ below → IsFaultIn rules below fault → IsFaultOf rules rows fault
  headed_fault rows below fault headed (inl memory) = inl memory
  headed_fault rows below fault headed (inr first) = inr (inr (below, headed, first))

  -- where no row is left out, the rows are the table
  pub read_without_faults : (rows : List (List (List ℕ))) (items : List X) → IsReadWithout rules rows [] items → IsTable rules rows items
  read_without_faults rows items is = elim is.headed [
    | inl (rest, headed, none) ↦
        let on = rw (headed, ← none) at is.read in
        record { below = rest; headed = headed; are = walked_items rest is.end items (walked_on rest rest [] 1 is.end [] items (walked_start rest) on) }
    | inr (headless, first) ↦ cc first
  ]

  -- the rows are refused for the first row that is left out
  pub read_up_to_a_fault : (rows : List (List (List ℕ))) (row : List (List ℕ)) (fault : F) (more : List (List (List ℕ) × F)) (items : List X)
      → IsReadWithout rules rows ((row, fault) ∷ more) items → IsFaultOf rules rows fault
  read_up_to_a_fault rows row fault more items is = elim is.headed [
    | inl (rest, headed, same) ↦
        let on = rw (headed, ← same) at is.read in
        headed_fault rows rest fault headed (first_left_out rest rest [] row fault more 1 is.end [] items (walked_start rest) on)
    | inr (headless, first) ↦
        let head : (row, fault) ≡ ([], rules.headless) = cc first in
        let same : fault ≡ rules.headless = ap (λ (p : List (List ℕ) × F). p.1) head in
        inr (inl (same, headless))
  ]

  -- ---- one table, and no fault

  -- the rows of a table are one list of items
  pub one_table : (rows : List (List (List ℕ))) (items other : List X) → IsTable rules rows items → IsTable rules rows other → items ≡ other
  one_table rows items other is too =
      let same : is.below ≡ too.below = cc in
      rw (is.are.same, too.are.same, same) refl

  -- rows that are a table are refused for nothing but lack of memory, if no row that is an item is refused
  module _ (apart : (earlier : List X) (number : ℕ) (row : List (List ℕ)) (fault : F) → rules.IsRow earlier row → ¬ rules.Refuses earlier number row fault) where
    no_first_fault : (below : List (List (List ℕ))) (items : List X) (fault : F) → AreItems rules below items → ¬ IsFirstFault (AreSound rules) (IsRefused rules) below fault
    no_first_fault below items fault are first =
        let few : length first.before < rules.most = omega (arith, are.few, ap length first.split, length-append first.before (first.row ∷ first.after)) in
        let good = sound_at (λ before. rules.IsRow (map rules.item_of before)) below first.before first.row first.after first.split are.sound in
        elim first.refused [
          | inl (many, _) ↦ omega (arith, few, many)
          | inr (_, refused) ↦ apart (map rules.item_of first.before) (length first.before + 1) first.row fault good refused
        ]

    pub no_fault : (rows : List (List (List ℕ))) (items : List X) (fault : F) → IsTable rules rows items → IsFaultOf rules rows fault → fault ≡ rules.memory
    no_fault rows items fault is (inl memory) = memory
    no_fault rows items fault is (inr (inl (_, none))) = absurd (none is.below is.headed)
    no_fault rows items fault is (inr (inr (below, headed, first))) =
        let same : is.below ≡ below = cc in
        absurd (no_first_fault below items fault (rw same at is.are) first)
