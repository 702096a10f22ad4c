-- Reading on, step by step.
use Rattle.std.proofs.Common.{◌≡◌, ◌+◌, ℕ, List, [], ◌∷◌, ◌++◌, refl}
use Rattle.csv_table.specs.ReadOn.{ReadsOn}
use Rattle.csv_table.specs.ReadOn.ReadsOn.{here, read, left_out, stopped}

-- where no row is left nothing more is read
pub nothing_left : {S R F : Type 0} (Reads : S → R → S → Type 0) (Refuses : S → ℕ → R → F → Type 0) (Stops : S → R → F → Type 0)
    (state last : S) (number end : ℕ) (out : List (R × F)) (left : List R)
    → ReadsOn Reads Refuses Stops state number [] out last end left → (out ≡ []) × (last ≡ state) × (end ≡ number) × (left ≡ [])
nothing_left Reads Refuses Stops state last number end out left (here _ _ _) = (refl, refl, refl, refl)

-- reading on, and on from there
pub and_on : {S R F : Type 0} (Reads : S → R → S → Type 0) (Refuses : S → ℕ → R → F → Type 0) (Stops : S → R → F → Type 0)
    (state middle last : S) (number at end : ℕ) (rows between left : List R) (out more : List (R × F))
    → ReadsOn Reads Refuses Stops state number rows out middle at between → ReadsOn Reads Refuses Stops middle at between more last end left
    → ReadsOn Reads Refuses Stops state number rows (out ++ more) last end left
and_on Reads Refuses Stops state middle last number at end rows between left out more (here _ _ _) later = later
and_on Reads Refuses Stops state middle last number at end rows between left out more (read _ next _ _ _ row rest _ _ step on) later =
    read state next last number end row rest left (out ++ more) step (and_on Reads Refuses Stops next middle last (number + 1) at end rest between left out more on later)
and_on Reads Refuses Stops state middle last number at end rows between left out more (left_out _ _ _ _ row fault rest _ others step on) later =
    left_out state last number end row fault rest left (others ++ more) step (and_on Reads Refuses Stops state middle last (number + 1) at end rest between left others more on later)
and_on Reads Refuses Stops state middle last number at end rows between left out more (stopped _ _ row fault rest step) later =
    let (none, same, count, nothing) = nothing_left Reads Refuses Stops state last number end more left later in
    rw (none, same, count, nothing) (stopped state number row fault rest step)

-- and one row more, that is read, or left out, or ends reading
pub and_read : {S R F : Type 0} (Reads : S → R → S → Type 0) (Refuses : S → ℕ → R → F → Type 0) (Stops : S → R → F → Type 0)
    (state middle next : S) (number at : ℕ) (rows between left : List R) (row : R)
    → ReadsOn Reads Refuses Stops state number rows [] middle at between → between ≡ row ∷ left → Reads middle row next
    → ReadsOn Reads Refuses Stops state number rows [] next (at + 1) left
and_read Reads Refuses Stops state middle next number at rows between left row on is step =
    and_on Reads Refuses Stops state middle next number at (at + 1) rows (row ∷ left) left [] [] (rw is at on)
    (read middle next next at (at + 1) row left left [] step (here next (at + 1) left))

pub and_left_out : {S R F : Type 0} (Reads : S → R → S → Type 0) (Refuses : S → ℕ → R → F → Type 0) (Stops : S → R → F → Type 0)
    (state middle : S) (number at : ℕ) (rows between left : List R) (row : R) (fault : F)
    → ReadsOn Reads Refuses Stops state number rows [] middle at between → between ≡ row ∷ left → Refuses middle at row fault
    → ReadsOn Reads Refuses Stops state number rows ((row, fault) ∷ []) middle (at + 1) left
and_left_out Reads Refuses Stops state middle number at rows between left row fault on is step =
    and_on Reads Refuses Stops state middle middle number at (at + 1) rows (row ∷ left) left [] ((row, fault) ∷ []) (rw is at on)
    (left_out middle middle at (at + 1) row fault left left [] step (here middle (at + 1) left))

pub and_stopped : {S R F : Type 0} (Reads : S → R → S → Type 0) (Refuses : S → ℕ → R → F → Type 0) (Stops : S → R → F → Type 0)
    (state middle : S) (number at : ℕ) (rows between left : List R) (row : R) (fault : F)
    → ReadsOn Reads Refuses Stops state number rows [] middle at between → between ≡ row ∷ left → Stops middle row fault
    → ReadsOn Reads Refuses Stops state number rows ((row, fault) ∷ []) middle at []
and_stopped Reads Refuses Stops state middle number at rows between left row fault on is step =
    and_on Reads Refuses Stops state middle middle number at at rows (row ∷ left) [] [] ((row, fault) ∷ []) (rw is at on)
    (stopped middle at row fault left step)
