-- What share lines come to in a land, line by line.
use Rattle.std.proofs.Common.{◌≡◌, ◌+◌, ◌<◌, ◌≤◌, ◌∷◌, ◌∙◌, ℕ, suc, Bool, false, true, List, ap, arith, cond, drop, get_or, length, refl, sum_by, sym, zero-add}
use Rattle.std.proofs.Math.Seq.{drop-cons}
use Rattle.std.proofs.lemmas.List.{drop_all}
use Rattle.std.proofs.lemmas.List.Sums.{sum_by-cons}
use Rattle.line_split.specs.declared.usage.Right.{Right}
use Rattle.cwr_share.proofs.ClaimLemmas.{no_line}
use Rattle.cwr_share.specs.ClaimsOn.{claimed_in, decides, deciding, share_for}
use Rattle.cwr_share.specs.Registrations.{ShareLine}

module _ (table : List (ℕ × List ℕ)) (land : ℕ) (right : Right) where
  -- what a line adds
  abbrev pub added : ShareLine → List ShareLine → ℕ
  added share later = cond (decides table land share later) (share_for right share) 0

  claimed_cons : (share : ShareLine) (later : List ShareLine) → claimed_in table land right (share ∷ later) ≡ added share later + claimed_in table land right later
  unfolding deciding
  claimed_cons share later = by (decides table land share later)
    where
      by : (b : Bool) → sum_by (share_for right) (cond b (share ∷ deciding table land later) (deciding table land later)) ≡ cond b (share_for right share) 0 + claimed_in table land right later
      by false = sym (zero-add (claimed_in table land right later))
      by true = sum_by-cons (share_for right) share (deciding table land later)

  -- what the lines from a place on come to
  pub claimed_from : (shares : List ShareLine) (place : ℕ) → place < length shares
      → claimed_in table land right (drop place shares) ≡ added (get_or shares place no_line) (drop (place + 1) shares) + claimed_in table land right (drop (place + 1) shares)
  claimed_from shares place within =
      let next : suc place ≡ place + 1 = omega arith in
      ap (λ (l : List ShareLine). claimed_in table land right l) (drop-cons shares place no_line within)
      ∙ (claimed_cons (get_or shares place no_line) (drop (suc place) shares)
      ∙ ap (λ (n : ℕ). added (get_or shares place no_line) (drop n shares) + claimed_in table land right (drop n shares)) next)

  -- no share lines are left at the end
  pub claimed_end : (shares : List ShareLine) (place : ℕ) → length shares ≤ place → claimed_in table land right (drop place shares) ≡ 0
  unfolding deciding
  claimed_end shares place past = ap (λ (l : List ShareLine). claimed_in table land right l) (drop_all place shares past)
