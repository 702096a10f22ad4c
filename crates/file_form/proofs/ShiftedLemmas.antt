-- The lines with a byte beyond ASCII before their fields, one line after another.
use Rattle.std.proofs.Common.{◌≡◌, ◌∙◌, ◌≤◌, ◌+◌, ◌++◌, ◌∷◌, [], ℕ, Bool, true, false, List, ap, append_assoc, arith, sym, subst, length}
use Rattle.std.proofs.lemmas.List.{append-nil, length-append, length_push}
use Rattle.cwr_share.specs.Lines.{lines_of}
use Rattle.cwr_share.specs.PassedOver.{IsTallyOf}
use Rattle.cwr_share.specs.declared.passed_over.Tally.{Tally}
use Rattle.cwr_share.proofs.LineLemmas.{lines_count}
use Rattle.cwr_share.proofs.PassedOverLemmas.{numbers_no, numbers_yes, tally_few}
use Rattle.file_form.specs.Shifted.{is_shifted, shifted_lines}

-- lines gone over
pub record IsTalliedTo (all left : List (List ℕ)) (number : ℕ) (tally : Tally) : Type 0 where
  pub before : List (List ℕ)
  pub split : all ≡ before ++ left
  pub count : number ≡ length before
  pub tally_of : IsTallyOf (shifted_lines before) tally

-- what is counted
abbrev counts : List (List ℕ) → List ℕ → Bool
counts _ line = is_shifted line

-- a line that is left has a number that fits
pub number_fits : (bytes : List ℕ) (line : List ℕ) (left : List (List ℕ)) (number : ℕ) (tally : Tally) → IsTalliedTo (lines_of bytes) (line ∷ left) number tally → number + 1 ≤ length bytes
number_fits bytes line left number tally is = omega (arith, is.count, ap length is.split, length-append is.before (line ∷ left), lines_count bytes)

pub tally_fits : (all left : List (List ℕ)) (number : ℕ) (tally : Tally) → IsTalliedTo all left number tally → tally.count ≤ number
tally_fits all left number tally is = omega (arith, tally_few counts is.before tally is.tally_of, is.count)

-- one line further
pub tallied_yes : (all left : List (List ℕ)) (line : List ℕ) (number : ℕ) (tally next : Tally) → is_shifted line ≡ true
    → ((numbers : List ℕ) → IsTallyOf numbers tally → IsTallyOf (numbers ++ (number + 1) ∷ []) next)
    → IsTalliedTo all (line ∷ left) number tally → IsTalliedTo all left (number + 1) next
tallied_yes all left line number tally next is more sofar = record {
  before = sofar.before ++ line ∷ [];
  split = sofar.split ∙ sym (append_assoc sofar.before (line ∷ []) left);
  count = omega (arith, sofar.count, length_push sofar.before line);
  tally_of = subst (λ (n : List ℕ). IsTallyOf n next)
      (ap (λ (n : ℕ). shifted_lines sofar.before ++ (n + 1) ∷ []) sofar.count ∙ sym (numbers_yes counts sofar.before line is))
      (more (shifted_lines sofar.before) sofar.tally_of);
}

pub tallied_no : (all left : List (List ℕ)) (line : List ℕ) (number : ℕ) (tally : Tally) → is_shifted line ≡ false
    → IsTalliedTo all (line ∷ left) number tally → IsTalliedTo all left (number + 1) tally
tallied_no all left line number tally isnt sofar = record {
  before = sofar.before ++ line ∷ [];
  split = sofar.split ∙ sym (append_assoc sofar.before (line ∷ []) left);
  count = omega (arith, sofar.count, length_push sofar.before line);
  tally_of = subst (λ (n : List ℕ). IsTallyOf n tally) (sym (numbers_no counts sofar.before line isnt)) sofar.tally_of;
}

pub tallied_all : (all left : List (List ℕ)) (number : ℕ) (tally : Tally) → IsTalliedTo all left number tally → left ≡ [] → IsTallyOf (shifted_lines all) tally
tallied_all all left number tally sofar none =
    subst (λ (lines : List (List ℕ)). IsTallyOf (shifted_lines lines) tally) (sym (sofar.split ∙ (ap (λ (l : List (List ℕ)). sofar.before ++ l) none ∙ append-nil sofar.before))) sofar.tally_of
