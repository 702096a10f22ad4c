-- What statements come to together.
use Rattle.std.specs.Prelude.{ℕ, ◌≡◌, ◌≤◌, ◌^◌, ◌∷◌, [], List, All, filter, flat_map, map, sum_by, unsigned_abs, IfSome}
use Rattle.std.specs.Prelude.{Option}
use Rattle.std.specs.Str.{bytes_eq}
use Rattle.line_split.specs.Signs.{int_sum_by}
use Rattle.merge_statements.specs.Statements.{AreStatements, Portion, Statements, text_of_statements, total_of_rests}
use Rattle.std.specs.Io.KnownBytes.{Appends}

-- a payee's portions; none where it has no statement
abbrev pub portions_of : List ℕ → Statements → List Portion
portions_of payee all = flat_map (λ statement. statement.portions)
    (filter (λ statement. bytes_eq statement.payee payee) all.payees)

-- The statements of several runs as one: each payee has its portions of the first, then those of the second, and so on,
-- and so has nobody.
pub record AreMerged (parts : List Statements) (whole : Statements) : Type 0 where
  pub sound : AreStatements whole
  pub portions : (payee : List ℕ) → portions_of payee whole ≡ flat_map (portions_of payee) parts
  pub rests : whole.rests ≡ flat_map (λ part. part.rests) parts
  pub lines : whole.lines ≡ sum_by (λ part. part.lines) parts
  pub amount : whole.amount ≡ int_sum_by (λ part. part.amount) parts

-- what the parts come to is within the limits of statements
pub record AreInLimits (parts : List Statements) : Type 0 where
  pub lines : sum_by (λ part. part.lines) parts ≤ 10 ^ 18
  pub amount : unsigned_abs (int_sum_by (λ part. part.amount) parts) ≤ 10 ^ 30
  pub totals : (payee : List ℕ) → unsigned_abs (int_sum_by (λ portion. portion.amount)
      (flat_map (portions_of payee) parts)) ≤ 10 ^ 30
  pub rest : unsigned_abs (total_of_rests (flat_map (λ part. part.rests) parts)) ≤ 10 ^ 30

-- the same of texts: each is that of some statements, and the merged text that of all
pub record IsMergeOf (texts : List (List ℕ)) (merged : List ℕ) : Type 0 where
  pub parts : List Statements
  pub sound : All AreStatements parts
  pub each : texts ≡ map text_of_statements parts
  pub whole : Statements
  pub together : AreMerged parts whole
  pub all : merged ≡ text_of_statements whole

-- each text is the merge of the group in its place
pub data AreMergesOf : List (List (List ℕ)) → List (List ℕ) → Type 0 where
  none : AreMergesOf [] []
  more : (texts : List (List ℕ)) (merged : List ℕ) (groups : List (List (List ℕ))) (others : List (List ℕ))
      → IsMergeOf texts merged → AreMergesOf groups others → AreMergesOf (texts ∷ groups) (merged ∷ others)

-- these are the texts, where their bytes are known
pub data AreTexts : List (Option (List ℕ)) → List (List ℕ) → Type 0 where
  none : AreTexts [] []
  more : (start : Option (List ℕ)) (text : List ℕ) (starts : List (Option (List ℕ))) (texts : List (List ℕ))
      → IfSome start (λ bytes. bytes ≡ text) → AreTexts starts texts → AreTexts (start ∷ starts) (text ∷ texts)

-- What these bytes merge to was written. Where bytes are not known, it is what some texts merge to.
pub record WritesMerge (starts : List (Option (List ℕ))) (before after : Option (List ℕ)) : Type 0 where
  pub texts : List (List ℕ)
  pub are : AreTexts starts texts
  pub merged : List ℕ
  pub merge : IsMergeOf texts merged
  pub written : Appends before after merged
