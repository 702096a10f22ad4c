-- The rows of a submitter's file are of different works.
use Rattle.std.proofs.Common.{◌≡◌, ◌<◌, ◌∙◌, ◌∷◌, ◌&&◌, ◌==◌, [], ℕ, All, AllPairs, Bool, List, true, false, not, cond, ap, arith, get_or, length, nat_eq, refl, subst, sym, take}
use Rattle.std.specs.Char.{is_ascii_digit}
use Rattle.std.specs.Cmp.Lexicographic.{pointwise}
use Rattle.std.specs.List.{enumerate_from, list_all, list_any}
use Rattle.std.proofs.lemmas.Bool.{eqb-true, false≢true, true≢false}
use Rattle.std.proofs.lemmas.List.{get_or-map, get_or-take, length-map, length-take-le}
use Rattle.std.proofs.lemmas.List.Elements.{All-cons, All-nil}
use Rattle.std.proofs.lemmas.List.Folds.{list_any_at}
use Rattle.std.proofs.lemmas.List.FromFn.{length-enumerate_from}
use Rattle.std.proofs.lemmas.List.Sums.{AllPass-from_list_all}
use Rattle.std.proofs.lemmas.Slice.Eq.{bytes_eq-Decides}
use Rattle.cwr_share.specs.Joined.{qualified}
use Rattle.line_split.proofs.Enumerated.{enumerated}
use Rattle.starting_tables.specs.InForce.{Registration, number_of, registrations_in_force}
use Rattle.starting_tables.specs.Numbers.{is_iswc, is_number}
use Rattle.starting_tables.specs.Works.{has_iswc, iswc_of, rows_of_registrations, works_row, works_rows}
use Rattle.starting_tables.proofs.LawLemmas.{once}
use Rattle.starting_tables.proofs.WorksLemmas.{row_at}

and_left : (b c : Bool) → (b && c) ≡ true → b ≡ true
and_left true c both = refl
and_left false c both = absurd (false≢true both)

and_right : (b c : Bool) → (b && c) ≡ true → c ≡ true
and_right true c both = both
and_right false c both = absurd (false≢true both)

-- A name with a colon is no ISWC

abbrev NoColon : List ℕ → Type 0
NoColon text = All (λ byte. ¬ (byte ≡ 58)) text

digit_no_colon : (byte : ℕ) → is_ascii_digit byte ≡ true → ¬ (byte ≡ 58)
digit_no_colon byte digit is = false≢true (ap is_ascii_digit (sym is) ∙ digit)

digits_no_colon : (digits : ℕ) (text : List ℕ) → is_number digits text ≡ true → NoColon text
digits_no_colon digits text number = λ k d within.
    digit_no_colon (get_or text k d)
    (AllPass-from_list_all is_ascii_digit text
    (and_right (length text == digits) (list_all is_ascii_digit text)
    (and_left ((length text == digits) && list_all is_ascii_digit text) (list_any (λ byte. not (byte == 48)) text) number)) k d within)

iswc_no_colon : (text : List ℕ) → is_iswc text ≡ true → NoColon text
iswc_no_colon [] iswc = All-nil (λ byte. ¬ (byte ≡ 58))
iswc_no_colon (byte ∷ text) iswc =
    let letter = eqb-true byte 84 (and_left (byte == 84) (is_number 10 text) iswc) in
    All-cons (λ byte. ¬ (byte ≡ 58)) byte text (λ is. absurd (omega (arith, letter, is))) (digits_no_colon 10 text (and_right (byte == 84) (is_number 10 text) iswc))

colon_at : (submitter text : List ℕ) → get_or (qualified submitter text) (length submitter) 0 ≡ 58
colon_at [] text = refl
colon_at (byte ∷ submitter) text = colon_at submitter text

colon_within : (submitter text : List ℕ) → length submitter < length (qualified submitter text)
colon_within [] text = omega arith
colon_within (byte ∷ submitter) text = let later = colon_within submitter text in omega (arith, later)

iswc_not_own : (iswc submitter text : List ℕ) → is_iswc iswc ≡ true → ¬ (iswc ≡ qualified submitter text)
iswc_not_own iswc submitter text is same =
    subst NoColon same (iswc_no_colon iswc is) (length submitter) 0 (colon_within submitter text) (colon_at submitter text)

-- and names of different numbers differ
own_differ : (submitter text other : List ℕ) → qualified submitter text ≡ qualified submitter other → text ≡ other
own_differ [] text other same = cc
own_differ (byte ∷ submitter) text other same =
    let rest : qualified submitter text ≡ qualified submitter other = cc in
    own_differ submitter text other rest

-- Rows

-- two works by what each of them is
works_differ : (submitter iswc other number text : List ℕ) (b c : Bool) → (b ≡ true → is_iswc iswc ≡ true) → (c ≡ true → is_iswc other ≡ true) → (c ≡ true → ¬ (iswc ≡ other))
    → ¬ (number ≡ text) → ¬ (cond b iswc (qualified submitter number) ≡ cond c other (qualified submitter text))
works_differ submitter iswc other number text true true first second apart differ same = apart refl same
works_differ submitter iswc other number text true false first second apart differ same = iswc_not_own iswc submitter text (first refl) same
works_differ submitter iswc other number text false true first second apart differ same = iswc_not_own other submitter number (second refl) (sym same)
works_differ submitter iswc other number text false false first second apart differ same = differ (own_differ submitter number text same)

abbrev no_registration : Registration
no_registration = record { opening = []; body = [] }

first_only : (b : Bool) → not b ≡ true → b ≡ false
first_only true e = absurd (false≢true e)
first_only false e = refl

module _ (submitter : List ℕ) (registrations : List Registration) where
  abbrev at : ℕ → Registration
  at i = get_or registrations i no_registration

  abbrev is_first : ℕ → Bool
  is_first i = not (has_iswc (take i registrations) (iswc_of (at i)))

  row_is : (i : ℕ) (d : List (List ℕ)) → i < length registrations → get_or (rows_of_registrations submitter registrations) i d ≡ works_row submitter (take i registrations) (at i)
  row_is i d within =
      get_or-map (row_at submitter registrations) (enumerate_from 0 registrations) i (0, no_registration) d (omega (arith, within, length-enumerate_from 0 registrations))
      ∙ ap (row_at submitter registrations) (enumerated registrations i (0, no_registration) within)

  -- an ISWC that a row has is that of no earlier registration
  apart : (i j : ℕ) → i < j → j < length registrations → is_first j ≡ true → ¬ (iswc_of (at i) ≡ iswc_of (at j))
  apart i j before within first same =
      let long : length (take j registrations) ≡ j = length-take-le j registrations (omega (arith, within)) in
      let found : has_iswc (take j registrations) (iswc_of (at j)) ≡ true =
      list_any_at (λ (r : Registration). pointwise nat_eq (iswc_of r) (iswc_of (at j))) (take j registrations) i no_registration (omega (arith, before, long))
      (ap (λ (r : Registration). pointwise nat_eq (iswc_of r) (iswc_of (at j))) (get_or-take j registrations i no_registration before)
      ∙ (bytes_eq-Decides (iswc_of (at i)) (iswc_of (at j))).1 same) in
      true≢false (sym found ∙ first_only (has_iswc (take j registrations) (iswc_of (at j))) first)

  rows_differ : AllPairs (λ registration later. ¬ (number_of registration ≡ number_of later)) registrations
      → AllPairs (λ row later. ¬ (get_or row 0 [] ≡ get_or later 0 [])) (rows_of_registrations submitter registrations)
  rows_differ once = λ i j d before within same.
      let count : length (rows_of_registrations submitter registrations) ≡ length registrations =
      length-map (enumerate_from 0 registrations) (row_at submitter registrations) ∙ length-enumerate_from 0 registrations in
      let later : j < length registrations = omega (arith, within, count) in
      works_differ submitter (iswc_of (at i)) (iswc_of (at j)) (number_of (at i)) (number_of (at j)) (is_first i && is_iswc (iswc_of (at i))) (is_first j && is_iswc (iswc_of (at j)))
      (and_right (is_first i) (is_iswc (iswc_of (at i)))) (and_right (is_first j) (is_iswc (iswc_of (at j))))
      (λ both. apart i j before later (and_left (is_first j) (is_iswc (iswc_of (at j))) both))
      (once i j no_registration before later)
      (ap (λ (row : List (List ℕ)). get_or row 0 []) (sym (row_is i d (omega (arith, before, later)))) ∙ (same ∙ ap (λ (row : List (List ℕ)). get_or row 0 []) (row_is j d later)))

pub works_apart : (submitter : List ℕ) (lines : List (List ℕ)) → AllPairs (λ row later. ¬ (get_or row 0 [] ≡ get_or later 0 [])) (works_rows submitter lines)
works_apart submitter lines = rows_differ submitter (registrations_in_force lines) (once lines)
