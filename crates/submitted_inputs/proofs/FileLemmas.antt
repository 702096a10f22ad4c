-- Files that were read: their bytes, and what is found in them.
use Rattle.std.proofs.Common.{◌≡◌, ◌∙◌, ◌<◌, ◌≤◌, ◌+◌, ◌∷◌, ◌++◌, [], ℕ, zero, suc, All, List, Some, ap, arith, get_or, inl, inr, length, nat_eq, refl, subst, sym, zip}
use Rattle.std.specs.Cmp.Lexicographic.{pointwise}
use Rattle.std.proofs.lemmas.Bool.{cases_Bool, cases_lt}
use Rattle.std.proofs.lemmas.List.{get_or_append_left, get_or_default, get_or_push, length_push}
use Rattle.cwr_share.specs.CwrFile.{AreSound}
use Rattle.cwr_share.specs.InForce.{HasInForce, IsOneRegistration}
use Rattle.cwr_share.specs.Lines.{lines_of}
use Rattle.cwr_share.specs.Registrations.{ShareLine, find_work}
use Rattle.cwr_share.specs.declared.in_force.InForce.{InForce}
use Rattle.linked_works.specs.Linked.{finds_among}
use Rattle.submitted_inputs.specs.Files.{AreFilesRead, IsFileRead}
use Rattle.submitted_inputs.specs.Submitted.{AreFiles, finds_by}

-- the bytes that files hold, where each was read
pub record Held (holds : ℕ → List ℕ → Type 0) (count : ℕ) (read : List InForce) : Type 0 where
  pub files : List (List ℕ)
  pub all : length files ≡ count
  pub each : (place : ℕ) (d : InForce) → place < count → holds place (get_or files place [])
      × AreSound (lines_of (get_or files place [])) × HasInForce (lines_of (get_or files place [])) (get_or read place d)

none : InForce
none = []

module _ (holds : ℕ → List ℕ → Type 0) (read : List InForce) where
  gathered : (count : ℕ) → count ≤ length read → ((place : ℕ) (d : InForce) → place < count → IsFileRead holds place (get_or read place d)) → Held holds count read
  gathered zero few each = record { files = []; all = refl; each = λ place d within. absurd (omega (arith, within)) }
  gathered (suc count) few each =
      let so_far = gathered count (omega (arith, few)) (λ place d low. each place d (omega (arith, low))) in
      let last = each count none (omega arith) in
      let files = so_far.files ++ last.bytes ∷ [] in
      record {
        files = files;
        all = omega (arith, length_push so_far.files last.bytes, so_far.all);
        each = λ place d within. elim (cases_lt place count) [
          | inl low ↦
              let at : get_or so_far.files place [] ≡ get_or files place [] = sym (get_or_append_left so_far.files (last.bytes ∷ []) [] place (omega (arith, low, so_far.all))) in
              subst (λ (bytes : List ℕ). holds place bytes × AreSound (lines_of bytes) × HasInForce (lines_of bytes) (get_or read place d)) at (so_far.each place d low)
          | inr high ↦
              let here : place ≡ count = omega (arith, high, within) in
              let at : last.bytes ≡ get_or files place [] = sym (get_or_push so_far.files last.bytes [] place (so_far.all ∙ sym here)) in
              let same : get_or read count none ≡ get_or read place d = get_or_default read count none d (omega (arith, few)) ∙ ap (λ n. get_or read n d) (sym here) in (
                subst (holds place) at (subst (λ n. holds n last.bytes) (sym here) last.held),
                subst (λ (bytes : List ℕ). AreSound (lines_of bytes)) at last.sound,
                subst (λ (bytes : List ℕ). HasInForce (lines_of bytes) (get_or read place d)) at (subst (HasInForce (lines_of last.bytes)) same last.registrations),
              )
        ];
      }

  pub held_by : (count : ℕ) → AreFilesRead holds count read → Held holds count read
  held_by count are = gathered count (omega (arith, are.all)) are.each

-- so these are the files
pub are_files : (holds : ℕ → List ℕ → Type 0) (count : ℕ) (read : List InForce) (held : Held holds count read) → AreFiles holds count held.files
are_files holds count read held = record {
  all = held.all;
  held = λ place within. (held.each place none within).0;
  sound = λ k d within.
      subst (λ (bytes : List ℕ). AreSound (lines_of bytes)) (get_or_default held.files k [] d within) (held.each k none (omega (arith, within, held.all))).1;
}

-- and a registration is no longer than one is
pub one_each : (holds : ℕ → List ℕ → Type 0) (count : ℕ) (read : List InForce) → AreFilesRead holds count read
    → All (λ works. (number : List ℕ) (shares : List ShareLine) → find_work number works ≡ Some shares → IsOneRegistration shares) read
one_each holds count read are k d within number shares is = (are.each k d (omega (arith, within, are.all))).registrations.each number shares is

-- what is found in works in force is found in the lines of their files
finds_same : (names : List (List ℕ)) (read : List InForce) (files : List (List ℕ)) → length read ≡ length names → length files ≡ length names
    → ((place : ℕ) (d : InForce) → place < length names → HasInForce (lines_of (get_or files place [])) (get_or read place d)) → (submitter number : List ℕ)
    → finds_among (zip names read) submitter number ≡ finds_by names files submitter number
finds_same [] read files whole all each submitter number = refl
finds_same (name ∷ names) [] files whole all each submitter number = absurd (omega arith)
finds_same (name ∷ names) (works ∷ read) [] whole all each submitter number = absurd (omega arith)
finds_same (name ∷ names) (works ∷ read) (file ∷ files) whole all each submitter number = elim (cases_Bool (pointwise nat_eq name submitter)) [
  | inl its ↦ rw its ((each 0 works (omega arith)).in_force number)
  | inr other ↦ rw other (finds_same names read files (omega (arith, whole)) (omega (arith, all)) (λ place d low. each (suc place) d (omega (arith, low))) submitter number)
]

pub same_finds : (holds : ℕ → List ℕ → Type 0) (names : List (List ℕ)) (read : List InForce) (held : Held holds (length names) read) → length read ≡ length names
    → finds_among (zip names read) ≡ finds_by names held.files
same_finds holds names read held whole = λ i submitter number. finds_same names read held.files whole held.all (λ place d low. (held.each place d low).2) submitter number i
