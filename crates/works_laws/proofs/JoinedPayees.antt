-- Whom registrations that are joined are paid to.
use Rattle.std.proofs.Common.{◌≡◌, ◌∙◌, ◌∷◌, [], ℕ, Bool, List, ap, map, nat_eq, refl, sym}
use Rattle.std.specs.Prelude.{◌||◌, fold}
use Rattle.std.specs.Cmp.Lexicographic.{pointwise}
use Rattle.std.specs.List.{list_any}
use Rattle.std.proofs.Math.Bool.{or_assoc, or-false}
use Rattle.std.proofs.lemmas.List.Folds.{list_any-append}
use Rattle.cwr_share.specs.Joined.{followed_by, interests_in, joined, of_submitter, qualified}
use Rattle.cwr_share.specs.Registrations.{ShareLine}
use Rattle.works_laws.proofs.ListLemmas.{any_of_mapped}
use Rattle.works_laws.proofs.SameRegistries.{is_paid_in}

module _ (pay : List ℕ → List ℕ) (payee : List ℕ) where
  -- a payee is paid for a party of a registration
  abbrev pub is_paid_by : List ℕ × List ShareLine → Bool
  is_paid_by registration = is_paid_in (λ party. pay (qualified registration.0 party)) registration.1 payee

  paid_behind : (lines : List ShareLine) (registration : List ℕ × List ShareLine) → is_paid_in pay (followed_by lines registration) payee ≡ (is_paid_in pay lines payee || is_paid_by registration)
  paid_behind lines (submitter, more) =
      let is_paid : ShareLine → Bool = λ line. pointwise nat_eq (pay line.party) payee in
      let changed = of_submitter submitter (interests_in lines) in
      list_any-append is_paid lines (map changed more)
      ∙ ap (λ (b : Bool). is_paid_in pay lines payee || b)
      (any_of_mapped changed is_paid (λ line. pointwise nat_eq (pay (qualified submitter line.party)) payee) more (λ k d within. refl))

  all_paid_behind : (registrations : List (List ℕ × List ShareLine)) (lines : List ShareLine)
      → is_paid_in pay (fold followed_by lines registrations) payee ≡ (is_paid_in pay lines payee || list_any is_paid_by registrations)
  all_paid_behind [] lines = sym (or-false (is_paid_in pay lines payee))
  all_paid_behind (registration ∷ registrations) lines =
      all_paid_behind registrations (followed_by lines registration)
      ∙ ap (λ (b : Bool). b || list_any is_paid_by registrations) (paid_behind lines registration)
      ∙ or_assoc (is_paid_in pay lines payee) (is_paid_by registration) (list_any is_paid_by registrations)

  -- and for one of registrations together
  pub paid_joined : (registrations : List (List ℕ × List ShareLine)) → is_paid_in pay (joined registrations) payee ≡ list_any is_paid_by registrations
  paid_joined registrations = all_paid_behind registrations []
