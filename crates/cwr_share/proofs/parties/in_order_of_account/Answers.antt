use Rattle.std.proofs.Common.{◌≡◌, ◌∙◌, ◌<◌, ◌≤◌, [], ℕ, List, Vec, Global, AllPairs, Contains, ap, arith, inl, inr, length, map, rules, slice_index_or, subst, sym}
use Rattle.std.proofs.lemmas.Fn.{always_returns_same}
use Rattle.std.proofs.lemmas.Bool.{cases_lt}
use Rattle.std.proofs.lemmas.List.{get_or-map, length-map}
use Rattle.std.proofs.lemmas.List.Elements.{All-map, All-nil}
use Rattle.std.proofs.lemmas.List.Sorted.{All-permutation, IsNonDecreasingBy-from_sort}
use Rattle.arrayvec.specs.ArrayVec.{ArrayVec}
use Rattle.cwr_share.specs.Compiled.{Numbered}
use Rattle.cwr_share.specs.Parties.{IsAccountOf}
use Rattle.cwr_share.specs.Payees.{payee_of}
use Rattle.cwr_share.specs.declared.numbers.TheConstants.{MOST_PARTY_NAME_BYTES}
use Rattle.cwr_share.proofs.ClaimLemmas.{map_twice}
use Rattle.cwr_share.proofs.PartyLemmas.{each_with, names_all, names_next, none_added}
use Rattle.cwr_share.proofs.PartyWorks.{once_texts}
use Rattle.cwr_share.proofs.parties.in_order_of_account.Goals as goal
use Rattle.cwr_share.proofs.parties.in_order_of_account.Goals.{in-Some+in_ok-insert, in_default}

pub loop-party-init : goal.loop-party-init
loop-party-init c = rw c.new-accounts.ensures.empty (record { names = none_added []; paid = All-nil _; short = All-nil _ })

-- the residue's account is not one of a payee with a name
not_residue : (payees : List (List ℕ)) (account : ℕ) (payee : List ℕ) → slice_index_or payees 0 [] ≡ [] → slice_index_or payees account [] ≡ payee → 0 < length payee → 0 < account
not_residue payees account payee residue at some = elim (cases_lt 0 account) [
  | inl more ↦ more
  | inr none ↦
      let zero : account ≡ 0 = omega (arith, none) in
      let empty : payee ≡ [] = sym at ∙ (ap (λ (n : ℕ). slice_index_or payees n []) zero ∙ residue) in
      absurd (omega (arith, some, ap (λ (text : List ℕ). length text) empty))
]

pub loop-party-preserved : goal.loop-party-preserved
loop-party-preserved c =
    let rows = c.args.payees.now in
    let seen = c.args.seen.now in
    let n = c.loop-party.party-index in
    let number = c.party-item.result in
    let payees = map (λ (payee : Vec ℕ Global). payee.items) c.args.by_account.now in
    let text : c.as_slice-number.result.now ≡ number.items = c.as_slice-number.ensures.value in
    let payee : c.payee_of.result.now ≡ payee_of rows number.items = c.payee_of.ensures.payee ∙ ap (payee_of rows) text in
    elim c.match-account_of.branch [
      | in-Some+in_ok-insert w ↦
          let same : w.in_place.result.items ≡ number.items = w.in_place.ensures ∙ text in
          let filled : 0 < length number.items = subst (λ (number : ArrayVec ℕ). 0 < length number.items) (sym c.party-item.is)
          (subst (λ (text : List ℕ). 0 < length text) (get_or-map (λ (number : ArrayVec ℕ). number.items) seen n number [] c.loop-party-test.true)
          (c.requires.filled n [] (omega (arith, c.loop-party-test.true, length-map seen (λ (number : ArrayVec ℕ). number.items))))) in
          let some = c.payee_of.ensures.named (omega (arith, filled, ap (λ (text : List ℕ). length text) text)) in
          let (within, at) = w.in-Some.ensures.some in
          let its : IsAccountOf payees (payee_of rows w.in_place.result.items) w.in-Some.account = (
            not_residue payees w.in-Some.account c.payee_of.result.now c.requires.residue at some,
            omega (arith, within, length-map c.args.by_account.now (λ (payee : Vec ℕ Global). payee.items)),
            at ∙ (payee ∙ ap (payee_of rows) (sym same)),
          ) in
          rw (w.accounts-is, w.in_ok-insert.ensures.entries) (record {
            names = names_next w.in_place.result w.in-Some.account seen n number c.loop-party.accounts.entries c.loop-party-test.true c.party-item.is same c.loop-party.invariant.names;
            paid = each_with w.in_place.result w.in-Some.account (λ text account. IsAccountOf payees (payee_of rows text) account) c.loop-party.accounts.entries c.loop-party.invariant.paid its;
            short = each_with w.in_place.result w.in-Some.account (λ text account. length text ≤ MOST_PARTY_NAME_BYTES) c.loop-party.accounts.entries c.loop-party.invariant.short
                (omega (arith, c.as_slice-number.ensures.fits, ap (λ (text : List ℕ). length text) w.in_place.ensures));
          })
      | in_default w ↦
          let there : Contains payees (payee_of rows number.items) = subst (λ (number : ArrayVec ℕ). Contains payees (payee_of rows number.items)) (sym c.party-item.is) (c.requires.known n number c.loop-party-test.true) in
          absurd (w.in_default.ensures.none (subst (Contains payees) (sym payee) there))
    ]

pub returns-clause-same : goal.returns-clause-same
returns-clause-same c =
    names_all c.args.seen.now c.loop-party.party-index c.loop-party.accounts.entries c.sort_unstable_by_key.new.self.entries c.loop-party-test.false c.loop-party.invariant.names c.sort_unstable_by_key.ensures.reordered.0

pub returns-clause-once : goal.returns-clause-once
returns-clause-once c =
    let entries = c.sort_unstable_by_key.new.self.entries in
    subst (AllPairs (λ name later. ¬ (name ≡ later))) (map_twice (λ (entry : Numbered). entry.0) (λ (number : ArrayVec ℕ). number.items) entries)
    (once_texts (λ (number : ArrayVec ℕ). number.items) (map (λ (entry : Numbered). entry.0) entries) c.sort_unstable_by_key.ensures.unique)

pub returns-clause-paid : goal.returns-clause-paid
returns-clause-paid c =
    let payees = map (λ (payee : Vec ℕ Global). payee.items) c.args.by_account.now in
    All-permutation (λ (party : Numbered). IsAccountOf payees (payee_of c.args.payees.now party.0.items) party.1) c.loop-party.accounts.entries c.sort_unstable_by_key.new.self.entries c.sort_unstable_by_key.ensures.reordered.0 c.loop-party.invariant.paid

pub returns-clause-ordered : goal.returns-clause-ordered
returns-clause-ordered c =
    IsNonDecreasingBy-from_sort (λ (party : Numbered). party.1) c.sort_unstable_by_key.new.self.entries (c.in_ok-sort_unstable_by_key.ensures.sorted (λ party. party.1) (always_returns_same _ _ _ (λ a r f k. search rules)))

pub returns-clause-short : goal.returns-clause-short
returns-clause-short c =
    let sorted = All-permutation (λ (party : Numbered). length party.0.items ≤ MOST_PARTY_NAME_BYTES) c.loop-party.accounts.entries c.sort_unstable_by_key.new.self.entries c.sort_unstable_by_key.ensures.reordered.0 c.loop-party.invariant.short in
    All-map (λ (name : List ℕ). length name ≤ MOST_PARTY_NAME_BYTES) (λ (party : Numbered). party.0.items) c.sort_unstable_by_key.new.self.entries sorted
