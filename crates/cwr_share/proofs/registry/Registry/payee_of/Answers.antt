use Rattle.std.proofs.Common.{◌≡◌, ◌∙◌, ◌<◌, ◌≤◌, IfNone, List, None, Option, ap, arith, false, is_some, length, map, slice_index_or, subst, sym, Contains, Global, Vec, [], ℕ}
use Rattle.std.proofs.lemmas.List.{get_or-map}
use Rattle.std.proofs.lemmas.List.Elements.{All-contains}
use Rattle.cwr_share.specs.Compiled.{Kept, Numbered, WorkName, names_of, registered_as}
use Rattle.cwr_share.specs.Payees.{HasRow, payee_of}
use Rattle.cwr_share.specs.Registered.{Registered}
use Rattle.cwr_share.specs.declared.numbers.TheConstants.{MOST_PARTY_NAME_BYTES}
use Rattle.cwr_share.proofs.PartyLemmas.{is_named, name_missing}
use Rattle.std.specs.Map.{lookup}
use Rattle.cwr_share.proofs.CompiledLemmas.{names_as}
use Rattle.cwr_share.proofs.PartyWorks.{payee_kept}
use Rattle.cwr_share.proofs.registry.Registry.payee_of.Goals as goal

-- an answer of nothing says what holds
nothing : {X : Type 0} (answer : Option X) (says : Type 0) → answer ≡ None → says → IfNone answer says
nothing answer says none holds = subst (λ a. IfNone a says) (sym none) holds

-- a registry has a row for no party but those that are kept
row_is_kept : (works : List WorkName) (registrations : List Kept) (parties : List Numbered) (payees : List (Vec ℕ Global)) (registered : Registered)
    → registered_as works registrations parties payees ≡ registered → (text : List ℕ) → HasRow registered.payees text → Contains (names_of parties) text
row_is_kept works registrations parties payees registered view text has =
    subst (λ (names : List (List ℕ)). Contains names text) (names_as works registrations parties payees) (subst (λ (r : Registered). HasRow r.payees text) (sym view) has)

pub returns-in_err-number-clause-none : goal.returns-in_err-number-clause-none
returns-in_err-number-clause-none c =
    let registry = c.self.inside in
    let text = c.args.party.now in
    nothing c.from_residual.result (¬ HasRow c.args.self.now.payees text) c.from_residual.ensures
    (λ has.
    let kept = row_is_kept registry.works.keys registry.registrations registry.parties.accounts.entries registry.parties.payees.items c.args.self.now c.self.view_is text has in
    let short : length text ≤ MOST_PARTY_NAME_BYTES = All-contains (λ (name : List ℕ). length name ≤ MOST_PARTY_NAME_BYTES) (names_of registry.parties.accounts.entries) text c.self.invariant.1.names kept in
    absurd (omega (arith, short, c.in_err-number.ensures.none)))

pub returns-in_err-account-clause-none : goal.returns-in_err-account-clause-none
returns-in_err-account-clause-none c =
    let registry = c.self.inside in
    let entries = registry.parties.accounts.entries in
    let number = c.in_ok-number.number.items in
    let found : is_some (lookup (is_named number) entries) ≡ false = sym (ap is_some c.in_err-account.ensures.value) in
    nothing c.from_residual-in_err-account.result (¬ HasRow c.args.self.now.payees c.args.party.now) c.from_residual-in_err-account.ensures
    (λ has.
    let kept = row_is_kept registry.works.keys registry.registrations entries registry.parties.payees.items c.args.self.now c.self.view_is c.args.party.now has in
    name_missing number entries found (subst (Contains (names_of entries)) (sym c.in_ok-number.ensures.some) kept))

pub returns-clause-some : goal.returns-clause-some
returns-clause-some c =
    let registry = c.self.inside in
    let payees = registry.parties.payees.items in
    let number = c.in_ok-number.number.items in
    let account = c.in_ok-account.account.now in
    let kept = payee_kept registry.works.keys registry.registrations registry.parties.accounts.entries payees c.self.invariant.0 c.self.invariant.1.accounts number account (sym c.in_ok-account.ensures.value) in
    let (has, inside, paid) = subst (λ (text : List ℕ). HasRow c.args.self.now.payees text × (account < length payees) × (slice_index_or (map (λ (payee : Vec ℕ Global). payee.items) payees) account [] ≡ payee_of c.args.self.now.payees text)) c.in_ok-number.ensures.some
    (subst (λ (r : Registered). HasRow r.payees number × (account < length payees) × (slice_index_or (map (λ (payee : Vec ℕ Global). payee.items) payees) account [] ≡ payee_of r.payees number)) c.self.view_is kept) in
    let at = get_or-map (λ (payee : Vec ℕ Global). payee.items) payees account c.index.result.now [] inside in
    (has, c.as_slice.ensures.value ∙ (ap (λ (payee : Vec ℕ Global). payee.items) c.index.ensures ∙ (sym at ∙ paid)))
