use Rattle.std.proofs.Common.{◌≡◌, ◌∙◌, ◌∷◌, ◌++◌, [], ℕ, Vec, Global, map, take, ap, refl, sym, arith, length, List, ◌<◌, ◌≤◌}
use Rattle.std.proofs.lemmas.List.{length-map, take_all, take_more}
use Rattle.std.proofs.lemmas.List.Elements.{All-nil, All-push}
use Rattle.std.proofs.lemmas.Result.{err_from_is_err_and}
use Rattle.cwr_share.specs.Compiled.{IsKept, Numbered, accounts_of, kept_lines, line_by, names_of, registered_as, whole}
use Rattle.cwr_share.specs.Parties.{AreAccountsOf}
use Rattle.cwr_share.specs.Registered.{IsRegistered}
use Rattle.cwr_share.specs.Registrations.{ShareLine, find_work}
use Rattle.cwr_share.specs.declared.TheConstants.{MOST_SHARE_LINES}
use Rattle.cwr_share.proofs.PartyWorks.{as_party, have_accounts, kept_for_claims, known_in, list_at, lists_next, many_works, once_in, paid_rows, registered, registered_works}
use Rattle.cwr_share.proofs.in_force.InForce.registry.Goals as goal
use Rattle.cwr_share.proofs.in_force.InForce.registry.Goals.{After-loop-shares}

pub returns-in_err-parties-clause-fault : goal.returns-in_err-parties-clause-fault
returns-in_err-parties-clause-fault c =
    let exit = err_from_is_err_and c.from_residual-in_err-parties.result c.from_residual-in_err-parties.ensures.1 in
    rw (exit.1, exit.2, sym c.self.view_is)
    (many_works c.args.payees.now (c.self.inside).works.keys (c.self.inside).lists.items c.in_err-parties.field-0.0 (c.self.invariant).paired c.len.ensures.unique (rw c.as_slice.ensures.value at c.in_err-parties.ensures.fault))

pub loop-shares-init : goal.loop-shares-init
loop-shares-init c = rw c.in_ok-registrations.ensures (record { lists = refl; kept = All-nil _ })

-- the parties of the lists have accounts
module _ (c : goal.After-compile-arg-1) where
  abbrev entries : List Numbered
  entries = c.in_ok-parties.parties.accounts.entries

  abbrev payees : List (List ℕ)
  payees = map (λ (payee : Vec ℕ Global). payee.items) c.in_ok-parties.parties.payees.items

  are_accounts : AreAccountsOf c.args.payees.now (map (λ lines. lines.items) (c.self.inside).lists.items) (map as_party entries) payees
  are_accounts = rw c.as_slice.ensures.value at c.in_ok-parties.ensures.parties

pub parties_of-requires : goal.parties_of-requires
parties_of-requires c = record { filled = rw c.as_slice.ensures.value (λ k d within. (c.self.invariant.each k d within).sound) }

pub compile-requires-clause-few : goal.compile-requires-clause-few
compile-requires-clause-few c =
    let within = rw c.deref-shares-items.ensures.value at c.loop-shares-test.true in
    let is = rw c.deref-shares-items.ensures.value at c.shares-item.is in
    rw c.as_slice-in-loop-shares.ensures.value
    (list_at (c.self.inside).works.keys (c.self.inside).lists.items (c.self.invariant).paired c.len.ensures.unique (λ lines. length lines ≤ MOST_SHARE_LINES)
    (λ work shares found. c.requires.lines work shares (ap (find_work work) (sym c.self.view_is) ∙ found)) c.loop-shares.shares-index c.shares-item.result within (sym is))

pub compile-requires-clause-once : goal.compile-requires-clause-once
compile-requires-clause-once c = once_in c.args.payees.now (map (λ lines. lines.items) (c.self.inside).lists.items) (entries c) (payees c) (are_accounts c)

pub compile-requires-clause-known : goal.compile-requires-clause-known
compile-requires-clause-known c =
    let within = rw c.deref-shares-items.ensures.value at c.loop-shares-test.true in
    let is = rw c.deref-shares-items.ensures.value at c.shares-item.is in
    rw c.as_slice-in-loop-shares.ensures.value
    (known_in c.args.payees.now (c.self.inside).lists.items (entries c) (payees c) c.shares-item.result (c.loop-shares.shares-index, within, sym is) (are_accounts c))

pub followed_by-requires : goal.followed_by-requires
followed_by-requires c =
    let parties = names_of c.in_ok-parties.parties.accounts.entries in
    let registration = whole c.compile.new.self in
    let same : kept_lines parties registration ≡ c.shares-item.result.items = rw c.as_slice-in-loop-shares.ensures.value at c.in_ok-compile.ensures.shares in
    let inside : c.loop-shares.shares-index < length (c.self.inside).lists.items = rw c.deref-shares-items.ensures.value at c.loop-shares-test.true in
    let is = rw c.deref-shares-items.ensures.value at c.shares-item.is in
    let few = list_at (c.self.inside).works.keys (c.self.inside).lists.items (c.self.invariant).paired c.len.ensures.unique (λ lines. length lines ≤ MOST_SHARE_LINES)
    (λ work shares found. c.requires.lines work shares (ap (find_work work) (sym c.self.view_is) ∙ found)) c.loop-shares.shares-index c.shares-item.result inside (sym is) in
    omega (arith, c.in_ok-compile.ensures.paired, ap (λ (lines : List ShareLine). length lines) same, length-map registration.shares (line_by parties), few)

pub loop-shares-preserved : goal.loop-shares-preserved
loop-shares-preserved c =
    let lists = c.deref-shares-items.result.now in
    let entries = c.in_ok-parties.parties.accounts.entries in
    let n = c.loop-shares.shares-index in
    let shares = c.shares-item.result in
    let same : kept_lines (names_of entries) (whole c.compile.new.self) ≡ shares.items = rw c.as_slice-in-loop-shares.ensures.value at c.in_ok-compile.ensures.shares in
    rw c.in_ok-registrations-2.ensures (record {
      lists = lists_next (names_of entries) c.loop-shares.registrations (whole c.compile.new.self) (take n lists) shares same c.loop-shares.invariant.lists
          ∙ ap (map (λ (lines : Vec ShareLine Global). lines.items)) (sym (take_more lists n shares c.loop-shares-test.true ∙ ap (λ (next : Vec ShareLine Global). take n lists ++ next ∷ []) (sym c.shares-item.is)));
      kept = All-push (IsKept (names_of entries) (accounts_of entries)) c.loop-shares.registrations (whole c.compile.new.self) c.loop-shares.invariant.kept c.in_ok-compile.ensures.kept;
    })

-- every list has its registration
module _ (c : goal.After-loop-shares) where
  all : map (kept_lines (names_of c.in_ok-parties.parties.accounts.entries)) c.loop-shares.registrations ≡ map (λ (lines : Vec ShareLine Global). lines.items) (c.self.inside).lists.items
  all =
      let lists = c.deref-shares-items.result.now in
      c.loop-shares.invariant.lists ∙ ap (map (λ (lines : Vec ShareLine Global). lines.items)) (take_all c.loop-shares.shares-index lists c.loop-shares-test.false ∙ c.deref-shares-items.ensures.value)

  their_accounts : AreAccountsOf c.args.payees.now (map (λ lines. lines.items) (c.self.inside).lists.items) (map as_party c.in_ok-parties.parties.accounts.entries)
      (map (λ (payee : Vec ℕ Global). payee.items) c.in_ok-parties.parties.payees.items)
  their_accounts = rw c.as_slice.ensures.value at c.in_ok-parties.ensures.parties

-- what is made of them is a registry's
sound : (c : goal.After-loop-shares)
    → IsRegistered (registered_as (c.self.inside).works.keys c.loop-shares.registrations c.in_ok-parties.parties.accounts.entries c.in_ok-parties.parties.payees.items)
sound c =
    registered (c.self.inside).works.keys (c.self.inside).lists.items (c.self.invariant).paired c.len.ensures.unique c.args.payees.now c.loop-shares.registrations c.in_ok-parties.parties.accounts.entries c.in_ok-parties.parties.payees.items
    (their_accounts c) (c.self.invariant).each (all c)
    (λ work shares found. c.requires.lines work shares (ap (find_work work) (sym c.self.view_is) ∙ found))
    (λ work shares found. c.requires.payees work shares (ap (find_work work) (sym c.self.view_is) ∙ found))

pub of-requires-clause-sound : goal.of-requires-clause-sound
of-requires-clause-sound c = sound c

pub of-requires-clause-kept : goal.of-requires-clause-kept
of-requires-clause-kept c =
    let entries = c.in_ok-parties.parties.accounts.entries in
    let payees = c.in_ok-parties.parties.payees.items in
    kept_for_claims (c.self.inside).works.keys (c.self.inside).lists.items c.loop-shares.registrations entries payees (c.self.invariant).paired (c.self.invariant).short c.in_ok-parties.ensures.short (c.self.invariant).each (all c)
    (have_accounts (c.self.inside).works.keys (c.self.inside).lists.items (c.self.invariant).paired c.len.ensures.unique c.args.payees.now c.loop-shares.registrations entries payees (their_accounts c))
    c.loop-shares.invariant.kept

pub returns-clause-registry : goal.returns-clause-registry
returns-clause-registry c =
    let parties = c.in_ok-parties.parties in
    let works = registered_works (c.self.inside).works.keys (c.self.inside).lists.items c.loop-shares.registrations parties.accounts.entries parties.payees.items
    (all (goal.at.returns-clause-registry c).After-loop-shares) in
    rw c.of.ensures (record {
      in_force = λ work. ap (find_work work) (works ∙ c.self.view_is);
      paid = paid_rows (c.self.inside).works.keys (c.self.inside).lists.items (c.self.invariant).paired c.len.ensures.unique c.args.payees.now c.loop-shares.registrations parties.accounts.entries parties.payees.items
          (their_accounts (goal.at.returns-clause-registry c).After-loop-shares);
    })

pub returns-clause-sound : goal.returns-clause-sound
returns-clause-sound c = rw c.of.ensures (sound (goal.at.returns-clause-sound c).After-loop-shares)
