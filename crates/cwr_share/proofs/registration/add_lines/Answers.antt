use Rattle.std.proofs.Common.{◌≡◌, ◌∙◌, ◌++◌, [], List, None, Some, ap, append-nil, drop, get_or, map, slice_get, sym, ℕ}
use Rattle.std.proofs.lemmas.Option.{get_or_from_slice_get}
use Rattle.std.proofs.lemmas.List.{drop_all}
use Rattle.cwr_share.specs.Compiled.{Numbered, accounts_of, line_by}
use Rattle.cwr_share.specs.declared.claim_line.ClaimLine.{ClaimLine}
use Rattle.cwr_share.specs.declared.registration.Placed.{Placed}
use Rattle.cwr_share.proofs.OrderLemmas.{line_at, lines_in, lines_next, lines_of_all, nameless_at}
use Rattle.cwr_share.proofs.registration.add_lines.Goals as goal

-- the account at a party's place
account_at : (parties : List Numbered) (party account : ℕ) → Some account ≡ slice_get (accounts_of parties) party → account ≡ get_or (accounts_of parties) party 0
account_at parties party account found = sym (get_or_from_slice_get (accounts_of parties) party account 0 (sym found))

pub loop-entry-preserved : goal.loop-entry-preserved
loop-entry-preserved c =
    let order = c.args.order.now in
    let n = c.loop-entry.entry-index in
    let d : Placed = record { party = 0; place = 0 } in
    let account = account_at c.args.accounts.now.entries c.index-shares-entry.result.party c.index.result.now (sym c.index.ensures) in
    rw (c.in_ok-push.ensures.items, c.of.ensures, c.ne.ensures, account)
    (lines_next (λ party. get_or (accounts_of c.args.accounts.now.entries) party 0) c.args.shares.now order n d c.index-shares-entry.result c.loop-entry.later c.loop-entry.lines.items c.loop-entry-test.true
    (c.requires.within n d c.loop-entry-test.true) c.index-shares-entry.is (c.requires.own n d c.loop-entry-test.true)
    ∙ c.loop-entry.invariant)

pub returns : goal.returns
returns c = λ claimants ordered.
    let lines = map (line_by []) c.args.shares.now in
    let account_of : ℕ → ℕ = λ party. get_or (accounts_of c.args.accounts.now.entries) party 0 in
    let past : drop c.loop-entry.entry-index c.args.order.now ≡ [] = drop_all c.loop-entry.entry-index c.args.order.now c.loop-entry-test.false in
    let all = lines_of_all account_of (line_at lines) (nameless_at c.args.shares.now) claimants None ordered.rising (λ k d within. tt) in
    sym (append-nil c.loop-entry.lines.items)
    ∙ (ap (λ (rest : List Placed). c.loop-entry.lines.items ++ lines_in account_of (line_at lines) c.loop-entry.later rest) (sym past)
    ∙ (c.loop-entry.invariant
    ∙ ap (λ (l : List ClaimLine). c.args.lines.now.items ++ l) (ap (lines_in account_of (line_at lines) None) ordered.exact ∙ all)))
