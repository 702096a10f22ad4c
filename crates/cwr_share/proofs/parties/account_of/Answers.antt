use Rattle.std.proofs.Common.{Global, Vec, nat_cmp, rules, ℕ}
use Rattle.std.specs.Cmp.Lexicographic.{slice_cmp}
use Rattle.std.proofs.lemmas.Fn.{always_returns_same}
use Rattle.cwr_share.proofs.CompiledLemmas.{found, not_found, searchable}
use Rattle.cwr_share.proofs.parties.account_of.Goals as goal

pub returns-in-Ok-clause-some : goal.returns-in-Ok-clause-some
returns-in-Ok-clause-some c =
    let text = λ (other : Vec ℕ Global). other.items in
    let at = c.in-Ok.ensures.position (λ other. slice_cmp nat_cmp (text other) c.args.payee.now) (always_returns_same _ _ _ (λ a r f k. search rules)) in
    (c.in-Ok.ensures.bound, found text c.args.payees.now c.requires.rising c.args.payee.now c.in-Ok.place c.in-Ok.ensures.bound at)

pub returns-in-Err-clause-none : goal.returns-in-Err-clause-none
returns-in-Err-clause-none c =
    let text = λ (other : Vec ℕ Global). other.items in
    let at = c.in-Err.ensures.position (λ other. slice_cmp nat_cmp (text other) c.args.payee.now) (always_returns_same _ _ _ (λ a r f k. search rules)) in
    not_found text c.args.payees.now c.requires.rising c.args.payee.now c.in-Err.field-0 (at (searchable text c.args.payees.now c.requires.rising c.args.payee.now))
