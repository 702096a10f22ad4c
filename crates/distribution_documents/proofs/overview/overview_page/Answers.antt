use Rattle.std.proofs.Common.{◌≡◌, ◌≤◌, ◌<◌, [], ℕ, All, ap, arith, drop, get_or, length, ltb, subst, sym}
use Rattle.std.proofs.lemmas.List.{get_or_default}
use Rattle.overview_documents.specs.Payees.{AreFew}
use Rattle.distribution_documents.proofs.Accounts.{few_below}
use Rattle.distribution_documents.proofs.overview.overview_page.Goals as goal

pub page_of-requires-clause-few : goal.page_of-requires-clause-few
page_of-requires-clause-few c =
    let book = c.args.documents.now.divided.now.book in
    let small : All (λ n. n < 65536) c.args.payees.now =
    λ k d lt. omega (arith, c.type_inv.payees k, get_or_default c.args.payees.now k d 0 lt) in
    let below = few_below (λ (n : ℕ). ltb 0 (length (get_or book n []))) 65536 1 (drop 1 book) (subst (All (λ n. n < 65536)) c.requires.payees small) in
    let few : length c.args.payees.now ≤ 65536 = omega (arith, below, ap length c.requires.payees) in
    record {
      payees = subst AreFew (sym c.as_slice-2.ensures.value) (c.in_ok-lines.ensures.few few);
      residue = c.sums_of.ensures.few;
    }
