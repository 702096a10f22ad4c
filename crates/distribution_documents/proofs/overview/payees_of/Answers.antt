use Rattle.std.proofs.Common.{◌≡◌, ◌∙◌, ◌<◌, ◌++◌, ◌∷◌, [], ℕ, Bool, List, ap, arith, false, get_or, length, ltb, sym, true}
use Rattle.std.proofs.lemmas.List.Elements.{All-push, All-same}
use Rattle.distribution_documents.proofs.Accounts.{with_number, without_number}
use Rattle.distribution_documents.proofs.overview.payees_of.Goals as goal
use Rattle.distribution_documents.proofs.overview.payees_of.Goals.{then-not-is_empty+in_ok-push, else-not-is_empty}

pub loop-account-preserved : goal.loop-account-preserved
loop-account-preserved c =
    let book = c.args.documents.now.divided.now.book in
    let account = c.loop-account.account in
    let old = c.loop-account.payees.items in
    let one : 0 < account = omega arith in
    let below : account < length book = omega (arith, c.loop-account-test.true, c.accounts-account-end.ensures.count) in
    let long = ap length c.lines.ensures.postings in
    elim c.if-not-is_empty.branch [
      | then-not-is_empty+in_ok-push w ↦
          let test : ltb 0 (length (get_or book account [])) ≡ true = grind (arith, long, c.is_empty.ensures, w.if-not-is_empty.true) in
          rw w.payees-is record {
            payees =
                w.in_ok-push.ensures.items
                ∙ (ap (λ (l : List ℕ). l ++ account ∷ []) c.loop-account.invariant.payees
                ∙ sym (with_number (λ (n : ℕ). ltb 0 (length (get_or book n []))) book account [] one below test));
            known =
                All-same (λ n. n < length book) w.push.new.self.items (old ++ account ∷ []) w.in_ok-push.ensures.items
                (All-push (λ n. n < length book) old account c.loop-account.invariant.known below);
          }
      | else-not-is_empty w ↦
          let test : ltb 0 (length (get_or book account [])) ≡ false = grind (arith, long, c.is_empty.ensures, w.if-not-is_empty.false) in
          rw w.payees-is record {
            payees =
                c.loop-account.invariant.payees
                ∙ sym (without_number (λ (n : ℕ). ltb 0 (length (get_or book n []))) book account [] one below test);
            known = c.loop-account.invariant.known;
          }
    ]
