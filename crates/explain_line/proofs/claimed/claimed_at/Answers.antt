use Rattle.std.proofs.Common.{◌≡◌, ◌+◌, ◌∙◌, ◌⊎◌, [], ℕ, List, ap, drop, false, get_or, inl, inr, nat_eq, sym, true}
use Rattle.std.specs.Cmp.Lexicographic.{pointwise}
use Rattle.std.proofs.lemmas.List.{get_or_default}
use Rattle.cwr_share.specs.ClaimsOn.{decides, share_for}
use Rattle.explain_line.proofs.ClaimedLemmas.{claimed_no, claimed_yes, paid_at}
use Rattle.explain_line.proofs.claimed.claimed_at.Goals.{else-eq-via-then-eq+else-decides, else-eq-via-else-eq}
use Rattle.explain_line.proofs.claimed.claimed_at.Goals as goal

pub returns-then-decides-clause-claimed : goal.returns-then-decides-clause-claimed
returns-then-decides-clause-claimed c = λ pay d same.
    let shares = c.args.shares.now in
    let place = c.args.place in
    let share = get_or shares place d in
    let paid = paid_at pay c.args.payees.now shares place (record { ref_ptr = (0, 0); now = [] }) d same c.requires.payees c.requires.place in
    let is : pointwise nat_eq (pay share.party) c.args.payee.now ≡ true = ap (λ (l : List ℕ). pointwise nat_eq l c.args.payee.now) (sym paid) ∙ (sym c.eq.ensures ∙ c.if-eq.true) in
    let here : c.index-shares-place.result ≡ share = c.index-shares-place.is ∙ get_or_default shares place c.index-shares-place.result d c.requires.place in
    c.from.ensures ∙ (c.collected.ensures ∙ (ap (share_for c.args.right) here
    ∙ sym (claimed_yes c.args.tis.now c.args.land c.args.right pay c.args.payee.now share (drop (place + 1) shares) is (sym (c.decides.ensures d) ∙ c.if-decides.true))))

pub returns-else-eq-clause-claimed : goal.returns-else-eq-clause-claimed
returns-else-eq-clause-claimed c = λ pay d same.
    let shares = c.args.shares.now in
    let place = c.args.place in
    let share = get_or shares place d in
    let paid = paid_at pay c.args.payees.now shares place (record { ref_ptr = (0, 0); now = [] }) d same c.requires.payees c.requires.place in
    let test = ap (λ (l : List ℕ). pointwise nat_eq l c.args.payee.now) (sym paid) ∙ sym c.eq.ensures in
    let no : (pointwise nat_eq (pay share.party) c.args.payee.now ≡ false) ⊎ (decides c.args.tis.now c.args.land share (drop (place + 1) shares) ≡ false) =
    elim c.else-eq.branch [
      | else-eq-via-then-eq+else-decides w ↦ inr (sym (w.decides.ensures d) ∙ w.if-decides.false)
      | else-eq-via-else-eq w ↦ inl (test ∙ w.if-eq.false)
    ] in
    sym (claimed_no c.args.tis.now c.args.land c.args.right pay c.args.payee.now share (drop (place + 1) shares) no)
