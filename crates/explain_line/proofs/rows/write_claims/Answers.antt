use Rattle.std.proofs.Common.{◌≡◌, ◌+◌, ◌-◌, ◌<◌, ◌∷◌, ◌++◌, ◌∙◌, [], ℕ, List, ap, arith, codes, drop, get_or, length, map, subst, sym, take}
use Rattle.std.specs.Prelude.{decimal}
use Rattle.std.proofs.lemmas.Grind.{get_or_after_one}
use Rattle.std.proofs.lemmas.List.{length-drop, map_push}
use Rattle.csv_table.specs.Written.{text_of, text_of_row}
use Rattle.cwr_share.specs.ClaimsOn.{claim_of, claims_among}
use Rattle.cwr_share.specs.Payees.{payee_of}
use Rattle.explain_line.specs.Explanation.{claim_row}
use Rattle.explain_line.proofs.ClaimedLemmas.{claims_no, claims_yes}
use Rattle.explain_line.proofs.RowLemmas.{text_more}
use Rattle.explain_line.proofs.rows.write_claims.Goals.{then-claim-gt0+in_ok-write_claim, else-claim-gt0}
use Rattle.explain_line.proofs.rows.write_claims.Goals as goal

pub loop-account-preserved : goal.loop-account-preserved
loop-account-preserved c =
    let table = c.args.tis.now in
    let registered = c.args.registry.now in
    let land = c.args.land in
    let right = c.args.right in
    let shares = c.args.shares.now in
    let pay = payee_of registered.payees in
    let names : List (List ℕ) = drop 1 registered.accounts in
    let account = c.loop-account.account in
    let k : ℕ = account - 1 in
    let first : 1 + k ≡ account = omega (arith, c.loop-account.auto.account) in
    let within : k < length names = omega (arith, first, c.loop-account-test.true, c.accounts-account-end.ensures.accounts, length-drop 1 registered.accounts) in
    let name : get_or names k [] ≡ c.party-payee.result.now = get_or_after_one registered.accounts k [] ∙ (ap (λ (n : ℕ). get_or registered.accounts n []) first ∙ sym c.party-payee.ensures) in
    let claimed : claim_of table land right pay shares (get_or names k []) ≡ c.claim_of-claim.result =
    ap (claim_of table land right pay shares) name
    ∙ sym (c.claim_of-claim.ensures pay (ap (map (λ payee. payee.now)) c.as_slice.ensures.value ∙ c.in_ok-payees.ensures)) in
    let next : k + 1 ≡ account + 1 - 1 = omega (arith, first) in
    let start = c.args.rows.now.text in
    let more : c.if-claim-gt0.rows.text ≡ start ++ text_of (map (claim_row registered) (claims_among table land right pay shares (take (k + 1) names))) =
    elim c.if-claim-gt0.branch [
      | then-claim-gt0+in_ok-write_claim w ↦
          let some = claims_yes table land right pay shares names k within (omega (arith, claimed, w.if-claim-gt0.true)) in
          let row : codes "A" ∷ decimal account ∷ c.party-payee.result.now ∷ decimal c.claim_of-claim.result ∷ [] ≡ claim_row registered (1 + k, claim_of table land right pay shares (get_or names k [])) =
          cc (first, c.party-payee.ensures, claimed) in
          ap (λ (r : _). r.text) w.rows-is
          ∙ (text_more start c.loop-account.rows.text w.write_claim.new.rows.text (map (claim_row registered) (claims_among table land right pay shares (take k names)))
          (claim_row registered (1 + k, claim_of table land right pay shares (get_or names k []))) c.loop-account.invariant
          (w.in_ok-write_claim.ensures ∙ ap (λ (r : List (List ℕ)). c.loop-account.rows.text ++ text_of_row r) row)
          ∙ ap (λ (l : List (List (List ℕ))). start ++ text_of l)
          (sym (map_push (claim_row registered) (claims_among table land right pay shares (take k names)) (1 + k, claim_of table land right pay shares (get_or names k [])))
          ∙ ap (map (claim_row registered)) (sym some)))
      | else-claim-gt0 w ↦
          let none = claims_no table land right pay shares names k within (omega (arith, claimed, w.if-claim-gt0.false)) in
          ap (λ (r : _). r.text) w.rows-is ∙ (c.loop-account.invariant ∙ ap (λ (l : List (ℕ × ℕ)). start ++ text_of (map (claim_row registered) l)) (sym none))
    ] in
    subst (λ (n : ℕ). c.if-claim-gt0.rows.text ≡ start ++ text_of (map (claim_row registered) (claims_among table land right pay shares (take n names)))) next more
