use Rattle.std.proofs.Common.{◌≡◌, Bool, cond, leb, true, false, get_or, sym, ap, ◌∙◌, arith}
use Rattle.std.proofs.lemmas.Bool.{le-leb, lt-leb}
use Rattle.line_split.specs.declared.TheConstants.{MOST_CLAIMED}
use Rattle.line_split.specs.Claims.{total_of, participants_of}
use Rattle.line_split.specs.FairSplit.{value_at}
use Rattle.line_split.proofs.ClaimLemmas.{claim_share, residue_share}
use Rattle.line_split.proofs.by_rank.share_at.Goals as goal
use Rattle.line_split.proofs.by_rank.share_at.Goals.{then-place-claims, else-place-claims+then-total-le-MOST_CLAIMED, else-place-claims+else-total-le-MOST_CLAIMED}

pub returns-clause-share : goal.returns-clause-share
returns-clause-share c = c.from.ensures ∙ elim c.if-place-claims.branch [
  | then-place-claims w ↦
      omega (
        arith,
        w.share-is,
        w.max.ensures,
        w.counted-counted.ensures,
        residue_share c.args.claims.now,
        ap (value_at (participants_of c.args.claims.now)) w.if-place-claims.true,
      )
  | else-place-claims+then-total-le-MOST_CLAIMED w ↦
      let counts : leb (total_of c.args.claims.now) MOST_CLAIMED ≡ true = le-leb _ _ (omega (arith, w.total.ensures, w.if-total-le-MOST_CLAIMED.true)) in
      w.share-is
      ∙ sym (claim_share c.args.claims.now c.args.place (omega (arith, w.if-place-claims.false, c.requires.place))
      ∙ ap (λ (b : Bool). cond b (get_or c.args.claims.now c.args.place (0, 0)).1 0) counts)
  | else-place-claims+else-total-le-MOST_CLAIMED w ↦
      let not_all : leb (total_of c.args.claims.now) MOST_CLAIMED ≡ false = lt-leb _ _ (omega (arith, w.total.ensures, w.if-total-le-MOST_CLAIMED.false)) in
      w.share-is
      ∙ sym (claim_share c.args.claims.now c.args.place (omega (arith, w.if-place-claims.false, c.requires.place))
      ∙ ap (λ (b : Bool). cond b (get_or c.args.claims.now c.args.place (0, 0)).1 0) not_all)
]
