use Rattle.std.proofs.Common.{◌≡◌, ◌+◌, unsigned_abs, sum_by, map, take, vec_capacity}
use Rattle.line_split.specs.Claims.{base_of, counted_claims, participants_of, total_of}
use Rattle.line_split.specs.LargestRemainder.{contenders_of, quota_of}
use Rattle.line_split.specs.Contenders.{place_and_remainder, signed_quota}
use Rattle.line_split.proofs.portions.round_down.Given as goal

-- what counts and the base, the quotas and contenders so far, what the quotas leave of the amount's size, and the room that there was
abbrev pub invariant-loop-claim : goal.invariant-loop-claim
invariant-loop-claim l = record {
  counted : l.counted ≡ total_of (counted_claims l.claims);
  base : l.base ≡ base_of l.claims;
  quotas : l.list.items ≡ map (signed_quota l.amount l.base) (take l.claim-index (participants_of l.claims));
  contenders : map place_and_remainder l.contenders.items ≡ contenders_of (unsigned_abs l.amount) l.base (take l.claim-index (participants_of l.claims));
  left : l.left + sum_by (λ p. quota_of (unsigned_abs l.amount) l.base p.1) (take l.claim-index (participants_of l.claims)) ≡ unsigned_abs l.amount;
  room : vec_capacity l.list ≡ vec_capacity l.fn.list;
  places : vec_capacity l.contenders ≡ vec_capacity l.fn.contenders;
}
