use Rattle.std.proofs.Common.{◌≡◌, ◌<◌, [], All, length, map, take}
use Rattle.cwr_share.specs.Compiled.{line_by, names_of}
use Rattle.cwr_share.proofs.OrderLemmas.{IsGathered}
use Rattle.cwr_share.proofs.registration.CompiledRegistration.compile.Given as goal

abbrev pub invariant-loop-place : goal.invariant-loop-place
invariant-loop-place l = record {
  gathered : IsGathered (names_of l.accounts.entries) (take l.place l.shares) l.self.order.items;
  kept : map (line_by (names_of l.accounts.entries)) l.self.shares.items ≡ take l.place l.shares;
  known : All (λ share. share.party < length l.accounts.entries) l.self.shares.items;
  none : l.self.lines.items ≡ [];
}
