use Rattle.std.proofs.Common.{◌≡◌, All, map, take}
use Rattle.cwr_share.specs.Compiled.{IsKept, accounts_of, kept_lines, names_of}
use Rattle.cwr_share.proofs.in_force.InForce.registry.Given as goal

abbrev pub invariant-loop-shares : goal.invariant-loop-shares
invariant-loop-shares l = record {
  lists : map (kept_lines (names_of l.parties.accounts.entries)) l.registrations ≡ map (λ lines. lines.items) (take l.shares-index l.shares-items);
  kept : All (IsKept (names_of l.parties.accounts.entries) (accounts_of l.parties.accounts.entries)) l.registrations;
}
