use Rattle.std.proofs.Common.{◌≡◌, ap, arith, length, zip}
use Rattle.std.proofs.lemmas.List.{length-map}
use Rattle.std.proofs.lemmas.Slice.Zip.{length-zip}
use Rattle.cwr_share.specs.Compiled.{kept_lines, names_of}
use Rattle.cwr_share.specs.Registered.{Registered}
use Rattle.cwr_share.proofs.InForceLemmas.{entries}
use Rattle.cwr_share.proofs.registry.Registry.works.Goals as goal

pub returns-clause-works : goal.returns-clause-works
returns-clause-works c =
    let works = c.self.inside.works.keys in
    let registrations = c.self.inside.registrations in
    let seen = ap (λ (r : Registered). length r.works) c.self.view_is in
    let long : length (entries (kept_lines (names_of c.self.inside.parties.accounts.entries)) works registrations) ≡ length (zip works registrations) = length-map (zip works registrations) _ in
    omega (arith, seen, long, length-zip works registrations, c.self.invariant.1.paired, c.len.ensures)
