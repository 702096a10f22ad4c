use Rattle.std.proofs.Common.{arith, length, ap, List}
use Rattle.line_split.specs.UsageLine.{UsageLine}
use Rattle.line_split.proofs.KeptLemmas.{length-lines_of}
use Rattle.line_split.proofs.usage.Usage.len.Goals as goal

pub returns-clause-lines : goal.returns-clause-lines
returns-clause-lines c =
    let all = length-lines_of c.self.inside.names.items c.self.inside.details.items c.self.invariant.0 in
    let same = ap (λ (lines : List UsageLine). length lines) c.self.view_is in
    omega (arith, all, same, c.len.ensures, c.self.inside.details.ok.0)

pub returns-clause-few : goal.returns-clause-few
returns-clause-few c =
    let all = length-lines_of c.self.inside.names.items c.self.inside.details.items c.self.invariant.0 in
    omega (arith, all, c.self.invariant.1.few, c.len.ensures, c.self.inside.details.ok.0)
