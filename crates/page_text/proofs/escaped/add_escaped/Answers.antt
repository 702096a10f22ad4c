use Rattle.std.proofs.Common.{refl, rules}
use Rattle.page_text.proofs.Escaping.{escaped_as_it_is}
use Rattle.page_text.proofs.escaped.add_escaped.Goals as goal

pub returns-then-stands : goal.returns-then-stands
returns-then-stands c =
    let same = escaped_as_it_is c.args.text.now (c.if-stands.ensures.0 refl) in
    search rules
