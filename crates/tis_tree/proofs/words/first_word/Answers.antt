use Rattle.std.proofs.Common.{arith, sym, length, ◌∙◌}
use Rattle.std.proofs.lemmas.Bool.{eqb-true}
use Rattle.tis_tree.proofs.GroupWords.{no_words}
use Rattle.tis_tree.proofs.words.first_word.Goals as goal

pub returns-clause-none : goal.returns-clause-none
returns-clause-none c = λ _.
    let rest = c.loop-rest.rest.now in
    c.loop-rest.invariant.0 ∙ no_words rest (omega (arith, eqb-true (length rest) 0 (sym c.is_empty.ensures ∙ c.loop-rest-test.false)))
