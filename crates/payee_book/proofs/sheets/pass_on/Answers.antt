use Rattle.std.proofs.Common.{◌≡◌, ◌∙◌, ◌<◌, ℕ, true, ap, get_or, length, refl, set, subst, sym, take, arith, ⊎_elim, length-set, get_or-set_other, get_or-set_same}
use Rattle.std.proofs.KnownBytes.{Appends-nil, Appends-trans}
use Rattle.std.proofs.lemmas.Bool.Decides.{eqb_tells}
use Rattle.std.proofs.lemmas.List.{get_or_default, take_all}
use Rattle.std.specs.Io.KnownBytes.{Appends}
use Rattle.csv_table.specs.Written.{empty_page}
use Rattle.payee_book.specs.Waves.{text_on}
use Rattle.payee_book.proofs.SheetLemmas.{text_on_more}
use Rattle.payee_book.proofs.sheets.pass_on.Goals as goal

pub loop-place-init : goal.loop-place-init
loop-place-init g c = record {
  count = refl;
  whole = λ k d below. absurd (omega (arith, below));
  passed = λ k d below. absurd (omega (arith, below));
  left = λ k d from. refl;
  text = Appends-nil (g.W.Write.contents c.args.out.now);
}

pub loop-place-preserved : goal.loop-place-preserved
loop-place-preserved g c =
    let was = c.loop-place.invariant in
    let place = c.loop-place.place in
    let old = c.args.sheets.now in
    let sheets = c.loop-place.sheets in
    let d = c.index-sheets-place.result in
    let new = c.pass_sheet_on.new.sheet in
    let inside : place < length sheets = omega (arith, c.loop-place-test.true, was.count) in
    let start = g.W.Write.contents c.args.out.now in
    let mid = g.W.Write.contents c.loop-place.out in
    let end = g.W.Write.contents c.pass_sheet_on.new.out in
    let same : get_or sheets place d ≡ get_or old place d = was.left place d (omega arith) in
    record {
      count = length-set sheets place new ∙ was.count;
      whole = λ k e less.
          ⊎_elim
          (λ t. subst (λ (n : ℕ). (get_or old n e).is_whole ≡ true) (sym t.1) (ap (λ s. s.is_whole) (sym (was.left place e (omega arith)) ∙ get_or_default sheets place e d inside) ∙ c.in_ok-pass_sheet_on.ensures.whole))
          (λ t. was.whole k e (omega (arith, less, t.1)))
          (eqb_tells k place);
      passed = λ k e less.
          ⊎_elim
          (λ t. subst (λ (n : ℕ). (get_or (set sheets place new) n e).rows ≡ empty_page) (sym t.1) (ap (λ s. s.rows) (get_or-set_same sheets place new e inside) ∙ c.in_ok-pass_sheet_on.ensures.blank))
          (λ t. ap (λ s. s.rows) (get_or-set_other sheets place k new e t.1) ∙ was.passed k e (omega (arith, less, t.1)))
          (eqb_tells k place);
      left = λ k e from. get_or-set_other sheets place k new e (λ is. omega (arith, is, from)) ∙ was.left k e (omega (arith, from));
      text =
          subst (Appends start end) (text_on_more old place d (omega (arith, inside, was.count)))
          (Appends-trans start mid end (text_on (take place old)) (get_or old place d).rows.text was.text
          (subst (Appends mid end) (ap (λ s. s.rows.text) same) c.in_ok-pass_sheet_on.ensures.passed));
    }

pub returns-clause-whole : goal.returns-clause-whole
returns-clause-whole g c = λ k d below. c.loop-place.invariant.whole k d (omega (arith, below, c.loop-place-test.false))

pub returns-clause-blank : goal.returns-clause-blank
returns-clause-blank g c = λ k d below. let was = c.loop-place.invariant in was.passed k d (omega (arith, below, was.count, c.loop-place-test.false))

pub returns-clause-passed : goal.returns-clause-passed
returns-clause-passed g c =
    subst (λ sheets. Appends (g.W.Write.contents c.args.out.now) (g.W.Write.contents c.loop-place.out) (text_on sheets))
    (take_all c.loop-place.place c.args.sheets.now (omega (arith, c.loop-place-test.false))) c.loop-place.invariant.text
