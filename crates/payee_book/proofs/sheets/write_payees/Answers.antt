use Rattle.std.proofs.Common.{◌≡◌, ◌≤◌, ◌<◌, ◌-◌, ◌∙◌, [], ℕ, Global, Vec, ap, length, map, rules, subst, sym, arith, vec_len}
use Rattle.std.proofs.KnownBytes.{Appends-nil}
use Rattle.std.proofs.lemmas.List.{take_all}
use Rattle.std.specs.Io.KnownBytes.{Appends}
use Rattle.csv_table.specs.Written.{text_of}
use Rattle.payee_book.specs.Text.{payees_rows}
use Rattle.payee_book.specs.Waves.{AreReady, AreWhole, between, start_of, text_on}
use Rattle.payee_book.specs.declared.sheets.Sheet.{Sheet}
use Rattle.payee_book.specs.declared.sheets.Wave.{Wave}
use Rattle.payee_book.proofs.PartLemmas.{between_none}
use Rattle.payee_book.proofs.SheetLemmas.{passed_after, text_on_blank}
use Rattle.payee_book.proofs.sheets.write_payees.Goals as goal

pub loop-from-init : goal.loop-from-init
loop-from-init g c =
    let all = payees_rows c.args.book.now c.args.usage.now (map (λ (party : Vec ℕ Global). party.items) c.args.parties.now) in
    let start = g.W.Write.contents c.args.out.now in
    let none : text_of (between 0 0 all) ≡ [] = ap text_of (between_none all 0 0 (omega arith)) in
    let written = c.requires.sheets.1 in
    record {
      within = omega arith;
      ready = c.requires.sheets.0;
      count = (written.some, written.few);
      rows = (0, omega arith, subst (Appends start start) (sym none) (Appends-nil start), λ whole. text_on_blank c.args.sheets.written.items written.blank ∙ sym none);
    }

pub loop-from-preserved : goal.loop-from-preserved
loop-from-preserved g c =
    let all = payees_rows c.args.book.now c.args.usage.now (map (λ (party : Vec ℕ Global). party.items) c.args.parties.now) in
    let was = c.loop-from.invariant in
    let done = c.in_ok-write_and_pass_on.ensures in
    let from = c.loop-from.from in
    let next = c.start_of-from.result in
    let (passed, reached, out, waiting) = was.rows in
    let start = g.W.Write.contents c.args.out.now in
    let mid = g.W.Write.contents c.loop-from.out in
    let end = g.W.Write.contents c.write_and_pass_on.new.out in
    let on : from ≤ next = omega (arith, c.start_of-from.ensures, was.within) in
    let blank = c.write_and_pass_on.new.written in
    let written = c.write_and_pass_on.new.blank in
    let count : length blank.items ≡ length c.loop-from.written.items = omega (arith, done.written_count, blank.ok, c.loop-from.written.ok) in
    let threads : vec_len c.loop-from.blank ≡ c.len-threads.result = search rules in
    let wave : Wave = record { book = c.args.book; usage = c.args.usage; parties = c.args.parties; count = c.payees_row_count-count.result; from = from; size = c.min-size.result } in
    let reach : start_of wave (vec_len c.loop-from.blank) ≡ next = ap (start_of wave) threads ∙ sym c.start_of-from.ensures in
    let ready : AreReady blank.items = record { some = omega (arith, count, was.count.0); few = omega (arith, count, was.count.1); blank = done.blank } in
    let same : length written.items ≡ length c.loop-from.blank.items = omega (arith, done.blank_count, written.ok, c.loop-from.blank.ok) in
    record {
      within = omega (arith, c.start_of-from.ensures);
      ready = subst (λ (v : Vec Sheet Global). AreReady v.items) (sym c.swap.ensures.x_after) ready;
      count = subst (λ (v : Vec Sheet Global). (0 < length v.items) × (length v.items ≤ 64)) (sym c.swap.ensures.y_after) (omega (arith, same, was.ready.some), omega (arith, same, was.ready.few));
      rows = (
        from,
        on,
        passed_after start mid end all passed from c.loop-from.written.items reached out waiting done.whole done.passed,
        subst (λ (v : Vec Sheet Global). AreWhole v.items → text_on v.items ≡ text_of (between from next all)) (sym c.swap.ensures.y_after)
            (λ whole. done.wave whole ∙ ap (λ (n : ℕ). text_of (between from n all)) reach),
      );
    }

pub returns-clause-written : goal.returns-clause-written
returns-clause-written g c =
    let all = payees_rows c.args.book.now c.args.usage.now (map (λ (party : Vec ℕ Global). party.items) c.args.parties.now) in
    let (passed, reached, out, waiting) = c.loop-from.invariant.rows in
    let done = c.in_ok-pass_on.ensures in
    let here = c.as_mut_slice.ensures.value in
    let start = g.W.Write.contents c.args.out.now in
    let mid = g.W.Write.contents c.loop-from.out in
    let end = g.W.Write.contents c.pass_on.new.out in
    let count : length all ≤ c.loop-from.from = omega (arith, c.loop-from-test.false, c.payees_row_count-count.ensures.count c.args.usage.now (map (λ (party : Vec ℕ Global). party.items) c.args.parties.now) c.requires.payees.named) in
    subst (λ rows. Appends start end (text_of rows)) (take_all (c.loop-from.from - 0) all (omega (arith, count)))
    (passed_after start mid end all passed c.loop-from.from c.loop-from.written.items reached out waiting (subst AreWhole here done.whole)
    (subst (λ sheets. Appends mid end (text_on sheets)) here done.passed))
