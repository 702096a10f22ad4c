use Rattle.std.proofs.Common.{◌≡◌, ◌∙◌, ◌+◌, ℕ, true, ap, get_or, length, subst, arith}
use Rattle.csv_table.specs.Written.{text_of}
use Rattle.payee_book.specs.Waves.{all_rows, between, rows_of_wave, share_of, start_of}
use Rattle.payee_book.proofs.SheetLemmas.{shares_joined}
use Rattle.payee_book.proofs.sheets.write_wave.Goals as goal

pub returns-clause-written : goal.returns-clause-written
returns-clause-written g c = λ whole.
    let wave = c.args.wave in
    let sheets = c.for_each_mut.new.s in
    let first : start_of wave 0 ≡ wave.from = omega (arith, c.requires.shares.within) in
    let count : 0 + length sheets ≡ length c.args.sheets.now = omega (arith, c.for_each_mut.auto.s) in
    shares_joined wave 0 sheets
    (λ k d below is.
    let h = c.for_each_mut.ensures k d (omega (arith, below, c.for_each_mut.auto.s)) in
    let here : k ≡ 0 + k = omega arith in
    subst (λ (n : ℕ). (get_or sheets k d).rows.text ≡ text_of (share_of wave n)) here
    (subst (λ s. s.is_whole ≡ true → s.rows.text ≡ text_of (share_of wave k)) h.1.left h.1.call is))
    whole
    ∙ (ap (λ (n : ℕ). text_of (between n (start_of wave (0 + length sheets)) (all_rows wave))) first
    ∙ ap (λ (n : ℕ). text_of (rows_of_wave wave n)) count)
