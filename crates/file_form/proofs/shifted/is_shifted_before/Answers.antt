use Rattle.std.proofs.Common.{◌≡◌, ◌∙◌, ◌-◌, ℕ, Bool, ap, length, min, nat_lt, rules, take, tests}
use Rattle.std.specs.List.{list_any}
use Rattle.std.proofs.lemmas.Iterator.{YieldsList-from_slice}
use Rattle.std.proofs.lemmas.Iterator.Search.{any_from_yields_List}
use Rattle.std.proofs.lemmas.List.{take_min}
use Rattle.file_form.proofs.shifted.is_shifted_before.Goals as goal

-- a byte beyond ASCII
abbrev is_beyond : ℕ → Bool
is_beyond byte = nat_lt 127 byte

pub returns : goal.returns
returns c =
    let line = c.args.line.now in
    let place : take c.min-end.result line ≡ take (c.args.field.first - 1) line =
    ap (λ (n : ℕ). take n line) (c.min-end.ensures ∙ ap (λ (n : ℕ). min n (length line)) c.saturating_sub.ensures) ∙ take_min (c.args.field.first - 1) line in
    any_from_yields_List is_beyond _ _ c.any.result c.any.ensures.ran (YieldsList-from_slice (take c.min-end.result line) cc) (λ x b q k. search (rules, tests))
    ∙ ap (list_any is_beyond) place
