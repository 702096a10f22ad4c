use Rattle.std.proofs.Common.{◌≡◌, ◌∙◌, ◌+◌, ◌≤◌, ◌++◌, ℕ, List, [], Option, Some, None, length, take, ap, subst, arith}
use Rattle.std.proofs.lemmas.List.{length-take, take_all}
use Rattle.std.specs.Option.{IfSome, option_map}
use Rattle.royalty_program.proofs.sources.read_whole.Goals as goal

-- what was read up to one byte past the most, and has no more than the most, is all
whole : (known from : Option (List ℕ)) (limit most : ℕ) (before bytes : List ℕ) → from ≡ known → limit ≡ most + 1 → before ≡ []
    → IfSome (option_map (take limit) from) (λ xs. bytes ≡ before ++ xs) → length bytes ≤ most → IfSome known (λ all. bytes ≡ all)
whole None from limit most before bytes is over none read few = tt
whole (Some all) from limit most before bytes is over none read few =
    let read_all : IfSome (option_map (take limit) (Some all)) (λ xs. bytes ≡ before ++ xs) =
    subst (λ (o : Option (List ℕ)). IfSome (option_map (take limit) o) (λ xs. bytes ≡ before ++ xs)) is read in
    let start : bytes ≡ take limit all = read_all ∙ ap (λ (b : List ℕ). b ++ take limit all) none in
    start ∙ take_all limit all (omega (arith, ap length start, length-take limit all))

pub returns-clause-whole : goal.returns-clause-whole
returns-clause-whole g c = whole (g.S.Read.remaining c.args.from) (g.S.Read.remaining c.take.result.inner) c.take.result.limit 268435456 c.in_ok-bytes.bytes.items c.read_to_end.new.buf.items
    (ap g.S.Read.remaining c.take.ensures.inner) c.take.ensures.limit c.in_ok-bytes.ensures.items c.in_ok-read_to_end.ensures.bytes (grind arith)
