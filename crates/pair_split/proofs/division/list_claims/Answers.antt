use Rattle.std.proofs.Common.{◌≡◌, ◌+◌, ℕ, List, [], ◌∷◌, ◌++◌, map, take, sym, ap, ◌∙◌, arith}
use Rattle.std.proofs.lemmas.List.{length-map}
use Rattle.std.specs.Prelude.{string_bytes}
use Rattle.line_split.proofs.Enumerated.{enumerated_from_more}
use Rattle.pair_split.specs.Pair.{claims_of, share_of, word_at}
use Rattle.pair_split.proofs.division.list_claims.Goals as goal

pub loop-place-preserved : goal.loop-place-preserved
loop-place-preserved c =
    let share : c.share_of.result ≡ share_of (word_at (map string_bytes c.args.words.now) c.loop-place.place) = c.share_of.ensures ∙ ap share_of c.word.ensures in
    let pushed : c.push.new.self.items ≡ c.loop-place.list.items ++ (c.loop-place.place + 1, c.share_of.result) ∷ [] = c.in_ok-push.ensures.items in
    let more = enumerated_from_more (λ e. (e.0, share_of e.1)) 1 (map string_bytes c.args.words.now) c.loop-place.place []
    (omega (arith, c.loop-place-test.true, length-map c.args.words.now string_bytes)) in
    pushed
    ∙ (ap (λ (l : List (ℕ × ℕ)). l ++ (c.loop-place.place + 1, c.share_of.result) ∷ []) c.loop-place.invariant
    ∙ (ap (λ (s : ℕ). claims_of (take c.loop-place.place (map string_bytes c.args.words.now)) ++ (c.loop-place.place + 1, s) ∷ []) share
    ∙ (ap (λ (k : ℕ). claims_of (take c.loop-place.place (map string_bytes c.args.words.now)) ++ (k, share_of (word_at (map string_bytes c.args.words.now) c.loop-place.place)) ∷ []) (omega arith)
    ∙ sym more)))
