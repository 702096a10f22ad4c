use Rattle.std.proofs.Common.{◌≡◌, ◌∙◌, ◌∷◌, ◌++◌, ◌<◌, ◌+◌, [], List, ℕ, Vec, Global, add-one, ap, arith, get_or, length, map, sym, take}
use Rattle.std.proofs.Math.Seq.{take-suc}
use Rattle.std.proofs.lemmas.List.{map-append}
use Rattle.document_run.proofs.names.unnamed.Goals as goal

pub loop-place-preserved : goal.loop-place-preserved
loop-place-preserved c =
    let accounts : List (Vec ℕ Global) = c.args.accounts.now in
    let place = c.loop-place._place in
    let old = c.loop-place.names.items in
    let item = λ (name : Vec ℕ Global). name.items in
    let none = λ (name : Vec ℕ Global). let nothing : List ℕ = [] in nothing in
    let below : place < length accounts = omega (arith, c.loop-place-test.true) in
    let grown : take (place + 1) accounts ≡ take place accounts ++ get_or accounts place c.new.result ∷ [] = rw add-one (take-suc accounts place c.new.result below) in
    ap (map item) c.in_ok-push.ensures.items
    ∙ (map-append item old (c.new.result ∷ [])
    ∙ (ap (λ (texts : List (List ℕ)). texts ++ c.new.result.items ∷ []) c.loop-place.invariant
    ∙ (ap (λ (text : List ℕ). map none (take place accounts) ++ text ∷ []) c.new.ensures.items
    ∙ sym (ap (map none) grown ∙ map-append none (take place accounts) (get_or accounts place c.new.result ∷ [])))))
