use Rattle.std.proofs.Common.{List, Option, ℕ, ◌≡◌, ◌∙◌, ◌++◌, ◌∷◌, [], arith, length, map, rules, subst, sym}
use Rattle.std.specs.Prelude.{vec_len}
use Rattle.std.proofs.lemmas.Iterator.Adapters.{YieldsList-from_vec}
use Rattle.std.proofs.lemmas.Iterator.Consumers.{YieldsList-turn}
use Rattle.std.proofs.lemmas.List.{length-map, map-append}
use Rattle.merge_statements.specs.Refused.{IsRefusalOf}
use Rattle.merge_statements.specs.SoFar.{AreOpen}
use Rattle.merge_statements.proofs.Refusing.{opened_length, placed, reader_refused}
use Rattle.merge_statements.proofs.Whole.{none_open, one_open, open_push}
use Rattle.merge_statements.proofs.merging.open_all.Goals as goal

pub loop-reader-init : goal.loop-reader-init
loop-reader-init g c = subst (AreOpen []) (sym c.new-parts.ensures.items) none_open

pub loop-reader-preserved : goal.loop-reader-preserved
loop-reader-preserved g c =
    let l = c.loop-reader in
    let rest = g.R.Read.remaining c.in-Some.reader in
    let more = open_push (map g.R.Read.remaining l.yielded) l.parts.items rest c.in-Ok.part l.invariant (one_open rest c.in-Ok.part c.in-Ok.ensures.at c.in-Ok.ensures.left c.in-Ok.ensures.read c.in-Ok.ensures.looked) in
    subst (AreOpen (map g.R.Read.remaining (l.yielded ++ c.in-Some.reader ∷ []))) (sym c.in-Ok-push.ensures.items)
    (subst (λ (starts : List (Option (List ℕ))). AreOpen starts (l.parts.items ++ c.in-Ok.part ∷ [])) (sym (map-append g.R.Read.remaining l.yielded (c.in-Some.reader ∷ []))) more)

pub returns-in-Err-clause-refused : goal.returns-in-Err-clause-refused
returns-in-Err-clause-refused g c =
    let l = c.loop-reader in
    let remaining = g.R.Read.remaining in
    let reader = c.in-Some.reader in
    let starts = map remaining c.args.from.items in
    let gives = c.into_iter-reader-iterator.ensures.into_iter_gives in
    let long : vec_len c.args.from ≡ length c.args.from.items = search rules in
    let turn = YieldsList-turn (YieldsList-from_vec {s = c.into_iter-reader-iterator.result} c.args.from.items gives.0 (gives.1 ∙ long)) l.yielded l.reader-iterator l.yielded_by c.next.result c.next.new.self reader c.in-Some.is c.next.ensures.steps in
    let count : c.len-place.result ≡ length l.yielded = omega (arith, opened_length (map remaining l.yielded) l.parts.items l.invariant, length-map l.yielded remaining) in
    placed (IsRefusalOf starts) c.refused.result.place (length l.yielded) c.refused.result.refusal c.in-Err.refusal (c.refused.ensures.place ∙ count) c.refused.ensures.refusal
    (reader_refused remaining c.args.from.items (length l.yielded) reader c.in-Err.refusal turn.0 turn.1 c.in-Err.ensures.refused)
