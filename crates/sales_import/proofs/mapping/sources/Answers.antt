use Rattle.std.proofs.Common.{◌≡◌, ◌∙◌, ◌+◌, ◌++◌, ◌∷◌, [], List, ap, drop, map, subst, suc, sym, take, ℕ}
use Rattle.std.specs.Prelude.{String, option_map, string_bytes}
use Rattle.std.specs.declared.alloc.Global.{Global}
use Rattle.std.proofs.Math.Seq.{split_at}
use Rattle.std.proofs.lemmas.List.{map-append, take_more}
use Rattle.std.proofs.lemmas.Result.{err_from_is_err_and}
use Rattle.sales_import.specs.Mapped.{AreSources, IsFaultAmong}
use Rattle.sales_import.proofs.Named.{here, past, sources_more}
use Rattle.sales_import.proofs.mapping.sources.Goals as goal

pub returns-in_err-source-clause-fault : goal.returns-in_err-source-clause-fault
returns-in_err-source-clause-fault c =
    let header = option_map (λ row. row.now) c.args.header in
    let words = c.args.words.now in
    let word = c.word-item.result in
    let i = c.loop-word.word-index in
    let cut : words ≡ take i words ++ word ∷ drop (suc i) words =
    split_at words i word c.loop-word-test.true ∙ ap (λ (w : String Global). take i words ++ w ∷ drop (suc i) words) (sym c.word-item.is) in
    let shown : map string_bytes words ≡ map string_bytes (take i words) ++ string_bytes word ∷ map string_bytes (drop (suc i) words) =
    ap (map string_bytes) cut ∙ map-append string_bytes (take i words) (word ∷ drop (suc i) words) in
    let exit = err_from_is_err_and c.from_residual.result c.from_residual.ensures.1 in
    rw (exit.1, exit.2)
    (subst (λ (w : List (List ℕ)). IsFaultAmong header w c.in_err-source.field-0.0) (sym shown)
    (past header _ _ c.loop-word.sources.items _ c.loop-word.invariant (here header (string_bytes word) _ _ c.in_err-source.ensures.fault)))

pub loop-word-preserved : goal.loop-word-preserved
loop-word-preserved c =
    let header = option_map (λ row. row.now) c.args.header in
    let words = c.args.words.now in
    let word = c.word-item.result in
    let i = c.loop-word.word-index in
    let more : take (i + 1) words ≡ take i words ++ word ∷ [] =
    take_more words i word c.loop-word-test.true ∙ ap (λ (w : String Global). take i words ++ w ∷ []) (sym c.word-item.is) in
    let shown : map string_bytes (take (i + 1) words) ≡ map string_bytes (take i words) ++ string_bytes word ∷ [] =
    ap (map string_bytes) more ∙ map-append string_bytes (take i words) (word ∷ []) in
    let items : c.push.new.self.items ≡ c.loop-word.sources.items ++ c.in_ok-source.source ∷ [] = rw c.in-Ok.is at c.push.ensures.items in
    subst (λ (shows : List (List ℕ)). AreSources header shows c.push.new.self.items) (sym shown)
    (subst (AreSources header (map string_bytes (take i words) ++ string_bytes word ∷ [])) (sym items)
    (sources_more header (map string_bytes (take i words)) c.loop-word.sources.items (string_bytes word) c.in_ok-source.source c.loop-word.invariant c.in_ok-source.ensures.source))
