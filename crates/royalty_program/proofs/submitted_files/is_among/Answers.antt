use Rattle.std.proofs.Common.{◌≡◌, ◌≢◌, ◌∙◌, ◌<◌, [], All, ap, arith, get_or, length, map, subst, sym, take}
use Rattle.std.proofs.lemmas.Bool.{false≢true}
use Rattle.std.proofs.lemmas.List.{get_or-map, length-map, take_all, take_more}
use Rattle.std.proofs.lemmas.List.Elements.{All-push}
use Rattle.std.specs.Prelude.{string_bytes}
use Rattle.royalty_program.specs.OutputPath.{IsOther}
use Rattle.royalty_program.proofs.MergeFileLemmas.{among_mapped}
use Rattle.royalty_program.proofs.submitted_files.is_among.Goals as goal

pub returns : goal.returns
returns g c = record {
  none = λ _. subst (All (IsOther c.args.path.now))
      (take_all c.loop-other.other-index (map string_bytes c.args.paths.now) (omega (arith, c.loop-other-test.false, length-map c.args.paths.now string_bytes)))
      c.loop-other.invariant;
  some = λ found. absurd (false≢true found);
}

pub returns-then-branch-clause-some : goal.returns-then-branch-clause-some
returns-then-branch-clause-some g c found =
    let one_file = g.T.Target.one_file c.args.target.now in
    let name = c.other-item.result in (
      string_bytes name,
      among_mapped string_bytes c.args.paths.now c.loop-other.other-index name c.loop-other-test.true c.other-item.is,
      subst (one_file c.args.path.now) c.as_str.ensures.value (c.in_ok-is_one_file.ensures.one c.if-branch.true),
    )

pub loop-other-preserved : goal.loop-other-preserved
loop-other-preserved g c =
    let paths = map string_bytes c.args.paths.now in
    let k = c.loop-other.other-index in
    let path = c.args.path.now in
    let within : k < length paths = omega (arith, c.loop-other-test.true, length-map c.args.paths.now string_bytes) in
    let at : c.as_str.result.now ≡ get_or paths k [] =
    c.as_str.ensures.value ∙ (ap string_bytes c.other-item.is ∙ sym (get_or-map string_bytes c.args.paths.now k _ [] (omega (arith, c.loop-other-test.true)))) in
    let other : path ≢ get_or paths k [] = λ same. false≢true (sym c.if-branch.false ∙ c.in_ok-is_one_file.ensures.same (same ∙ sym at)) in
    subst (All (IsOther path)) (sym (take_more paths k [] within)) (All-push (IsOther path) (take k paths) (get_or paths k []) c.loop-other.invariant other)
