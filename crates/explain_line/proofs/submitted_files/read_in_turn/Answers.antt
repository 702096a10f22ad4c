use Rattle.std.proofs.Common.{rules, ◌≡◌, ◌+◌, ◌++◌, ◌∷◌, [], List, get_or, inl, inr, subst, sym}
use Rattle.std.proofs.lemmas.Result.{err_from_is_err_and}
use Rattle.cwr_share.specs.Lines.{lines_of}
use Rattle.cwr_share.specs.declared.in_force.InForce.{InForce}
use Rattle.explain_line.specs.LookedAt.{AreLookedAt, IsFoundWith}
use Rattle.explain_line.proofs.LookedLemmas.{read_more}
use Rattle.explain_line.proofs.submitted_files.read_in_turn.Goals as goal

-- some registrations in force, where some have to be named
none : InForce
none = []

pub returns-in_err-text-clause-fault : goal.returns-in_err-text-clause-fault
returns-in_err-text-clause-fault g c =
    let exit = err_from_is_err_and c.from_residual-in_err-text.result c.from_residual-in_err-text.ensures.1 in
    let so_far = c.loop-place.invariant in
    rw (exit.1, exit.2)
    (elim c.in_err-text.ensures.fault [
      | inl room ↦ inl room
      | inr refused ↦ inr (record {
        place = c.loop-place.place;
        within = c.loop-place-test.true;
        before = λ k low. let text = so_far.each k none low in (get_or so_far.files k [], text.held, text.sound);
        refused = refused;
      })
    ])

pub loop-place-preserved : goal.loop-place-preserved
loop-place-preserved g c =
    let holds = g.F.SubmitterFiles.holds c.args.files.now in
    let place = c.loop-place.place in
    let rows = c.args.rows.now in
    let old = c.loop-place.filed.items in
    let new = c.look_at.new.filed.items in
    let bytes = c.in_ok-text.text.items in
    let found = subst (λ (b : _). IsFoundWith place (lines_of b) rows old new) c.as_slice.ensures.value c.in_ok-look_at.ensures in
    let pushed : c.push.new.self.items ≡ c.loop-place.read.items ++ c.in_ok-text.in_force ∷ [] = search rules in
    subst (λ (read : List InForce). AreLookedAt holds (place + 1) rows read new) (sym pushed)
    (read_more holds place rows c.loop-place.read.items old new bytes c.in_ok-text.in_force c.loop-place.invariant c.in_ok-text.ensures.read found)
