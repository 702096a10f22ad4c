use Rattle.std.proofs.Common.{inl, inr, map, subst, sym}
use Rattle.std.specs.Prelude.{string_bytes}
use Rattle.royalty_program.specs.Status.{IsAt, IsOfPlace, IsUnreadable}
use Rattle.royalty_program.proofs.MergeFileLemmas.{there_mapped, unread_there}
use Rattle.royalty_program.proofs.merge_files.changed.Goals as goal

pub returns-in-Fault-clause-one : goal.returns-in-Fault-clause-one
returns-in-Fault-clause-one c = (
  subst (IsAt (map string_bytes c.args.paths.now) c.args.place) (sym c.in-Ok.ensures.cases)
      (there_mapped string_bytes c.args.paths.now c.args.place c.in-Some.path.now c.in-Some.ensures.lookup.3.0 c.in-Some.ensures.lookup.1),
  (c.in-Fault.field-0, c.in-Fault.is),
)

pub returns-in-Read-clause-one : goal.returns-in-Read-clause-one
returns-in-Read-clause-one c =
    let paths = map string_bytes c.args.paths.now in
    let at : IsAt paths c.args.place (string_bytes c.in-Ok.path) =
    subst (IsAt paths c.args.place) (sym c.in-Ok.ensures.cases)
    (there_mapped string_bytes c.args.paths.now c.args.place c.in-Some.path.now c.in-Some.ensures.lookup.3.0 c.in-Some.ensures.lookup.1) in
    let unread : IsUnreadable c.args.refusal = elim c.in-Read.is [
      | inl read ↦ subst IsUnreadable (sym read) tt
      | inr write ↦ subst IsUnreadable (sym write) tt
    ] in
    subst (IsOfPlace paths c.args.place c.args.refusal) (sym c.unread.ensures) (unread_there paths c.args.place c.args.refusal c.kind.result c.in-Ok.path at unread)
