use Rattle.std.proofs.Common.{◌≡◌, ◌∙◌, ◌<◌, ◌++◌, [], ℕ, List, Vec, Global, ap, arith, get_or, inl, inr, length, sym}
use Rattle.std.proofs.lemmas.List.{get_or-map, length-map}
use Rattle.std.proofs.lemmas.Result.{err_from_is_err_and}
use Rattle.csv_table.specs.Written.{text_of}
use Rattle.cwr_share.specs.Lines.{lines_of}
use Rattle.linked_works.specs.Rows.{names_by}
use Rattle.starting_files.specs.Tables.{rows_in}
use Rattle.starting_files.proofs.TableLemmas.{fault_at, table_more}
use Rattle.starting_files.proofs.making.table_of.Goals as goal

-- names, of which each is kept in a vector
module _ (vectors : List (Vec ℕ Global)) (names : List (List ℕ)) (are : names_by vectors ≡ names) (place : ℕ) (low : place < length vectors) where
  within : place < length names
  within = omega (arith, low, ap (λ (l : List (List ℕ)). length l) are, length-map vectors (λ (name : Vec ℕ Global). name.items))

  name_at : (vector : Vec ℕ Global) (name : List ℕ) → vector ≡ get_or vectors place vector → name ≡ vector.items → name ≡ get_or names place []
  name_at vector name here is =
      is
      ∙ (ap (λ (v : Vec ℕ Global). v.items) here
      ∙ (sym (get_or-map (λ (v : Vec ℕ Global). v.items) vectors place vector [] low) ∙ ap (λ (l : List (List ℕ)). get_or l place []) are))

pub returns-in_err-file-clause-fault : goal.returns-in_err-file-clause-fault
returns-in_err-file-clause-fault g c =
    let names = c.args.submitters.now in
    let place = c.loop-place.place in
    let low = within c.as_slice-names.result.now names c.as_slice-names.ensures.names place c.loop-place-test.true in
    let exit = err_from_is_err_and c.from_residual-in_err-file.result c.from_residual-in_err-file.ensures.1 in
    rw (exit.1, exit.2) (elim c.in_err-file.ensures.fault [
      | inl room ↦ inl room
      | inr refused ↦
          inr (fault_at (g.F.SubmitterFiles.holds c.args.files.now) (g.F.SubmitterFiles.refuses c.args.files.now) c.args.table names place c.loop-place.text.items c.in_err-file.field-0.0 low
          c.loop-place.invariant refused)
    ])

pub loop-place-preserved : goal.loop-place-preserved
loop-place-preserved g c =
    let names = c.args.submitters.now in
    let vectors = c.as_slice-names.result.now in
    let place = c.loop-place.place in
    let file = c.in_ok-file.file.items in
    let name = c.as_slice.result.now in
    let low = within vectors names c.as_slice-names.ensures.names place c.loop-place-test.true in
    let here = name_at vectors names c.as_slice-names.ensures.names place c.loop-place-test.true c.index-names-place.result name c.index-names-place.is c.as_slice.ensures.value in
    let added : c.add_rows.new.text.items ≡ c.loop-place.text.items ++ text_of (rows_in c.args.table name (lines_of file)) =
    rw c.as_slice-in-loop-place.ensures.value at c.in_ok-add_rows.ensures in
    table_more (g.F.SubmitterFiles.holds c.args.files.now) c.args.table names place name file c.loop-place.text.items c.add_rows.new.text.items low here c.loop-place.invariant
    c.in_ok-file.ensures.held c.in_ok-file.ensures.sound added
