use Rattle.std.proofs.Common.{rules, ◌≡◌, ◌∙◌, Contains, inr, true, false, sym, subst, List, ℕ}
use Rattle.std.proofs.lemmas.Bool.{false≢true}
use Rattle.linked_works.specs.Submitters.{IsSubmitter}
use Rattle.royalty_program.specs.NamedFiles.{name_in}
use Rattle.royalty_program.proofs.named_files.NamedFiles.add.Goals as goal

pub returns-then-not-branch-clause-refused : goal.returns-then-not-branch-clause-refused
returns-then-not-branch-clause-refused c = λ refused. inr (λ both.
    let is : name_in c.args.value.now ≡ c.as_bytes.result.now = search rules in
    let not_added : c.in_ok-add.field-0 ≡ false = search rules in
    let added : c.in_ok-add.field-0 ≡ true = c.in_ok-add.ensures.added.1 (subst (λ (name : List ℕ). IsSubmitter name × (¬ Contains c.args.self.now.names name)) is both) in
    false≢true (sym not_added ∙ added))
