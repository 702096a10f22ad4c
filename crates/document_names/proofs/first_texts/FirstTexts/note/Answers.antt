use Rattle.std.proofs.Common.{◌≡◌, ◌∙◌, ◌++◌, ◌∷◌, [], ℕ, List, refl, subst, sym}
use Rattle.std.specs.Prelude.{nat_eq, None}
use Rattle.std.specs.Map.{lookup}
use Rattle.std.specs.Cmp.Lexicographic.{pointwise}
use Rattle.cwr_share.proofs.PayeeLemmas.{none_if_not}
use Rattle.indexmap.proofs.CallerLemmas.{insert_entry-new}
use Rattle.document_names.specs.FirstTexts.{AreFirstTexts}
use Rattle.document_names.proofs.FirstLemmas.{none_by, noted_again, noted_blank, noted_new, some_by}
use Rattle.document_names.proofs.first_texts.FirstTexts.note.Goals as goal

pub returns-then-is_empty : goal.returns-then-is_empty
returns-then-is_empty c noted are =
    noted_blank noted c.args.self.now c.args.key.now c.args.text.now (none_by c.args.text.now (sym c.is_empty.ensures ∙ c.if-is_empty.true)) are

pub returns-then-contains_key : goal.returns-then-contains_key
returns-then-contains_key c noted are =
    noted_again noted c.args.self.now c.args.key.now c.args.text.now
    (rw (← c.self.view_is) (sym c.contains_key.ensures ∙ c.if-contains_key.true)) are

pub returns : goal.returns
returns c noted are =
    let kept = c.self.inside.texts.entries in
    let key = c.in_ok-of.field-0 in
    let none = none_if_not (lookup (λ other. pointwise nat_eq c.args.key.now other) kept) (sym c.if-contains_key.false ∙ c.contains_key.ensures) in
    let absent : lookup (λ other. pointwise nat_eq key other) kept ≡ None =
    subst (λ (k : List ℕ). lookup (λ other. pointwise nat_eq k other) kept ≡ None) (sym c.in_ok-of.ensures) none in
    let more = c.in_ok-insert.ensures.entries ∙ insert_entry-new (pointwise nat_eq) c.self.inside.texts key c.in_ok-of-2.field-0 absent in
    let grown : c.insert-2.new.self.entries ≡ c.args.self.now ++ (c.args.key.now, c.args.text.now) ∷ [] =
    more ∙ rw (c.self.view_is, c.in_ok-of.ensures, c.in_ok-of-2.ensures) refl in
    subst (AreFirstTexts (noted ++ (c.args.key.now, c.args.text.now) ∷ [])) (sym grown)
    (noted_new noted c.args.self.now c.args.key.now c.args.text.now
    (some_by c.args.text.now (sym c.is_empty.ensures ∙ c.if-is_empty.false))
    (rw (← c.self.view_is) (sym c.contains_key.ensures ∙ c.if-contains_key.false)) are)
