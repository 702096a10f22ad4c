use Rattle.std.proofs.Common.{◌≡◌, ◌∙◌, ◌++◌, ◌∷◌, [], ℕ, ℤ, List, ap, append-nil, codes, refl, rules, sym, w64}
use Rattle.std.proofs.lemmas.Int.{to_z-of_z}
use Rattle.std.proofs.lemmas.Result.{IfOk-equal}
use mir.Syntax.{w128}
use Rattle.line_split.specs.declared.reason.Reason.{Reason}
use Rattle.line_split.specs.declared.reason.Reason.TheVariants.{Work, Land, Over, Open}
use Rattle.page_parts.specs.Pieces.{all_of}
use Rattle.page_text.specs.Figures.{amount_text, size_text}
use Rattle.payee_portions.specs.Portions.{Portion}
use Rattle.payee_portions.specs.Shown.{portion_shown}
use Rattle.page_parts.proofs.Chains.{behind}
use Rattle.residue_documents.specs.Tables.{figures_text}
use Rattle.residue_documents.proofs.tables.add_figures.Goals as goal
use Rattle.residue_documents.proofs.tables.add_figures.Goals.{in-Open+in_ok-add, in_default}

-- what only a line has of which nobody claims a share
abbrev open_text : (decimals : ℕ) → Reason → Portion → List ℕ
open_text decimals Open portion = all_of (
    codes "<td>" ∷ amount_text decimals portion.line.amount ∷ codes "</td><td>" ∷ size_text 2 portion.share
    ∷ codes "</td>" ∷ [])
open_text decimals _ portion = []

-- what each line has
abbrev held_text : (decimals : ℕ) → ℤ → List ℕ
held_text decimals amount = all_of (codes "<td>" ∷ amount_text decimals amount ∷ codes "</td></tr>\n" ∷ [])

figures_are : (decimals : ℕ) (reason : Reason) (portion : Portion) → open_text decimals reason portion ++ held_text decimals portion.amount ≡ figures_text decimals reason portion
figures_are decimals Work portion = refl
figures_are decimals Land portion = refl
figures_are decimals Over portion = refl
figures_are decimals Open portion = refl

none_open : (decimals : ℕ) (reason : Reason) (portion : Portion) → (reason ≡ Open → ⊥) → open_text decimals reason portion ≡ []
none_open decimals Work portion other = refl
none_open decimals Land portion other = refl
none_open decimals Over portion other = refl
none_open decimals Open portion other = absurd (other refl)

pub returns : goal.returns
returns c =
    let decimals = c.args.decimals in
    let page = c.args.page.now.items in
    let portion = portion_shown c.args.portion.now in
    let opened : c.match-reason.page.items ≡ page ++ open_text decimals c.args.reason portion =
    elim c.match-reason.branch [
      | in-Open+in_ok-add w ↦
          let used = to_z-of_z w128 w.from.result (search rules) ∙ (w.from.ensures ∙ to_z-of_z w64 c.args.portion.now.line.amount (search rules)) in
          rw w.page-is ((rw used at w.in_ok-add.ensures) ∙ ap (λ (reason : Reason). page ++ open_text decimals reason portion) (sym w.in-Open.is))
      | in_default w ↦ rw w.page-is
          (sym (append-nil page) ∙ ap (λ (text : List ℕ). page ++ text) (sym (none_open decimals c.args.reason portion w.in_default.not-Open)))
    ] in
    let held = to_z-of_z w128 c.from-2.result (search rules) ∙ (c.from-2.ensures ∙ to_z-of_z w64 c.args.portion.now.amount (search rules)) in
    IfOk-equal c.add-2.result _ _ _ c.add-2.ensures
    (ap (λ (amount : ℤ). c.match-reason.page.items ++ held_text decimals amount) held
    ∙ (behind page _ opened _ ∙ ap (λ (text : List ℕ). page ++ text) (figures_are decimals c.args.reason portion)))
