use Rattle.std.proofs.Common.{◌≡◌, ◌∙◌, ◌-◌, ◌∷◌, ◌++◌, [], List, ap, append-nil, append_assoc, drop, map, sym, take}
use Rattle.std.proofs.lemmas.List.{map_push}
use Rattle.std.proofs.lemmas.List.Elements.{All-push}
use Rattle.payee_portions.specs.Money.{IsSection, section_shown}
use Rattle.payee_portions.specs.Portions.{Portion}
use Rattle.payee_portions.specs.Sections.{sections_of}
use Rattle.payee_portions.specs.Shown.{portions_shown}
use Rattle.payee_portions.proofs.SectionsLeft.{next_section, none_left}
use Rattle.payee_portions.proofs.money.sections_in_turn.Goals as goal

pub loop-from-preserved : goal.loop-from-preserved
loop-from-preserved c =
    let list = c.args.list.now in
    let from = c.loop-from.from in
    let end = c.end_of_section-end.result in
    let before = c.loop-from.found.items in
    let section = c.section_of.result in
    let shown : section_shown section ≡ portions_shown (take (end - from) (drop from list)) = ap portions_shown c.section_of.ensures.portions in
    let behind = sections_of (portions_shown (drop end list)) in record {
      left =
          rw c.in_ok-push.ensures.items
          (ap (λ (l : List (List Portion)). l ++ behind) (map_push section_shown before section)
          ∙ (append_assoc (map section_shown before) (section_shown section ∷ []) behind
          ∙ (ap (λ (l : List (List Portion)). map section_shown before ++ l)
          (ap (λ (first : List Portion). first ∷ behind) shown ∙ sym (next_section list from end c.loop-from-test.true c.end_of_section-end.ensures.end))
          ∙ c.loop-from.invariant.left)));
      sound = rw c.in_ok-push.ensures.items (All-push IsSection before section c.loop-from.invariant.sound c.section_of.ensures.sound);
      within = c.end_of_section-end.ensures.within;
    }

pub returns-clause-sections : goal.returns-clause-sections
returns-clause-sections c =
    let found = map section_shown c.loop-from.found.items in
    sym (append-nil found)
    ∙ (ap (λ (l : List (List Portion)). found ++ l) (sym (none_left c.args.list.now c.loop-from.from c.loop-from-test.false)) ∙ c.loop-from.invariant.left)
