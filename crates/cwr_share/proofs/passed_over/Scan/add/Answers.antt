use Rattle.std.proofs.Common.{◌≡◌, ◌∙◌, ◌+◌, ◌++◌, ◌∷◌, [], ℕ, Bool, List, ap, arith, cond, subst, sym}
use Rattle.std.specs.Prelude.{◌&&◌}
use Rattle.std.proofs.lemmas.List.{length_push}
use Rattle.cwr_share.specs.PassedOver.{IsTallyOf, is_open_after, is_unknown_share, unknown_lines}
use Rattle.cwr_share.specs.Records.{ends_registration, opens_registration}
use Rattle.cwr_share.proofs.PassedOverLemmas.{numbers_no, numbers_yes, open_push, stands_where_open, tally_few}
use Rattle.cwr_share.proofs.passed_over.Scan.add.Goals.{then-self, else-self}
use Rattle.cwr_share.proofs.passed_over.Scan.add.Goals as goal

-- what is counted, in a table of territories
abbrev counts : List (ℕ × List ℕ) → List (List ℕ) → List ℕ → Bool
counts table lines line = is_open_after lines && is_unknown_share table line

pub is_of_unknown_territory-is_unknown-requires : goal.is_of_unknown_territory-is_unknown-requires
is_of_unknown_territory-is_unknown-requires c share =
    let (lines, scan_of, sound) = c.requires.sound in
    let (body, stands) = stands_where_open lines (sym scan_of.stands ∙ c.if-self.true) in
    (sound.share body stands share).land

pub add-requires : goal.add-requires
add-requires c =
    let (lines, scan_of, sound) = c.requires.sound in
    omega (arith, tally_few (counts c.args.table.now) lines c.args.self.now.tally scan_of.tally, scan_of.number, c.requires.few)

pub returns-then-is_unknown : goal.returns-then-is_unknown
returns-then-is_unknown c lines scan_of =
    let table = c.args.table.now in
    let line = c.args.line.now in
    let numbers = unknown_lines table lines in
    let is : c.if-self.is_unknown ≡ counts table lines line = elim c.if-self.branch [
      | then-self w ↦ w.is_unknown-is ∙ (w.is_of_unknown_territory-is_unknown.ensures ∙ ap (λ (b : Bool). b && is_unknown_share table line) (sym w.if-self.true ∙ scan_of.stands))
      | else-self w ↦ w.is_unknown-is ∙ (w.if-self.false ∙ ap (λ (b : Bool). b && is_unknown_share table line) (sym w.if-self.false ∙ scan_of.stands))
    ] in
    let more = numbers_yes (counts table) lines line (sym is ∙ c.if-is_unknown.true) ∙ ap (λ (n : ℕ). numbers ++ (n + 1) ∷ []) (sym scan_of.number) in
    record {
      number = omega (arith, scan_of.number, length_push lines line);
      stands = c.is_open_behind-self.ensures ∙ (ap (λ (b : Bool). cond (ends_registration line) (opens_registration line) b) scan_of.stands ∙ sym (open_push lines line));
      tally = subst (λ (n : List ℕ). IsTallyOf n c.add.new.self) (sym more) (c.add.ensures numbers scan_of.tally);
    }

pub returns-else-is_unknown : goal.returns-else-is_unknown
returns-else-is_unknown c lines scan_of =
    let table = c.args.table.now in
    let line = c.args.line.now in
    let is : c.if-self.is_unknown ≡ counts table lines line = elim c.if-self.branch [
      | then-self w ↦ w.is_unknown-is ∙ (w.is_of_unknown_territory-is_unknown.ensures ∙ ap (λ (b : Bool). b && is_unknown_share table line) (sym w.if-self.true ∙ scan_of.stands))
      | else-self w ↦ w.is_unknown-is ∙ (w.if-self.false ∙ ap (λ (b : Bool). b && is_unknown_share table line) (sym w.if-self.false ∙ scan_of.stands))
    ] in
    record {
      number = omega (arith, scan_of.number, length_push lines line);
      stands = c.is_open_behind-self.ensures ∙ (ap (λ (b : Bool). cond (ends_registration line) (opens_registration line) b) scan_of.stands ∙ sym (open_push lines line));
      tally = subst (λ (n : List ℕ). IsTallyOf n c.args.self.now.tally) (sym (numbers_no (counts table) lines line (sym is ∙ c.if-is_unknown.false))) scan_of.tally;
    }
