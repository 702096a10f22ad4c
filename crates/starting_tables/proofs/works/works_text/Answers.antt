use Rattle.std.proofs.Common.{◌≡◌, ◌∙◌, ℕ, Bool, List, ap, cond, nat_eq, not, take, true}
use Rattle.std.specs.Cmp.Lexicographic.{pointwise}
use Rattle.std.specs.List.{list_any}
use Rattle.starting_tables.specs.Works.{has_iswc, iswc_of}
use Rattle.starting_tables.proofs.WorksLemmas.{seen_more, text_more}
use Rattle.starting_tables.proofs.works.works_text.Goals as goal

pub loop-registration-preserved : goal.loop-registration-preserved
loop-registration-preserved c =
    let registrations = c.args.registrations.now in
    let i = c.loop-registration.registration-index in
    let registration = c.registration-item.result in
    let seen = c.loop-registration.seen.keys in
    let before = c.loop-registration.invariant in
    let key : c.in_ok-iswc.iswc ≡ iswc_of registration = c.in_ok-iswc.ensures ∙ c.iswc.ensures in
    let known : list_any (pointwise nat_eq c.in_ok-iswc.iswc) seen ≡ has_iswc (take i registrations) (iswc_of registration) =
    ap (λ (k : List ℕ). list_any (pointwise nat_eq k) seen) key ∙ before.seen (iswc_of registration) in
    let first : c.in_ok-is_first.is_first ≡ not (has_iswc (take i registrations) (iswc_of registration)) =
    c.in_ok-is_first.ensures.added ∙ ap (λ (b : Bool). not b) known in record {
      text = text_more c.args.submitter.now registrations i registration c.in_ok-is_first.is_first c.loop-registration.rows.text c.add_row.new.rows.text
          c.loop-registration-test.true c.registration-item.is before.text first c.in_ok-add_row.ensures;
      seen = seen_more registrations i registration seen c.insert.new.self.keys c.loop-registration-test.true c.registration-item.is before.seen
          (λ iswc. c.in_ok-is_first.ensures.updates.0 iswc ∙ ap (λ (k : List ℕ). cond (pointwise nat_eq k iswc) true (list_any (pointwise nat_eq iswc) seen)) key);
    }
