use Rattle.std.proofs.Common.{◌≡◌, ◌∙◌, ◌<◌, ℕ, List, length, refl, subst, sym}
use Rattle.indexmap.proofs.CallerLemmas.{insert_entry-new}
use Rattle.indexmap.specs.IndexMap.{insert_entry}
use Rattle.std.specs.Prelude.{nat_eq}
use Rattle.std.specs.Cmp.Lexicographic.{pointwise}
use Rattle.cwr_share.specs.Payees.{AreNames, HasRow, IsName}
use Rattle.cwr_share.proofs.PayeeLemmas.{names_inserted, none_if_no_row}
use Rattle.cwr_share.proofs.payees.Payees.add.Goals as goal

-- the table keeps names, whether the party had a row or not
put_in : (payees grown : List (List ℕ × List ℕ)) (party payee : List ℕ) → grown ≡ insert_entry (pointwise nat_eq) payees party payee
    → 0 < length party → IsName payee → AreNames payees → AreNames grown
put_in payees grown party payee is of to names = subst AreNames (sym is) (names_inserted payees party payee of to names)

pub invariant_of-self-2 : goal.invariant_of-self-2
invariant_of-self-2 c =
    put_in c.self.inside.rows.entries c.insert.new.self.entries c.in_ok-party.party c.in_ok-payee.payee c.in_ok-insert.ensures.entries
    (subst (λ (text : List ℕ). 0 < length text) (sym c.in_ok-party.ensures) c.requires.party) (subst IsName (sym c.in_ok-payee.ensures) c.requires.payee) c.self.invariant

pub returns : goal.returns
returns c =
    let none = none_if_no_row c.self.inside.rows.entries c.in_ok-party.party
    (subst (λ (text : List ℕ). ¬ HasRow c.self.inside.rows.entries text) (sym c.in_ok-party.ensures) (subst (λ (payees : List (List ℕ × List ℕ)). ¬ HasRow payees c.args.party.now) (sym c.self.view_is) c.requires.new)) in
    let new = insert_entry-new (pointwise nat_eq) c.self.inside.rows c.in_ok-party.party c.in_ok-payee.payee none in
    c.in_ok-insert.ensures.entries ∙ new ∙ rw (c.self.view_is, c.in_ok-party.ensures, c.in_ok-payee.ensures) refl
