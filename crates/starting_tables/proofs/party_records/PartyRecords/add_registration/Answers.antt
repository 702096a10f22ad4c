use Rattle.std.proofs.Common.{rules, ◌≡◌, ◌∙◌, ◌++◌, ℕ, List, ap, subst, sym, true}
use Rattle.cwr_share.specs.Filed.{body_of}
use Rattle.cwr_share.specs.Records.{ends_registration, is_share_line}
use Rattle.starting_tables.specs.InForce.{Registration}
use Rattle.starting_tables.specs.Records.{AreRecordsOf}
use Rattle.starting_tables.proofs.PartyLemmas.{read_all, read_other, read_record, read_share, read_to_end}
use Rattle.starting_tables.proofs.party_records.PartyRecords.add_registration.Goals as goal

pub loop-line-preserved-in-Continue-1 : goal.loop-line-preserved-in-Continue-1
loop-line-preserved-in-Continue-1 c =
    read_record c.of-lines.result c.next.new.self c.in-Some.line.now c.args.self.now c.loop-line.self c.add_record.new.self
    (rw c.in-Some.ensures.some at c.loop-line.invariant) (sym c.record_type_of.ensures ∙ c.in-Interest.is) c.in_ok-add_record-in-Interest.ensures

pub loop-line-preserved-in-Continue-branch-2 : goal.loop-line-preserved-in-Continue-branch-2
loop-line-preserved-in-Continue-branch-2 c =
    let share : is_share_line c.in-Some.line.now ≡ true = search rules in
    read_share c.of-lines.result c.next.new.self c.in-Some.line.now c.args.self.now c.loop-line.self c.add_share.new.self
    (rw c.in-Some.ensures.some at c.loop-line.invariant) share c.in_ok-add_share-in-PublisherShare.ensures

pub loop-line-preserved : goal.loop-line-preserved
loop-line-preserved c =
    read_other c.of-lines.result c.next.new.self c.in-Some.line.now c.args.self.now c.loop-line.self
    (rw c.in-Some.ensures.some at c.loop-line.invariant) (sym c.record_type_of.ensures ∙ c.in-Other.is)

pub returns-in-Registration : goal.returns-in-Registration
returns-in-Registration c =
    let ends : ends_registration c.in-Some.line.now ≡ true = search rules in
    let body : body_of c.of-lines.result ≡ c.args.registration.now.body = ap body_of c.of-lines.ensures ∙ ap (λ (r : Registration). r.body) c.registration.view_is in
    subst (λ (l : List (List ℕ)). (lines : List (List ℕ)) → AreRecordsOf lines c.args.self.now → AreRecordsOf (lines ++ l) c.loop-line.self) body
    (read_to_end c.of-lines.result c.next.new.self c.in-Some.line.now c.args.self.now c.loop-line.self (rw c.in-Some.ensures.some at c.loop-line.invariant) ends)

pub returns-in_default : goal.returns-in_default
returns-in_default c =
    let body : body_of c.of-lines.result ≡ c.args.registration.now.body = ap body_of c.of-lines.ensures ∙ ap (λ (r : Registration). r.body) c.registration.view_is in
    subst (λ (l : List (List ℕ)). (lines : List (List ℕ)) → AreRecordsOf lines c.args.self.now → AreRecordsOf (lines ++ l) c.loop-line.self) body
    (read_all c.of-lines.result c.args.self.now c.loop-line.self (rw c.in_default.ensures.none.0 at c.loop-line.invariant))
