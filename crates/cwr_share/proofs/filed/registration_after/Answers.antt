use Rattle.std.proofs.Common.{◌≡◌, ◌++◌, ◌∷◌, ◌∙◌, ℕ, List, [], false, ap, append_assoc, sym}
use Rattle.std.proofs.lemmas.List.Elements.{All-push}
use Rattle.cwr_share.specs.Lines.{lines_of}
use Rattle.cwr_share.specs.Records.{ends_registration}
use Rattle.cwr_share.specs.declared.filed.FiledRegistration.{FiledRegistration}
use Rattle.cwr_share.specs.declared.filed.Filing.{Filing}
use Rattle.cwr_share.proofs.FiledLemmas.{IsWhole, body_all, body_ends, filed_whole}
use Rattle.cwr_share.proofs.filed.registration_after.Goals.{Joined-next, in-Some+in_ok-add+then-not-branch, in_default}
use Rattle.cwr_share.proofs.filed.registration_after.Goals as goal

pub loop-line-preserved : goal.loop-line-preserved
loop-line-preserved c =
    let before = c.loop-line.invariant.reading in
    let line = c.in-Some.line.now in
    let on = c.in_ok-add.ensures.on c.if-not-branch.false in record {
      reading = record {
        body = before.body ++ line ∷ [];
        split = before.split ∙ (ap (λ (l : List (List ℕ)). before.body ++ l) c.in-Some.ensures.some ∙ sym (append_assoc before.body (line ∷ []) c.next.new.self));
        stays = All-push (λ other. ends_registration other ≡ false) before.body line before.stays on.0;
        filed = on.2 before.body before.filed;
        same = on.1 ∙ before.same;
      };
      few = c.in_ok-add.ensures.shares;
    }

-- the registration ends before a line, or with the file
is_whole : (c : Joined-next) → IsWhole (lines_of c.args.after.now) c.args.line c.match-next.filing
is_whole c =
    let all = lines_of c.args.after.now in
    let before = c.loop-line.invariant.reading in
    elim c.match-next.branch [
      | in-Some+in_ok-add+then-not-branch w ↦
          let (ends, same) = w.in_ok-add.ensures.end w.if-not-branch.true in
          let split = before.split ∙ ap (λ (l : List (List ℕ)). before.body ++ l) w.in-Some.ensures.some in
          let whole = filed_whole all c.loop-line.lines c.args.line c.loop-line.filing before (body_ends all before.body w.in-Some.line.now c.next.new.self split before.stays ends) in
          let filed : c.match-next.filing.filed ≡ c.loop-line.filing.filed = ap (λ (f : Filing). f.filed) w.filing-is ∙ same in record {
            shares = ap (λ (f : FiledRegistration). f.shares.items) filed ∙ whole.shares;
            numbers = ap (λ (f : FiledRegistration). f.numbers.items) filed ∙ whole.numbers;
          }
      | in_default w ↦
          let split = before.split ∙ ap (λ (l : List (List ℕ)). before.body ++ l) w.in_default.ensures.none.0 in
          let whole = filed_whole all c.loop-line.lines c.args.line c.loop-line.filing before (body_all all before.body split before.stays) in
          let filed : c.match-next.filing.filed ≡ c.loop-line.filing.filed = ap (λ (f : Filing). f.filed) w.filing-is in record {
            shares = ap (λ (f : FiledRegistration). f.shares.items) filed ∙ whole.shares;
            numbers = ap (λ (f : FiledRegistration). f.numbers.items) filed ∙ whole.numbers;
          }
    ]

pub returns-clause-shares : goal.returns-clause-shares
returns-clause-shares c = (is_whole c).shares

pub returns-clause-numbers : goal.returns-clause-numbers
returns-clause-numbers c = (is_whole c).numbers
