use mir.Val.{SFits}
use Rattle.std.proofs.Common.{rules, ◌≡◌, ◌++◌, ◌∙◌, [], ℕ, ℤ, List, Option, ap, drop, flat_map, length, map, of_z, subst, sym, to_z, w64}
use Rattle.std.specs.Prelude.{unwrap_or}
use Rattle.std.proofs.lemmas.Int.{to_z-of_z}
use Rattle.std.proofs.lemmas.Result.{IfOk-weaker}
use Rattle.csv_table.specs.Written.{text_of, text_of_row}
use Rattle.cwr_share.specs.ClaimsOn.{claims_among, claims_by, claims_on, reason_against}
use Rattle.cwr_share.specs.Payees.{payee_of}
use Rattle.cwr_share.specs.Registrations.{ShareLine}
use Rattle.line_split.specs.UsageLine.{usage_line_of}
use Rattle.line_split.specs.declared.reason.Reason.{Reason}
use Rattle.linked_works.specs.Linked.{Link}
use Rattle.linked_works.specs.Rows.{link_shown}
use Rattle.linked_works.specs.declared.works.WorksRow.{WorksRow}
use Rattle.explain_line.specs.Explanation.{claim_row, division_rows, line_row}
use Rattle.explain_line.specs.LookedAt.{AreFiledBy}
use Rattle.explain_line.specs.Submitted.{claim_rows, file_by, link_rows, links_of, reason_row, submitted_rows}
use Rattle.explain_line.proofs.RowLemmas.{five_parts, text_append}
use Rattle.explain_line.proofs.submitted.submitted_explanation.Goals as goal

pub write_linked-requires : goal.write_linked-requires
write_linked-requires c = ap (λ (l : List _). length l) c.as_slice.ensures.value ∙ c.requires.all

pub returns : goal.returns
returns c = λ files links are found.
    let table = c.args.tis.now in
    let registered = c.args.found.now.registry in
    let line = usage_line_of c.args.line.now in
    let groups : List Link → List (List (List ℕ)) = flat_map (link_rows table registered line.territory line.right files) in
    let first : List ℕ = text_of_row (line_row c.args.row line) in
    let why : List ℕ = text_of_row (reason_row (reason_against table registered line)) in
    let works : List ℕ = text_of (groups (links_of links line.work)) in
    let claims : List ℕ = text_of (claim_rows table registered files links line) in
    let division : List ℕ = text_of (division_rows registered line.amount (claims_on table registered line)) in
    let land : c.in-Some.land ≡ line.territory = c.in-Some.ensures.some.0 in
    let handed : to_z w64 (of_z w64 line.amount) ≡ line.amount = let fits : SFits w64 line.amount = search rules in to_z-of_z w64 line.amount fits in
    let one : c.write_line.new.rows.text ≡ first = c.in_ok-write_line.ensures ∙ ap (λ (page : _). page.text ++ first) c.new-out.ensures in
    let two : c.write_reason.new.rows.text ≡ first ++ why =
    c.in_ok-write_reason.ensures ∙ (ap (λ (l : List ℕ). l ++ text_of_row (reason_row c.claims-reason.result)) one
    ∙ ap (λ (reason : Option Reason). first ++ text_of_row (reason_row reason)) c.claims-reason.ensures.reason) in
    let three : c.write_linked.new.rows.text ≡ (first ++ why) ++ works =
    (rw c.in_ok-write_linked.was at (c.write_linked.ensures files (subst (AreFiledBy (λ (row : WorksRow). file_by files row.name.now) c.args.rows.now) (sym c.as_slice.ensures.value) found.filed)))
    ∙ (ap (λ (l : ℕ). c.write_reason.new.rows.text ++ text_of (flat_map (link_rows table registered l line.right files) (map link_shown c.args.rows.now))) land
    ∙ (ap (λ (l : List Link). c.write_reason.new.rows.text ++ text_of (groups l)) are ∙ ap (λ (l : List ℕ). l ++ works) two)) in
    let four : c.write_claims.new.rows.text ≡ ((first ++ why) ++ works) ++ claims =
    c.in_ok-write_claims.ensures
    ∙ (ap (λ (l : ℕ). c.write_linked.new.rows.text ++ text_of (map (claim_row registered)
    (claims_among table l line.right (payee_of registered.payees) c.shares_of-shares.result.now (drop 1 registered.accounts)))) land
    ∙ (ap (λ (shares : List ShareLine). c.write_linked.new.rows.text ++ text_of (map (claim_row registered) (claims_by table registered line shares)))
    (c.shares_of-shares.ensures ∙ ap (λ (o : Option (List ShareLine)). unwrap_or o []) (found.linked line.work))
    ∙ ap (λ (l : List ℕ). l ++ claims) three)) in
    let five : c.write_division.new.rows.text ≡ (((first ++ why) ++ works) ++ claims) ++ division =
    c.in_ok-write_division.ensures
    ∙ (ap (λ (z : ℤ). c.write_claims.new.rows.text ++ text_of (division_rows registered z c.claims-reason.new.out.list)) handed
    ∙ (ap (λ (l : List (ℕ × ℕ)). c.write_claims.new.rows.text ++ text_of (division_rows registered line.amount l)) c.claims-reason.ensures.claims
    ∙ ap (λ (l : List ℕ). l ++ division) four)) in
    let whole : c.write_division.new.rows.text ≡ text_of (submitted_rows table registered files links c.args.row line) =
    five ∙ (five_parts first why works claims division ∙ ap (λ (l : List ℕ). first ++ (why ++ l))
    (sym (text_append (groups (links_of links line.work)) _ ∙ ap (λ (l : List ℕ). works ++ l) (text_append (claim_rows table registered files links line) _)))) in
    IfOk-weaker c.into_text.result _ _ (λ text is. is ∙ whole) c.into_text.ensures.text
