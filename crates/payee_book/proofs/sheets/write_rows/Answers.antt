use Rattle.std.proofs.Common.{◌≡◌, ◌∙◌, ◌<◌, ◌++◌, ◌+◌, ◌-◌, ℕ, [], Vec, Global, append-nil, append_assoc, get_or, drop, length, map, ap, refl, sym, arith}
use Rattle.std.specs.Prelude.{flat_map}
use Rattle.std.proofs.lemmas.List.{get_or-map, length-append, length-map}
use Rattle.csv_table.specs.Written.{text_of}
use Rattle.payee_book.specs.Text.{payee_rows, payees_rows}
use Rattle.payee_book.specs.Waves.{between}
use Rattle.payee_book.proofs.PartLemmas.{between_none, reached, share_joined}
use Rattle.payee_book.proofs.TextLemmas.{accounts, first_rows, first_rows_all, first_rows_more, rows_after, rows_for}
use Rattle.payee_book.proofs.sheets.write_rows.Goals as goal

pub overflow_add-after : goal.overflow_add-after
overflow_add-after c = omega (arith, c.loop-account.invariant.small, c.row_count.ensures.bound)

pub loop-account-init : goal.loop-account-init
loop-account-init c =
    let all = payees_rows c.args.book.now c.args.usage.now (map (λ (party : Vec ℕ Global). party.items) c.args.parties.now) in
    let start = c.args.rows.now.text in
    record {
      before = refl;
      small = omega arith;
      rows = sym (ap (λ l. start ++ text_of l) (between_none all c.args.from (reached c.args.from c.args.end 0) (omega arith)) ∙ append-nil start);
    }

pub loop-account-preserved : goal.loop-account-preserved
loop-account-preserved c =
    let book = c.args.book.now in
    let usage = c.args.usage.now in
    let names = map (λ (party : Vec ℕ Global). party.items) c.args.parties.now in
    let account = c.loop-account.account in
    let party = c.as_slice-party.result.now in
    let statement = c.lines-statement.result.now in
    let size = c.loop-account.before in
    let count = c.row_count.result in
    let was = c.loop-account.invariant in
    let before = first_rows usage names book (account - 1) in
    let rows = payee_rows usage party statement in
    let rest = flat_map (rows_for usage names book) (drop (account + 1 - 1) (accounts usage names book)) in
    let all = payees_rows book usage names in
    let first = c.min.result - size in
    let last = c.min-in-loop-account.result - size in
    let start = c.args.rows.now.text in
    let within : account < length c.args.parties.now = omega (arith, c.requires.payees.named, length-map c.args.parties.now (λ (party : Vec ℕ Global). party.items)) in
    let whose : get_or names account [] ≡ party =
    get_or-map (λ (party : Vec ℕ Global). party.items) c.args.parties.now account c.index-parties-account.result [] within
    ∙ (ap (λ (party : Vec ℕ Global). party.items) (sym c.index-parties-account.is) ∙ sym c.as_slice-party.ensures.value) in
    let more : before ++ rows ≡ first_rows usage names book (account + 1 - 1) =
    first_rows_more usage names book account party statement (omega arith) (omega (arith, c.requires.payees.named)) (omega arith) whose (sym c.lines-statement.ensures.postings) in
    let counted = c.row_count.ensures.count usage party in
    let whole : all ≡ (before ++ rows) ++ rest = rows_after usage names book (account + 1 - 1) ∙ ap (λ l. l ++ rest) (sym more) in
    record {
      before = omega (arith, was.before, counted, length-append before rows, ap length more);
      small = omega (arith, was.small, c.row_count.ensures.bound);
      rows =
          c.in_ok-write_part.ensures
          ∙ (ap (λ l. l ++ text_of (between first last rows)) was.rows
          ∙ (append_assoc start (text_of (between c.args.from (reached c.args.from c.args.end size) all)) (text_of (between first last rows))
          ∙ ap (λ l. start ++ l)
          (share_joined all before rows rest c.args.from c.args.end first last size count whole c.requires.order was.before counted
          (omega (arith, c.max.ensures, c.min.ensures)) (omega (arith, c.max-in-loop-account.ensures, c.min-in-loop-account.ensures)))));
    }

pub returns : goal.returns
returns c =
    let book = c.args.book.now in
    let usage = c.args.usage.now in
    let names = map (λ (party : Vec ℕ Global). party.items) c.args.parties.now in
    let all = payees_rows book usage names in
    let was = c.loop-account.invariant in
    let gone : c.loop-account.before ≡ length all = was.before ∙ ap length (first_rows_all usage names book c.loop-account.account (omega arith)) in
    let end : reached c.args.from c.args.end c.loop-account.before ≡ c.args.end = omega (arith, gone, c.requires.within, c.requires.order) in
    was.rows ∙ ap (λ (n : ℕ). c.args.rows.now.text ++ text_of (between c.args.from n all)) end
