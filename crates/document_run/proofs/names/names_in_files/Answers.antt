use Rattle.std.proofs.Common.{◌≡◌, ◌∙◌, ◌<◌, [], ℕ, List, Option, Vec, Global, ap, arith, get_or, length, map, refl, subst, sym, take, zip}
use Rattle.std.proofs.lemmas.List.{get_or-map, length-map}
use Rattle.std.specs.Prelude.{IfSome}
use Rattle.cwr_share.specs.Lines.{lines_of}
use Rattle.document_names.specs.Payees.{named_by}
use Rattle.document_run.specs.Names.{items_of}
use Rattle.document_run.proofs.NameLemmas.{as_many, by_one_more, name_by_none, zip_of_items}
use Rattle.document_run.proofs.names.names_in_files.Goals as goal

pub loop-place-init : goal.loop-place-init
loop-place-init g c =
    let accounts : List (List ℕ) = map (λ (account : Vec ℕ Global). account.items) c.args.accounts.now in
    let same : length (items_of c.args.names) ≡ length accounts =
    length-map c.args.names.items (λ (text : Vec ℕ Global). text.items) ∙ c.requires ∙ sym (length-map c.args.accounts.now (λ (account : Vec ℕ Global). account.items)) in
    record { files = []; held = record { all = refl; each = λ k low. absurd (omega (arith, low)) }; names_are = sym (name_by_none accounts (items_of c.args.names) same) }

pub with_names_in_file-requires : goal.with_names_in_file-requires
with_names_in_file-requires g c =
    let accounts : List (List ℕ) = map (λ (account : Vec ℕ Global). account.items) c.args.accounts.now in
    let own = length-map c.args.accounts.now (λ (account : Vec ℕ Global). account.items) in
    let same : length (items_of c.args.names) ≡ length accounts = length-map c.args.names.items (λ (text : Vec ℕ Global). text.items) ∙ c.requires ∙ sym own in
    let was = c.loop-place.invariant in
    ap length c.as_slice-in-loop-place-2.ensures.value
    ∙ as_many (take c.loop-place.place c.args.submitters.now) was.files accounts (items_of c.args.names) c.loop-place.names was.names_are same ∙ own

pub loop-place-preserved : goal.loop-place-preserved
loop-place-preserved g c =
    let accounts : List (List ℕ) = map (λ (account : Vec ℕ Global). account.items) c.args.accounts.now in
    let was = c.loop-place.invariant in
    let place = c.loop-place.place in
    let list : List (Vec ℕ Global) = c.as_slice-list.result.now in
    let long : length c.args.submitters.now ≡ length list = ap length (sym c.as_slice-list.ensures.names) ∙ length-map list (λ (name : Vec ℕ Global). name.items) in
    let below : place < length list = omega (arith, c.loop-place-test.true) in
    let name : get_or c.args.submitters.now place [] ≡ c.as_slice.result.now =
    ap (λ (names : List (List ℕ)). get_or names place []) (sym c.as_slice-list.ensures.names)
    ∙ (get_or-map (λ (name : Vec ℕ Global). name.items) list place c.index-list-place.result [] below
    ∙ (ap (λ (name : Vec ℕ Global). name.items) (sym c.index-list-place.is) ∙ sym c.as_slice.ensures.value)) in
    let held = subst (λ (found : Option (Vec ℕ Global)). IfSome found (λ bytes. g.S.SubmitterFiles.holds c.args.files.now place bytes.items)) c.in-Some.is c.in_ok-file.ensures.bytes in
    let made = rw (sym name, c.as_slice-in-loop-place.ensures.value, c.as_slice-in-loop-place-2.ensures.value) at c.in_ok-names.ensures in
    by_one_more (g.S.SubmitterFiles.holds c.args.files.now) c.args.submitters.now place c.in-Some.file.items accounts (items_of c.args.names) (items_of c.loop-place.names)
    (items_of c.in_ok-names.names) was (omega (arith, below, long)) held
    (made ∙ sym (zip_of_items (named_by (get_or c.args.submitters.now place []) (lines_of c.in-Some.file.items)) c.args.accounts.now c.loop-place.names.items))
