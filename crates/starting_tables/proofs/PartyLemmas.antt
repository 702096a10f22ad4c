-- The records of parties, line after line.
use Rattle.std.proofs.Common.{◌≡◌, ◌∙◌, ◌+◌, ◌<◌, ◌∷◌, ◌++◌, ◌&&◌, [], ℕ, All, Bool, Global, List, None, Option, Some, Vec, true, false, cond, ap, append_assoc, get_or, length, map, nat_eq, refl, subst, sym, take, arith}
use Rattle.std.specs.Prelude.{filter, find, fold}
use Rattle.std.specs.BTreeSet.{insert_key}
use Rattle.std.specs.Borrow.{Bor}
use Rattle.std.specs.Cmp.Lexicographic.{pointwise, slice_cmp}
use Rattle.std.specs.Ordering.{match_ordering, nat_cmp}
use Rattle.std.specs.declared.cmp.Ordering.{Ordering}
use Rattle.std.specs.declared.cmp.Ordering.TheVariants.{Less, Equal, Greater}
use Rattle.std.proofs.lemmas.Bool.{false≢true}
use Rattle.std.proofs.lemmas.Grind.{flat_map-append}
use Rattle.std.proofs.lemmas.List.{append-nil, map_push, reverse-append, take_more}
use Rattle.std.proofs.lemmas.List.Elements.{All-push, filter-append}
use Rattle.std.proofs.lemmas.List.Sums.{fold_push}
use Rattle.indexmap.specs.IndexMap.{IndexMap}
use Rattle.cwr_share.specs.Filed.{body_of}
use Rattle.cwr_share.specs.Records.{ends_registration, is_share_line, opens_interest, type_of}
use Rattle.cwr_share.specs.declared.record_type.RecordType.TheVariants.{Interest, PublisherShare, WriterShare, Other}
use Rattle.cwr_share.proofs.FileLemmas.{share_stays}
use Rattle.cwr_share.proofs.FiledLemmas.{body_all, body_ends}
use Rattle.starting_tables.specs.InForce as in_force
use Rattle.starting_tables.specs.InForce.{bodies_of}
use Rattle.starting_tables.specs.Parties.{has_ipi, has_name, last_record, parties_of, party_row, record_number, rows_of_parties, share_party}
use Rattle.starting_tables.specs.Records.{AreRecordsOf, line_for}
use Rattle.starting_tables.specs.declared.party_records.PartyRecords.{PartyRecords}

-- Parties

abbrev insert_party : List (List ℕ) → List ℕ → List (List ℕ)
insert_party = insert_key (slice_cmp nat_cmp)

parties_push : (lines : List (List ℕ)) (line : List ℕ)
    → parties_of (lines ++ line ∷ []) ≡ fold insert_party [] (map share_party (filter is_share_line lines ++ filter is_share_line (line ∷ [])))
parties_push lines line = ap (λ (l : List (List ℕ)). fold insert_party [] (map share_party l)) (filter-append is_share_line lines (line ∷ []))

-- one share line more
parties_yes : (lines : List (List ℕ)) (line : List ℕ) → is_share_line line ≡ true → parties_of (lines ++ line ∷ []) ≡ insert_party (parties_of lines) (share_party line)
parties_yes lines line is =
    parties_push lines line
    ∙ (ap (λ (b : Bool). fold insert_party [] (map share_party (filter is_share_line lines ++ cond b (line ∷ []) []))) is
    ∙ (ap (fold insert_party []) (map_push share_party (filter is_share_line lines) line)
    ∙ fold_push insert_party [] (map share_party (filter is_share_line lines)) (share_party line)))

-- and another line
parties_no : (lines : List (List ℕ)) (line : List ℕ) → is_share_line line ≡ false → parties_of (lines ++ line ∷ []) ≡ parties_of lines
parties_no lines line is =
    parties_push lines line
    ∙ (ap (λ (b : Bool). fold insert_party [] (map share_party (filter is_share_line lines ++ cond b (line ∷ []) []))) is
    ∙ ap (λ (l : List (List ℕ)). fold insert_party [] (map share_party l)) (append-nil (filter is_share_line lines)))

abbrev text_of : Vec ℕ Global → List ℕ
text_of text = text.items

ordered_map : (o : Ordering) (x y z : List (Vec ℕ Global)) → map text_of (match_ordering o x y z) ≡ match_ordering o (map text_of x) (map text_of y) (map text_of z)
ordered_map Less x y z = refl
ordered_map Equal x y z = refl
ordered_map Greater x y z = refl

-- a set of texts takes a party at its place
pub inserted : (keys : List (Vec ℕ Global)) (key : Vec ℕ Global)
    → map text_of (insert_key (λ (x y : Vec ℕ Global). slice_cmp nat_cmp x.items y.items) keys key) ≡ insert_party (map text_of keys) key.items
inserted [] key = refl
inserted (first ∷ keys) key =
    ordered_map (slice_cmp nat_cmp key.items first.items) (key ∷ first ∷ keys) (first ∷ keys)
    (first ∷ insert_key (λ (x y : Vec ℕ Global). slice_cmp nat_cmp x.items y.items) keys key)
    ∙ ap (λ (l : List (List ℕ)). match_ordering (slice_cmp nat_cmp key.items first.items) (key.items ∷ first.items ∷ map text_of keys) (first.items ∷ map text_of keys) (first.items ∷ l))
    (inserted keys key)

-- The last record of a party

last_push : (has : List ℕ → Bool) (lines : List (List ℕ)) (line party : List ℕ)
    → last_record has (lines ++ line ∷ []) party ≡ cond (opens_interest line && pointwise nat_eq (record_number line) party && has line) (Some line) (last_record has lines party)
last_push has lines line party =
    ap (find (λ (line : List ℕ). opens_interest line && pointwise nat_eq (record_number line) party && has line)) (reverse-append lines (line ∷ []))

last_yes : (has : List ℕ → Bool) (lines : List (List ℕ)) (line party : List ℕ) → opens_interest line ≡ true
    → last_record has (lines ++ line ∷ []) party ≡ cond (pointwise nat_eq (record_number line) party && has line) (Some line) (last_record has lines party)
last_yes has lines line party is =
    last_push has lines line party ∙ ap (λ (b : Bool). cond (b && pointwise nat_eq (record_number line) party && has line) (Some line) (last_record has lines party)) is

last_no : (has : List ℕ → Bool) (lines : List (List ℕ)) (line party : List ℕ) → opens_interest line ≡ false → last_record has (lines ++ line ∷ []) party ≡ last_record has lines party
last_no has lines line party is =
    last_push has lines line party ∙ ap (λ (b : Bool). cond (b && pointwise nat_eq (record_number line) party && has line) (Some line) (last_record has lines party)) is

-- Lines

-- an SPU or SWR record is no share line
interest_is_no_share : (line : List ℕ) → opens_interest line ≡ true → is_share_line line ≡ false
interest_is_no_share line opens = by (is_share_line line) refl
  where
    by : (b : Bool) → is_share_line line ≡ b → b ≡ false
    by true share = absurd (false≢true (sym (share_stays line share).2 ∙ opens))
    by false _ = refl

-- what a record more makes of the records that are kept, by whether it has what is sought
abbrev pub IsNoted : {S : Type 0} → (has : Bool) → (line : List ℕ) → (old new : IndexMap (List ℕ) (Bor (List ℕ)) S) → Type 0
IsNoted has line old new = (party : List ℕ) → line_for new party ≡ cond (pointwise nat_eq (record_number line) party && has) (Some line) (line_for old party)

pub records_none : (records : PartyRecords) → records.parties.keys ≡ [] → ((party : List ℕ) → line_for records.named party ≡ None) → ((party : List ℕ) → line_for records.paid party ≡ None)
    → AreRecordsOf [] records
records_none records parties named paid = record { parties = ap (map text_of) parties; named = named; paid = paid }

pub records_record : (lines : List (List ℕ)) (line : List ℕ) (old new : PartyRecords) (has_one has_other : Bool) → opens_interest line ≡ true → new.parties ≡ old.parties
    → has_one ≡ has_name line → has_other ≡ has_ipi line → IsNoted has_one line old.named new.named → IsNoted has_other line old.paid new.paid
    → AreRecordsOf lines old → AreRecordsOf (lines ++ line ∷ []) new
records_record lines line old new has_one has_other opens same one other named paid are = record {
  parties = ap (λ p. map text_of p.keys) same ∙ (are.parties ∙ sym (parties_no lines line (interest_is_no_share line opens)));
  named = λ party.
      named party
      ∙ (ap (λ (b : Bool). cond (pointwise nat_eq (record_number line) party && b) (Some line) (line_for old.named party)) one
      ∙ (ap (λ (o : Option (List ℕ)). cond (pointwise nat_eq (record_number line) party && has_name line) (Some line) o) (are.named party)
      ∙ sym (last_yes has_name lines line party opens)));
  paid = λ party.
      paid party
      ∙ (ap (λ (b : Bool). cond (pointwise nat_eq (record_number line) party && b) (Some line) (line_for old.paid party)) other
      ∙ (ap (λ (o : Option (List ℕ)). cond (pointwise nat_eq (record_number line) party && has_ipi line) (Some line) o) (are.paid party)
      ∙ sym (last_yes has_ipi lines line party opens)));
}

pub records_share : (lines : List (List ℕ)) (line : List ℕ) (old new : PartyRecords) (party : Vec ℕ Global) → is_share_line line ≡ true → party.items ≡ share_party line
    → new.parties.keys ≡ insert_key (λ (x y : Vec ℕ Global). slice_cmp nat_cmp x.items y.items) old.parties.keys party → new.named ≡ old.named → new.paid ≡ old.paid
    → AreRecordsOf lines old → AreRecordsOf (lines ++ line ∷ []) new
records_share lines line old new party is text keys named paid are =
    let none = (share_stays line is).2 in record {
      parties =
          ap (map text_of) keys
          ∙ (inserted old.parties.keys party
          ∙ (ap (λ (l : List (List ℕ)). insert_party l party.items) are.parties
          ∙ (ap (insert_party (parties_of lines)) text ∙ sym (parties_yes lines line is))));
      named = λ p. ap (λ m. line_for m p) named ∙ (are.named p ∙ sym (last_no has_name lines line p none));
      paid = λ p. ap (λ m. line_for m p) paid ∙ (are.paid p ∙ sym (last_no has_ipi lines line p none));
    }

records_other : (lines : List (List ℕ)) (line : List ℕ) (records : PartyRecords) → is_share_line line ≡ false → opens_interest line ≡ false
    → AreRecordsOf lines records → AreRecordsOf (lines ++ line ∷ []) records
records_other lines line records share opens are = record {
  parties = are.parties ∙ sym (parties_no lines line share);
  named = λ p. are.named p ∙ sym (last_no has_name lines line p opens);
  paid = λ p. are.paid p ∙ sym (last_no has_ipi lines line p opens);
}

-- A registration

-- the records have come to a line of a registration
pub record HasRead (all left : List (List ℕ)) (old new : PartyRecords) : Type 0 where
  pub done : List (List ℕ)
  pub split : all ≡ done ++ left
  pub stays : All (λ line. ends_registration line ≡ false) done
  pub more : (lines : List (List ℕ)) → AreRecordsOf lines old → AreRecordsOf (lines ++ done) new

pub read_none : (all : List (List ℕ)) (records : PartyRecords) → HasRead all all records records
read_none all records = record {
  done = [];
  split = refl;
  stays = λ k d within. absurd (omega (arith, within));
  more = λ lines are. subst (λ (l : List (List ℕ)). AreRecordsOf l records) (sym (append-nil lines)) are;
}

-- a line more, which adds to the records what it says
read_more : (all left : List (List ℕ)) (line : List ℕ) (old records next : PartyRecords) → HasRead all (line ∷ left) old records → ends_registration line ≡ false
    → ((lines : List (List ℕ)) → AreRecordsOf lines records → AreRecordsOf (lines ++ line ∷ []) next) → HasRead all left old next
read_more all left line old records next read stays more = record {
  done = read.done ++ line ∷ [];
  split = read.split ∙ sym (append_assoc read.done (line ∷ []) left);
  stays = All-push (λ (line : List ℕ). ends_registration line ≡ false) read.done line read.stays stays;
  more = λ lines are.
      subst (λ (l : List (List ℕ)). AreRecordsOf l next) (append_assoc lines read.done (line ∷ [])) (more (lines ++ read.done) (read.more lines are));
}

type_stays : (line : List ℕ) → type_of line ≡ Interest → ends_registration line ≡ false
type_stays line is = rw is refl

pub type_opens : (line : List ℕ) → type_of line ≡ Interest → opens_interest line ≡ true
type_opens line is = rw is refl

pub type_publisher : (line : List ℕ) → type_of line ≡ PublisherShare → is_share_line line ≡ true
type_publisher line is = rw is refl

pub type_writer : (line : List ℕ) → type_of line ≡ WriterShare → is_share_line line ≡ true
type_writer line is = rw is refl

pub read_record : (all left : List (List ℕ)) (line : List ℕ) (old records next : PartyRecords) → HasRead all (line ∷ left) old records → type_of line ≡ Interest
    → ((lines : List (List ℕ)) → AreRecordsOf lines records → AreRecordsOf (lines ++ line ∷ []) next) → HasRead all left old next
read_record all left line old records next read is more = read_more all left line old records next read (type_stays line is) more

pub read_share : (all left : List (List ℕ)) (line : List ℕ) (old records next : PartyRecords) → HasRead all (line ∷ left) old records → is_share_line line ≡ true
    → ((lines : List (List ℕ)) → AreRecordsOf lines records → AreRecordsOf (lines ++ line ∷ []) next) → HasRead all left old next
read_share all left line old records next read is more = read_more all left line old records next read (share_stays line is).1 more

pub read_other : (all left : List (List ℕ)) (line : List ℕ) (old records : PartyRecords) → HasRead all (line ∷ left) old records → type_of line ≡ Other → HasRead all left old records
read_other all left line old records read is =
    let ends : ends_registration line ≡ false = rw is refl in
    let share : is_share_line line ≡ false = rw is refl in
    let opens : opens_interest line ≡ false = rw is refl in
    read_more all left line old records records read ends (λ lines are. records_other lines line records share opens are)

-- the registration ends before a line, or with the file
pub read_to_end : (all left : List (List ℕ)) (line : List ℕ) (old new : PartyRecords) → HasRead all (line ∷ left) old new → ends_registration line ≡ true
    → (lines : List (List ℕ)) → AreRecordsOf lines old → AreRecordsOf (lines ++ body_of all) new
read_to_end all left line old new read ends lines are =
    subst (λ (l : List (List ℕ)). AreRecordsOf (lines ++ l) new) (sym (body_ends all read.done line left read.split read.stays ends)) (read.more lines are)

pub read_all : (all : List (List ℕ)) (old new : PartyRecords) → HasRead all [] old new → (lines : List (List ℕ)) → AreRecordsOf lines old → AreRecordsOf (lines ++ body_of all) new
read_all all old new read lines are =
    subst (λ (l : List (List ℕ)). AreRecordsOf (lines ++ l) new) (sym (body_all all read.done read.split read.stays)) (read.more lines are)

-- Registrations

pub bodies_more : (registrations : List in_force.Registration) (i : ℕ) (registration : in_force.Registration) → i < length registrations → registration ≡ get_or registrations i registration
    → bodies_of (take (i + 1) registrations) ≡ bodies_of (take i registrations) ++ registration.body
bodies_more registrations i registration within here =
    ap bodies_of (take_more registrations i registration within)
    ∙ (ap (λ (r : in_force.Registration). bodies_of (take i registrations ++ r ∷ [])) (sym here)
    ∙ (flat_map-append (λ (r : in_force.Registration). r.body) (take i registrations) (registration ∷ [])
    ∙ ap (λ (l : List (List ℕ)). bodies_of (take i registrations) ++ l) (append-nil registration.body)))

-- Rows

shown_rows : (row : List ℕ → List (List ℕ)) (shown : List (Bor (Vec ℕ Global))) → map (λ party. row party.now.items) shown ≡ map row (map text_of (map (λ party. party.now) shown))
shown_rows row [] = refl
shown_rows row (party ∷ shown) = ap (λ (rows : List (List (List ℕ))). row party.now.items ∷ rows) (shown_rows row shown)

-- those of the keys of a set, one after another
pub all_rows : (submitter : List ℕ) (lines : List (List ℕ)) (records : PartyRecords) (shown : List (Bor (Vec ℕ Global))) → map (λ party. party.now) shown ≡ records.parties.keys
    → AreRecordsOf lines records → map (λ party. party_row submitter lines party.now.items) shown ≡ rows_of_parties submitter lines
all_rows submitter lines records shown whole are =
    shown_rows (party_row submitter lines) shown ∙ ap (map (party_row submitter lines)) (ap (map text_of) whole ∙ are.parties)
