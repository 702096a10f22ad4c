-- Texts without the spaces at their ends.
use Rattle.std.proofs.Common.{◌≡◌, ◌≢◌, ◌<◌, ◌≤◌, ◌+◌, ◌-◌, ℕ, zero, suc, List, [], ◌∷◌, ◌++◌, length, take, drop, ap, refl, sym, ◌∙◌, arith, ◌==◌, Bool, true, false, cond}
use Rattle.std.specs.Prelude.{reverse, slice_index}
use Rattle.std.proofs.lemmas.Bool.{ne_eqb}
use Rattle.std.proofs.Math.Seq.{drop-append_seam}
use Rattle.std.proofs.lemmas.List.{get_or-reverse, length-drop, length-reverse, length-take, reverse-append, reverse-reverse, take-append-drop}
use Rattle.cwr_share.specs.Fields.{field_of, trimmed, without_spaces_before}
use Rattle.cwr_share.specs.Records.{share_fields, type_of}
use Rattle.cwr_share.specs.declared.fields.Field.{Field}
use Rattle.cwr_share.specs.declared.numbers.TheConstants.{MOST_PARTY_BYTES}
use Rattle.cwr_share.specs.declared.record_type.RecordType.{RecordType}
use Rattle.cwr_share.specs.declared.record_type.RecordType.TheVariants.{Registration, Interest, PublisherShare, WriterShare, Closing, Other}

-- nothing is left of an empty text
no_text : without_spaces_before [] ≡ []
unfolding without_spaces_before
no_text = refl

-- a space is dropped
space_goes : (byte : ℕ) (rest : List ℕ) → byte ≡ 32 → without_spaces_before (byte ∷ rest) ≡ without_spaces_before rest
unfolding without_spaces_before
space_goes byte rest is = rw is refl

-- another byte is the first that stays
byte_stays : (byte : ℕ) (rest : List ℕ) → byte ≢ 32 → without_spaces_before (byte ∷ rest) ≡ byte ∷ rest
unfolding without_spaces_before
byte_stays byte rest differs = rw (ne_eqb byte 32 differs) refl

-- what stays begins at the first byte that is no space
pub spaces_go : (text : List ℕ) (n : ℕ) → n < length text → ((k : ℕ) → k < n → slice_index text k ≡ 32) → slice_index text n ≢ 32 → without_spaces_before text ≡ drop n text
spaces_go [] n within spaces other = absurd (omega (arith, within))
spaces_go (byte ∷ rest) zero within spaces other = byte_stays byte rest other
spaces_go (byte ∷ rest) (suc n) within spaces other =
    space_goes byte rest (spaces 0 (omega arith)) ∙ spaces_go rest n (omega (arith, within)) (λ k lt. spaces (suc k) (omega (arith, lt))) other

-- nothing stays of spaces
pub all_spaces : (text : List ℕ) → ((k : ℕ) → k < length text → slice_index text k ≡ 32) → without_spaces_before text ≡ []
all_spaces [] spaces = no_text
all_spaces (byte ∷ rest) spaces = space_goes byte rest (spaces 0 (omega arith)) ∙ all_spaces rest (λ k lt. spaces (suc k) (omega (arith, lt)))

-- the text backwards without its first bytes is the text without its last, backwards
reverse-drop_reverse : (text : List ℕ) (n : ℕ) → n ≤ length text → reverse (drop n (reverse text)) ≡ take (length text - n) text
reverse-drop_reverse text n within =
    let m = length text - n in
    let front = take m text in
    let back = drop m text in
    let count : length (reverse back) ≡ n = omega (arith, length-reverse back, length-drop m text) in
    let turned : reverse text ≡ reverse back ++ reverse front = ap reverse (sym (take-append-drop m text)) ∙ reverse-append front back in
    ap (λ (bytes : List ℕ). reverse (drop n bytes)) turned
    ∙ ap (λ (k : ℕ). reverse (drop k (reverse back ++ reverse front))) (sym count)
    ∙ ap reverse (drop-append_seam (reverse back) (reverse front))
    ∙ reverse-reverse front

-- a text gets no longer
before_no_longer : (text : List ℕ) → length (without_spaces_before text) ≤ length text
unfolding without_spaces_before
before_no_longer [] = omega arith
before_no_longer (byte ∷ rest) = by (byte == 32) (before_no_longer rest)
  where
    by : (space : Bool) → length (without_spaces_before rest) ≤ length rest → length (cond space (without_spaces_before rest) (byte ∷ rest)) ≤ length (byte ∷ rest)
    by true shorter = omega (arith, shorter)
    by false shorter = omega arith

trimmed_no_longer : (text : List ℕ) → length (trimmed text) ≤ length text
trimmed_no_longer text =
    let front = without_spaces_before text in
    omega (arith, length-reverse (without_spaces_before (reverse front)), before_no_longer (reverse front), length-reverse front, before_no_longer text)

-- a field has no more bytes than it is long
pub field_fits : (field : Field) (line : List ℕ) → length (trimmed (field_of field line)) ≤ field.last - (field.first - 1)
field_fits field line = omega (arith, trimmed_no_longer (field_of field line), length-take (field.last - (field.first - 1)) (drop (field.first - 1) line))

-- what stays before the spaces at the end
pub last_spaces_go : (text : List ℕ) (n : ℕ) → n < length text → ((k : ℕ) → k < n → slice_index (reverse text) k ≡ 32) → slice_index text (length text - n - 1) ≢ 32
    → take (length text - n) text ≡ reverse (without_spaces_before (reverse text))
last_spaces_go text n within spaces other =
    let count : length (reverse text) ≡ length text = length-reverse text in
    let place : length text - 1 - n ≡ length text - n - 1 = omega arith in
    let same : slice_index (reverse text) n ≡ slice_index text (length text - n - 1) = get_or-reverse text n 0 within ∙ ap (λ (k : ℕ). slice_index text k) place in
    sym (reverse-drop_reverse text n (omega arith))
    ∙ ap reverse (sym (spaces_go (reverse text) n (omega arith) spaces (λ space. other (sym same ∙ space))))

-- nothing stays of a text that is spaces from its end on
pub last_all_spaces : (text : List ℕ) → ((k : ℕ) → k < length text → slice_index (reverse text) k ≡ 32) → [] ≡ reverse (without_spaces_before (reverse text))
last_all_spaces text spaces =
    let count : length (reverse text) ≡ length text = length-reverse text in
    ap reverse (sym (all_spaces (reverse text) (λ k lt. spaces k (omega (arith, lt)))))

-- the byte at hand from the end is a space, too
pub space_from_end : (text : List ℕ) (n : ℕ) → n < length text → slice_index text (length text - n - 1) ≡ 32 → slice_index (reverse text) n ≡ 32
space_from_end text n within space =
    let place : length text - 1 - n ≡ length text - n - 1 = omega arith in
    get_or-reverse text n 0 within ∙ ap (λ (k : ℕ). slice_index text k) place ∙ space

-- the field of a party has no more bytes
pub party_fits : (line : List ℕ) → (share_fields line).party.last < (share_fields line).party.first + MOST_PARTY_BYTES
party_fits line = by (type_of line) refl
  where
    by : (type : RecordType) → type_of line ≡ type → (share_fields line).party.last < (share_fields line).party.first + MOST_PARTY_BYTES
    by Registration is = rw is (omega arith)
    by Interest is = rw is (omega arith)
    by PublisherShare is = rw is (omega arith)
    by WriterShare is = rw is (omega arith)
    by Closing is = rw is (omega arith)
    by Other is = rw is (omega arith)

-- so the party of a share line has not
pub party_short : (line : List ℕ) → length (trimmed (field_of (share_fields line).party line)) ≤ MOST_PARTY_BYTES
party_short line = omega (arith, field_fits (share_fields line).party line, party_fits line)
