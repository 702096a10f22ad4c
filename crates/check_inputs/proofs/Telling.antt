-- The faults of a file, told one after another.
use Rattle.std.proofs.Common.{◌≡◌, ◌≤◌, ◌<◌, ◌+◌, ◌++◌, ◌∷◌, ◌∙◌, [], ℕ, List, ap, append_assoc, flat_map, length, refl, sym, take, arith}
use Rattle.std.proofs.lemmas.Bool.{le-ltb}
use Rattle.std.proofs.lemmas.List.{append-nil, flat_map_more, length_push, take_all, take-append-le}
use Rattle.check_inputs.specs.Messages.{shown, shown_byte}
use Rattle.check_inputs.specs.Report.{fault_lines, more_line}
use Rattle.check_inputs.specs.SoFar.{IsTold}
use Rattle.check_inputs.specs.declared.words.TheConstants.{MOST_FAULTS, MOST_FIELD_BYTES}

-- one of the first hundred more
pub told_one : {X : Type 0} (line : X → List ℕ) (e : X) (before after : List ℕ) (count : ℕ) (faults : List X) → IsTold line before count faults → count < MOST_FAULTS
    → after ≡ before ++ line e → IsTold line after (count + 1) (faults ++ e ∷ [])
told_one line e before after count faults told few wrote = record {
  lines =
      let all : take MOST_FAULTS faults ≡ faults = take_all MOST_FAULTS faults (omega (arith, told.all, few)) in
      let more : take MOST_FAULTS (faults ++ e ∷ []) ≡ faults ++ e ∷ [] = take_all MOST_FAULTS (faults ++ e ∷ []) (omega (arith, told.all, few, length_push faults e)) in
      wrote ∙ (ap (λ (l : List ℕ). l ++ line e) (told.lines ∙ ap (flat_map line) all) ∙ (flat_map_more line [] faults e ∙ ap (flat_map line) (sym more)));
  all = rw (length_push faults e, told.all) refl;
}

-- and one that is only counted
pub told_over : {X : Type 0} (line : X → List ℕ) (e : X) (text : List ℕ) (count : ℕ) (faults : List X) → IsTold line text count faults → MOST_FAULTS ≤ count
    → IsTold line text (count + 1) (faults ++ e ∷ [])
told_over line e text count faults told many = record {
  lines = told.lines ∙ ap (flat_map line) (sym (take-append-le MOST_FAULTS faults (e ∷ []) (omega (arith, told.all, many))));
  all = rw (length_push faults e, told.all) refl;
}

-- the line of a fault, in three parts
pub told_in_parts : {X : Type 0} (line : X → List ℕ) (e : X) (before begun said after path colon place message open' number close : List ℕ) (count counted : ℕ) (faults : List X)
    → IsTold line before count faults
    → count < MOST_FAULTS → begun ≡ before ++ (path ++ colon ++ place) → said ≡ begun ++ message → after ≡ said ++ (open' ++ number ++ close) → counted ≡ count + 1
    → line e ≡ path ++ colon ++ place ++ message ++ open' ++ number ++ close → IsTold line after counted (faults ++ e ∷ [])
told_in_parts line e before begun said after path colon place message open' number close count counted faults told few one two three more is =
    rw more (told_one line e before after count faults told few (rw (three, two, one, is) (simp (append_assoc) refl)))

-- how many more there are
pub told_whole : {X : Type 0} (line : X → List ℕ) (path before after : List ℕ) (count : ℕ) (faults : List X) → IsTold line before count faults → after ≡ before ++ more_line path count
    → after ≡ fault_lines line path faults
told_whole line path before after count faults told wrote = wrote ∙ rw (told.lines, told.all) refl

-- a field that is not long is shown whole
pub shown_whole : (field before after : List ℕ) (end : ℕ) → length field ≤ MOST_FIELD_BYTES → after ≡ before ++ flat_map shown_byte (take end field) → end ≡ length field
    → after ≡ before ++ shown field
shown_whole field before after end short wrote whole =
    let all : take MOST_FIELD_BYTES field ≡ field = take_all MOST_FIELD_BYTES field short in
    let here : take end field ≡ field = take_all end field (omega (arith, whole)) in
    wrote ∙ rw (here, all, le-ltb MOST_FIELD_BYTES (length field) short) (ap (λ (l : List ℕ). before ++ l) (sym (append-nil (flat_map shown_byte field))))

-- five texts behind another
pub five_behind : (start one two three four five first second third fourth fifth : List ℕ) → one ≡ start ++ first → two ≡ one ++ second → three ≡ two ++ third → four ≡ three ++ fourth
    → five ≡ four ++ fifth
    → five ≡ start ++ (first ++ second ++ third ++ fourth ++ fifth)
five_behind start one two three four five first second third fourth fifth a b c d e = rw (e, d, c, b, a) (simp (append_assoc) refl)

-- four texts behind another
pub four_behind : (start one two three four first second third fourth : List ℕ) → one ≡ start ++ first → two ≡ one ++ second → three ≡ two ++ third → four ≡ three ++ fourth
    → four ≡ start ++ (first ++ second ++ third ++ fourth)
four_behind start one two three four first second third fourth a b c d = rw (d, c, b, a) (simp (append_assoc) refl)

-- three texts behind another
pub three_behind : (start one two three first second third : List ℕ) → one ≡ start ++ first → two ≡ one ++ second → three ≡ two ++ third → three ≡ start ++ (first ++ second ++ third)
three_behind start one two three first second third a b c = rw (c, b, a) (simp (append_assoc) refl)

-- two texts behind another
pub two_behind : (start one two first second : List ℕ) → one ≡ start ++ first → two ≡ one ++ second → two ≡ start ++ (first ++ second)
two_behind start one two first second a b = rw (b, a) (simp (append_assoc) refl)

-- six texts behind another
pub six_behind : (start one two three four five six first second third fourth fifth sixth : List ℕ) → one ≡ start ++ first → two ≡ one ++ second → three ≡ two ++ third → four ≡ three ++ fourth
    → five ≡ four ++ fifth → six ≡ five ++ sixth
    → six ≡ start ++ (first ++ second ++ third ++ fourth ++ fifth ++ sixth)
six_behind start one two three four five six first second third fourth fifth sixth a b c d e f = rw (f, e, d, c, b, a) (simp (append_assoc) refl)
