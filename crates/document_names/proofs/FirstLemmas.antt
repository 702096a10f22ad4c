-- The first text of a key, and how it is kept.
use Rattle.std.proofs.Common.{◌≡◌, ◌∙◌, ◌<◌, ◌+◌, ◌++◌, ◌∷◌, ◌&&◌, ◌==◌, [], ℕ, All, Bool, true, false, List, None, Option, Some, ap, append_assoc, arith, get_or, inl, inr, is_some, length, map, nat_eq, refl, subst, sym, take}
use Rattle.std.proofs.lemmas.List.{append-nil, map_push, take_more}
use Rattle.std.specs.List.{find}
use Rattle.std.specs.Map.{lookup}
use Rattle.std.specs.Option.{option_map, option_map_or}
use Rattle.std.specs.Cmp.Lexicographic.{pointwise}
use Rattle.std.proofs.lemmas.List.Elements.{All-head, All-push, All-tail}
use Rattle.std.proofs.lemmas.Bool.{cases_Bool, eqb-false, eqb-true, false≢true}
use Rattle.std.proofs.lemmas.Slice.Eq.{bytes_eq-Decides}
use Rattle.cwr_share.proofs.PayeeLemmas.{looked_up}
use Rattle.document_names.specs.FirstTexts.{AreFirstTexts, first_text, is_said, text_in}

-- a text that was noted counts for a key
abbrev counts : (key : List ℕ) → List ℕ × List ℕ → Bool
counts key e = pointwise nat_eq e.0 key && is_said e.1

-- what a look-up finds is the text of the key
pub text_found : (kept : List (List ℕ × List ℕ)) (key text : List ℕ)
    → Some text ≡ lookup (λ other. pointwise nat_eq key other) kept → text ≡ text_in kept key
text_found kept key text found = on (find (λ e. pointwise nat_eq e.0 key) kept) (found ∙ looked_up kept key)
  where
    on : (e : Option (List ℕ × List ℕ)) → Some text ≡ option_map (λ e. e.1) e → text ≡ option_map_or (λ e. e.1) e []
    on (Some e) is = cc
    on None is = cc

pub none_found : (kept : List (List ℕ × List ℕ)) (key : List ℕ)
    → None ≡ lookup (λ other. pointwise nat_eq key other) kept → [] ≡ text_in kept key
none_found kept key found = on (find (λ e. pointwise nat_eq e.0 key) kept) (found ∙ looked_up kept key)
  where
    on : (e : Option (List ℕ × List ℕ)) → None ≡ option_map (λ e. e.1) e → [] ≡ option_map_or (λ e. e.1) e []
    on None is = refl
    on (Some e) is = cc

-- ---- one text more that was noted

-- it does not count
passed_by : (noted : List (List ℕ × List ℕ)) (e : List ℕ × List ℕ) (key : List ℕ) → counts key e ≡ false
    → first_text (noted ++ e ∷ []) key ≡ first_text noted key
passed_by [] e key isnt = rw isnt refl
passed_by (first ∷ noted) e key isnt = elim (cases_Bool (counts key first)) [
  | inl its ↦ rw its refl
  | inr other ↦ rw other (passed_by noted e key isnt)
]

-- another counts already
stays : (noted : List (List ℕ × List ℕ)) (e : List ℕ × List ℕ) (key : List ℕ) → 0 < length (first_text noted key)
    → first_text (noted ++ e ∷ []) key ≡ first_text noted key
stays [] e key some = absurd (omega (arith, some))
stays (first ∷ noted) e key some = elim (cases_Bool (counts key first)) [
  | inl its ↦ rw its refl
  | inr other ↦ rw other (stays noted e key (rw other at some))
]

-- a text by its length
pub none_by : (text : List ℕ) → (length text == 0) ≡ true → text ≡ []
none_by [] is = refl
none_by (byte ∷ text) is = absurd (omega (arith, eqb-true (length (byte ∷ text)) 0 is))

pub some_by : (text : List ℕ) → (length text == 0) ≡ false → 0 < length text
some_by text is = omega (arith, eqb-false (length text) 0 is)

-- a text that has a length says something
pub says : (text : List ℕ) → 0 < length text → is_said text ≡ true
says [] some = absurd (omega (arith, some))
says (byte ∷ text) some = refl

silent : (text : List ℕ) → is_said text ≡ true → text ≡ [] → false ≡ true
silent text said none = sym (ap is_said none) ∙ said

second : (a b : Bool) → (a && b) ≡ true → b ≡ true
second true b is = is
second false b is = absurd (false≢true is)

-- it is the first that counts
comes_first : (noted : List (List ℕ × List ℕ)) (e : List ℕ × List ℕ) (key : List ℕ) → first_text noted key ≡ []
    → counts key e ≡ true → first_text (noted ++ e ∷ []) key ≡ e.1
comes_first [] e key none is = rw is refl
comes_first (first ∷ noted) e key none is = elim (cases_Bool (counts key first)) [
  | inl its ↦ absurd (false≢true (silent first.1 (second (pointwise nat_eq first.0 key) (is_said first.1) its) (rw its at none)))
  | inr other ↦ rw other (comes_first noted e key (rw other at none) is)
]

-- ---- the same of what is kept

kept_other : (kept : List (List ℕ × List ℕ)) (e : List ℕ × List ℕ) (key : List ℕ) → pointwise nat_eq e.0 key ≡ false
    → text_in (kept ++ e ∷ []) key ≡ text_in kept key
kept_other [] e key isnt = rw isnt refl
kept_other (first ∷ kept) e key isnt = elim (cases_Bool (pointwise nat_eq first.0 key)) [
  | inl its ↦ rw its refl
  | inr other ↦ rw other (kept_other kept e key isnt)
]

kept_new : (kept : List (List ℕ × List ℕ)) (key text : List ℕ) → All (λ e. 0 < length e.1) kept → text_in kept key ≡ []
    → text_in (kept ++ (key, text) ∷ []) key ≡ text
kept_new [] key text said none = rw ((bytes_eq-Decides key key).1 refl) refl
kept_new (first ∷ kept) key text said none = elim (cases_Bool (pointwise nat_eq first.0 key)) [
  | inl its ↦
      let empty : first.1 ≡ [] = rw its at none in
      absurd (omega (arith, ap (λ (t : List ℕ). length t) empty, All-head (λ (e : List ℕ × List ℕ). 0 < length e.1) first kept said))
  | inr other ↦
      rw other (kept_new kept key text (All-tail (λ (e : List ℕ × List ℕ). 0 < length e.1) first kept said) (rw other at none))
]

-- what is kept for a key that is found says something
kept_says : (kept : List (List ℕ × List ℕ)) (key : List ℕ) → All (λ e. 0 < length e.1) kept
    → is_some (option_map (λ (e : List ℕ × List ℕ). e.1) (find (λ e. pointwise nat_eq e.0 key) kept)) ≡ true
    → 0 < length (text_in kept key)
kept_says [] key said found = absurd (false≢true found)
kept_says (first ∷ kept) key said found = elim (cases_Bool (pointwise nat_eq first.0 key)) [
  | inl its ↦ rw its (All-head (λ (e : List ℕ × List ℕ). 0 < length e.1) first kept said)
  | inr other ↦ rw other (kept_says kept key (All-tail (λ (e : List ℕ × List ℕ). 0 < length e.1) first kept said) (rw other at found))
]

found_says : (kept : List (List ℕ × List ℕ)) (key : List ℕ) → All (λ e. 0 < length e.1) kept
    → is_some (lookup (λ other. pointwise nat_eq key other) kept) ≡ true → 0 < length (text_in kept key)
found_says kept key said found = kept_says kept key said (sym (ap is_some (looked_up kept key)) ∙ found)

none_in : (kept : List (List ℕ × List ℕ)) (key : List ℕ) → is_some (lookup (λ other. pointwise nat_eq key other) kept) ≡ false
    → text_in kept key ≡ []
none_in kept key none = on (find (λ e. pointwise nat_eq e.0 key) kept) (sym (ap is_some (looked_up kept key)) ∙ none)
  where
    on : (e : Option (List ℕ × List ℕ)) → is_some (option_map (λ (e : List ℕ × List ℕ). e.1) e) ≡ false → option_map_or (λ e. e.1) e [] ≡ []
    on None is = refl
    on (Some e) is = absurd (false≢true (sym is))

blank_counts : (is : Bool) (text : List ℕ) → text ≡ [] → (is && is_said text) ≡ false
blank_counts true text none = ap is_said none
blank_counts false text none = refl

other_counts : (is b : Bool) → is ≡ false → (is && b) ≡ false
other_counts true b isnt = absurd (false≢true (sym isnt))
other_counts false b isnt = refl

-- ---- a text is noted

pub noted_blank : (noted kept : List (List ℕ × List ℕ)) (key text : List ℕ) → text ≡ [] → AreFirstTexts noted kept
    → AreFirstTexts (noted ++ (key, text) ∷ []) kept
noted_blank noted kept key text none are = record {
  said = are.said;
  first = λ k. are.first k ∙ sym (passed_by noted (key, text) k (blank_counts (pointwise nat_eq key k) text none));
}

pub noted_again : (noted kept : List (List ℕ × List ℕ)) (key text : List ℕ)
    → is_some (lookup (λ other. pointwise nat_eq key other) kept) ≡ true → AreFirstTexts noted kept
    → AreFirstTexts (noted ++ (key, text) ∷ []) kept
noted_again noted kept key text found are = record {
  said = are.said;
  first = λ k. are.first k ∙ sym (elim (cases_Bool (pointwise nat_eq key k)) [
    | inl same ↦
        let is : key ≡ k = (bytes_eq-Decides key k).0 same in
        let some : 0 < length (first_text noted k) =
        subst (λ (t : List ℕ). 0 < length (first_text noted t)) is
        (subst (λ (t : List ℕ). 0 < length t) (are.first key) (found_says kept key are.said found)) in
        stays noted (key, text) k some
    | inr other ↦ passed_by noted (key, text) k (other_counts (pointwise nat_eq key k) (is_said text) other)
  ]);
}

pub noted_new : (noted kept : List (List ℕ × List ℕ)) (key text : List ℕ) → 0 < length text
    → is_some (lookup (λ other. pointwise nat_eq key other) kept) ≡ false → AreFirstTexts noted kept
    → AreFirstTexts (noted ++ (key, text) ∷ []) (kept ++ (key, text) ∷ [])
noted_new noted kept key text some none are =
    let empty : text_in kept key ≡ [] = none_in kept key none in
    record {
      said = All-push (λ (e : List ℕ × List ℕ). 0 < length e.1) kept (key, text) are.said some;
      first = λ k. elim (cases_Bool (pointwise nat_eq key k)) [
        | inl same ↦
            let is : key ≡ k = (bytes_eq-Decides key k).0 same in
            let own : text_in (kept ++ (key, text) ∷ []) k ≡ text =
            subst (λ (t : List ℕ). text_in (kept ++ (key, text) ∷ []) t ≡ text) is (kept_new kept key text are.said empty) in
            let free : first_text noted k ≡ [] =
            subst (λ (t : List ℕ). first_text noted t ≡ []) is (sym (are.first key) ∙ empty) in
            let its : counts k (key, text) ≡ true = ap (λ (b : Bool). b && is_said text) same ∙ says text some in
            own ∙ sym (comes_first noted (key, text) k free its)
        | inr other ↦
            kept_other kept (key, text) k other
            ∙ (are.first k ∙ sym (passed_by noted (key, text) k (other_counts (pointwise nat_eq key k) (is_said text) other)))
      ];
    }

-- ---- of all of a list, item by item

-- of the items before those that are left what they say was noted
pub record AreNotedTo {X : Type 0} (note : X → List ℕ × List ℕ) (all left : List X) (kept : List (List ℕ × List ℕ)) : Type 0 where
  pub done : List X
  pub split : all ≡ done ++ left
  pub are : AreFirstTexts (map note done) kept

pub none_noted : {X : Type 0} (note : X → List ℕ × List ℕ) (all left : List X) (kept : List (List ℕ × List ℕ)) → all ≡ left → AreFirstTexts [] kept
    → AreNotedTo note all left kept
none_noted note all left kept same are = record { done = []; split = same; are = are }

pub one_noted : {X : Type 0} (note : X → List ℕ × List ℕ) (all left later : List X) (x : X) (kept next : List (List ℕ × List ℕ))
    → AreNotedTo note all left kept → left ≡ x ∷ later
    → ((noted : List (List ℕ × List ℕ)) → AreFirstTexts noted kept → AreFirstTexts (noted ++ note x ∷ []) next)
    → AreNotedTo note all later next
one_noted note all left later x kept next before is more = record {
  done = before.done ++ x ∷ [];
  split = before.split ∙ (ap (λ (l : List _). before.done ++ l) is ∙ sym (append_assoc before.done (x ∷ []) later));
  are = subst (λ (l : List (List ℕ × List ℕ)). AreFirstTexts l next) (sym (map_push note before.done x)) (more (map note before.done) before.are);
}

pub all_noted : {X : Type 0} (note : X → List ℕ × List ℕ) (all left : List X) (kept : List (List ℕ × List ℕ))
    → AreNotedTo note all left kept → left ≡ [] → AreFirstTexts (map note all) kept
all_noted note all left kept noted none =
    subst (λ (l : List _). AreFirstTexts (map note l) kept) (sym (noted.split ∙ (ap (λ (l : List _). noted.done ++ l) none ∙ append-nil noted.done))) noted.are

-- of the first items of a list, and one more
pub next_noted : {X : Type 0} (note : X → List ℕ × List ℕ) (all : List X) (place : ℕ) (x : X) (kept next : List (List ℕ × List ℕ))
    → place < length all → x ≡ get_or all place x → AreFirstTexts (map note (take place all)) kept
    → ((noted : List (List ℕ × List ℕ)) → AreFirstTexts noted kept → AreFirstTexts (noted ++ note x ∷ []) next)
    → AreFirstTexts (map note (take (place + 1) all)) next
next_noted note all place x kept next within is before more =
    let longer : map note (take (place + 1) all) ≡ map note (take place all) ++ note x ∷ [] =
    ap (map note) (take_more all place x within ∙ ap (λ (y : _). take place all ++ y ∷ []) (sym is)) ∙ map_push note (take place all) x in
    subst (λ (l : List (List ℕ × List ℕ)). AreFirstTexts l next) (sym longer) (more (map note (take place all)) before)
