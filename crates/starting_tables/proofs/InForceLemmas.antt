-- The registrations in force among all of a file.
use Rattle.std.proofs.Common.{◌≡◌, ◌∙◌, ◌∷◌, ◌++◌, ◌&&◌, ◌||◌, [], ℕ, Bool, true, false, not, cond, List, ap, append_assoc, nat_eq, refl, reverse, sym}
use Rattle.std.specs.Cmp.Lexicographic.{pointwise}
use Rattle.std.specs.List.{list_any}
use Rattle.std.proofs.lemmas.List.{append-nil, reverse-append}
use Rattle.cwr_share.specs.Filed.{body_of, opens_work}
use Rattle.cwr_share.specs.Records.{opens_registration}
use Rattle.cwr_share.specs.Registrations.{work_of}
use Rattle.starting_tables.specs.InForce.{Registration, number_of, registrations_filed, registrations_in_force}

-- the registration has the number
abbrev pub is_numbered : List ℕ → Registration → Bool
is_numbered number registration = pointwise nat_eq (number_of registration) number

-- of registrations, those after which none has their number
unfoldable pub last_filed : List Registration → List Registration
last_filed [] = []
last_filed (registration ∷ later) =
    cond (list_any (is_numbered (number_of registration)) later) (last_filed later) (registration ∷ last_filed later)

-- a line more in front
pub filed_yes : (line : List ℕ) (later : List (List ℕ)) → opens_registration line ≡ true
    → registrations_filed (line ∷ later) ≡ record { opening = line; body = body_of later } ∷ registrations_filed later
unfolding registrations_filed
filed_yes line later opens = rw opens refl

pub filed_no : (line : List ℕ) (later : List (List ℕ)) → opens_registration line ≡ false → registrations_filed (line ∷ later) ≡ registrations_filed later
unfolding registrations_filed
filed_no line later shut = rw shut refl

pub filed_none : registrations_filed [] ≡ []
unfolding registrations_filed
filed_none = refl

-- one registration more that was come to
pub filed_more : (done : List Registration) (registration : Registration) (line : List ℕ) (lines later : List (List ℕ)) (all : List Registration) → done ++ registrations_filed lines ≡ all
    → lines ≡ line ∷ later → opens_registration line ≡ true → registration ≡ record { opening = line; body = body_of later }
    → (done ++ registration ∷ []) ++ registrations_filed later ≡ all
filed_more done registration line lines later all before next opens is =
    append_assoc done (registration ∷ []) (registrations_filed later)
    ∙ (ap (λ (r : Registration). done ++ r ∷ registrations_filed later) is
    ∙ (sym (ap (λ (l : List Registration). done ++ l) (ap registrations_filed next ∙ filed_yes line later opens)) ∙ before))

-- and a line that begins none
pub filed_past : (done : List Registration) (line : List ℕ) (lines later : List (List ℕ)) (all : List Registration) → done ++ registrations_filed lines ≡ all
    → lines ≡ line ∷ later → opens_registration line ≡ false → done ++ registrations_filed later ≡ all
filed_past done line lines later all before next shut =
    sym (ap (λ (l : List Registration). done ++ l) (ap registrations_filed next ∙ filed_no line later shut)) ∙ before

pub filed_all : (done : List Registration) (lines : List (List ℕ)) (all : List Registration) → done ++ registrations_filed lines ≡ all → lines ≡ [] → done ≡ all
filed_all done lines all before none = sym (ap (λ (l : List Registration). done ++ l) (ap registrations_filed none ∙ filed_none) ∙ append-nil done) ∙ before

any_in_front : (number : List ℕ) (b : Bool) (registration : Registration) (later : List Registration)
    → list_any (is_numbered number) (cond b (registration ∷ later) later) ≡ ((b && is_numbered number registration) || list_any (is_numbered number) later)
any_in_front number true registration later = refl
any_in_front number false registration later = refl

-- a number has a registration where a line begins one
filed_any : (number : List ℕ) (lines : List (List ℕ)) → list_any (is_numbered number) (registrations_filed lines) ≡ list_any (opens_work number) lines
unfolding registrations_filed
filed_any number [] = refl
filed_any number (line ∷ later) =
    any_in_front number (opens_registration line) (record { opening = line; body = body_of later }) (registrations_filed later)
    ∙ ap (λ (b : Bool). opens_work number line || b) (filed_any number later)

last_in_front : (b a : Bool) (registration : Registration) (later kept : List Registration) → list_any (is_numbered (number_of registration)) later ≡ a → last_filed later ≡ kept
    → last_filed (cond b (registration ∷ later) later) ≡ cond (b && not a) (registration ∷ kept) kept
unfolding last_filed
last_in_front false a registration later kept any same = same
last_in_front true true registration later kept any same = rw any same
last_in_front true false registration later kept any same = rw any (ap (λ (l : List Registration). registration ∷ l) same)

-- those in force are the last of each number
pub in_force_is_last : (lines : List (List ℕ)) → last_filed (registrations_filed lines) ≡ registrations_in_force lines
unfolding registrations_filed registrations_in_force last_filed
in_force_is_last [] = refl
in_force_is_last (line ∷ later) =
    last_in_front (opens_registration line) (list_any (opens_work (work_of line)) later) (record { opening = line; body = body_of later }) (registrations_filed later) (registrations_in_force later)
    (filed_any (work_of line) later) (in_force_is_last later)

-- the registrations from the last one back have been looked at, down to those that are left
pub record IsKeptTo (all left kept : List Registration) (seen : List (List ℕ)) : Type 0 where
  pub done : List Registration
  pub split : all ≡ left ++ done
  pub last : reverse kept ≡ last_filed done
  pub seen_are : (number : List ℕ) → list_any (pointwise nat_eq number) seen ≡ list_any (is_numbered number) done

pub kept_none : (all : List Registration) → IsKeptTo all all [] []
unfolding last_filed
kept_none all = record { done = []; split = sym (append-nil all); last = refl; seen_are = λ number. refl }

or_cond : (b c : Bool) → cond b true c ≡ (b || c)
or_cond true c = refl
or_cond false c = refl

kept_by : (registration : Registration) (kept done : List Registration) (b : Bool) → list_any (is_numbered (number_of registration)) done ≡ b → reverse kept ≡ last_filed done
    → reverse (cond (not b) (kept ++ registration ∷ []) kept) ≡ last_filed (registration ∷ done)
unfolding last_filed
kept_by registration kept done true any last = rw any last
kept_by registration kept done false any last = rw any (reverse-append kept (registration ∷ []) ∙ ap (λ (l : List Registration). registration ∷ l) last)

-- one more, with this number
pub kept_next : (all left kept : List Registration) (seen next : List (List ℕ)) (registration : Registration) (key : List ℕ) (added : Bool) → key ≡ number_of registration
    → IsKeptTo all (left ++ registration ∷ []) kept seen
    → ((number : List ℕ) → list_any (pointwise nat_eq number) next ≡ cond (pointwise nat_eq key number) true (list_any (pointwise nat_eq number) seen))
    → added ≡ not (list_any (pointwise nat_eq key) seen)
    → IsKeptTo all left (cond added (kept ++ registration ∷ []) kept) next
kept_next all left kept seen next registration key added same before more' is' =
    let more : ((number : List ℕ) → list_any (pointwise nat_eq number) next ≡ cond (pointwise nat_eq (number_of registration) number) true (list_any (pointwise nat_eq number) seen)) =
    λ number. more' number ∙ ap (λ (k : List ℕ). cond (pointwise nat_eq k number) true (list_any (pointwise nat_eq number) seen)) same in
    let is : added ≡ not (list_any (pointwise nat_eq (number_of registration)) seen) = is' ∙ ap (λ (k : List ℕ). not (list_any (pointwise nat_eq k) seen)) same in
    record {
      done = registration ∷ before.done;
      split = before.split ∙ append_assoc left (registration ∷ []) before.done;
      last =
          ap (λ (b : Bool). reverse (cond b (kept ++ registration ∷ []) kept)) is
          ∙ (kept_by registration kept before.done (list_any (pointwise nat_eq (number_of registration)) seen) (sym (before.seen_are (number_of registration))) before.last);
      seen_are = λ number.
          more number ∙ (or_cond (is_numbered number registration) (list_any (pointwise nat_eq number) seen)
          ∙ ap (λ (b : Bool). is_numbered number registration || b) (before.seen_are number));
    }

-- all of a file have been looked at
pub kept_all : (lines : List (List ℕ)) (all left kept : List Registration) (seen : List (List ℕ)) → all ≡ registrations_filed lines → left ≡ [] → IsKeptTo all left kept seen
    → reverse kept ≡ registrations_in_force lines
kept_all lines all left kept seen filed none is =
    is.last ∙ (ap last_filed (sym (is.split ∙ ap (λ (l : List Registration). l ++ is.done) none) ∙ filed) ∙ in_force_is_last lines)
