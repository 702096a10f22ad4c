-- What is in force by its registrations as they stand, and by its share lines.
use Rattle.std.proofs.Common.{◌≡◌, ◌∙◌, ◌∷◌, ◌&&◌, ◌||◌, [], ℕ, Bool, true, false, not, cond, AllPairs, List, None, Option, Some, ap, is_some, nat_eq, refl, reverse, sym, arith}
use Rattle.std.specs.Prelude.{find, option_map}
use Rattle.std.specs.Cmp.Lexicographic.{pointwise}
use Rattle.std.specs.List.{list_any}
use Rattle.std.specs.Option.{option_or}
use Rattle.std.proofs.lemmas.Bool.{false≢true, true≢false}
use Rattle.std.proofs.lemmas.List.{reverse-append}
use Rattle.std.proofs.lemmas.List.Folds.{find-append, list_any_at}
use Rattle.std.proofs.lemmas.List.Kept.{AllPairs-cons}
use Rattle.std.proofs.lemmas.Slice.Eq.{bytes_eq-Decides}
use Rattle.cwr_share.specs.Filed.{body_of, opens_work}
use Rattle.cwr_share.specs.Records.{opens_registration}
use Rattle.cwr_share.specs.Registrations.{find_work, registrations_of, share_lines_of, shares_in_force, work_of}
use Rattle.starting_tables.specs.InForce.{Registration, number_of, registrations_in_force}
use Rattle.starting_tables.proofs.InForceLemmas.{is_numbered}

abbrev body_in : List ℕ × List (List ℕ) → List (List ℕ)
body_in entry = entry.1

abbrev has_number : List ℕ → List ℕ × List (List ℕ) → Bool
has_number number entry = pointwise nat_eq entry.0 number

-- the lines of the registration with a number
abbrev body_found : List ℕ → List Registration → Option (List (List ℕ))
body_found number registrations = option_map (λ (r : Registration). r.body) (find (is_numbered number) registrations)

map_or : {X Y : Type 0} (f : X → Y) (found other : Option X) → option_map f (option_or found other) ≡ option_or (option_map f found) (option_map f other)
map_or f None other = refl
map_or f (Some x) other = refl

or_none : {X : Type 0} (found : Option X) → option_or found None ≡ found
or_none None = refl
or_none (Some x) = refl

some_or : {X : Type 0} (found other : Option X) → is_some found ≡ true → option_or found other ≡ found
some_or None other some = absurd (false≢true some)
some_or (Some x) other some = refl

none_or : {X : Type 0} (found other : Option X) → is_some found ≡ false → option_or found other ≡ other
none_or None other none = refl
none_or (Some x) other none = absurd (true≢false none)

map_cond : (b : Bool) (entry : List ℕ × List (List ℕ)) → option_map body_in (cond b (Some entry) None) ≡ cond b (Some entry.1) None
map_cond true entry = refl
map_cond false entry = refl

-- a registration in front is the last that is found
find_front : (number name : List ℕ) (body : List (List ℕ)) (registrations : List (List ℕ × List (List ℕ)))
    → find_work number (reverse ((name, body) ∷ registrations))
    ≡ option_or (find_work number (reverse registrations)) (cond (pointwise nat_eq name number) (Some body) None)
find_front number name body registrations =
    ap (find_work number) (reverse-append ((name, body) ∷ []) registrations)
    ∙ (ap (option_map body_in) (find-append (has_number number) (reverse registrations) ((name, body) ∷ []))
    ∙ (map_or body_in (find (has_number number) (reverse registrations)) (find (has_number number) ((name, body) ∷ []))
    ∙ ap (option_or (find_work number (reverse registrations))) (map_cond (pointwise nat_eq name number) (name, body))))

some_cond : (found : Option (List (List ℕ))) (body : List (List ℕ)) (e c : Bool) → is_some found ≡ c → is_some (option_or found (cond e (Some body) None)) ≡ (e || c)
some_cond None body true c is = refl
some_cond None body false c is = is
some_cond (Some x) body true c is = refl
some_cond (Some x) body false c is = is

opened_by : (number name : List ℕ) (body : List (List ℕ)) (registrations : List (List ℕ × List (List ℕ))) (b c : Bool) → is_some (find_work number (reverse registrations)) ≡ c
    → is_some (find_work number (reverse (cond b ((name, body) ∷ registrations) registrations))) ≡ ((b && pointwise nat_eq name number) || c)
opened_by number name body registrations false c is = is
opened_by number name body registrations true c is =
    ap (λ (o : Option (List (List ℕ))). is_some o) (find_front number name body registrations) ∙ some_cond (find_work number (reverse registrations)) body (pointwise nat_eq name number) c is

-- a number has a registration where a line begins one
opened : (number : List ℕ) (lines : List (List ℕ)) → is_some (find_work number (reverse (registrations_of lines))) ≡ list_any (opens_work number) lines
unfolding registrations_of
opened number [] = refl
opened number (line ∷ later) =
    opened_by number (work_of line) (body_of later) (registrations_of later) (opens_registration line) (list_any (opens_work number) later) (opened number later)

found_by : (number line : List ℕ) (body : List (List ℕ)) (registrations : List (List ℕ × List (List ℕ))) (in_force : List Registration) (b a e : Bool)
    → body_found number in_force ≡ find_work number (reverse registrations) → pointwise nat_eq (work_of line) number ≡ e
    → (e ≡ true → is_some (find_work number (reverse registrations)) ≡ a)
    → body_found number (cond (b && not a) (record { opening = line; body = body } ∷ in_force) in_force)
    ≡ find_work number (reverse (cond b ((work_of line, body) ∷ registrations) registrations))
found_by number line body registrations in_force false a e sofar same some = sofar
found_by number line body registrations in_force true true true sofar same some =
    sofar ∙ sym (find_front number (work_of line) body registrations
    ∙ some_or (find_work number (reverse registrations)) (cond (pointwise nat_eq (work_of line) number) (Some body) None) (some refl))
found_by number line body registrations in_force true true false sofar same some =
    sofar ∙ sym (find_front number (work_of line) body registrations
    ∙ (ap (λ (c : Bool). option_or (find_work number (reverse registrations)) (cond c (Some body) None)) same ∙ or_none (find_work number (reverse registrations))))
found_by number line body registrations in_force true false true sofar same some =
    ap (λ (c : Bool). option_map (λ (r : Registration). r.body) (cond c (Some (record { opening = line; body = body })) (find (is_numbered number) in_force))) same
    ∙ sym (find_front number (work_of line) body registrations
    ∙ (ap (λ (c : Bool). option_or (find_work number (reverse registrations)) (cond c (Some body) None)) same ∙ none_or (find_work number (reverse registrations)) (Some body) (some refl)))
found_by number line body registrations in_force true false false sofar same some =
    ap (λ (c : Bool). option_map (λ (r : Registration). r.body) (cond c (Some (record { opening = line; body = body })) (find (is_numbered number) in_force))) same
    ∙ (sofar ∙ sym (find_front number (work_of line) body registrations
    ∙ (ap (λ (c : Bool). option_or (find_work number (reverse registrations)) (cond c (Some body) None)) same ∙ or_none (find_work number (reverse registrations)))))

found : (number : List ℕ) (lines : List (List ℕ)) → body_found number (registrations_in_force lines) ≡ find_work number (reverse (registrations_of lines))
unfolding registrations_in_force registrations_of
found number [] = refl
found number (line ∷ later) =
    found_by number line (body_of later) (registrations_of later) (registrations_in_force later) (opens_registration line) (list_any (opens_work (work_of line)) later)
    (pointwise nat_eq (work_of line) number) (found number later) refl
    (λ same. opened number later ∙ ap (λ (n : List ℕ). list_any (opens_work n) later) (sym ((bytes_eq-Decides (work_of line) number).0 same)))

map_twice : (o : Option Registration) → option_map (λ (r : Registration). share_lines_of r.body) o ≡ option_map share_lines_of (option_map (λ (r : Registration). r.body) o)
map_twice None = refl
map_twice (Some r) = refl

-- the share lines of the registration with a number
pub shares_found : (lines : List (List ℕ)) (number : List ℕ)
    → option_map (λ (r : Registration). share_lines_of r.body) (find (λ (r : Registration). pointwise nat_eq (number_of r) number) (registrations_in_force lines)) ≡ shares_in_force lines number
shares_found lines number = map_twice (find (is_numbered number) (registrations_in_force lines)) ∙ ap (option_map share_lines_of) (found number lines)

or_left : (b c : Bool) → (b || c) ≡ false → b ≡ false
or_left true c none = absurd (true≢false none)
or_left false c none = refl

or_right : (b c : Bool) → (b || c) ≡ false → c ≡ false
or_right true c none = absurd (true≢false none)
or_right false c none = none

none_by : (number : List ℕ) (registration : Registration) (in_force : List Registration) (b a : Bool) → (b && is_numbered number registration) ≡ false → list_any (is_numbered number) in_force ≡ false
    → list_any (is_numbered number) (cond (b && not a) (registration ∷ in_force) in_force) ≡ false
none_by number registration in_force false a none rest = rest
none_by number registration in_force true true none rest = rest
none_by number registration in_force true false none rest = rw none rest

-- a number that no line begins a registration of has none
none_numbered : (number : List ℕ) (lines : List (List ℕ)) → list_any (opens_work number) lines ≡ false → list_any (is_numbered number) (registrations_in_force lines) ≡ false
unfolding registrations_in_force
none_numbered number [] none = refl
none_numbered number (line ∷ later) none =
    none_by number (record { opening = line; body = body_of later }) (registrations_in_force later) (opens_registration line) (list_any (opens_work (work_of line)) later)
    (or_left (opens_work number line) (list_any (opens_work number) later) none)
    (none_numbered number later (or_right (opens_work number line) (list_any (opens_work number) later) none))

abbrev AreApart : List Registration → Type 0
AreApart registrations = AllPairs (λ registration later. ¬ (number_of registration ≡ number_of later)) registrations

once_by : (registration : Registration) (in_force : List Registration) (b a : Bool) → (a ≡ false → list_any (is_numbered (number_of registration)) in_force ≡ false) → AreApart in_force
    → AreApart (cond (b && not a) (registration ∷ in_force) in_force)
once_by registration in_force false a none rest = rest
once_by registration in_force true true none rest = rest
once_by registration in_force true false none rest =
    AllPairs-cons (λ (registration later : Registration). ¬ (number_of registration ≡ number_of later)) registration in_force
    (λ k d within same. true≢false (sym (list_any_at (is_numbered (number_of registration)) in_force k d within ((bytes_eq-Decides _ _).1 (sym same))) ∙ none refl)) rest

-- no two have the same number
pub once : (lines : List (List ℕ)) → AreApart (registrations_in_force lines)
unfolding registrations_in_force
once [] = λ i j d before within. absurd (omega (arith, within))
once (line ∷ later) =
    once_by (record { opening = line; body = body_of later }) (registrations_in_force later) (opens_registration line) (list_any (opens_work (work_of line)) later)
    (λ none. none_numbered (work_of line) later none) (once later)
