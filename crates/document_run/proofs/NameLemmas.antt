-- Names of accounts, by one file after another.
use Rattle.std.proofs.Common.{◌≡◌, ◌∙◌, ◌+◌, ◌<◌, ◌∷◌, ◌++◌, [], ℕ, Bool, true, false, List, Vec, Global, add-one, ap, arith, get_or, inl, inr, length, length-append, length-take, map, min, refl, subst, suc, sym, take}
use Rattle.std.specs.Prelude.{if◌then◌else◌, zip}
use Rattle.std.proofs.Math.Seq.{length-take-le, take-suc}
use Rattle.std.proofs.lemmas.Bool.{cases_lt}
use Rattle.std.proofs.lemmas.List.{get_or_append_left, get_or_push, length-map, map-append}
use Rattle.std.proofs.lemmas.Slice.Zip.{length-zip}
use Rattle.std.specs.Option.{option_map_or}
use Rattle.cwr_share.specs.Lines.{lines_of}
use Rattle.document_names.specs.FirstTexts.{is_said}
use Rattle.document_names.specs.Payees.{named_by}
use Rattle.line_split.proofs.Enumerated.{map_same}
use Rattle.document_run.specs.Names.{AreNamesOf, first_said, items_of, name_among, party_name}

-- lists of the same length are zipped to their ends
pub zip_one_more : {X Y : Type 0} (xs : List X) (ys : List Y) (x : X) (y : Y) → length xs ≡ length ys → zip (xs ++ x ∷ []) (ys ++ y ∷ []) ≡ zip xs ys ++ (x, y) ∷ []
zip_one_more [] [] x y same = refl
zip_one_more [] (z ∷ ys) x y same = cc
zip_one_more (w ∷ xs) [] x y same = cc
zip_one_more (w ∷ xs) (z ∷ ys) x y same = ap (λ rest. (w, z) ∷ rest) (zip_one_more xs ys x y (omega arith))

-- what is made of accounts and their names is made of what those were made of
pub zip_made : {X Y Z : Type 0} (f : X → Y → Y) (h : X → Y → Z) (xs : List X) (ys : List Y)
    → map (λ e. h e.0 e.1) (zip xs (map (λ e. f e.0 e.1) (zip xs ys))) ≡ map (λ e. h e.0 (f e.0 e.1)) (zip xs ys)
zip_made f h [] ys = refl
zip_made f h (x ∷ xs) [] = refl
zip_made f h (x ∷ xs) (y ∷ ys) = ap (λ rest. h x (f x y) ∷ rest) (zip_made f h xs ys)

-- so is what is made of them as they are kept
pub zip_of_items : {Z : Type 0} (h : List ℕ → List ℕ → Z) (xs ys : List (Vec ℕ Global))
    → map (λ e. h e.0 e.1) (zip (map (λ x. x.items) xs) (map (λ y. y.items) ys)) ≡ map (λ e. h e.0.items e.1.items) (zip xs ys)
zip_of_items h [] ys = refl
zip_of_items h (x ∷ xs) [] = refl
zip_of_items h (x ∷ xs) (y ∷ ys) = ap (λ rest. h x.items y.items ∷ rest) (zip_of_items h xs ys)

-- of one text more the first that says something is the same, or this one
first_said_of_more : (texts : List (List ℕ)) (text : List ℕ) → first_said (texts ++ text ∷ []) ≡ (if is_said (first_said texts) then first_said texts else text)
first_said_of_more [] [] = refl
first_said_of_more [] (byte ∷ text) = refl
first_said_of_more ([] ∷ texts) text = first_said_of_more texts text
first_said_of_more ((byte ∷ said) ∷ texts) text = refl

-- a name by one file more
pub name_by_more : (submitters files : List (List ℕ)) (submitter file account name : List ℕ) → length submitters ≡ length files
    → named_by submitter (lines_of file) account (name_among submitters files account name) ≡ name_among (submitters ++ submitter ∷ []) (files ++ file ∷ []) account name
name_by_more submitters files submitter file account name same =
    let own = λ (e : List ℕ × List ℕ). party_name account e.0 e.1 in
    sym (ap (λ pairs. first_said (name ∷ map own pairs)) (zip_one_more submitters files submitter file same)
    ∙ ap (λ texts. first_said (name ∷ texts)) (map-append own (zip submitters files) ((submitter, file) ∷ []))
    ∙ first_said_of_more (name ∷ map own (zip submitters files)) (party_name account submitter file))

-- with no file a name is as it was
pub name_by_none : (accounts known : List (List ℕ)) → length known ≡ length accounts → map (λ e. name_among [] [] e.0 e.1) (zip accounts known) ≡ known
name_by_none [] [] same = refl
name_by_none [] (name ∷ known) same = cc
name_by_none (account ∷ accounts) [] same = cc
name_by_none (account ∷ accounts) ([] ∷ known) same = ap (λ rest. [] ∷ rest) (name_by_none accounts known (omega arith))
name_by_none (account ∷ accounts) ((byte ∷ name) ∷ known) same = ap (λ rest. (byte ∷ name) ∷ rest) (name_by_none accounts known (omega arith))

-- there are as many names as accounts
pub as_many : (submitters files accounts known : List (List ℕ)) (names : Vec (Vec ℕ Global) Global) → items_of names ≡ map (λ e. name_among submitters files e.0 e.1) (zip accounts known)
    → length known ≡ length accounts → length names.items ≡ length accounts
as_many submitters files accounts known names is same =
    let made = length-map (zip accounts known) (λ (e : List ℕ × List ℕ). name_among submitters files e.0 e.1) in
    let zipped = length-zip accounts known in
    let own = length-map names.items (λ (text : Vec ℕ Global). text.items) in
    let all = ap length is in
    let lesser : min (length accounts) (length known) ≡ length accounts = grind (arith, same) in
    sym own ∙ all ∙ made ∙ zipped ∙ lesser

-- files of submitters and one more hold their bytes
held_by_more : (holds : ℕ → List ℕ → Type 0) (files : List (List ℕ)) (file : List ℕ) (place : ℕ) → length files ≡ place → ((j : ℕ) → j < place → holds j (get_or files j []))
    → holds place file → (k : ℕ) → k < place + 1 → holds k (get_or (files ++ file ∷ []) k [])
held_by_more holds files file place many each held k low = elim (cases_lt k place) [
  | inl before ↦ subst (holds k) (sym (get_or_append_left files (file ∷ []) [] k (omega (arith, before, many)))) (each k before)
  | inr last ↦
      let at : place ≡ k = omega (arith, last, low) in
      subst (λ (n : ℕ). holds n (get_or (files ++ file ∷ []) n [])) at (subst (holds place) (sym (get_or_push files file [] place many)) held)
]

-- names by the files of one submitter more
pub by_one_more : (holds : ℕ → List ℕ → Type 0) (submitters : List (List ℕ)) (place : ℕ) (file : List ℕ) (accounts known names more : List (List ℕ))
    → AreNamesOf (take place submitters) holds accounts known names → place < length submitters → holds place file
    → more ≡ map (λ e. named_by (get_or submitters place []) (lines_of file) e.0 e.1) (zip accounts names) → AreNamesOf (take (place + 1) submitters) holds accounts known more
by_one_more holds submitters place file accounts known names more was below held is =
    let submitter : List ℕ = get_or submitters place [] in
    let before : List (List ℕ) = take place submitters in
    let front : length before ≡ place = length-take-le place submitters (omega arith) in
    let many : length was.files ≡ place = was.held.all ∙ front in
    let grown : take (place + 1) submitters ≡ before ++ submitter ∷ [] = rw add-one (take-suc submitters place [] below) in
    let named = λ (files : List (List ℕ)). λ (e : List ℕ × List ℕ). name_among before files e.0 e.1 in
    subst (λ (s : List (List ℕ)). AreNamesOf s holds accounts known more) (sym grown) (record {
      files = was.files ++ file ∷ [];
      held = record {
        all = length-append was.files (file ∷ []) ∙ ap (λ n. n + 1) (many ∙ sym front) ∙ sym (length-append before (submitter ∷ []));
        each = λ k low. held_by_more holds was.files file place many (λ j lt. was.held.each j (omega (arith, lt, front))) held k (omega (arith, low, length-append before (submitter ∷ []), front));
      };
      names_are =
          is
          ∙ ap (λ (texts : List (List ℕ)). map (λ e. named_by submitter (lines_of file) e.0 e.1) (zip accounts texts)) was.names_are
          ∙ zip_made (λ account name. name_among before was.files account name) (λ account name. named_by submitter (lines_of file) account name) accounts known
          ∙ map_same _ _ (λ e. name_by_more before was.files submitter file e.0 e.1 (sym was.held.all)) (zip accounts known);
    })
