-- Texts of statements over files, path by path.
use Rattle.std.proofs.Common.{inl, inr, ◌⊎◌, ◌≡◌, ◌∙◌, ◌+◌, ◌<◌, ◌≤◌, ◌^◌, ◌++◌, ◌∷◌, ℕ, List, [], None, Option, Some, ap, arith, length, map, refl, slice_index_or, subst, suc, sym, take, zero}
use Rattle.std.proofs.lemmas.List.{length-map, map-append, map_more, take-map}
use Rattle.std.specs.Option.{IfSome}
use Rattle.std.specs.List.{Contains}
use Rattle.std.specs.Io.KnownBytes.{Appends}
use Rattle.std.specs.Prelude.{String, string_bytes}
use Rattle.std.specs.declared.alloc.Global.{Global}
use Rattle.std.specs.declared.io.ErrorKind.{ErrorKind}
use Rattle.std.specs.declared.io.ErrorKind.TheVariants.{OutOfMemory}
use Rattle.merge_statements.specs.Refused.{BeginsWithPortions, HaveTogether, HaveTooManyLines, HaveTooManyPortions, IsFaultIn, IsRefusalOf, IsRefusedFor, IsStatementText, IsTextOfRows}
use Rattle.merge_statements.specs.Merged.{AreTexts, WritesMerge}
use Rattle.merge_statements.specs.Merged.AreTexts.{none as no_texts, more as more_texts}
use Rattle.merge_statements.specs.declared.refusal.Refusal.{Refusal}
use Rattle.merge_statements.specs.declared.refusal.StatementFault.{StatementFault}
use Rattle.royalty_program.specs.MergeFiles.{AreOpened, AreSoundTexts, AreTextsAt, AreTooMany, BeginWithPortions, BeginWithTooManyPortions, Gives, GivesFault}
use Rattle.royalty_program.specs.MergeFiles.{HoldsOf, IsCountedText, IsMergeOver, IsSoundText}
use Rattle.royalty_program.specs.Status.{IsAt, IsOfOne, IsOfPlace, IsOfRefusal, IsOfText, IsOfTexts, IsUnopened, IsUnreadable, failure_of_file}
use Rattle.royalty_program.specs.declared.failure.Failure.{Failure}
use Rattle.royalty_program.specs.declared.failure.Failure.TheVariants.{Room, File, Statement, Many, ManyMerged, Changed}

-- an element of a list, as it is mapped
mapped_at : {A : Type 0} (f : A → List ℕ) (xs : List A) (place : ℕ) (x : A) → place < length xs → x ≡ slice_index_or xs place x → slice_index_or (map f xs) place (f x) ≡ f x
mapped_at f [] place x inside is = absurd (omega arith)
mapped_at f (y ∷ xs) zero x inside is = ap f (sym is)
mapped_at f (y ∷ xs) (suc place) x inside is = mapped_at f xs place x (omega arith) is

pub there_mapped : {A : Type 0} (f : A → List ℕ) (xs : List A) (place : ℕ) (x : A) → place < length xs → x ≡ slice_index_or xs place x → IsAt (map f xs) place (f x)
there_mapped f xs place x inside is = (omega (arith, length-map xs f), mapped_at f xs place x inside is)

pub among_mapped : {A : Type 0} (f : A → List ℕ) (xs : List A) (place : ℕ) (x : A) → place < length xs → x ≡ slice_index_or xs place x → Contains (map f xs) (f x)
among_mapped f xs place x inside is =
    let there : IsAt (map f xs) place (f x) = there_mapped f xs place x inside is in
    (place, there.0, there.1)

-- so many elements of a list and the next, as they are mapped
mapped_more : {A : Type 0} (f : A → List ℕ) (xs : List A) (place : ℕ) (x : A) → place < length xs → x ≡ slice_index_or xs place x → map f (take (place + 1) xs) ≡ map f (take place xs) ++ f x ∷ []
mapped_more {A} f xs place x inside is = map_more f xs place x inside ∙ ap (λ (y : A). map f (take place xs) ++ f y ∷ []) (sym is)

-- a file that cannot be read is one of these
pub unread_there : (paths : List (List ℕ)) (place : ℕ) (was : Refusal) (kind : ErrorKind) (path : String Global) → IsAt paths place (string_bytes path) → IsUnreadable was → IsOfPlace paths place was (failure_of_file kind path)
unread_there paths place was OutOfMemory path at unread = tt
unread_there paths place was kind path at unread = (at, unread)

is_sound : (known : Option (List ℕ)) (lines rows : ℕ) → IfSome known (λ text. IsTextOfRows text lines rows) → IfSome known (λ text. IsStatementText text lines)
is_sound None lines rows counted = tt
is_sound (Some text) lines rows counted = counted.is

module _ (gives : List ℕ → List ℕ → Type 0) where
  -- one of the paths that cannot be opened
  pub unopened_one : (paths : List (List ℕ)) (path : List ℕ) (failure : Failure) → Contains paths path → IsUnopened path failure → IsOfOne gives paths failure
  unopened_one paths path Room one is = tt
  unopened_one paths path (File name) one is = subst (Contains paths) (sym is) one
  unopened_one paths path failure one is = absurd is

  -- what the reader in a place has left is what its file gives
  opened_at : (paths : List (List ℕ)) (knowns : List (Option (List ℕ))) (place : ℕ) (path : List ℕ) → AreOpened gives paths knowns → IsAt paths place path → Gives (gives path) (slice_index_or knowns place None)
  opened_at [] knowns place path opened at = absurd (omega (arith, at.0))
  opened_at (p ∷ paths) [] place path opened at = absurd opened
  opened_at (p ∷ paths) (k ∷ knowns) zero path opened at = subst (λ (it : List ℕ). Gives (gives it) k) at.1 opened.0
  opened_at (p ∷ paths) (k ∷ knowns) (suc place) path opened at = opened_at paths knowns place path opened.1 (omega (arith, at.0), at.1)

  -- portions of what readers have left are portions of what their files give
  portions_over : (paths : List (List ℕ)) (knowns : List (Option (List ℕ))) (portions : ℕ) → AreOpened gives paths knowns → HaveTogether BeginsWithPortions knowns portions
      → BeginWithPortions gives paths portions
  portions_over [] [] portions opened have = have
  portions_over [] (known ∷ knowns) portions opened have = absurd opened
  portions_over (path ∷ paths) [] portions opened have = absurd opened
  portions_over (path ∷ paths) (known ∷ knowns) portions opened (own, others, begins, have, sum) =
      (own, others, record { known = known; given = opened.0; holds_of = begins }, portions_over paths knowns others opened.1 have, sum)

  pub too_many_portions_over : (paths : List (List ℕ)) (knowns : List (Option (List ℕ))) → AreOpened gives paths knowns → HaveTooManyPortions knowns → BeginWithTooManyPortions gives paths
  too_many_portions_over paths knowns opened (portions, have, many) = (portions, portions_over paths knowns portions opened have, many)

  -- and so are their statements, of the first so many
  sound_over : (paths : List (List ℕ)) (knowns : List (Option (List ℕ))) (count lines : ℕ) → AreOpened gives paths knowns → HaveTogether IsStatementText (take count knowns) lines
      → AreSoundTexts gives (take count paths) lines
  sound_over [] [] zero lines opened have = have
  sound_over [] [] (suc count) lines opened have = have
  sound_over [] (known ∷ knowns) count lines opened have = absurd opened
  sound_over (path ∷ paths) [] count lines opened have = absurd opened
  sound_over (path ∷ paths) (known ∷ knowns) zero lines opened have = have
  sound_over (path ∷ paths) (known ∷ knowns) (suc count) lines opened (own, others, sound, have, sum) =
      (own, others, (record { known = known; given = opened.0; holds_of = sound }, sound_over paths knowns count others opened.1 have, sum))

  opened_length : (paths : List (List ℕ)) (knowns : List (Option (List ℕ))) → AreOpened gives paths knowns → length knowns ≡ length paths
  opened_length [] [] opened = refl
  opened_length [] (known ∷ knowns) opened = absurd opened
  opened_length (path ∷ paths) [] opened = absurd opened
  opened_length (path ∷ paths) (known ∷ knowns) opened = omega (arith, opened_length paths knowns opened.1)

  too_many_over : (paths : List (List ℕ)) (knowns : List (Option (List ℕ))) → AreOpened gives paths knowns → HaveTooManyPortions knowns ⊎ HaveTooManyLines knowns → AreTooMany gives paths
  too_many_over paths knowns opened (inl portions) = inr (too_many_portions_over paths knowns opened portions)
  too_many_over paths knowns opened (inr lines) = inl record {
    count = lines.count;
    inside = omega (arith, lines.inside, opened_length paths knowns opened);
    lines = lines.lines;
    sound = sound_over paths knowns lines.count lines.lines opened lines.sound;
    many = lines.many;
  }

  -- a fault of what the reader in a place has left is one of what its file gives
  pub fault_over : (paths : List (List ℕ)) (knowns : List (Option (List ℕ))) (place : ℕ) (path : List ℕ) (fault : StatementFault) → AreOpened gives paths knowns → IsAt paths place path
      → IfSome (slice_index_or knowns place None) (λ text. IsFaultIn text fault) → GivesFault (gives path)
  fault_over paths knowns place path fault opened at has = (fault, record { known = slice_index_or knowns place None; given = opened_at paths knowns place path opened at; holds_of = has })

  -- so the one in a place that is refused is one of them
  pub one_of_place : (paths : List (List ℕ)) (knowns : List (Option (List ℕ))) (place : ℕ) (was : Refusal) (failure : Failure) → AreOpened gives paths knowns → IsRefusalOf knowns place was → IsOfPlace paths place was failure
      → IsOfOne gives paths failure
  one_of_place paths knowns place was Room opened refused is = tt
  one_of_place paths knowns place was (File name) opened refused is = (place, is.0.0, is.0.1)
  one_of_place paths knowns place was (Changed name) opened refused is =
      ((place, is.0.0, is.0.1), fault_over paths knowns place (string_bytes name) is.1.0 opened is.0 (subst (IsRefusalOf knowns place) is.1.1 refused).1)
  one_of_place paths knowns place was ManyMerged opened refused is = too_many_over paths knowns opened (subst (IsRefusalOf knowns place) is refused)
  one_of_place paths knowns place was failure opened refused is = absurd is

  -- one more text
  pub sound_more : (paths : List (List ℕ)) (path : List ℕ) (lines own : ℕ) → AreSoundTexts gives paths lines → IsSoundText gives path own → AreSoundTexts gives (paths ++ path ∷ []) (lines + own)
  sound_more [] path lines own are is = (own, 0, (is, refl, omega arith))
  sound_more (first ∷ paths) path lines own are is = (are.0, are.1 + own, (are.2.0, sound_more paths path are.1 own are.2.1 is, omega arith))

  pub opened_more : (paths : List (List ℕ)) (knowns : List (Option (List ℕ))) (path : List ℕ) (known : Option (List ℕ)) → AreOpened gives paths knowns → Gives (gives path) known → AreOpened gives (paths ++ path ∷ []) (knowns ++ known ∷ [])
  opened_more [] [] path known are is = (is, tt)
  opened_more [] (k ∷ knowns) path known are is = absurd are
  opened_more (p ∷ paths) [] path known are is = absurd are
  opened_more (p ∷ paths) (k ∷ knowns) path known are is = (are.0, opened_more paths knowns path known are.1 is)

  -- what readers have left is what their files give
  texts_at : (paths : List (List ℕ)) (knowns : List (Option (List ℕ))) (texts : List (List ℕ)) → AreOpened gives paths knowns → AreTexts knowns texts → AreTextsAt gives paths texts
  texts_at [] _ _ opened no_texts = tt
  texts_at (path ∷ paths) _ _ opened no_texts = absurd opened
  texts_at [] _ _ opened (more_texts known text knowns texts is are) = absurd opened
  texts_at (path ∷ paths) _ _ opened (more_texts known text knowns texts is are) = (opened.0 text is, texts_at paths knowns texts opened.1 are)

  -- so what they merge to is the merge of these files
  pub merged_over : (paths : List (List ℕ)) (knowns : List (Option (List ℕ))) (before after : Option (List ℕ)) → AreOpened gives paths knowns → WritesMerge knowns before after
      → (text : List ℕ) × Appends before after text × IsMergeOver gives paths text
  merged_over paths knowns before after opened writes =
      (writes.merged, writes.written, record { texts = writes.texts; are = texts_at paths knowns writes.texts opened writes.are; merge = writes.merge })

  -- a path that cannot be opened is one whose text is refused
  pub unopened_text : (path : List ℕ) (failure : Failure) → IsUnopened path failure → IsOfText gives path failure
  unopened_text path Room is = tt
  unopened_text path (File name) is = is
  unopened_text path failure is = absurd is

  -- so is one of whose text this is the first fault
  pub refused_text : (path : List ℕ) (known : Option (List ℕ)) (was : Refusal) (failure : Failure) → Gives (gives path) known → IfSome known (λ text. IsRefusedFor text was) → IsOfRefusal path was failure → IsOfText gives path failure
  refused_text path known was Room given for is = tt
  refused_text path known was (File name) given for is = is.0
  refused_text path known was (Statement fault name) given for is =
      (is.0, record { known = known; given = given; holds_of = subst (λ (w : Refusal). IfSome known (λ text. IsRefusedFor text w)) is.1 for })
  refused_text path known was failure given for is = absurd is

  -- and so all fail
  pub refused_first : (paths : List (List ℕ)) (place : ℕ) (path : List ℕ) (lines : ℕ) (failure : Failure) → place < length paths → slice_index_or paths place path ≡ path → AreSoundTexts gives (take place paths) lines
      → IsOfText gives path failure → IsOfTexts gives paths failure
  refused_first paths place path lines Room inside there before is = tt
  refused_first paths place path lines (File name) inside there before is = record {
    place = place;
    inside = inside;
    there = subst (λ (p : List ℕ). slice_index_or paths place p ≡ p) (sym is) there;
    lines = lines;
    before = before;
  }
  refused_first paths place path lines (Statement fault name) inside there before is = record {
    first = record {
      place = place;
      inside = inside;
      there = subst (λ (p : List ℕ). slice_index_or paths place p ≡ p) (sym is.0) there;
      lines = lines;
      before = before;
    };
    fault_of = subst (λ (p : List ℕ). HoldsOf (gives p) (λ text. IsFaultIn text fault)) (sym is.0) is.1;
  }
  refused_first paths place path lines failure inside there before is = absurd is

  -- of texts that are sound the first so many are
  before_of : (paths : List (List ℕ)) (lines count : ℕ) → AreSoundTexts gives paths lines → (some : ℕ) × AreSoundTexts gives (take count paths) some
  before_of [] lines zero are = (0, refl)
  before_of [] lines (suc count) are = (0, refl)
  before_of (path ∷ paths) lines zero are = (0, refl)
  before_of (path ∷ paths) lines (suc count) are =
      let rest : (some : ℕ) × AreSoundTexts gives (take count paths) some = before_of paths are.1 count are.2.1 in
      (are.0 + rest.0, (are.0, rest.0, (are.2.0, rest.1, refl)))

  -- after all were read through, one of them fails
  pub one_of_sound : (paths : List (List ℕ)) (lines : ℕ) (failure : Failure) → AreSoundTexts gives paths lines → lines ≤ 10 ^ 18 → IsOfOne gives paths failure → IsOfTexts gives paths failure
  one_of_sound paths lines Room sound few is = tt
  one_of_sound paths lines (File name) sound few is =
      let before : (some : ℕ) × AreSoundTexts gives (take is.0 paths) some = before_of paths lines is.0 sound in
      record { place = is.0; inside = is.1; there = is.2; lines = before.0; before = before.1 }
  one_of_sound paths lines (Changed name) sound few is = record { one = is.0; lines = lines; sound = sound; few = few; fault = is.1 }
  one_of_sound paths lines ManyMerged sound few is = record { lines = lines; sound = sound; few = few; many = is }
  one_of_sound paths lines failure sound few is = absurd is

  -- the same of the paths so far and the next
  pub refused_there : (paths : List (String Global)) (place : ℕ) (path : String Global) (lines : ℕ) (failure : Failure) → place < length paths → path ≡ slice_index_or paths place path
      → AreSoundTexts gives (map string_bytes (take place paths)) lines → IsOfText gives (string_bytes path) failure → IsOfTexts gives (map string_bytes paths) failure
  refused_there paths place path lines failure inside is before text =
      refused_first (map string_bytes paths) place (string_bytes path) lines failure (omega (arith, length-map paths (string_bytes {Z = Global}))) (mapped_at string_bytes paths place path inside is)
      (subst (λ (l : List (List ℕ)). AreSoundTexts gives l lines) (sym (take-map string_bytes place paths)) before) text

  pub sound_text : (path : List ℕ) (lines rows : ℕ) → IsCountedText gives path lines rows → IsSoundText gives path lines
  sound_text path lines rows counted = record { known = counted.known; given = counted.given; holds_of = is_sound counted.known lines rows counted.holds_of }

  pub sound_there : (paths : List (String Global)) (place : ℕ) (path : String Global) (lines own all : ℕ) → all ≡ lines + own → place < length paths → path ≡ slice_index_or paths place path
      → AreSoundTexts gives (map string_bytes (take place paths)) lines → IsSoundText gives (string_bytes path) own → AreSoundTexts gives (map string_bytes (take (place + 1) paths)) all
  sound_there paths place path lines own all sum inside is before sound =
      subst (AreSoundTexts gives (map string_bytes (take (place + 1) paths))) (sym sum)
      (subst (λ (l : List (List ℕ)). AreSoundTexts gives l (lines + own)) (sym (mapped_more string_bytes paths place path inside is))
      (sound_more (map string_bytes (take place paths)) (string_bytes path) lines own before sound))

  pub too_many_there : (paths : List (String Global)) (place : ℕ) (path : String Global) (lines own : ℕ) (failure : Failure) → place < length paths → path ≡ slice_index_or paths place path
      → AreSoundTexts gives (map string_bytes (take place paths)) lines → IsSoundText gives (string_bytes path) own → failure ≡ Many → 10 ^ 18 < lines + own → IsOfTexts gives (map string_bytes paths) failure
  too_many_there paths place path lines own failure inside is before sound many over =
      let all : IsOfTexts gives (map string_bytes paths) Many = record {
        count = place + 1;
        inside = omega (arith, length-map paths (string_bytes {Z = Global}));
        lines = lines + own;
        sound = subst (λ (l : List (List ℕ)). AreSoundTexts gives l (lines + own)) (sym (take-map string_bytes (place + 1) paths)) (sound_there paths place path lines own (lines + own) refl inside is before sound);
        many = over;
      } in
      subst (IsOfTexts gives (map string_bytes paths)) (sym many) all

  pub opened_there : {R : Type 0} (remaining : R → Option (List ℕ)) (paths : List (String Global)) (place : ℕ) (path : String Global) (readers news : List R) (reader : R) → place < length paths → path ≡ slice_index_or paths place path
      → AreOpened gives (map string_bytes (take place paths)) (map remaining readers) → Gives (gives (string_bytes path)) (remaining reader) → news ≡ readers ++ reader ∷ []
      → AreOpened gives (map string_bytes (take (place + 1) paths)) (map remaining news)
  opened_there remaining paths place path readers news reader inside is before given grown =
      subst (λ (l : List (List ℕ)). AreOpened gives l (map remaining news)) (sym (mapped_more string_bytes paths place path inside is))
      (subst (AreOpened gives (map string_bytes (take place paths) ++ string_bytes path ∷ [])) (sym (ap (map remaining) grown ∙ map-append remaining readers (reader ∷ [])))
      (opened_more (map string_bytes (take place paths)) (map remaining readers) (string_bytes path) (remaining reader) before given))
