-- Values NAME=F, one after another.
use Rattle.std.proofs.Common.{◌≡◌, ◌∙◌, ◌⊎◌, ◌<◌, ◌≤◌, ◌+◌, ◌∷◌, ◌++◌, [], ℕ, List, All, Contains, ap, arith, get_or, inl, inr, length, map, refl, subst, sym, take}
use Rattle.std.proofs.lemmas.List.{get_or_default, get_or-map, get_or-take, length-map, length-take-le, map_push, take_all, take_more}
use Rattle.std.proofs.lemmas.List.Elements.{All-push}
use Rattle.linked_works.specs.Submitters.{AreSubmitters, IsSubmitter}
use Rattle.linked_works.proofs.NameLemmas.{one_more}
use Rattle.royalty_program.specs.declared.named_files.TheConstants.{MOST_SUBMITTERS}
use Rattle.royalty_program.specs.NamedFiles.{AreNamed, name_in, path_in}

module _ (values : List (List ℕ)) where
  abbrev first : ℕ → List (List ℕ)
  first k = take k values

  -- the first so many values have these names and paths
  pub record AreNamedTo (k : ℕ) (names paths : List (List ℕ)) : Type 0 where
    pub names_are : names ≡ map name_in (first k)
    pub paths_are : paths ≡ map path_in (first k)
    pub sound : AreSubmitters (map name_in (first k))
    pub given : All (λ value. 0 < length (path_in value)) (first k)

  pub none_named : AreNamedTo 0 [] []
  none_named = record {
    names_are = refl;
    paths_are = refl;
    sound = record {
      each = λ k d within. absurd (omega (arith, within));
      once = λ i j d before within. absurd (omega (arith, within));
    };
    given = λ k d within. absurd (omega (arith, within));
  }

  module _ (k : ℕ) (value : List ℕ) (within : k < length values) (at : value ≡ get_or values k []) (names paths : List (List ℕ)) (before : AreNamedTo k names paths) where
    one_on : first (k + 1) ≡ first k ++ value ∷ []
    one_on = take_more values k [] within ∙ ap (λ (v : List ℕ). first k ++ v ∷ []) (sym at)

    mapped : (f : List ℕ → List ℕ) → map f (first (k + 1)) ≡ map f (first k) ++ f value ∷ []
    mapped f = ap (map f) one_on ∙ map_push f (first k) value

    -- one value more
    pub named_more : (names' paths' : List (List ℕ)) → names' ≡ names ++ name_in value ∷ [] → paths' ≡ paths ++ path_in value ∷ []
        → IsSubmitter (name_in value) → ¬ Contains names (name_in value) → 0 < length (path_in value) → AreNamedTo (k + 1) names' paths'
    named_more names' paths' same_names same_paths is new given = record {
      names_are = same_names ∙ (ap (λ (l : List (List ℕ)). l ++ name_in value ∷ []) before.names_are ∙ sym (mapped name_in));
      paths_are = same_paths ∙ (ap (λ (l : List (List ℕ)). l ++ path_in value ∷ []) before.paths_are ∙ sym (mapped path_in));
      sound = subst AreSubmitters (sym (mapped name_in)) (one_more (map name_in (first k)) (name_in value) differs before.sound is);
      given = subst (All (λ (v : List ℕ). 0 < length (path_in v))) (sym one_on) (All-push (λ (v : List ℕ). 0 < length (path_in v)) (first k) value before.given given);
    }
      where
        differs : (place : ℕ) → place < length (map name_in (first k)) → ¬ (get_or (map name_in (first k)) place [] ≡ name_in value)
        differs place low same = new
            (subst (λ (l : List (List ℕ)). Contains l (name_in value)) (sym before.names_are) (place, low, get_or_default (map name_in (first k)) place (name_in value) [] low ∙ same))

    -- a value that adds no file is why the values name none
    pub not_named : (length (path_in value) ≡ 0) ⊎ (¬ (IsSubmitter (name_in value) × ¬ Contains names (name_in value))) → ¬ AreNamed values
    not_named (inl empty) named =
        let there : 0 < length (path_in (get_or values k [])) = named.paths k [] within in
        omega (arith, subst (λ (v : List ℕ). 0 < length (path_in v)) (sym at) there, empty)
    not_named (inr refused) named = refused (
      subst IsSubmitter (get_or-map name_in values k [] [] within ∙ ap name_in (sym at)) (named.names.each k [] inside),
      λ has. twice (subst (λ (l : List (List ℕ)). Contains l (name_in value)) before.names_are has),
    )
      where
        inside : k < length (map name_in values)
        inside = omega (arith, within, length-map values name_in)

        twice : ¬ Contains (map name_in (first k)) (name_in value)
        twice (j, low, same) =
            let in_first : j < length (first k) = omega (arith, low, length-map (first k) name_in) in
            let low_j : j < k = omega (arith, in_first, length-take-le k values (omega (arith, within))) in
            let earlier : get_or (map name_in values) j [] ≡ name_in value =
            get_or-map name_in values j [] [] (omega (arith, low_j, within))
            ∙ (ap name_in (sym (get_or-take k values j [] low_j)) ∙ (sym (get_or-map name_in (first k) j [] (name_in value) in_first) ∙ same)) in
            let later : get_or (map name_in values) k [] ≡ name_in value = get_or-map name_in values k [] [] within ∙ ap name_in (sym at) in
            named.names.once j k [] low_j inside (earlier ∙ sym later)

  -- all of them
  pub all_named : (names paths : List (List ℕ)) (k : ℕ) → length values ≤ k → AreNamedTo k names paths → length values ≤ MOST_SUBMITTERS
      → AreNamed values × (names ≡ map name_in values) × (paths ≡ map path_in values)
  all_named names paths k past to few =
      let whole : first k ≡ values = take_all k values past in (
        record {
          few = few;
          names = subst (λ (l : List (List ℕ)). AreSubmitters (map name_in l)) whole to.sound;
          paths = subst (All (λ (v : List ℕ). 0 < length (path_in v))) whole to.given;
        },
        to.names_are ∙ ap (map name_in) whole,
        to.paths_are ∙ ap (map path_in) whole,
      )
