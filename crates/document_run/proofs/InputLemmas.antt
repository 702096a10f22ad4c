-- Inputs that were lent, and names of accounts.
use Rattle.std.proofs.Common.{Bor, ◌≡◌, ◌∙◌, ℕ, List, Vec, Global, ap, length, map, subst, sym}
use Rattle.std.proofs.lemmas.List.{length-map}
use Rattle.run_inputs.proofs.Made.{of_made}
use Rattle.run_inputs.specs.Inputs.{map_inputs}
use Rattle.run_inputs.specs.declared.inputs.Inputs.{Inputs}
use Rattle.document_run.specs.Names.{items_of}

-- what holds of the inputs that were lent holds of the inputs
pub of_inputs : {I : Type 0} (bytes : I → List ℕ) (lent : Inputs (Bor I)) (inputs : Inputs I) (P : Inputs (List ℕ) → Type 0) → map_inputs (λ file. file.now) lent ≡ inputs
    → P (map_inputs (λ file. bytes file.now) lent) → P (map_inputs bytes inputs)
of_inputs bytes lent inputs P is holds = subst P (of_made (λ file. file.now) bytes lent inputs is) holds

-- there are as many names as accounts that they are made of
pub as_many_as : (f : List ℕ → List ℕ) (names : Vec (Vec ℕ Global) Global) (parties : List (Vec ℕ Global)) (accounts : List (List ℕ)) → map (λ party. party.items) parties ≡ accounts
    → items_of names ≡ map (λ party. f party.items) parties → length names.items ≡ length accounts
as_many_as f names parties accounts are is =
    sym (length-map names.items (λ (name : Vec ℕ Global). name.items)) ∙ ap length is ∙ length-map parties (λ (party : Vec ℕ Global). f party.items)
    ∙ sym (length-map parties (λ (party : Vec ℕ Global). party.items)) ∙ ap length are
