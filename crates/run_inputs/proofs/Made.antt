-- What is made of inputs.
use Rattle.std.proofs.Common.{◌≡◌, ◌∙◌, None, Option, Some, ap, refl}
use Rattle.std.specs.Option.{option_map}
use Rattle.run_inputs.specs.Inputs.{map_inputs, with_payees}
use Rattle.run_inputs.specs.declared.inputs.Inputs.{Inputs}

twice : {A B C : Type 0} (f : A → B) (g : B → C) (given : Option A) → option_map (λ x. g (f x)) given ≡ option_map g (option_map f given)
twice f g None = refl
twice f g (Some x) = refl

-- what is made of others that inputs are made of is made of the inputs
pub of_made : {A B C : Type 0} (f : A → B) (g : B → C) (others : Inputs A) (inputs : Inputs B) → map_inputs f others ≡ inputs → map_inputs (λ x. g (f x)) others ≡ map_inputs g inputs
of_made {A} {B} {C} f g others inputs is =
    ap (λ (given : Option C). with_payees given (map_inputs (λ x. g (f x)) others)) (twice f g others.payees) ∙ ap (map_inputs g) is
