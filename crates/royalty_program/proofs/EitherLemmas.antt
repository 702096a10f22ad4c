-- What holds of a run over one file, or of one over the files of several submitters.
use Rattle.std.proofs.Common.{◌≡◌, ℕ, Bool, true, false, List, subst}
use Rattle.royalty_program.specs.Answered.{AreOneFile, AreSubmitted}
use Rattle.royalty_program.specs.Asked.{EitherRun}
use Rattle.royalty_program.specs.RunInputs.{EitherInputs}
use Rattle.royalty_program.specs.SubmittedFiles.{SubmittedPaths}
use Rattle.royalty_program.specs.declared.inputs.RunInputs.{RunInputs}
use Rattle.royalty_program.specs.declared.inputs.RunInputs.TheVariants.{OneFile, Submitted}
use Rattle.run_inputs.specs.declared.inputs.Inputs.{Inputs}

-- which of the two it is
pub of_one_file : (several : Bool) (One Many : Type 0) → several ≡ false → EitherRun several One Many → One
of_one_file false One Many is one = one
of_one_file true One Many is many = cc

pub of_several : (several : Bool) (One Many : Type 0) → several ≡ true → EitherRun several One Many → Many
of_several false One Many is one = cc
of_several true One Many is many = many

-- what holds of the inputs holds of the paths that they are
pub by_inputs : (One : Inputs (List ℕ) → Type 0) (Many : SubmittedPaths → Type 0) (several : Bool) (paths : Inputs (List ℕ)) (all : SubmittedPaths) (inputs : RunInputs)
    → EitherRun several (AreOneFile paths inputs) (AreSubmitted all inputs) → EitherInputs One Many inputs → EitherRun several (One paths) (Many all)
by_inputs One Many false paths all (OneFile inputs) same is = subst One same is
by_inputs One Many false paths all (Submitted inputs) none is = absurd none
by_inputs One Many true paths all (OneFile inputs) none is = absurd none
by_inputs One Many true paths all (Submitted inputs) same is = subst Many same is
