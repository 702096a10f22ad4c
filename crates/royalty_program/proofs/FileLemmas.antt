-- Which of the files of a run is the first that cannot be read, and what holds after an error.
use Rattle.std.proofs.Common.{◌≡◌, ℕ, Err, List, None, Ok, OnErr, Option, Result, Some, ap, inl, inr, refl, subst, sym}
use Rattle.std.specs.Option.{IfSome, IsSome, option_map}
use Rattle.std.specs.Prelude.{String, string_bytes}
use Rattle.std.specs.declared.alloc.Global.{Global}
use Rattle.std.specs.declared.io.ErrorKind.{ErrorKind}
use Rattle.std.specs.declared.io.ErrorKind.TheVariants.{OutOfMemory}
use Rattle.royalty_program.specs.Status.{IsFirst, IsOfFile, IsOfNoInput, IsOfPaths, IsRefusal, failure_of_file, failure_of_run}
use Rattle.royalty_program.specs.Files.{HoldsIfGiven, IsFaultOver}
use Rattle.run_inputs.specs.declared.fault.Fault.{Fault}
use Rattle.run_inputs.specs.declared.fault.Fault.TheVariants.{Tis, Cwr, Usage, Room, Payee}
use Rattle.run_inputs.specs.Inputs.{map_inputs}
use Rattle.run_inputs.specs.declared.inputs.Inputs.{Inputs}
use Rattle.royalty_program.specs.declared.failure.Failure.{Failure}

module _ (holds : List ℕ → List ℕ → Type 0) (refuses : List ℕ → ErrorKind → Type 0) (paths : Inputs (List ℕ)) where
  -- a file that is refused with this kind of error is not read, but for lack of memory
  of_kind : (path : String Global) → IsFirst holds paths (string_bytes path) → (kind : ErrorKind) → refuses (string_bytes path) kind → IsOfPaths holds refuses paths (failure_of_file kind path)
  of_kind path first OutOfMemory refused = tt
  of_kind path first kind refused = record { unread = (kind, refused, λ memory. cc); first = first }

  of_file : (path : String Global) (failure : Failure) → IsFirst holds paths (string_bytes path) → IsOfFile refuses path failure → IsOfPaths holds refuses paths failure
  of_file path failure first fails = subst (IsOfPaths holds refuses paths) (sym fails.2) (of_kind path first fails.0 fails.1)

  -- a fault of the files is why the run fails, where it is no lack of memory
  pub fails : (fault : Fault) → IsFaultOver holds paths fault → IsOfPaths holds refuses paths (failure_of_run fault)
  fails (Tis fault) is = is
  fails (Payee fault) is = is
  fails (Cwr fault) is = is
  fails (Usage fault) is = is
  fails Room is = tt

module _ (holds : List ℕ → List ℕ → Type 0) (refuses : List ℕ → ErrorKind → Type 0) (inputs : Inputs (String Global)) (failure : Failure) where
  abbrev paths : Inputs (List ℕ)
  paths = map_inputs string_bytes inputs

  -- of the files of a run the one that is looked at is the first that is not read, where those before it were read
  pub tis_unread : IsOfFile refuses inputs.territories failure → IsOfPaths holds refuses paths failure
  tis_unread fails = of_file holds refuses paths inputs.territories failure (inl refl) fails

  module _ (territories : List ℕ) (read : holds paths.territories territories) where
    pub payees_unread : IsSome inputs.payees → IfSome inputs.payees (λ path. IsOfFile refuses path failure) → IsOfPaths holds refuses paths failure
    payees_unread there fails = by inputs.payees refl there fails
      where
        by : (given : Option (String Global)) → inputs.payees ≡ given → IsSome given → IfSome given (λ path. IsOfFile refuses path failure) → IsOfPaths holds refuses paths failure
        by None is there fails = cc
        by (Some path) is there fails = of_file holds refuses paths path failure (inr (territories, read, inl (ap (option_map string_bytes) (sym is)))) fails

    module _ (payees : Option (List ℕ)) (paid : HoldsIfGiven holds paths.payees payees) where
      pub cwr_unread : IsOfFile refuses inputs.registrations failure → IsOfPaths holds refuses paths failure
      cwr_unread fails = of_file holds refuses paths inputs.registrations failure (inr (territories, read, inr (payees, paid, inl refl))) fails

      pub usage_unread : (registrations : List ℕ) → holds paths.registrations registrations → IsOfFile refuses inputs.usage failure → IsOfPaths holds refuses paths failure
      usage_unread registrations registered fails =
          of_file holds refuses paths inputs.usage failure (inr (territories, read, inr (payees, paid, inr (registrations, registered, refl)))) fails

-- what a file fails for is no fault of an input
pub no_input : (refuses : List ℕ → ErrorKind → Type 0) (path : String Global) (failure : Failure) → IsOfFile refuses path failure → IsOfNoInput failure
no_input refuses path failure fails = subst IsOfNoInput (sym fails.2) (by fails.0)
  where
    by : (kind : ErrorKind) → IsOfNoInput (failure_of_file kind path)
    by OutOfMemory = tt
    by kind = tt

pub no_input_if_given : (refuses : List ℕ → ErrorKind → Type 0) (path : Option (String Global)) (failure : Failure) → IsSome path → IfSome path (λ path. IsOfFile refuses path failure) → IsOfNoInput failure
no_input_if_given refuses None failure there fails = cc
no_input_if_given refuses (Some path) failure there fails = no_input refuses path failure fails

-- a fault of an input is a refusal, and lack of memory is one of its own
pub is_refusal : (fault : Fault) → IsRefusal (failure_of_run fault)
is_refusal (Tis fault) = λ same. cc same
is_refusal (Payee fault) = λ same. cc same
is_refusal (Cwr fault) = λ same. cc same
is_refusal (Usage fault) = λ same. cc same
is_refusal Room = tt

-- what always holds does after an error
pub after : {T E : Type 0} (r : Result T E) (P : Type 0) → P → OnErr r P
after (Ok x) P p = tt
after (Err e) P p = p
