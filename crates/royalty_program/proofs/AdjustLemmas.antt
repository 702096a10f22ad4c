-- What a parse of the words of an adjustment gives.
use Rattle.std.proofs.Common.{◌≡◌, ◌∙◌, [], ◌∷◌, List, ap, arith, codes, is_some, refl, subst, true}
use Rattle.clap.specs.Words.{AddsArg, App, IsParsedFrom, Text, app_of, fault_of, first_value, found_of, is_simple, is_simple_and_free, new_app, rule_of}
use Rattle.clap.specs.declared.builder.arg.Arg.{Arg}
use Rattle.clap.specs.declared.builder.command.Command.{Command}
use Rattle.clap.specs.declared.parser.matches.ArgMatches.{ArgMatches}
use Rattle.royalty_program.specs.AdjustCommand.{IsAdjustCommand, adjust_app, text_rule}
use Rattle.royalty_program.specs.Args.{HasArgs, IsOptionalArg, IsRequiredArg, optional_rule}
use Rattle.royalty_program.specs.Asked.{AreAccepted}
use Rattle.royalty_program.proofs.OptionLemmas.{HasOptions, as_optional, has_more, has_value, optional_same, options_of}
use Rattle.royalty_program.proofs.SplitLemmas.{required_same}

-- a new command with the three arguments is the command of an adjustment
pub adds_three : (c0 c1 c2 c3 : Command) (output paid right : Arg) → HasArgs c0 [] (new_app (codes "adjust")) → AddsArg c0 output c1 → AddsArg c1 paid c2 → AddsArg c2 right c3
    → IsOptionalArg (codes "output") output → IsRequiredArg (codes "PAID") paid → IsRequiredArg (codes "RIGHT") right
    → rule_of output ≡ optional_rule (codes "output") → rule_of paid ≡ text_rule (codes "PAID") → rule_of right ≡ text_rule (codes "RIGHT") → IsAdjustCommand c3
adds_three c0 c1 c2 c3 output paid right has a1 a2 a3 n1 n2 n3 r1 r2 r3 =
    let h1 = has_more c0 c1 output _ _ _ _ has a1 n1 r1 in
    let h2 = has_more c1 c2 paid _ _ _ _ h1 a2 (as_optional _ paid n2) r2 in record {
      output = a1.arg;
      paid = a2.arg;
      right = a3.arg;
      may_have_output = optional_same _ output a1.arg a1.rules n1;
      needs_paid = required_same _ paid a2.arg a2.rules n2;
      needs_right = required_same _ right a3.arg a3.rules n3;
      has = has_more c2 c3 right _ _ _ _ h2 a3 (as_optional _ right n3) r3;
    }

pub adjust_simple : is_simple adjust_app ≡ true
adjust_simple = refl

pub adjust_free : is_simple_and_free adjust_app ≡ true
adjust_free = refl

-- the names of its arguments
abbrev pub adjust_names : List Text
adjust_names = codes "output" ∷ codes "PAID" ∷ codes "RIGHT" ∷ []

pub adjust_options : (c : Command) → IsAdjustCommand c → HasOptions c adjust_names adjust_app
adjust_options c s =
    options_of c (s.output ∷ s.paid ∷ s.right ∷ []) adjust_names adjust_app s.has (rw (s.may_have_output.id, s.needs_paid.id, s.needs_right.id) refl) refl

-- words whose parse does not fail are accepted
pub accepted_is : (c : Command) (words : List Text) → IsAdjustCommand c → (is_simple_and_free (app_of c) ≡ true → fault_of (app_of c) words ≡ []) → AreAccepted adjust_app words
unfolding AreAccepted
accepted_is c words s passes = subst (λ (a : App). fault_of a words ≡ []) s.has.shape (passes (ap is_simple_and_free s.has.shape ∙ adjust_free))

-- both paths are there
pub has_paid : (c : Command) (m : ArgMatches) → IsAdjustCommand c → IsParsedFrom c m → is_some (first_value (found_of m) (codes "PAID")) ≡ true
has_paid c m s p = has_value c adjust_names adjust_app m (codes "PAID") s.paid 1 (adjust_options c s) p s.needs_paid (rw s.has.list refl) (omega arith)

pub has_right : (c : Command) (m : ArgMatches) → IsAdjustCommand c → IsParsedFrom c m → is_some (first_value (found_of m) (codes "RIGHT")) ≡ true
has_right c m s p = has_value c adjust_names adjust_app m (codes "RIGHT") s.right 2 (adjust_options c s) p s.needs_right (rw s.has.list refl) (omega arith)
