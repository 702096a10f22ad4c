-- Kinds of error that ask for neither help nor the version.
use Rattle.std.proofs.Common.{◌≢◌, ◌∙◌, ◌==◌, ◌&&◌, nat_lt, cond, Bool, ℕ, List, [], ◌∷◌, sym, inl, inr, true, false, is_some}
use Rattle.clap.specs.Words.{App, IsAmong, Kinds, Text, built}
use Rattle.clap.specs.Faults.{check_fault, defaults_fault, entered_fault, settle_fault}
use Rattle.clap.specs.Kinds.{or_else, range_kinds, values_kinds}
use Rattle.clap.specs.Simple.{entered}
use Rattle.clap.specs.Values.{refused_kind}
use Rattle.clap.specs.ValueTests.{accepts}
use Rattle.clap.specs.Walk.{Walk, finished, settled}
use Rattle.clap.specs.declared.builder.value_parser.ValueParser.{ValueParser}
use Rattle.clap.specs.declared.error.kind.ErrorKind.{ErrorKind}
use Rattle.clap.specs.declared.error.kind.ErrorKind.TheVariants as kinds

-- none of the kinds asks for help or the version
pub record NoHelp (some : Kinds) : Type 0 where
  pub asks : (k : ErrorKind) → IsAmong k some → (k ≢ kinds.DisplayHelp) × (k ≢ kinds.DisplayVersion)

pub no_kind : NoHelp []
no_kind = record { asks = λ k among. absurd among }

pub one_kind : (x : ErrorKind) → x ≢ kinds.DisplayHelp → x ≢ kinds.DisplayVersion → NoHelp (x ∷ [])
one_kind x help version = record { asks = asks }
  where
    asks : (k : ErrorKind) → IsAmong k (x ∷ []) → (k ≢ kinds.DisplayHelp) × (k ≢ kinds.DisplayVersion)
    asks k (inl is) = (λ e. help (sym is ∙ e), λ e. version (sym is ∙ e))
    asks k (inr none) = absurd none

one_of_two : (b : Bool) (xs ys : Kinds) → NoHelp xs → NoHelp ys → NoHelp (cond b xs ys)
one_of_two true xs ys x y = x
one_of_two false xs ys x y = y

pub in_turn : (xs ys : Kinds) → NoHelp xs → NoHelp ys → NoHelp (or_else xs ys)
in_turn [] ys x y = y
in_turn (k ∷ ks) ys x y = x

pub range_no_help : (least most n : ℕ) → NoHelp (range_kinds least most n)
range_no_help least most n =
    one_of_two (nat_lt 0 least && n == 0) _ _ (one_kind kinds.InvalidValue (λ e. cc) (λ e. cc))
    (one_of_two (least == most) _ _ (one_of_two (least == n) _ _ no_kind (one_kind kinds.WrongNumberOfValues (λ e. cc) (λ e. cc)))
    (one_of_two (nat_lt n least) _ _ (one_kind kinds.TooFewValues (λ e. cc) (λ e. cc))
    (one_of_two (nat_lt most n) _ _ (one_kind kinds.TooManyValues (λ e. cc) (λ e. cc)) no_kind)))

pub values_no_help : (parser : ValueParser) → NoHelp (refused_kind parser ∷ []) → (values : List Text) → NoHelp (values_kinds false parser values)
values_no_help parser refused [] = no_kind
values_no_help parser refused (v ∷ vs) = in_turn _ _ (one_of_two (accepts false parser v) [] (refused_kind parser ∷ []) no_kind refused) (values_no_help parser refused vs)

-- the kinds that are left to a command with no subcommand after the walk
abbrev pub fault_after : App → Walk → Kinds
fault_after a w = or_else (entered_fault (built a) w.stopped)
    (or_else (settle_fault (built a).top.rules (built a).top.args_override_self w.held)
    (or_else (defaults_fault (settled (built a).top.rules w.held).rows (built a).top.rules)
    (check_fault (built a).top (finished (built a).top.rules w.held) (is_some (entered (built a) w.stopped)))))
