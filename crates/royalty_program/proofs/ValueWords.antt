-- What a word that is no option is to clap's walk over the words, for a command with no subcommand.
use Rattle.std.proofs.Common.{◌≡◌, ◌∙◌, cond, ℕ, List, [], ◌∷◌, Some, None, ap, refl, false}
use Rattle.std.specs.Option.{option_map_or}
use Rattle.std.specs.Str.{bytes_eq}
use Rattle.std.proofs.lemmas.Bool.{ne_eqb}
use Rattle.clap.specs.Words.{Row, Rule, Shape, Text}
use Rattle.clap.specs.Faults.{bundle_fault, flag_word_fault, other_fault, step_fault, turn_fault, word_fault}
use Rattle.clap.specs.Lexer.{long_of, short_of}
use Rattle.clap.specs.Walk.{Held, Step, Waiting, Walk, long_or_other, plain_word, short_or_plain, subcommand_met, subcommand_or_other, trailing, word_met}
use Rattle.clap.specs.declared.builder.value_parser.Reading.TheVariants as reading
use Rattle.clap.specs.declared.parser.matches.ValueSource.TheVariants.{CommandLine}
use Rattle.royalty_program.specs.Asked.{IsValue}

-- an argument with the values that the words give it
abbrev pub row : Text → List Text → Row
row id values = record {
  id = id;
  values = values;
  count = None;
  source = Some CommandLine;
  reading = reading.AsWritten;
}

-- a value is neither `--`, nor a long or a short flag
no_dashes : (word : Text) → IsValue word → (bytes_eq word (45 ∷ 45 ∷ []) ≡ false) × (long_of word ≡ None) × (short_of word ≡ None)
no_dashes [] is = (refl, refl, refl)
no_dashes (x ∷ xs) is = rw (ne_eqb x 45 is) (refl, refl, refl)

-- so it goes to what waits for it, or to a positional
pub value_met : (c : List Rule) (waiting : Waiting) (position : ℕ) (word : Text) (h : Held) (met : Held × Step) → IsValue word
    → subcommand_met [] waiting word ≡ None → plain_word c waiting word h ≡ met → word_met c [] false waiting position word h ≡ met
value_met c waiting position word h met is none plain =
    let no = no_dashes word is in
    ap (λ o. subcommand_or_other c o waiting position word h) none
    ∙ ap (λ b. cond b (h, trailing position) (long_or_other c waiting word (long_of word) h)) no.0
    ∙ ap (λ o. long_or_other c waiting word o h) no.1
    ∙ ap (λ o. short_or_plain c waiting word o h) no.2
    ∙ plain

-- with no fault of its own
value_passes : (s : Shape) (waiting : Waiting) (word : Text) (h : Held) → IsValue word → subcommand_met [] waiting word ≡ None
    → word_fault s [] false waiting word h ≡ []
value_passes s waiting word h is none =
    let no = no_dashes word is in
    ap (λ o. other_fault s o word h) none
    ∙ ap (λ b. cond b [] (flag_word_fault s.rules s.args_override_self (long_of word) word h)) no.0
    ∙ ap (λ o. flag_word_fault s.rules s.args_override_self o word h) no.1
    ∙ ap (λ o. option_map_or (λ flags. bundle_fault s.rules s.args_override_self flags h) o []) no.2

-- a value's turn in the walk fails only as its step does
pub turn_step : (s : Shape) (w : Walk) (word : Text) (met : Held × Step) → IsValue word → w.is_trailing ≡ false → w.stopped ≡ None
    → subcommand_met [] w.waiting word ≡ None → plain_word s.rules w.waiting word w.held ≡ met
    → turn_fault s [] w word ≡ step_fault s w.position met.0 met.1
turn_step s w word met is going on none plain =
    let here = value_met s.rules w.waiting w.position word w.held met is none plain in
    let passes = value_passes s w.waiting word w.held is none in
    rw (going, on, here, passes) refl
