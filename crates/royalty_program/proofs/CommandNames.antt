-- That the words of the commands differ.
use Rattle.std.proofs.Common.{◌≡◌, ◌∙◌, List, codes, drop, false, refl, subst, sym, ℕ}
use Rattle.std.specs.Str.{bytes_eq}
use Rattle.std.proofs.lemmas.Bool.{false≢true}
use Rattle.std.proofs.lemmas.Slice.Eq.{bytes_eq-Decides}
use Rattle.pair_split.specs.Pair.{word_at}
use Rattle.royalty_program.specs.Answered.{AreStarting}
use Rattle.royalty_program.specs.Asked.{files_given}
use Rattle.royalty_program.specs.NamedFiles.{AreNamedBy}
use Rattle.royalty_program.specs.StartingCommand.{starting_app, starting_name}
use Rattle.royalty_program.specs.declared.starting_command.StartingWords.{StartingWords}
use Rattle.starting_files.specs.declared.making.StartingTable.{StartingTable}
use Rattle.starting_files.specs.declared.making.StartingTable.TheVariants.{Works, Parties}

-- words of different bytes are not the same
pub differ : {own other : List ℕ} → own ≡ other → bytes_eq own other ≡ false → ⊥
differ {own} {other} same unequal = false≢true (sym unequal ∙ (bytes_eq-Decides own other).1 same)

-- a word that is neither `works` nor `parties` asks for no table
pub no_table : {own : List ℕ} → bytes_eq own (codes "works") ≡ false → bytes_eq own (codes "parties") ≡ false → (table : StartingTable) → ¬ (own ≡ starting_name table)
no_table works parties Works same = differ same works
no_table works parties Parties same = differ same parties

-- and each table has a name of its own
same_table : (own table : StartingTable) → starting_name own ≡ starting_name table → own ≡ table
same_table Works Works same = refl
same_table Works Parties same = absurd (differ same refl)
same_table Parties Works same = absurd (differ same refl)
same_table Parties Parties same = refl

-- so what is read for a table is what any words ask for that name one
pub starting_given : (words : List (List ℕ)) (own : StartingTable) (asked : StartingWords) → word_at words 1 ≡ starting_name own → asked.table ≡ own
    → AreNamedBy (files_given (starting_app own) (drop 1 words)) asked.files → (table : StartingTable) → word_at words 1 ≡ starting_name table → AreStarting table (drop 1 words) asked
starting_given words own asked command is named table names =
    let same = same_table own table (sym command ∙ names) in
    record { table_is = is ∙ same; files = subst (λ (t : StartingTable). AreNamedBy (files_given (starting_app t) (drop 1 words)) asked.files) same named }
