-- What the words of a mapping say, one after another.
use Rattle.std.proofs.Common.{◌≡◌, ◌++◌, ◌∷◌, ◌∙◌, [], ℕ, List, ap, map, refl, subst, sym}
use Rattle.std.specs.Prelude.{string_bytes}
use Rattle.std.proofs.lemmas.List.{append_assoc}
use Rattle.sales_import.specs.Mapped.{AreConditions, AreSources, Header, IsConditionOf, IsFaultAmong, IsFaultOfWord, columns_wanted}
use Rattle.sales_import.specs.declared.import_fault.ImportFault.{ImportFault}
use Rattle.sales_import.specs.declared.import_fault.ImportFault.TheVariants.{Read, Lines, Rejects, Headless, Column, Memory}
use Rattle.sales_import.specs.declared.mapping.Wanted.{Wanted}
use Rattle.sales_lines.specs.Columns.{IsSourceOf, IsWordFault}
use Rattle.sales_lines.specs.declared.settings.Condition.{Condition}
use Rattle.sales_lines.specs.declared.source.Source.{Source}

pub sources_more : (header : Header) (words : List (List ℕ)) (sources : List Source) (word : List ℕ) (source : Source) → AreSources header words sources
    → IsSourceOf header word source → AreSources header (words ++ word ∷ []) (sources ++ source ∷ [])
sources_more header [] [] word source are is = (is, tt)
sources_more header [] (other ∷ sources) word source are is = absurd are
sources_more header (first ∷ words) [] word source are is = absurd are
sources_more header (first ∷ words) (other ∷ sources) word source (own, are) is = (own, sources_more header words sources word source are is)

pub conditions_more : (header : Header) (wanted : List Wanted) (conditions : List Condition) (more : Wanted) (condition : Condition)
    → AreConditions header wanted conditions → IsConditionOf header more condition → AreConditions header (wanted ++ more ∷ []) (conditions ++ condition ∷ [])
conditions_more header [] [] more condition are is = (is, tt)
conditions_more header [] (other ∷ conditions) more condition are is = absurd are
conditions_more header (first ∷ wanted) [] more condition are is = absurd are
conditions_more header (first ∷ wanted) (other ∷ conditions) more condition (own, are) is =
    (own, conditions_more header wanted conditions more condition are is)

pub sources_append : (header : Header) (words others : List (List ℕ)) (sources more : List Source) → AreSources header words sources
    → AreSources header others more → AreSources header (words ++ others) (sources ++ more)
sources_append header [] others [] more are rest = rest
sources_append header [] others (source ∷ sources) more are rest = absurd are
sources_append header (word ∷ words) others [] more are rest = absurd are
sources_append header (word ∷ words) others (source ∷ sources) more (own, are) rest = (own, sources_append header words others sources more are rest)

-- what the columns of conditions say
pub columns_of : (header : Header) (wanted : List Wanted) (conditions : List Condition) → AreConditions header wanted conditions
    → AreSources header (columns_wanted wanted) (map (λ (each : Condition). each.source) conditions)
columns_of header [] [] are = tt
columns_of header [] (other ∷ conditions) are = absurd are
columns_of header (first ∷ wanted) [] are = absurd are
columns_of header (first ∷ wanted) (other ∷ conditions) (own, are) = (own.0, columns_of header wanted conditions are)

-- what is wrong with the first of words
pub here : (header : Header) (word : List ℕ) (words : List (List ℕ)) (fault : ImportFault) → IsFaultOfWord header word fault → IsFaultAmong header (word ∷ words) fault
here header word words (Read error) is = absurd is
here header word words (Lines error) is = absurd is
here header word words (Rejects error) is = absurd is
here header word words Headless is = absurd is
here header word words (Column fault named) (same, is) = record {
  before = [];
  after = words;
  sources = [];
  is = ap (λ (w : List ℕ). w ∷ words) (sym same);
  read = tt;
  at_fault = subst (λ (w : List ℕ). IsWordFault header w fault) (sym same) is;
}
here header word words Memory is = tt

-- what is wrong with words, after others that say where values stand
pub past : (header : Header) (words others : List (List ℕ)) (sources : List Source) (fault : ImportFault) → AreSources header words sources
    → IsFaultAmong header others fault → IsFaultAmong header (words ++ others) fault
past header words others sources (Read error) are is = absurd is
past header words others sources (Lines error) are is = absurd is
past header words others sources (Rejects error) are is = absurd is
past header words others sources Headless are is = absurd is
past header words others sources (Column fault named) are is = record {
  before = words ++ is.before;
  after = is.after;
  sources = sources ++ is.sources;
  is = ap (λ (w : List (List ℕ)). words ++ w) is.is ∙ sym (append_assoc words is.before (string_bytes named ∷ is.after));
  read = sources_append header words is.before sources is.sources are is.read;
  at_fault = is.at_fault;
}
past header words others sources Memory are is = tt

-- and before others
pub before : (header : Header) (words others : List (List ℕ)) (fault : ImportFault) → IsFaultAmong header words fault → IsFaultAmong header (words ++ others) fault
before header words others (Read error) is = absurd is
before header words others (Lines error) is = absurd is
before header words others (Rejects error) is = absurd is
before header words others Headless is = absurd is
before header words others (Column fault named) is = record {
  before = is.before;
  after = is.after ++ others;
  sources = is.sources;
  is = ap (λ (w : List (List ℕ)). w ++ others) is.is ∙ append_assoc is.before (string_bytes named ∷ is.after) others;
  read = is.read;
  at_fault = is.at_fault;
}
before header words others Memory is = tt
