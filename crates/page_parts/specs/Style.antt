-- The style sheet.
use Rattle.std.specs.Prelude.{ℕ, ◌++◌, List}
use Rattle.page_parts.specs.declared.style.TheConstants.{COLOURS, WORDS, FACTS, TABLES, USES, NOTES, NARROW, PAPER}

unfoldable pub style_text : List ℕ
style_text =
    COLOURS.now ++ (WORDS.now ++ (FACTS.now ++ (TABLES.now ++ (USES.now ++ (NOTES.now ++ (NARROW.now ++ PAPER.now))))))
