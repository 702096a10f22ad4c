-- The frame of a page.
use Rattle.std.specs.Prelude.{ℕ, ◌∷◌, [], List, codes}
use Rattle.page_parts.specs.Pieces.{all_of, in_page, in_style}
use Rattle.page_parts.specs.Style.{style_text}
use Rattle.page_parts.specs.declared.frame.TheConstants.{BEFORE_TITLE, PRINTED_FOOT}

-- what stands before the contents: a title, the style sheet, and what each printed page has at its foot
abbrev pub head_text : (words name distribution : List ℕ) → List ℕ
head_text words name distribution = all_of (
    BEFORE_TITLE.now ∷ words ∷ in_page name ∷ codes ": " ∷ in_page distribution ∷ codes "</title>\n<style>"
    ∷ style_text ∷ PRINTED_FOOT.now ∷ in_style distribution ∷ codes ". " ∷ words ∷ in_style name
    ∷ codes "\"}}</style>\n</head>\n<body>\n" ∷ [])

-- and behind them
abbrev pub tail_text : (words name distribution : List ℕ) → List ℕ
tail_text words name distribution = all_of (
    codes "</main>\n<footer>" ∷ in_page distribution ∷ codes ". " ∷ words ∷ in_page name
    ∷ codes ".</footer>\n</body>\n</html>\n" ∷ [])
