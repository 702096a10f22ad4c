-- Rows that are taken one after another.
use Rattle.std.proofs.Common.{◌≡◌, ◌∙◌, ◌++◌, ◌∷◌, [], ℕ, List, None, Option, Some, IfSome, ap, refl, sym, true}
use Rattle.std.specs.Prelude.{option_map}
use Rattle.csv.specs.Machine.{Read, next_record}
use Rattle.csv.specs.Reading.{NextIs, Reached, ReadsNext, strip_bom}
use Rattle.csv.specs.declared.parser.Config.{Config}
use Rattle.csv.specs.declared.parser.State.{State}
use Rattle.csv.specs.declared.parser.State.TheVariants.{StartRecord}
use Rattle.csv.proofs.ReadFacts.{reached-more}
use Rattle.export_rows.specs.Places.{AreRowsOf, HasEnded, HasRead, Place, Takes, config_of}
use Rattle.export_rows.specs.declared.delimiter.Delimiter.{Delimiter}

-- ---- one list of rows

pub one_list : (cfg : Config) (s s2 s3 : State) (xs ys zs : List ℕ) (rows other : List (List (List ℕ)))
    → Reached cfg s xs rows s2 ys → next_record cfg s2 [] [] ys ≡ None
    → Reached cfg s xs other s3 zs → next_record cfg s3 [] [] zs ≡ None → rows ≡ other
unfolding Reached
one_list cfg s s2 s3 xs ys zs [] [] a a_ends b b_ends = refl
one_list cfg s s2 s3 xs ys zs [] (row ∷ other) (state, text) a_ends (p, found, is, b) b_ends = absurd (
    cc (found, rw (← state, ← text) at a_ends))
one_list cfg s s2 s3 xs ys zs (row ∷ rows) [] (p, found, is, a) a_ends (state, text) b_ends = absurd (
    cc (found, rw (← state, ← text) at b_ends))
one_list cfg s s2 s3 xs ys zs (row ∷ rows) (row2 ∷ other) (p, found, is, a) a_ends (q, found2, is2, b) b_ends =
    let same : p ≡ q = cc in
    let rest = one_list cfg p.1 s2 s3 p.2 ys zs rows other a a_ends (rw (← same) at b) b_ends in
    let first : row ≡ row2 = cc in
    ap (λ (r : List (List ℕ)). r ∷ rows) first ∙ ap (λ (l : List (List (List ℕ))). row2 ∷ l) rest

-- ---- one row more

-- what a read that found a row gives
found_next : (next : Option Read) (row : List (List ℕ)) (state : State) (rest : List ℕ) → NextIs next true row state rest
    → (p : Read) × (next ≡ Some p) × (row ≡ p.0) × (state ≡ p.1) × (rest ≡ p.2)
found_next None row state rest is = cc is
found_next (Some p) row state rest is = (p, refl, is.1, is.2, is.3)

moved : (cfg : Config) (start s to : State) (text left rest : List ℕ) (rows : List (List (List ℕ))) (one other : List (List ℕ))
    → one ≡ other → s ≡ to → left ≡ rest → Reached cfg start text (rows ++ other ∷ []) to rest → Reached cfg start text (rows ++ one ∷ []) s left
moved cfg start s to text left rest rows one other row state last reached = rw (row, state, last) reached

goes_on : (cfg : Config) (start s to : State) (text left : List ℕ) (after : Option (List ℕ)) (rows : List (List (List ℕ))) (row : List (List ℕ))
    → ReadsNext cfg s (Some left) after true row to → Reached cfg start text rows s left
    → (rest : List ℕ) × (after ≡ Some rest) × Reached cfg start text (rows ++ row ∷ []) to rest
goes_on cfg start s to text left None rows row reads reached = absurd reads
goes_on cfg start s to text left (Some rest) rows row reads reached =
    let (p, is, same, state, last) = found_next (next_record cfg s [] [] left) row to rest reads in
    (rest, refl, moved cfg start to p.1 text rest p.2 rows row p.0 same state last (reached-more cfg start s text left rows p reached is))

pub read_more : (delimiter : Delimiter) (from : Option (List ℕ)) (rows : List (List (List ℕ))) (place next : Place)
    → HasRead delimiter from rows place → Takes place next → HasRead delimiter from (rows ++ next.row ∷ []) next
read_more delimiter None rows place next read takes = (takes.config ∙ read.0, tt)
read_more delimiter (Some text) rows place next (config, (left, unread, reached)) takes =
    let reads = rw (config, unread) at takes.row in
    (takes.config ∙ config, goes_on (config_of delimiter) StartRecord place.state next.state (strip_bom text) left next.unread rows next.row reads reached)

pub all_read : (delimiter : Delimiter) (from : Option (List ℕ)) (rows : List (List (List ℕ))) (place : Place)
    → HasRead delimiter from rows place → HasEnded place → IfSome from (λ text. AreRowsOf delimiter text rows)
all_read delimiter None rows place read ended = tt
all_read delimiter (Some text) rows place (config, (left, unread, reached)) ended =
    let none = rw (config, unread) at ended in
    (place.state, left, reached, none)

-- before the first row
pub none_read : (delimiter : Delimiter) (from : Option (List ℕ)) (config : Config) (state : State) (unread : Option (List ℕ))
    → config ≡ config_of delimiter → state ≡ StartRecord → unread ≡ option_map strip_bom from
    → HasRead delimiter from [] (record { row = []; config = config; state = state; unread = unread })
unfolding Reached
none_read delimiter None config state unread configured start all = (configured, tt)
none_read delimiter (Some text) config state unread configured start all = (configured, (strip_bom text, all, (sym start, refl)))
