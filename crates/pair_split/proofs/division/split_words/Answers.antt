use Rattle.std.proofs.Common.{◌≡◌, ◌≤◌, ℕ, ℤ, unsigned_abs, w64, to_z, List, length, map, subst, ap, ◌∙◌, arith}
use Rattle.std.proofs.lemmas.Int.{to_z_pos}
use Rattle.std.proofs.lemmas.List.{length-map}
use Rattle.std.specs.Prelude.{IfOk, string_bytes}
use Rattle.line_split.specs.declared.TheConstants.{MOST_AMOUNT}
use Rattle.line_split.specs.FairSplit.{sizes_of}
use Rattle.line_split.specs.LargestRemainder.{portions_of}
use Rattle.line_split.specs.Signs.{signed_portions_of}
use Rattle.line_split.specs.WithRoom.{WithRoom}
use Rattle.line_split.proofs.FairSigns.{sizes_signed}
use Rattle.line_split.proofs.Signs.{portions_count}
use Rattle.pair_split.specs.Rows.{labels_of, text_of}
use Rattle.pair_split.proofs.Words.{length-claims}
use Rattle.pair_split.proofs.division.split_words.Goals as goal

pub split-requires-clause-room : goal.split-requires-clause-room
split-requires-clause-room c =
    let claims = ap (λ (l : List (ℕ × ℕ)). length l) c.in_ok-claims.ensures.claims ∙ (length-claims (map string_bytes c.args.words.now) ∙ length-map c.args.words.now string_bytes) in
    let room = ap (λ (p : WithRoom ℤ). p.room) c.in-Ok.ensures in
    omega (arith, claims, room)

-- the sizes of the portions of an amount that is not negative
sizes_divided : (amount : ℕ) (claims : List (ℕ × ℕ)) (list : List (ℕ × ℤ)) → amount ≤ MOST_AMOUNT → list ≡ signed_portions_of (to_z w64 amount) claims → sizes_of list ≡ portions_of amount claims
sizes_divided amount claims list small is =
    ap sizes_of is
    ∙ (sizes_signed (to_z w64 amount) (portions_of (unsigned_abs (to_z w64 amount)) claims)
    ∙ ap (λ (z : ℤ). portions_of (unsigned_abs z) claims) (to_z_pos w64 amount (omega (arith, small))))

pub rows-requires-clause-each : goal.rows-requires-clause-each
rows-requires-clause-each c =
    let claims = ap (λ (l : List (ℕ × ℕ)). length l) c.in_ok-claims.ensures.claims ∙ (length-claims (map string_bytes c.args.words.now) ∙ length-map c.args.words.now string_bytes) in
    let count = portions_count c.args.amount c.in_ok-claims.claims.list (sizes_of c.list.result.now)
    (sizes_divided c.args.amount c.in_ok-claims.claims.list c.list.result.now c.requires (c.list.ensures ∙ c.split.ensures.portions)) in
    let sizes : length (sizes_of c.list.result.now) ≡ length c.list.result.now = length-map c.list.result.now (λ (p : ℕ × ℤ). (p.0, unsigned_abs p.1)) in
    omega (arith, claims, count, sizes)

pub returns-clause-rows : goal.returns-clause-rows
returns-clause-rows c =
    subst (λ ps. IfOk c.rows.result (λ text. text.items ≡ text_of (labels_of (map string_bytes c.args.words.now)) ps))
    (sizes_divided c.args.amount c.in_ok-claims.claims.list c.list.result.now c.requires (c.list.ensures ∙ c.split.ensures.portions)
    ∙ ap (portions_of c.args.amount) c.in_ok-claims.ensures.claims)
    c.rows.ensures.text
