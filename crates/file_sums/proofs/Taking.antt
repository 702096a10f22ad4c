-- How reading goes on by a line.
use Rattle.std.proofs.Common.{◌≡◌, ℕ, List, [], ◌∷◌, ◌++◌, All, sym, ap, ◌∙◌, append_assoc, append-nil}
use Rattle.std.proofs.lemmas.List.{flat_map_more}
use Rattle.std.proofs.lemmas.List.Elements.{All-nil, All-push}
use Rattle.std.specs.List.{flat_map}
use Rattle.file_sums.specs.Sums.{FitsInComment, IsSeal, IsSum, Seal, Sum, comment_line, line_of, text_of_seal}
use Rattle.file_sums.specs.Stuck.{IsStuck, TakesComment, TakesSum}
use Rattle.file_sums.proofs.LineLemmas.{IsOther, comment_body, comment_has_no_feed, cut_at_feed, has_no_line, sum_body, sum_has_no_feed}

-- without a line feed there is no line more
pub stuck_without_feed : (sums : List Sum) (text : List ℕ) → All IsOther text → IsStuck sums text
stuck_without_feed sums text none = record {
  no_sum = λ sum behind is e. has_no_line text (sum_body sum) behind none (e ∙ append_assoc (sum_body sum) (10 ∷ []) behind);
  no_comment = λ comment behind fits first e. has_no_line text (comment_body comment) behind none (e ∙ append_assoc (comment_body comment) (10 ∷ []) behind);
}

-- nor at a line that is neither
pub stuck_at_line : (sums : List Sum) (line behind text : List ℕ) → All IsOther line → text ≡ line ++ 10 ∷ behind
    → ((comment : List ℕ) → FitsInComment comment → sums ≡ [] → ¬ (comment_line comment ≡ line ++ 10 ∷ []))
    → ((sum : Sum) → IsSum sum → ¬ (line_of sum ≡ line ++ 10 ∷ [])) → IsStuck sums text
stuck_at_line sums line behind text none cut no_comment no_sum = record {
  no_sum = λ sum more is e. no_sum sum is
      (ap (λ (b : List ℕ). b ++ 10 ∷ []) (cut_at_feed (sum_body sum) line more behind (sum_has_no_feed sum is) none
      (sym (append_assoc (sum_body sum) (10 ∷ []) more) ∙ sym e ∙ cut)).0);
  no_comment = λ comment more fits first e. no_comment comment fits first
      (ap (λ (b : List ℕ). b ++ 10 ∷ []) (cut_at_feed (comment_body comment) line more behind (comment_has_no_feed comment fits) none
      (sym (append_assoc (comment_body comment) (10 ∷ []) more) ∙ sym e ∙ cut)).0);
}

-- what was read has the line, and all fits
pub comment_taken : (before after : Seal) (line behind text : List ℕ) → IsSeal before → TakesComment before after line → text ≡ line ++ 10 ∷ behind
    → IsSeal after × (text_of_seal after ++ behind ≡ text_of_seal before ++ text)
comment_taken before after line behind text sound takes cut =
    let whole : text ≡ comment_line takes.comment ++ behind = cut ∙ sym (append_assoc line (10 ∷ []) behind) ∙ ap (λ (t : List ℕ). t ++ behind) (sym takes.is) in
    let comments : flat_map comment_line after.comments ≡ flat_map comment_line before.comments ++ comment_line takes.comment =
    ap (flat_map comment_line) takes.comments ∙ sym (flat_map_more comment_line [] before.comments takes.comment) in
    let after_text : text_of_seal after ≡ flat_map comment_line before.comments ++ comment_line takes.comment = rw (comments, takes.sums) (append-nil _) in
    let before_text : text_of_seal before ≡ flat_map comment_line before.comments = rw takes.first (append-nil _) in (
      record {
        comments = rw takes.comments (All-push FitsInComment before.comments takes.comment sound.comments takes.fits);
        sums = rw takes.sums (All-nil IsSum);
      },
      rw (after_text, before_text, whole) (append_assoc (flat_map comment_line before.comments) (comment_line takes.comment) behind),
    )

pub sum_taken : (before after : Seal) (line behind text : List ℕ) → IsSeal before → TakesSum before after line → text ≡ line ++ 10 ∷ behind
    → IsSeal after × (text_of_seal after ++ behind ≡ text_of_seal before ++ text)
sum_taken before after line behind text sound takes cut =
    let whole : text ≡ line_of takes.sum ++ behind = cut ∙ sym (append_assoc line (10 ∷ []) behind) ∙ ap (λ (t : List ℕ). t ++ behind) (sym takes.is) in
    let after_text : text_of_seal after ≡ text_of_seal before ++ line_of takes.sum =
    rw (takes.comments, takes.sums) (sym (flat_map_more line_of (flat_map comment_line before.comments) before.sums takes.sum)) in (
      record {
        comments = rw takes.comments sound.comments;
        sums = rw takes.sums (All-push IsSum before.sums takes.sum sound.sums takes.fits);
      },
      rw (after_text, whole) (append_assoc (text_of_seal before) (line_of takes.sum) behind),
    )
