-- Each move of a lane keeps its rule.
use Rattle.std.proofs.Common.{arith, length-append, ◌≤◌, ◌≡◌, ◌≢◌, ℕ, zero, suc, true, false, true≢false, List, [], ◌∷◌, ◌++◌, All, length, take, set, sym, refl, ap, ◌∙◌, subst, ⊎_elim, append_assoc}
use Rattle.std.proofs.lemmas.List.Elements.{All-append, All-cons, All-nil, All-tail}
use Rattle.std.proofs.Math.Seq.{take-append_seam}
use mathlib.Core.Option.{some, some-ne-none}
use lib.ListN.{get_elem?}
use Rattle.queue_core.specs.declared.item.Item.{Item}
use Rattle.crossbeam_queue.specs.Fifo.{Pushes, Pops, Forks, Merges, Learns}
use Rattle.crossbeam_queue.proofs.Lists.{at_set, at_snoc}
use Rattle.mail_box.specs.declared.lane.Log.{Log}
use Rattle.queue_core.specs.Items.{IsFirstOf, IsInRange}
use Rattle.mail_box.specs.Lanes.{BeginsLane, Fits, Relays, log}

-- what one list begins is its first part
pub first_of : (part rest whole : List Item) → whole ≡ part ++ rest → IsFirstOf part whole
first_of part rest whole e = subst (λ w. take (length part) w ≡ part) (sym e) (take-append_seam part rest)

only_one : (x : Item) → IsInRange x → All IsInRange (x ∷ [])
only_one x h = All-cons IsInRange x [] h (All-nil IsInRange)

rest_of : (x : Item) (xs : List Item) → All IsInRange (x ∷ xs) → All IsInRange xs
rest_of x xs h = All-tail IsInRange x xs h

first_in : (x : Item) (xs : List Item) → All IsInRange (x ∷ xs) → IsInRange x
first_in x xs h = h 0 x (omega arith)

at_end : (l : List Log) (a b : Log) (j : ℕ) → get_elem? l j ≢ some b → get_elem? (l ++ a ∷ []) j ≡ some b → j ≡ length l
at_end [] a b zero n e = refl
at_end [] a b (suc j) n e = absurd (some-ne-none b (sym e))
at_end (x ∷ xs) a b zero n e = absurd (n e)
at_end (x ∷ xs) a b (suc j) n e = ap suc (at_end xs a b j n e)

abbrev Each : (ℕ → Log → Type 0) → List Log → Type 0
Each F views = (pass : ℕ) (v : Log) → get_elem? views pass ≡ some v → F pass v

each_set : (F : ℕ → Log → Type 0) (views : List Log) (pass : ℕ) (w : Log) → F pass w → ((j : ℕ) (u : Log) → j ≢ pass → get_elem? views j ≡ some u → F j u) → Each F (set views pass w)
each_set F views pass w mine others j u e = ⊎_elim (λ (x : (j ≡ pass) × (w ≡ u)). subst (λ (y : ℕ × Log). F y.0 y.1) (λ i. (sym x.0 i, x.1 i)) mine)
    (λ (x : (j ≢ pass) × (get_elem? views j ≡ some u)). others j u x.0 x.1) (at_set views pass j w u e)

pub begins : Relays [] (log true true [] [] ∷ [])
begins = (0, 0, [], [], refl, All-nil IsInRange, each_set (Fits 0 0 [] []) (log true true [] [] ∷ []) 0 (log true true [] []) ((λ _. (refl, refl)), λ _. (refl, refl)) (λ j u other e. absurd (other (at_end [] _ u j (λ x. some-ne-none u (sym x)) e))))

pub sends : (n pass : ℕ) (v : Log) (x : Item) → v.sends ≡ true → IsInRange x → Pushes Relays n pass v x (λ w. w ≡ log v.sends v.takes (v.sent ++ x ∷ []) v.got)
sends n pass v x may range items views _ h at = let w : Log = log v.sends v.takes (v.sent ++ x ∷ []) v.got in let mine = h.6 pass v at in let sent = h.2 ++ x ∷ [] in (
  w,
  (
    h.0,
    h.1,
    sent,
    h.3,
    ap (λ l. l ++ x ∷ []) h.4 ∙ append_assoc h.3 items (x ∷ []),
    All-append IsInRange items (x ∷ []) h.5 (only_one x range),
    each_set (Fits h.0 h.1 sent h.3) views pass w ((λ _. ((mine.0 may).0, ap (λ l. l ++ x ∷ []) (mine.0 may).1)), mine.1)
        (λ j u other e. ((λ p. absurd (other (((h.6 j u e).0 p).0 ∙ sym (mine.0 may).0))), (h.6 j u e).1)),
  ),
  refl,
)

pub takes : (pass : ℕ) (v : Log) → v.takes ≡ true → Pops Relays pass v (λ x w. (w ≡ log v.sends v.takes v.sent (v.got ++ x ∷ [])) × IsInRange x × BeginsLane w)
takes pass v may x items views h at = let w : Log = log v.sends v.takes v.sent (v.got ++ x ∷ []) in let mine = h.6 pass v at in let got = h.3 ++ x ∷ [] in
    let all : h.2 ≡ got ++ items = h.4 ∙ sym (append_assoc h.3 (x ∷ []) items) in (
      w,
      (
        h.0,
        h.1,
        h.2,
        got,
        all,
        rest_of x items h.5,
        each_set (Fits h.0 h.1 h.2 got) views pass w (mine.0, λ _. ((mine.1 may).0, ap (λ l. l ++ x ∷ []) (mine.1 may).1))
            (λ j u other e. ((h.6 j u e).0, λ p. absurd (other (((h.6 j u e).1 p).0 ∙ sym (mine.1 may).0)))),
      ),
      (refl, first_in x items h.5, λ s. first_of (v.got ++ x ∷ []) items v.sent ((mine.0 s).1 ∙ all ∙ ap (λ l. (l ++ x ∷ []) ++ items) (sym (mine.1 may).1))),
    )

pub forks : (pass : ℕ) (v : Log) → v.sends ≡ true → v.takes ≡ true → Forks Relays pass v (log true false v.sent []) (log false true [] v.got)
forks pass v a b items views h at = let l : Log = log true false v.sent [] in let r : Log = log false true [] v.got in let mine = h.6 pass v at in let vs : List Log = set views pass l in
    let Old : ℕ → Log → Type 0 = λ j u. (u.sends ≡ true → (j ≡ h.0) × (u.sent ≡ h.2)) × (u.takes ≢ true) in
    let old : Each Old vs = each_set Old views pass l ((λ _. mine.0 a), λ p. true≢false (sym p)) (λ j u other e. ((h.6 j u e).0, λ p. other (((h.6 j u e).1 p).0 ∙ sym (mine.1 b).0))) in (
      h.0,
      length vs,
      h.2,
      h.3,
      h.4,
      h.5,
      λ j u e. ⊎_elim (λ x. ((old j u x).0, λ p. absurd ((old j u x).1 p)))
          (λ (is : r ≡ u). ((λ p. absurd (true≢false (sym (ap (λ (y : Log). y.sends) is ∙ p)))), λ p. (at_end vs r u j (λ x. (old j u x).1 p) e, ap (λ (y : Log). y.got) (sym is) ∙ (mine.1 b).1))) (at_snoc vs r u j e),
    )

pub takes_in : (pass : ℕ) (v : Log) (other : ℕ) (u : Log) → v.takes ≡ true → u.sends ≡ true → Merges Relays pass v other u (log true true u.sent v.got) (log false false [] [])
takes_in pass v other u b a items views h at two at' = let both : Log = log true true u.sent v.got in let mine = h.6 pass v at in let vs : List Log = set views pass both in
    let was : get_elem? views other ≡ some u = ⊎_elim (λ x. absurd (two x.0)) (λ x. x.1) (at_set views pass other both u at') in let theirs = (h.6 other u was).0 a in
    let Now : ℕ → Log → Type 0 = λ j y. j ≢ other → Fits pass h.1 h.2 h.3 j y in
    let now : Each Now vs = each_set Now views pass both (λ _. ((λ _. (refl, theirs.1)), λ _. mine.1 b)) (λ j y _ e apart. ((λ p. absurd (apart (((h.6 j y e).0 p).0 ∙ sym theirs.0))), (h.6 j y e).1)) in
    (pass, h.1, h.2, h.3, h.4, h.5, each_set (Fits pass h.1 h.2 h.3) vs other (log false false [] []) ((λ p. absurd (true≢false (sym p))), λ p. absurd (true≢false (sym p))) (λ j y apart e. now j y e apart))

-- what a sender learns: the lane holds no more items than it has sent
pub waits : (pass : ℕ) (v : Log) → v.sends ≡ true → Learns Relays pass v (λ items. length items ≤ length v.sent)
waits pass v a items views h at =
    let mine = h.6 pass v at in
    let s : length v.sent ≡ length (h.3 ++ items) = ap length ((mine.0 a).1 ∙ h.4) in
    omega (arith, s, length-append h.3 items)

-- what a receiver learns that knows what was sent
pub learns : (pass : ℕ) (v : Log) → v.takes ≡ true → Learns Relays pass v (λ items. v.sends ≡ true → v.sent ≡ v.got ++ items)
learns pass v b items views h at a = let mine = h.6 pass v at in (mine.0 a).1 ∙ h.4 ∙ ap (λ l. l ++ items) (sym (mine.1 b).1)
