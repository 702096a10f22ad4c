-- What keeps a chain: an entry more, a link that is stored, the first that is passed, other words that change, and other numbers of nodes.
use Rattle.std.proofs.Common.{◌≡◌, ◌∙◌, ◌<◌, ◌+◌, ◌-◌, ◌++◌, ◌∷◌, [], ℕ, Bool, true, false, List, length, drop, ap, sym, subst, inl, inr, arith}
use Rattle.std.specs.Prelude.{if◌then◌else◌}
use Rattle.std.proofs.lemmas.Bool.{cases_eq, cases_lt}
use Rattle.std.proofs.lemmas.List.{get_or_append_left, get_or_default, get_or_push, length_push, get_or-drop, length-drop}
use Rattle.std.proofs.lemmas.List.Quantifiers.{all_pairs_push}
use Rattle.queue_core.specs.declared.entry.Entry.{Entry}
use Rattle.queue_core.specs.declared.entry.Entry.TheVariants.{Stub}
use Rattle.queue_core.specs.Chain.{IsChain, entry_at, link_word}

module _ (node : Entry → ℕ) (next : ℕ → ℕ) (flies : Entry → Bool) (head tail : ℕ) (left : List Entry) (c : IsChain node next flies head tail left) where
  -- the links of what is left and whether it flies are the same
  pub frame : (next' : ℕ → ℕ) (flies' : Entry → Bool) → ((i : ℕ) → i < length left → next' (node (entry_at left i)) ≡ next (node (entry_at left i))) → ((i : ℕ) → i < length left → flies' (entry_at left i) ≡ flies (entry_at left i))
      → IsChain node next' flies' head tail left
  frame next' flies' same still = record {
    some = c.some;
    apart = c.apart;
    first_linked = still 0 c.some ∙ c.first_linked;
    tail_is = c.tail_is;
    head_is = c.head_is;
    links = λ i within. same i (omega (arith, within)) ∙ (c.links i within ∙ ap (λ b. if b then 0 else node (entry_at left (i + 1)) + 1) (sym (still (i + 1) within)));
    end = same (length left - 1) (omega (arith, c.some)) ∙ c.end;
  }

  -- an entry more, in flight: SwapHead and StubSwap
  pub push : (e : Entry) (flies' : Entry → Bool) → ((i : ℕ) → i < length left → ¬ (node (entry_at left i) ≡ node e)) → next (node e) ≡ 0
      → ((i : ℕ) → i < length left → flies' (entry_at left i) ≡ flies (entry_at left i)) → flies' e ≡ true → IsChain node next flies' (node e + 1) tail (left ++ e ∷ [])
  push e flies' apart null still flying =
      let long : length (left ++ e ∷ []) ≡ length left + 1 = length_push left e in
      let old : (i : ℕ) → i < length left → entry_at (left ++ e ∷ []) i ≡ entry_at left i = λ i within. get_or_append_left left (e ∷ []) Stub i within in
      let new : (i : ℕ) → length left ≡ i → entry_at (left ++ e ∷ []) i ≡ e = λ i is. get_or_push left e Stub i is in
      let last : entry_at (left ++ e ∷ []) (length (left ++ e ∷ []) - 1) ≡ e = new _ (omega (arith, long)) in
      record {
        some = omega (arith, long);
        apart = all_pairs_push (λ e f. ¬ (node e ≡ node f)) left e c.apart (λ k d within same. apart k within (ap node (get_or_default left k Stub d within) ∙ same));
        first_linked = ap flies' (old 0 c.some) ∙ (still 0 c.some ∙ c.first_linked);
        tail_is = c.tail_is ∙ ap node (sym (old 0 c.some));
        head_is = ap (λ f. node f + 1) (sym last);
        links = λ i within. elim (cases_lt (i + 1) (length left)) [
          | inl inside ↦
              ap (λ f. next (node f)) (old i (omega (arith, inside)))
              ∙ (c.links i inside ∙ (ap (λ b. if b then 0 else node (entry_at left (i + 1)) + 1) (sym (still (i + 1) inside)) ∙ ap (link_word node flies') (sym (old (i + 1) inside))))
          | inr edge ↦
              let here : i ≡ length left - 1 = omega (arith, within, edge, long) in
              ap (λ f. next (node f)) (old i (omega (arith, here, c.some)))
              ∙ (ap (λ j. next (node (entry_at left j))) here ∙ (c.end ∙ (sym (ap (λ b. if b then 0 else node e + 1) flying) ∙ ap (link_word node flies') (sym (new (i + 1) (omega (arith, here, c.some)))))))
        ];
        end = ap (λ f. next (node f)) last ∙ null;
      }

  -- two places with one node are one place
  pub same_place : (i j : ℕ) → i < length left → j < length left → node (entry_at left i) ≡ node (entry_at left j) → i ≡ j
  same_place i j wi wj same = elim (cases_lt i j) [
    | inl before ↦ absurd (c.apart i j Stub before wj same)
    | inr past ↦ elim (cases_lt j i) [
      | inl before ↦ absurd (c.apart j i Stub before wi (sym same))
      | inr here ↦ omega (arith, past, here)
    ]
  ]

  -- the link into a place is stored: StoreLink and StubLink
  pub link : (i : ℕ) (next' : ℕ → ℕ) (flies' : Entry → Bool) → i + 1 < length left → next' (node (entry_at left i)) ≡ node (entry_at left (i + 1)) + 1
      → ((n : ℕ) → ¬ (n ≡ node (entry_at left i)) → next' n ≡ next n) → flies' (entry_at left (i + 1)) ≡ false → ((j : ℕ) → j < length left → ¬ (j ≡ i + 1) → flies' (entry_at left j) ≡ flies (entry_at left j))
      → IsChain node next' flies' head tail left
  link i next' flies' within stored other landed still = record {
    some = c.some;
    apart = c.apart;
    first_linked = still 0 c.some (λ is. omega (arith, is)) ∙ c.first_linked;
    tail_is = c.tail_is;
    head_is = c.head_is;
    links = λ j inside. elim (cases_eq j i) [
      | inl here ↦ subst (λ j. next' (node (entry_at left j)) ≡ link_word node flies' (entry_at left (j + 1))) (sym here) (stored ∙ sym (ap (λ b. if b then 0 else node (entry_at left (i + 1)) + 1) landed))
      | inr there ↦
          other (node (entry_at left j)) (λ same. there (same_place j i (omega (arith, inside)) (omega (arith, within)) same))
          ∙ (c.links j inside ∙ ap (λ b. if b then 0 else node (entry_at left (j + 1)) + 1) (sym (still (j + 1) inside (λ is. there (omega (arith, is))))))
    ];
    end = other (node (entry_at left (length left - 1))) (λ same. let is = same_place (length left - 1) i (omega (arith, c.some)) (omega (arith, within)) same in omega (arith, is, within)) ∙ c.end;
  }

  -- the first is passed: LoadNext
  pub pass : 1 < length left → flies (entry_at left 1) ≡ false → IsChain node next flies head (node (entry_at left 1)) (drop 1 left)
  pass more landed =
      let long : length (drop 1 left) ≡ length left - 1 = length-drop 1 left in
      let shift : (i : ℕ) → entry_at (drop 1 left) i ≡ entry_at left (i + 1) = λ i. get_or-drop 1 left i Stub ∙ ap (entry_at left) (let s : 1 + i ≡ i + 1 = omega arith in s) in
      let last : entry_at (drop 1 left) (length (drop 1 left) - 1) ≡ entry_at left (length left - 1) = shift _ ∙ ap (entry_at left) (let s : (length (drop 1 left) - 1) + 1 ≡ length left - 1 = omega (arith, long, more) in s) in
      record {
        some = omega (arith, long, more);
        apart = λ i j d before within same. c.apart (1 + i) (1 + j) d (omega (arith, before)) (omega (arith, within, long)) (ap node (sym (get_or-drop 1 left i d)) ∙ (same ∙ ap node (get_or-drop 1 left j d)));
        first_linked = ap flies (shift 0) ∙ landed;
        tail_is = ap node (sym (shift 0));
        head_is = c.head_is ∙ ap (λ f. node f + 1) (sym last);
        links = λ i within. ap (λ f. next (node f)) (shift i) ∙ (c.links (i + 1) (omega (arith, within, long)) ∙ ap (link_word node flies) (sym (shift (i + 1))));
        end = ap (λ f. next (node f)) last ∙ c.end;
      }

  -- the entries that are left keep their nodes: LoadTurn and EndLine, which fill another entry
  pub renumber : (node' : Entry → ℕ) → ((i : ℕ) → i < length left → node' (entry_at left i) ≡ node (entry_at left i)) → IsChain node' next flies head tail left
  renumber node' same =
      let last : node' (entry_at left (length left - 1)) ≡ node (entry_at left (length left - 1)) = same (length left - 1) (omega (arith, c.some)) in
      record {
        some = c.some;
        apart = λ i j d before within equal. c.apart i j Stub before within (sym (moved i (omega (arith, before, within))) ∙ (sym (ap node' (get_or_default left i d Stub (omega (arith, before, within)))) ∙ (equal ∙ (ap node' (get_or_default left j d Stub within) ∙ moved j within))));
        first_linked = c.first_linked;
        tail_is = c.tail_is ∙ sym (same 0 c.some);
        head_is = c.head_is ∙ ap (λ n. n + 1) (sym last);
        links = λ i within. ap next (same i (omega (arith, within))) ∙ (c.links i within ∙ ap (λ n. if flies (entry_at left (i + 1)) then 0 else n + 1) (sym (same (i + 1) within)));
        end = ap next last ∙ c.end;
      }
    where
      moved : (i : ℕ) → i < length left → node' (entry_at left i) ≡ node (entry_at left i)
      moved i within = same i within
