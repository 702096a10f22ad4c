use Rattle.std.proofs.Common.{rules, ◌≡◌, ◌∙◌, ◌+◌, ◌<◌, ℕ, List, ap, arith, get_or, length, replicate, set, sym, get_or-set_other, get_or-set_same, inl, inr, subst}
use Rattle.std.proofs.lemmas.Bool.{cases_eq, cases_lt}
use Rattle.std.proofs.lemmas.List.{get_or-replicate, get_or_past, length-replicate}
use Rattle.node_table.specs.Layout.{head_word, next_word, stub_of}
use Rattle.node_table.proofs.nodes.first_words.Goals as goal

pub loop-mailbox-init : goal.loop-mailbox-init
loop-mailbox-init c =
    let many = c.words_in-many.result in
    let blank : c.in_ok-words.words.items ≡ replicate many 0 = search rules in record {
      wide = search rules;
      heads = λ b below. absurd (omega (arith, below));
      zeros = λ n k few. ap (λ (xs : List ℕ). get_or xs (next_word n + k) 0) blank ∙ elim (cases_lt (next_word n + k) many) [
        | inl low ↦ get_or-replicate many (next_word n + k) 0 0 low
        | inr far ↦ get_or_past (replicate many 0) (next_word n + k) 0 (omega (arith, far, length-replicate {A = ℕ} many 0))
      ];
    }

pub loop-mailbox-preserved : goal.loop-mailbox-preserved
loop-mailbox-preserved c =
    let was = c.loop-mailbox.invariant in
    let words = c.loop-mailbox.words.items in
    let here = c.loop-mailbox.mailbox in
    let place = c.head_word-head.result in
    let head : place ≡ head_word c.args.shape.now here = c.head_word-head.ensures in
    let link = c.link_to.result in
    let linked : link ≡ stub_of c.args.shape.now here + 1 = c.link_to.ensures ∙ ap (λ (n : ℕ). n + 1) c.stub_of.ensures in
    let within : place < length words = search rules in record {
      wide = was.wide;
      heads = λ b below. elim (cases_eq b here) [
        | inl same ↦
            subst (λ (b : ℕ). get_or (set words place link) (head_word c.args.shape.now b) 0 ≡ stub_of c.args.shape.now b + 1) (sym same)
            (ap (λ (i : ℕ). get_or (set words place link) i 0) (sym head) ∙ (get_or-set_same words place link 0 within ∙ linked))
        | inr other ↦ get_or-set_other words place (head_word c.args.shape.now b) link 0 (λ e. other (omega (arith, e, head))) ∙ was.heads b (omega (arith, below, other))
      ];
      zeros = λ n k few. get_or-set_other words place (next_word n + k) link 0 (λ e. omega (arith, e, few, head)) ∙ was.zeros n k few;
    }

pub returns-clause-heads : goal.returns-clause-heads
returns-clause-heads c = λ b low. c.loop-mailbox.invariant.heads b (omega (arith, low, c.loop-mailbox-test.false))

pub returns-clause-zeros : goal.returns-clause-zeros
returns-clause-zeros c = c.loop-mailbox.invariant.zeros
