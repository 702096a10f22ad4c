-- Merges: each has one result, one text is its own, and merges can be merged.
use Rattle.std.proofs.Common.{◌≡◌, ◌∙◌, ◌+◌, ◌++◌, ◌∷◌, [], ℕ, ◌+ℤ◌, List, All, length, map, ap, refl, sym, subst, arith}
use Rattle.std.specs.Prelude.{flat_map, sum_by}
use Rattle.std.specs.Cmp.Lexicographic.{slice_cmp}
use Rattle.std.specs.List.Sorted.{IsStrictlySortedBy}
use Rattle.std.specs.Ordering.{nat_cmp}
use Rattle.std.proofs.lemmas.Grind.{flat_map-append}
use Rattle.std.proofs.lemmas.List.{append-nil, map-append}
use Rattle.std.proofs.lemmas.List.Elements.{All-append, All-cons, All-head, All-nil, All-tail, All-weaker}
use Rattle.std.proofs.lemmas.List.Sums.{sum_by-append, sum_by-cons}
use Rattle.line_split.specs.Signs.{int_sum_by}
use Rattle.line_split.proofs.IntSums.{int_sum_by-append, int_sum_by-cons, none_plus}
use Rattle.merge_statements.specs.Merged.{AreMerged, AreMergesOf, IsMergeOf, portions_of}
use Rattle.merge_statements.specs.Merged.AreMergesOf.{none, more}
use Rattle.merge_statements.specs.Statements.{AreStatements, IsStatement, Statements, text_of_statements}
use Rattle.merge_statements.proofs.OneMerge.{HasPortion, one_list, payees_of}
use Rattle.merge_statements.proofs.ReadBack.{one_meaning}

-- some statements come to what others come to together
pub record ComeTo (parts wholes : List Statements) : Type 0 where
  pub portions : (payee : List ℕ) → flat_map (portions_of payee) wholes ≡ flat_map (portions_of payee) parts
  pub rests : flat_map (λ all. all.rests) wholes ≡ flat_map (λ all. all.rests) parts
  pub lines : sum_by (λ all. all.lines) wholes ≡ sum_by (λ all. all.lines) parts
  pub amount : int_sum_by (λ all. all.amount) wholes ≡ int_sum_by (λ all. all.amount) parts

-- merged statements, whatever the limits
pub record AreTogether (parts : List Statements) (whole : Statements) : Type 0 where
  pub rising : IsStrictlySortedBy (slice_cmp nat_cmp) (payees_of whole.payees)
  pub payees : All HasPortion whole.payees
  pub portions : (payee : List ℕ) → portions_of payee whole ≡ flat_map (portions_of payee) parts
  pub rests : whole.rests ≡ flat_map (λ part. part.rests) parts
  pub lines : whole.lines ≡ sum_by (λ part. part.lines) parts
  pub amount : whole.amount ≡ int_sum_by (λ part. part.amount) parts

have_portions : (all : Statements) → AreStatements all → All HasPortion all.payees
have_portions all are = All-weaker IsStatement HasPortion (λ statement is. is.some) all.payees are.payees

pub are_together : (parts : List Statements) (whole : Statements) → AreMerged parts whole → AreTogether parts whole
are_together parts whole is = record {
  rising = is.sound.rising;
  payees = have_portions whole is.sound;
  portions = is.portions;
  rests = is.rests;
  lines = is.lines;
  amount = is.amount;
}

-- statements come together to one whole
pub one_whole : (parts : List Statements) (whole other : Statements) → AreTogether parts whole → AreTogether parts other → whole ≡ other
one_whole parts whole other is of =
    let payees = one_list whole.payees other.payees is.rising of.rising is.payees of.payees (λ payee. is.portions payee ∙ sym (of.portions payee)) in
    let rests = is.rests ∙ sym of.rests in
    let lines = is.lines ∙ sym of.lines in
    let amount = is.amount ∙ sym of.amount in
    λ i. record { payees = payees i; rests = rests i; lines = lines i; amount = amount i }

-- texts say one list of statements
pub one_list_of_parts : (parts others : List Statements) → All AreStatements parts → All AreStatements others
    → map text_of_statements parts ≡ map text_of_statements others → parts ≡ others
one_list_of_parts [] [] are others same = refl
one_list_of_parts [] (other ∷ rest) are others same = absurd (omega (arith, ap length same))
one_list_of_parts (part ∷ parts) [] are others same = absurd (omega (arith, ap length same))
one_list_of_parts (part ∷ parts) (other ∷ rest) are others same =
    let texts : text_of_statements part ≡ text_of_statements other = cc in
    let below : map text_of_statements parts ≡ map text_of_statements rest = cc in
    let first = one_meaning part other (All-head AreStatements part parts are) (All-head AreStatements other rest others) texts in
    let later = one_list_of_parts parts rest (All-tail AreStatements part parts are) (All-tail AreStatements other rest others) below in
    λ i. first i ∷ later i

pub one_merge : (texts : List (List ℕ)) (merged other : List ℕ) → IsMergeOf texts merged → IsMergeOf texts other → merged ≡ other
one_merge texts merged other is of =
    let parts = one_list_of_parts is.parts of.parts is.sound of.sound (sym is.each ∙ of.each) in
    let same : AreMerged is.parts of.whole = subst (λ (list : List Statements). AreMerged list of.whole) (sym parts) of.together in
    let whole = one_whole is.parts is.whole of.whole (are_together is.parts is.whole is.together) (are_together is.parts of.whole same) in
    is.all ∙ ap text_of_statements whole ∙ sym of.all

-- one by itself
alone : (part : Statements) → AreStatements part → AreTogether (part ∷ []) part
alone part are = record {
  rising = are.rising;
  payees = have_portions part are;
  portions = λ payee. sym (append-nil (portions_of payee part));
  rests = sym (append-nil part.rests);
  lines = omega arith;
  amount = sym (none_plus part.amount);
}

merged_alone : (text merged : List ℕ) (parts : List Statements) (whole : Statements) → All AreStatements parts → text ∷ [] ≡ map text_of_statements parts
    → AreMerged parts whole → merged ≡ text_of_statements whole → merged ≡ text
merged_alone text merged [] whole are each is all = absurd (omega (arith, ap length each))
merged_alone text merged (part ∷ []) whole are each is all =
    let same : text ≡ text_of_statements part = cc in
    let one = one_whole (part ∷ []) whole part (are_together (part ∷ []) whole is) (alone part (All-head AreStatements part [] are)) in
    all ∙ ap text_of_statements one ∙ sym same
merged_alone text merged (part ∷ other ∷ parts) whole are each is all = absurd (omega (arith, ap length each))

-- it is merged
pub is_merged : (all : Statements) → AreStatements all → IsMergeOf (text_of_statements all ∷ []) (text_of_statements all)
is_merged all are =
    let is = alone all are in
    record {
      parts = all ∷ [];
      sound = All-cons AreStatements all [] are (All-nil AreStatements);
      each = refl;
      whole = all;
      together = record { sound = are; portions = is.portions; rests = is.rests; lines = is.lines; amount = is.amount };
      all = refl;
    }

-- and nothing else is its merge
pub own_merge : (text merged : List ℕ) → IsMergeOf (text ∷ []) merged → merged ≡ text
own_merge text merged is = merged_alone text merged is.parts is.whole is.sound is.each is.together is.all

-- what the texts of all groups say, and what those of their merges
record Gathered (groups : List (List (List ℕ))) (merged : List (List ℕ)) : Type 0 where
  parts : List Statements
  sound : All AreStatements parts
  each : flat_map (λ group. group) groups ≡ map text_of_statements parts
  wholes : List Statements
  wholes_sound : All AreStatements wholes
  wholes_each : merged ≡ map text_of_statements wholes
  come : ComeTo parts wholes

-- a whole more, and its parts
come_more : (firsts parts wholes : List Statements) (whole : Statements) → AreMerged firsts whole → ComeTo parts wholes → ComeTo (firsts ++ parts) (whole ∷ wholes)
come_more firsts parts wholes whole is come = record {
  portions = λ payee. (λ i. is.portions payee i ++ come.portions payee i) ∙ sym (flat_map-append (portions_of payee) firsts parts);
  rests = (λ i. is.rests i ++ come.rests i) ∙ sym (flat_map-append (λ (all : Statements). all.rests) firsts parts);
  lines = sum_by-cons (λ (all : Statements). all.lines) whole wholes ∙ (λ i. is.lines i + come.lines i) ∙ sym (sum_by-append (λ (all : Statements). all.lines) firsts parts);
  amount = int_sum_by-cons (λ (all : Statements). all.amount) whole wholes ∙ (λ i. is.amount i +ℤ come.amount i) ∙ sym (int_sum_by-append (λ (all : Statements). all.amount) firsts parts);
}

gathered : (groups : List (List (List ℕ))) (merged : List (List ℕ)) → AreMergesOf groups merged → Gathered groups merged
gathered groups merged none = record {
  parts = [];
  sound = All-nil AreStatements;
  each = refl;
  wholes = [];
  wholes_sound = All-nil AreStatements;
  wholes_each = refl;
  come = record { portions = λ payee. refl; rests = refl; lines = refl; amount = refl };
}
gathered groups merged (more texts first later_groups others is rest) =
    let later = gathered later_groups others rest in
    record {
      parts = is.parts ++ later.parts;
      sound = All-append AreStatements is.parts later.parts is.sound later.sound;
      each = (λ i. is.each i ++ later.each i) ∙ sym (map-append text_of_statements is.parts later.parts);
      wholes = is.whole ∷ later.wholes;
      wholes_sound = All-cons AreStatements is.whole later.wholes is.together.sound later.wholes_sound;
      wholes_each = λ i. is.all i ∷ later.wholes_each i;
      come = come_more is.parts later.parts later.wholes is.whole is.together later.come;
    }

-- what is merged of the ones is merged of the others
merged_of_parts : (parts wholes : List Statements) (whole : Statements) → ComeTo parts wholes → AreMerged wholes whole → AreMerged parts whole
merged_of_parts parts wholes whole come is = record {
  sound = is.sound;
  portions = λ payee. is.portions payee ∙ come.portions payee;
  rests = is.rests ∙ come.rests;
  lines = is.lines ∙ come.lines;
  amount = is.amount ∙ come.amount;
}

back : (parts wholes : List Statements) → ComeTo parts wholes → ComeTo wholes parts
back parts wholes come = record {
  portions = λ payee. sym (come.portions payee);
  rests = sym come.rests;
  lines = sym come.lines;
  amount = sym come.amount;
}

-- a merge of some texts is one of others that come to the same
carried : (texts others : List (List ℕ)) (all : List ℕ) (parts wholes : List Statements) → All AreStatements parts → All AreStatements wholes
    → texts ≡ map text_of_statements parts → others ≡ map text_of_statements wholes → ComeTo parts wholes → IsMergeOf others all → IsMergeOf texts all
carried texts others all parts wholes sound wholes_sound each wholes_each come is =
    let same = one_list_of_parts is.parts wholes is.sound wholes_sound (sym is.each ∙ wholes_each) in
    record {
      parts = parts;
      sound = sound;
      each = each;
      whole = is.whole;
      together = merged_of_parts parts wholes is.whole come (subst (λ (list : List Statements). AreMerged list is.whole) same is.together);
      all = is.all;
    }

pub merged_in_groups : (groups : List (List (List ℕ))) (merged : List (List ℕ)) (all : List ℕ) → AreMergesOf groups merged
    → (IsMergeOf merged all → IsMergeOf (flat_map (λ group. group) groups) all) × (IsMergeOf (flat_map (λ group. group) groups) all → IsMergeOf merged all)
merged_in_groups groups merged all are =
    let is = gathered groups merged are in
    let texts = flat_map {X = List (List ℕ)} {A = List ℕ} (λ group. group) groups in (
      carried texts merged all is.parts is.wholes is.sound is.wholes_sound is.each is.wholes_each is.come,
      carried merged texts all is.wholes is.parts is.wholes_sound is.sound is.wholes_each is.each (back is.parts is.wholes is.come),
    )
