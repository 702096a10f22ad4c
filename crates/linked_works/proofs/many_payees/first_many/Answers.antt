use Rattle.std.proofs.Common.{◌≡◌, ◌+◌, ◌<◌, List, arith, length, subst, sym, zip}
use Rattle.std.proofs.lemmas.List.{take_all}
use Rattle.std.proofs.lemmas.Option.{none-some}
use Rattle.cwr_share.specs.Payees.{payee_of}
use Rattle.linked_works.specs.Linked.{finds_among}
use Rattle.linked_works.specs.ManyPayees.{SomeHasMany}
use Rattle.linked_works.specs.Rows.{links_by, names_by}
use Rattle.linked_works.specs.declared.linking.Link.{Link}
use Rattle.linked_works.proofs.FirstLemmas.{first_at, some_links}
use Rattle.linked_works.proofs.many_payees.first_many.Goals as goal

pub loop-few-init : goal.loop-few-init
loop-few-init c =
    let pay = payee_of c.args.payees.now in
    let names = names_by c.args.names.now in
    let finds = finds_among (zip names c.args.files.now) in
    let links = c.args.links.now in
    record {
      order = some_links pay finds names links c.requires.many;
      within = omega arith;
      before = λ work shares is. absurd (none-some shares is);
      with = subst (λ (l : List Link). SomeHasMany pay finds (links_by names l)) (sym (take_all (length links) links (omega arith))) c.requires.many;
    }

pub loop-few-preserved-then-branch : goal.loop-few-preserved-then-branch
loop-few-preserved-then-branch c = record {
  order = omega arith;
  within = c.loop-few.invariant.within;
  before = c.in_ok-linked_have_few_payees.ensures.few c.if-branch.true;
  with = c.loop-few.invariant.with;
}

pub returns-clause-within : goal.returns-clause-within
returns-clause-within c = omega (arith, c.loop-few.invariant.order, c.loop-few.invariant.within)

pub returns-clause-first : goal.returns-clause-first
returns-clause-first c =
    let pay = payee_of c.args.payees.now in
    let names = names_by c.args.names.now in
    let finds = finds_among (zip names c.args.files.now) in
    let links = c.args.links.now in
    let few = c.loop-few.few in
    let last : c.loop-few.many ≡ few + 1 = omega (arith, c.loop-few.invariant.order, c.loop-few-test.false) in
    let within : few < length links = omega (arith, c.loop-few.invariant.order, c.loop-few.invariant.within) in
    first_at pay finds names links few within c.loop-few.invariant.before (rw last at c.loop-few.invariant.with)
