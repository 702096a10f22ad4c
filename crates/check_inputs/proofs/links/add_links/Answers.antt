use Rattle.std.proofs.Common.{◌≡◌, ◌∙◌, ◌+◌, ◌++◌, ◌∷◌, List, Some, ap, arith, length, length-append, refl}
use Rattle.linked_works.specs.Linked.{Link}
use Rattle.linked_works.specs.declared.works_fault.WorksFault.TheVariants.{Accounts, Many}
use Rattle.check_inputs.proofs.links.add_links.Goals as goal

-- a list is as long as what stands in it before one, that one, and what stands after it
long : (links before after : List Link) (link : Link) → links ≡ before ++ link ∷ after → length links ≡ length before + length (link ∷ after)
long links before after link split = ap (λ (l : List Link). length l) split ∙ length-append before (link ∷ after)

pub add_refused-requires : goal.add_refused-requires
add_refused-requires c row same =
    let (place, is, first) = rw c.in-Err-Many.field-0-is at c.in-Err-Many.ensures.fault in
    let here : c.in-Err-Many.row ≡ row = cc same in
    let count = long c.args.sources.now.tables.works.links first.before first.after first.link first.split in
    (omega (arith, is, here), omega (arith, is, here, first.place_of, count))

pub returns-in_ok-add_refused-in-Err-Many : goal.returns-in_ok-add_refused-in-Err-Many
returns-in_ok-add_refused-in-Err-Many c = (
  Some (Many c.in-Err-Many.row),
  (rw c.as_slice-files.ensures.value at (rw c.in-Err-Many.field-0-is at c.in-Err-Many.ensures.fault), (λ same. cc same), refl),
  c.in_ok-add_refused-in-Err-Many.ensures,
)

pub returns-in_ok-add_refused-in-Err-Accounts : goal.returns-in_ok-add_refused-in-Err-Accounts
returns-in_ok-add_refused-in-Err-Accounts c = (
  Some Accounts,
  (rw c.as_slice-files.ensures.value at (rw c.in-Err-Accounts.field-0-is at c.in-Err-Accounts.ensures.fault), (λ same. cc same), refl),
  c.in_ok-add_refused-in-Err-Accounts.ensures,
)
