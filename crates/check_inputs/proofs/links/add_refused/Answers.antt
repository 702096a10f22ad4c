use Rattle.std.proofs.Common.{◌≡◌, Bool, true, false, append-nil, refl, sym}
use Rattle.std.specs.Prelude.{◌&&◌}
use Rattle.check_inputs.proofs.links.add_refused.Goals as goal

unsound : (b : Bool) → false ≡ (b && false)
unsound true = refl
unsound false = refl

pub returns : goal.returns
returns c = record {
  in_words = c.in_ok-add_links_fault.ensures;
  in_numbers = sym (append-nil c.args.pages.now.sheet.facts.items);
  in_remarks = sym (append-nil c.args.pages.now.remarks.items);
  sound = unsound c.args.pages.now.sheet.is_sound;
}
