-- What a row lacks it is rejected for.
use Rattle.std.proofs.Common.{◌≡◌, List, None, Some, ℕ, subst, sym}
use Rattle.sales_lines.specs.Sales.{HasBefore, IsNamed, IsRejectedFor, IsWhole, Lacks, value_in}
use Rattle.sales_lines.specs.declared.reason.Reason.{Reason}
use Rattle.sales_lines.specs.declared.reason.Reason.TheVariants.{Broken, Fields, Usage, Unknown, Unfit, Amount}
use Rattle.sales_lines.specs.declared.settings.Settings.{Settings}
use Rattle.value_maps.specs.Maps.{IsValue}
use Rattle.value_maps.specs.declared.kind.Kind.{Kind}

pub lacking : (settings : Settings) (row : List (List ℕ)) (kind : Kind) (reason : Reason) → IsWhole settings row → IsNamed settings row
    → HasBefore settings row kind → Lacks settings kind row reason → IsRejectedFor settings row reason
lacking settings row kind Broken whole named before lacks = absurd lacks
lacking settings row kind Fields whole named before lacks = absurd lacks
lacking settings row kind Usage whole named before lacks = absurd lacks
lacking settings row kind (Unknown of) whole named before (same, none) =
    (whole, named, subst (HasBefore settings row) (sym same) before, subst (λ (k : Kind). value_in settings k row ≡ None) (sym same) none)
lacking settings row kind (Unfit of) whole named before (same, value, is, unfit) = (
  whole,
  named,
  subst (HasBefore settings row) (sym same) before,
  value,
  subst (λ (k : Kind). value_in settings k row ≡ Some value) (sym same) is,
  subst (λ (k : Kind). ¬ IsValue k value) (sym same) unfit,
)
lacking settings row kind (Amount fault) whole named before lacks = absurd lacks
