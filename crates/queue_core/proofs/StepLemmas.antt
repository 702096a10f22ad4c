-- What a table of outcomes gives, and at which point a sender is where something is due.
use Rattle.std.proofs.Common.{◌≡◌, ℕ, Bool, true, false, Option, None, Some, refl, subst}
use Rattle.std.specs.Prelude.{option_map, if◌then◌else◌}
use Rattle.std.proofs.lemmas.Bool.{false≢true}
use Rattle.queue_core.specs.declared.item.Item.{Item}
use Rattle.queue_core.specs.declared.sender.SenderPoint.{SenderPoint}
use Rattle.queue_core.specs.declared.sender.SenderPoint.TheVariants as sends
use Rattle.queue_core.specs.PoolSteps.{amount_due, is_at_rest, line_due, link_due, null_due, swap_due}

-- ---- what a table of outcomes gives

-- what is left where something is due
pub mapped : {A B : Type 0} (f : A → B) (o : Option A) (b : B) → option_map f o ≡ Some b → (a : A) × (o ≡ Some a) × (f a ≡ b)
mapped f None b e = cc
mapped f (Some a) b e = (a, refl, cc)

-- what is left where a test holds
pub passed : {A : Type 0} (test : Bool) (a b : A) → (if test then Some a else None) ≡ Some b → (test ≡ true) × (a ≡ b)
passed true a b e = (refl, cc)
passed false a b e = cc

-- what holds of both holds of the one that a test chooses
pub chosen : {A : Type 0} (P : A → Type 0) (test : Bool) (a b : A) → (test ≡ true → P a) → (test ≡ false → P b) → P (if test then a else b)
chosen P true a b first other = first refl
chosen P false a b first other = other refl

-- what is left where there is no test
pub some_is : {A : Type 0} (P : A → Type 0) (a b : A) → Some a ≡ Some b → P a → P b
some_is P a b e right = let is : a ≡ b = cc in subst P is right

-- what is left where a test chooses
pub chosen_some : {A : Type 0} (P : A → Type 0) (test : Bool) (a b c : A) → (if test then Some a else Some b) ≡ Some c → P a → P b → P c
chosen_some P true a b c e left right = some_is P a c e left
chosen_some P false a b c e left right = some_is P b c e right

-- ---- what is due: the point that a sender is at

pub rest_is : (point : SenderPoint) → is_at_rest point ≡ true → point ≡ sends.Rest
rest_is point = elim point as (λ q. is_at_rest q ≡ true → q ≡ sends.Rest) [ sends.Rest ↦ λ e. refl | _ ↦ λ e. absurd (false≢true e) ]

pub line_is : (pt : SenderPoint) (item : Item) → line_due pt ≡ Some item → pt ≡ sends.Line item
line_is pt item = elim pt as (λ q. line_due q ≡ Some item → q ≡ sends.Line item) [ sends.Line i ↦ λ e. cc | _ ↦ λ e. cc ]

pub amount_is : (pt : SenderPoint) (item : Item) → amount_due pt ≡ Some item → pt ≡ sends.Amount item
amount_is pt item = elim pt as (λ q. amount_due q ≡ Some item → q ≡ sends.Amount item) [ sends.Amount i ↦ λ e. cc | _ ↦ λ e. cc ]

pub null_is : (pt : SenderPoint) (item : Item) → null_due pt ≡ Some item → pt ≡ sends.Null item
null_is pt item = elim pt as (λ q. null_due q ≡ Some item → q ≡ sends.Null item) [ sends.Null i ↦ λ e. cc | _ ↦ λ e. cc ]

pub swap_is : (pt : SenderPoint) (item : Item) → swap_due pt ≡ Some item → pt ≡ sends.Swap item
swap_is pt item = elim pt as (λ q. swap_due q ≡ Some item → q ≡ sends.Swap item) [ sends.Swap i ↦ λ e. cc | _ ↦ λ e. cc ]

pub link_is : (pt : SenderPoint) (linked : Item × ℕ) → link_due pt ≡ Some linked → pt ≡ sends.Link linked.0 linked.1
link_is pt linked = elim pt as (λ q. link_due q ≡ Some linked → q ≡ sends.Link linked.0 linked.1) [ sends.Link i b ↦ λ e. cc | _ ↦ λ e. cc ]
