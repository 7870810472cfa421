-- How a ledger follows orders that end one after another, and an order that takes the place of another.
use Rattle.std.specs.{Prelude.{ℕ, ◌≡◌, true, nat_eq, List, [], ◌∷◌, ◌++◌, fold}, List.{filter, AllByRecursion, IsDistinct}}
use Rattle.gx_desk.specs.declared.Action.{Action}
use Rattle.gx_policy.specs.declared.policy.PolicyData.{PolicyData}
use Rattle.gx_history.specs.{declared.live_order.LiveOrder.LiveOrder, Figures.Positions, Orders.{Order, ends_account}}
use Rattle.gx_history.specs.Turns as turns
use Rattle.gx_laws.specs.{Changing.positions_with, Sound.{AreSound, MayReplaceHeld, numbers_of}}
use Rattle.gx_ledger.specs.{Keeping.LedgerData, StandsFor.{Accepts, Carries, Closes, IsAccepted, IsHeld, StandsFor}}

-- the live orders, fills and grants, once one order has ended
abbrev pub positions_closed : Positions → LiveOrder → Positions
positions_closed held o = positions_with (turns.Ends o.number) [] held

-- the live orders, fills and grants, once these orders have ended
abbrev pub all_closed : List LiveOrder → Positions → Positions
all_closed orders held = fold positions_closed held orders

-- each of these is a live order, and none stands there twice
pub record AreHeld (held : Positions) (orders : List LiveOrder) : Type 0 where
  pub all_held : AllByRecursion (IsHeld held) orders
  pub differ : IsDistinct nat_eq (numbers_of orders)

-- these orders end, one after another
abbrev pub ClosesAll : List LiveOrder → LedgerData → LedgerData → Type 0
ClosesAll orders old new = (policy : PolicyData) (held : Positions) → StandsFor policy old held → AreSound policy held → AreHeld held orders
    → StandsFor policy new (all_closed orders held)

-- none of no orders ends
abbrev pub NoneCloses : Type 0
NoneCloses = (k : LedgerData) → ClosesAll [] k k

-- one more ends
abbrev pub OneMoreCloses : Type 0
OneMoreCloses = (orders : List LiveOrder) (o : LiveOrder) (old between new : LedgerData) → ClosesAll orders old between → Closes o between new
    → ClosesAll (orders ++ o ∷ []) old new

-- the live orders of the accounts that the action is for
abbrev pub ended_by : Action → List LiveOrder → List LiveOrder
ended_by action live = filter (λ (o : LiveOrder). ends_account o.account action) live

-- to end them one after another is to end them all
abbrev pub AllAreEnded : Type 0
AllAreEnded = (policy : PolicyData) (held : Positions) (action : Action) → AreSound policy held → all_closed (ended_by action held.live) held ≡ positions_with (turns.EndsAll action) [] held

-- the order is live, and the new one may take its place
pub record MakesPlace (policy : PolicyData) (held : Positions) (o new_order : LiveOrder) (grant : Order) : Type 0 where
  pub is_held : IsHeld held o
  pub may_replace : MayReplaceHeld policy held o.number new_order (grant ∷ [])

-- an order that was granted at the moment comes in the place of another
abbrev pub Replaces : (o new_order : LiveOrder) → ℕ → LedgerData → LedgerData → Type 0
Replaces o new_order moment old new = (grant : Order) → IsAccepted new_order moment true grant
    → Carries old new (λ policy held. MakesPlace policy held o new_order grant) (turns.Replaces o.number new_order) (grant ∷ [])

-- the old order ends, and then the new one comes
abbrev pub EndedThenAccepted : Type 0
EndedThenAccepted = (o new_order : LiveOrder) (moment : ℕ) (old between new : LedgerData) → Closes o old between → Accepts new_order moment true between new → Replaces o new_order moment old new
