-- Why a record may move the world as it does: what is known of its move before it.
use Rattle.std.specs.{Prelude.{◌≡◌, ℕ, ◌-◌, ◌<◌, ◌==◌, not, is_some, IsTrue, IsFalse, List, ◌∷◌, Some, None}, List.AllByRecursion}
use Rattle.gx_policy.specs.{declared.policy.PolicyData.PolicyData, Lists.where_true, People.account_of}
use Rattle.gx_history.specs.{declared.{live_order.LiveOrder.LiveOrder, «record».{Fill.Fill, RecordData.RecordData, Step.Step}, moves.Move.{Move, TheVariants.{Nothing, Denies, PutsOn, Adds, Sizes, Replaces, Commands, Fills, Rests, Expires}}}, Asking.names_known_by, Live.{is_buy_order, live_under}, LiveOrders.shares_open, Matching.{crosses, fill_with, is_immediate, meets_none}, Orders.{Order, ends, size_set}, Requests.asked_of, Verdicts.{IsLegal, next}, World.{World, move_of, world}}

-- those that rest on the other side of the order's stock, the best first
abbrev pub opposite : World → LiveOrder → List LiveOrder
opposite w o = w.resting o.terms.stock (not (is_buy_order o))

-- an order is new: it has the record's number and waits with shares open, and its user has not used its token before
pub record IsNew (w : World) (r : RecordData) (new : LiveOrder) : Type 0 where
  pub has_number : new.number ≡ r.number
  pub is_open : new.done < new.total
  pub waits : IsTrue new.waits
  pub is_unused : IsFalse (w.tokens new.user new.token)

-- an order is added that is new, for its user's account, which is not killed
pub record MayAdd (policy : PolicyData) (w : World) (r : RecordData) (new : LiveOrder) : Type 0 where
  pub is_new : IsNew w r new
  pub is_his : account_of policy new.user ≡ Some new.account
  pub not_killed : IsFalse (is_some (w.kills new.account))

-- an order is sized that is its user's live one under its token; it has fewer shares open then, and of all the day's orders it alone is sized
pub record MaySize (w : World) (r : RecordData) (cut : LiveOrder) (size : ℕ) : Type 0 where
  pub is_named : live_under w.live cut.user cut.token ≡ Some cut
  pub is_less : size - cut.done < shares_open cut
  pub alone : AllByRecursion (λ (o : Order). size_set o r ≡ where_true (o.number == cut.number) size) w.orders

-- an order is replaced that is its user's live one under its token; the new one is for the same user and account, and of all the day's orders the old one alone ends
pub record MayReplace (w : World) (r : RecordData) (old new : LiveOrder) : Type 0 where
  pub is_named : live_under w.live old.user old.token ≡ Some old
  pub is_new : IsNew w r new
  pub same_user : new.user ≡ old.user
  pub same_account : new.account ≡ old.account
  pub some_open : old.done < new.total
  pub alone : AllByRecursion (λ (o : Order). ends o r ≡ (o.number == old.number)) w.orders

-- a matching step fills the first that waits and the best that rests on the other side, which cross, by what both have open, at the price of the one that rests
pub record MayFill (w : World) (r : RecordData) (f : Fill) : Type 0 where
  pub is_match : asked_of r.step ≡ None
  pub taker : LiveOrder
  pub waiting : List LiveOrder
  pub maker : LiveOrder
  pub behind : List LiveOrder
  pub comes_first : w.waiting ≡ taker ∷ waiting
  pub is_best : opposite w taker ≡ maker ∷ behind
  pub cross : IsTrue (crosses taker maker)
  pub is_theirs : f ≡ fill_with taker maker

-- a matching step puts the first that waits to rest: it meets nothing, and may rest
pub record MayRest (w : World) (r : RecordData) (number : ℕ) : Type 0 where
  pub is_match : asked_of r.step ≡ None
  pub first : LiveOrder
  pub waiting : List LiveOrder
  pub comes_first : w.waiting ≡ first ∷ waiting
  pub has_number : number ≡ first.number
  pub meets_nothing : IsTrue (meets_none first (opposite w first))
  pub is_to_rest : IsFalse (is_immediate first)

-- a matching step ends the first that waits: it meets nothing, and may not rest
pub record MayExpire (w : World) (r : RecordData) (number : ℕ) : Type 0 where
  pub is_match : asked_of r.step ≡ None
  pub first : LiveOrder
  pub waiting : List LiveOrder
  pub comes_first : w.waiting ≡ first ∷ waiting
  pub has_number : number ≡ first.number
  pub meets_nothing : IsTrue (meets_none first (opposite w first))
  pub is_to_end : IsTrue (is_immediate first)

-- the record may move the world so; none does nothing
abbrev pub MayMove : PolicyData → World → RecordData → Move → Type 0
MayMove policy w r Nothing = ⊥
MayMove policy w r (Denies a rule) = Unit {0}
MayMove policy w r (PutsOn user line) = Unit {0}
MayMove policy w r (Adds new) = MayAdd policy w r new
MayMove policy w r (Sizes cut size) = MaySize w r cut size
MayMove policy w r (Replaces old new) = MayReplace w r old new
MayMove policy w r (Commands officer c) = IsTrue (names_known_by policy w.rules c.action)
MayMove policy w r (Fills f) = MayFill w r f
MayMove policy w r (Rests number) = MayRest w r number
MayMove policy w r (Expires number) = MayExpire w r number

-- each record of a legal day may move the world as it does
abbrev pub MovesAreAllowed : Type 0
MovesAreAllowed = (policy : PolicyData) (history : List RecordData) (step : Step) (r : RecordData)
    → IsLegal policy history → next policy history step ≡ Some r
    → MayMove policy (world policy history) r (move_of policy (world policy history) r)
