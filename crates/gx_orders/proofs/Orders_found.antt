-- How each record finds the orders that are kept.
use Rattle.std.proofs.Common.{◌≡◌, ℕ, ◌<◌, List, ◌∷◌, refl, ◌∙◌, sym, ap, subst}
use Rattle.std.specs.Prelude.{Option, Some, None, IfSome, IsFalse, slice_get}
use Rattle.gx_units.specs.declared.names.{Token.Token, UserName.UserName}
use Rattle.gx_policy.specs.declared.{policy.PolicyData.PolicyData, rule_name.RuleName.RuleName}
use Rattle.gx_history.specs.{declared.{live_order.LiveOrder.LiveOrder, moves.Move.{Move, TheVariants.{Adds, Commands, Denies, Expires, Fills, Nothing, PutsOn, Replaces, Rests, Sizes}}, «record».{Asked.Asked, RecordData.RecordData, Verdict.Verdict}}, Live.{live, live_under, waiting}, LiveOrders.is_under, MayMove.{IsNew, MayExpire, MayReplace, MayRest}, Verdicts.{IsLegal, next, verdict}, World.{Does, world}}
use Rattle.gx_laws.proofs.{Requests_judged.verdict_of_next, Orders_numbered.number_left, Orders_owned.last_such_is, Moves_known.{IsDenied, denial_does, may_do}, LiveOrders_numbered.{IsLiving, all_living, first_lives}}
use Rattle.gx_orders.specs.{Changes.{IsUnused, denied_token}, InForce.orders_in_force, Laws.{ComesFirst, IsNewTo, MakesPlace, RecordsFindOrders}, LiveOrders.{AreBelow, first_waiting, is_used, live_numbered}}
use Rattle.gx_orders.proofs.{UsedTokens_next.{first_of_filter, used_is}, Match_next.fills_fit, Orders_stay.live_within, DeniedToken_new.denied_is_new}

-- an order that is found under a token is found under its number
pub named_lives : {policy : PolicyData} {history : List RecordData} (user : UserName) (token : Token) (o : LiveOrder) → IsLegal policy history → live_under (live policy history) user token ≡ Some o
    → live_numbered (live policy history) o.number ≡ Some o
named_lives {policy} {history} user token o legal named = (last_such_is (IsLiving policy history) (is_under user token) (live policy history) o (all_living legal) named).found

-- the first that waits
pub first_is : (policy : PolicyData) (history : List RecordData) → first_waiting (live policy history) ≡ slice_get (waiting policy history) 0
unfolding waiting
first_is policy history = first_of_filter (λ (o : LiveOrder). o.waits) (live policy history)

pub comes_first : (policy : PolicyData) (history : List RecordData) (first : LiveOrder) (others : List LiveOrder) → waiting policy history ≡ first ∷ others → first_waiting (live policy history) ≡ Some first
comes_first policy history first others e = first_is policy history ∙ ap (λ (os : List LiveOrder). slice_get os 0) e

-- a denial
unused : {policy : PolicyData} {history : List RecordData} (r : RecordData) (a : Asked) (rule : RuleName) → Does policy history r (Denies a rule) → IsUnused (orders_in_force policy history).used a rule
unused {policy} {history} r a rule d = by (denied_token rule a.request) refl
  where
    is : IsDenied r.verdict r.step a rule
    is = denial_does r a rule d

    denied : verdict policy history a ≡ Verdict.Denied rule
    denied = sym (verdict_of_next policy history a r (ap (next policy history) (sym is.asks) ∙ d.is_next)) ∙ is.denied

    by : (found : Option Token) → denied_token rule a.request ≡ found → IfSome found (λ (token : Token). IsFalse (is_used (orders_in_force policy history).used a.user token))
    by None uses = tt
    by (Some token) uses = denied_is_new policy history a rule token denied uses

-- a new order
below : {policy : PolicyData} {history : List RecordData} (r : RecordData) (m : Move) → Does policy history r m → AreBelow r.number (live policy history)
below {policy} {history} r m d = live_within r.number d.legal (number_left policy history r.step r d.is_next)

new_to : {policy : PolicyData} {history : List RecordData} (r : RecordData) (m : Move) (new : LiveOrder) → Does policy history r m → IsNew (world policy history) r new → IsNewTo (orders_in_force policy history) new
new_to {policy} {history} r m new d is = record {
  has_shares = is.is_open;
  waits = is.waits;
  comes_last = subst (λ (n : ℕ). AreBelow n (live policy history)) (sym is.has_number) (below r m d);
  is_unused = used_is policy history new.user new.token ∙ is.is_unused;
}

replaces : {policy : PolicyData} {history : List RecordData} (r : RecordData) (old new : LiveOrder) → Does policy history r (Replaces old new) → MayReplace (world policy history) r old new
    → MakesPlace (orders_in_force policy history) old new
replaces {policy} {history} r old new d is = record {
  is_live = named_lives old.user old.token old d.legal is.is_named;
  is_older = subst (λ (n : ℕ). old.number < n) (sym is.is_new.has_number)
      (last_such_is (λ (o : LiveOrder). o.number < r.number) (is_under old.user old.token) (live policy history) old (below r (Replaces old new) d) is.is_named);
  is_new = new_to r (Replaces old new) new d is.is_new;
}

-- the first that waits, by its number
first_so : {policy : PolicyData} {history : List RecordData} (number : ℕ) (first : LiveOrder) (others : List LiveOrder) → IsLegal policy history → waiting policy history ≡ first ∷ others → number ≡ first.number
    → ComesFirst (live policy history) number
first_so {policy} {history} number first others legal e is = record {
  order = first;
  is_found = ap (live_numbered (live policy history)) is ∙ (first_lives first others legal e).0.found;
  waits_first = comes_first policy history first others e;
}

rests : {policy : PolicyData} {history : List RecordData} (r : RecordData) (number : ℕ) → IsLegal policy history → MayRest (world policy history) r number → ComesFirst (live policy history) number
rests r number legal is = first_so number is.first is.waiting legal is.comes_first is.has_number

ends : {policy : PolicyData} {history : List RecordData} (r : RecordData) (number : ℕ) → IsLegal policy history → MayExpire (world policy history) r number → ComesFirst (live policy history) number
ends r number legal is = first_so number is.first is.waiting legal is.comes_first is.has_number

pub finds_orders : RecordsFindOrders
finds_orders policy history r Nothing d = tt
finds_orders policy history r (Denies a rule) d = unused r a rule d
finds_orders policy history r (PutsOn user line) d = tt
finds_orders policy history r (Adds new) d = new_to r (Adds new) new d (may_do r (Adds new) d).is_new
finds_orders policy history r (Sizes cut size) d = named_lives cut.user cut.token cut d.legal (may_do r (Sizes cut size) d).is_named
finds_orders policy history r (Replaces old new) d = replaces r old new d (may_do r (Replaces old new) d)
finds_orders policy history r (Commands officer c) d = tt
finds_orders policy history r (Fills f) d = fills_fit r f d.legal (may_do r (Fills f) d)
finds_orders policy history r (Rests number) d = rests r number d.legal (may_do r (Rests number) d)
finds_orders policy history r (Expires number) d = ends r number d.legal (may_do r (Expires number) d)
