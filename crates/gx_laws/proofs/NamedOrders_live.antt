-- The live order that a granted Cancel or Replace names, and the orders before its record.
use Rattle.std.proofs.Common.{◌≡◌, ◌+◌, ◌<◌, Bool, true, false, List, refl, ◌∙◌, ap, sym, length}
use Rattle.std.specs.{Prelude.{Option, Some, None, ◌&&◌, is_none, option_and_then}, List.AllByRecursion}
use Rattle.gx_units.specs.declared.names.{Token.Token, UserName.UserName}
use Rattle.gx_policy.specs.declared.{policy.PolicyData.PolicyData, rule_name.RuleName.TheVariants.I2}
use Rattle.gx_history.specs.{declared.{live_order.LiveOrder.LiveOrder, «record».{Asked.Asked, RecordData.RecordData, Request.Request, Step.Step, Verdict.Verdict}}, Asking.{facts, live_named}, Live.{live, live_under}, Orders.{Order, orders}, Requests.{named_token, names_order}, Verdicts.{next, facts_now, IsLegal}}
use Rattle.gx_laws.proofs.{Orders_ended.sooner, Requests_judged.is_no_bar, Orders_numbered.numbers_are_within}

-- the order came before the record
abbrev pub IsEarlier : RecordData → Order → Type 0
IsEarlier r x = x.number < r.number

pub all_earlier : {policy : PolicyData} {history : List RecordData} (r : RecordData) → IsLegal policy history → r.number ≡ length history + 1 → AllByRecursion (IsEarlier r) (orders policy history)
all_earlier {policy} {history} r legal place = sooner (length history) r.number place (orders policy history) (numbers_are_within policy history legal)

-- the fact on the order that a request names
pub named_is : (policy : PolicyData) (history : List RecordData) (a : Asked) (q : Request) (token : Token) → a.request ≡ q → named_token q ≡ Some token
    → (facts_now policy history a).target_order ≡ live_under (live policy history) a.user token
unfolding facts
named_is policy history a q token asks names =
    ap (live_named policy history a.user) asks ∙ ap (λ (t : Option Token). option_and_then (live_under (live policy history) a.user) t) names

abbrev pub Names : PolicyData → List RecordData → UserName → Token → Type 0
Names policy history user token = (o : LiveOrder) × (live_under (live policy history) user token ≡ Some o)

-- a granted Cancel or Replace names a live order
pub names_live : (policy : PolicyData) (history : List RecordData) (a : Asked) (r : RecordData) (q : Request) (token : Token)
    → next policy history (Step.Asked a) ≡ Some r → r.verdict ≡ Verdict.Granted → a.request ≡ q → names_order q ≡ true → named_token q ≡ Some token → Names policy history a.user token
names_live policy history a r q token left granted asks named under =
    at (live_under (live policy history) a.user token) refl
    (sym (ap is_none (named_is policy history a q token asks under))
    ∙ sym (ap (λ (b : Bool). b && is_none (facts_now policy history a).target_order) (ap names_order asks ∙ named))
    ∙ is_no_bar policy history a r left granted I2)
  where
    at : (found : Option LiveOrder) → live_under (live policy history) a.user token ≡ found → is_none found ≡ false → Names policy history a.user token
    at None e k = cc
    at (Some o) e k = (o, e)
