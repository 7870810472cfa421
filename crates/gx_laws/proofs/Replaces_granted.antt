-- A granted Replace asks for more than its chain has executed, and its own record neither ends nor sizes the order that it makes; the size that a Cancel sets.
use Rattle.std.proofs.{Common.{◌≡◌, ℕ, ◌+◌, ◌<◌, ◌≤◌, Bool, true, false, not, List, [], ◌∷◌, refl, ◌∙◌, ap, sym, length, arith}, lemmas.Bool.{le-ltb, leb-false, and_left}}
use Rattle.std.specs.{Prelude.{Option, Some, None, ◌&&◌, ◌==◌, nat_lt, nat_le, option_map}, Option.option_map_or}
use Rattle.gx_units.proofs.Lists_hold.{all_weaker}
use Rattle.gx_ouch.specs.declared.inbound.{CancelOrder.CancelOrder, ReplaceOrder.ReplaceOrder}
use Rattle.gx_policy.specs.{declared.{policy.PolicyData.PolicyData, rule_name.RuleName.TheVariants.P12}, Lists.where_true}
use Rattle.gx_history.specs.{declared.{facts.ProposedOrder.ProposedOrder, live_order.LiveOrder.LiveOrder, «record».{Asked.Asked, RecordData.RecordData, Request.Request, Step.Step, Verdict.Verdict}}, Executions.{Execution, done, executed_shares, executions}, Live.{live, live_under}, Orders.{Order, orders, orders_made, order_replacing, ends, size_set}, Rules.forbids, Verdicts.{next, facts_now, IsLegal}}
use Rattle.gx_laws.proofs.{Requests_judged.is_no_bar, Records_numbered.done_of_replacement, NamedOrders_live.named_is, NamedOrders_only.{IsToldApart, FindsOne, is_under_swapped}, NewOrders_open.{none_executed, fills_are_within, none_late}, Requests_granted.{Grants, size_by}}

-- the order that a Replace proposes
abbrev proposed_by : ReplaceOrder → LiveOrder → ProposedOrder
proposed_by m o = record {
  side = o.terms.side;
  stock = o.terms.stock;
  shares = m.shares;
  price = m.price;
  time_in_force = m.time_in_force;
  display = m.display;
  intermarket_sweep = m.intermarket_sweep;
  minimum_quantity = m.minimum_quantity;
  done = o.done;
  is_new = false;
}

abbrev is_too_small : ProposedOrder → Bool
is_too_small w = not w.is_new && nat_le w.shares w.done

pub more_than_done : (policy : PolicyData) (history : List RecordData) (a : Asked) (r : RecordData) (m : ReplaceOrder) (s : LiveOrder)
    → next policy history (Step.Asked a) ≡ Some r → r.verdict ≡ Verdict.Granted → a.request ≡ Request.Replace m
    → live_under (live policy history) a.user m.existing_token ≡ Some s → s.done < m.shares
more_than_done policy history a r m s left granted asks found =
    leb-false m.shares s.done
    (sym
    (ap (forbids P12 (facts_now policy history a)) asks
    ∙ ap (λ (o : Option LiveOrder). option_map_or is_too_small (option_map (proposed_by m) o) false)
    (named_is policy history a (Request.Replace m) m.existing_token asks refl ∙ found))
    ∙ is_no_bar policy history a r left granted P12)

never_before : (n : ℕ) → nat_lt n n ≡ false
never_before n = le-ltb n n (omega arith)

pub ends_not_itself : (o : Order) (r : RecordData) → o.number ≡ r.number → ends o r ≡ false
ends_not_itself o r e = and_left (nat_lt o.number r.number) _ (ap (λ (n : ℕ). nat_lt n r.number) e ∙ never_before r.number)

pub sizes_not_itself : (o : Order) (r : RecordData) → o.number ≡ r.number → size_set o r ≡ None
sizes_not_itself o r e = none_late (nat_lt o.number r.number) _ (ap (λ (n : ℕ). nat_lt n r.number) e ∙ never_before r.number)

pub done_before : {policy : PolicyData} {history : List RecordData} (r : RecordData) (m : ReplaceOrder) (o : Order) → IsLegal policy history → r.number ≡ length history + 1
    → done (executions policy history) (order_replacing r m o) ≡ done (executions policy history) o
unfolding executed_shares
done_before {policy} {history} r m o legal place =
    let whole : done (executions policy history) (order_replacing r m o) ≡ executed_shares (executions policy history) r.number + done (executions policy history) o =
    done_of_replacement (executions policy history) (order_replacing r m o) o refl in
    let none : executed_shares (executions policy history) r.number ≡ 0 =
    none_executed (executions policy history) r.number
    (all_weaker (λ (e : Execution). e.order.number ≤ length history) (λ (e : Execution). e.order.number < r.number) (λ e h. omega arith) (executions policy history) (fills_are_within legal)) in
    omega arith

pub made : {policy : PolicyData} {history : List RecordData} (r : RecordData) (a : Asked) (m : ReplaceOrder) (s : LiveOrder) → (one : FindsOne policy history a.user m.existing_token s)
    → orders_made policy (orders policy history) r a.user (Request.Replace m) ≡ order_replacing r m one.known.order ∷ []
made r a m s one = ap (λ (found : Option Order). option_map_or (λ (o : Order). order_replacing r m o ∷ []) found []) one.is_last

-- the size that it sets
pub size_of : (r : RecordData) (a : Asked) (m : CancelOrder) (o x : Order) → Grants r a (Request.Cancel m) → nat_lt x.number r.number ≡ true → IsToldApart a.user m.token o x
    → size_set x r ≡ where_true (x.number == o.number) m.shares
size_of r a m o x g early apart =
    size_by r a (Request.Cancel m) x g early ∙ ap (λ (b : Bool). where_true b m.shares) (is_under_swapped a.user m.token x ∙ apart.by_number)
