-- What is known of each live order, by its number alone.
use Rattle.std.proofs.{Common.{◌≡◌, ℕ, Bool, true, false, not, List, ◌∷◌, refl, ◌∙◌, ap, sym, cond}, Math.Path.subst, lemmas.{Bool.both_ways, Option.same_Some}}
use Rattle.std.specs.{Prelude.{Some, None, ◌&&◌, is_some, nat_lt}, List.{AllByRecursion, filter}}
use Rattle.gx_units.proofs.Lists_hold.{all_weaker, filtered, all_pass, all_and, all_found_of}
use Rattle.gx_policy.specs.{declared.policy.PolicyData.PolicyData, People.stock_named}
use Rattle.gx_history.specs.{declared.{live_order.LiveOrder.LiveOrder, «record».RecordData.RecordData}, Book.rest_numbers, Executions.{done, executions}, Live.{has_come, live, live_numbered, open_now, open_order, waiting}, Orders.{Order, is_dead, orders, total}, Verdicts.IsLegal}
use Rattle.gx_laws.proofs.{Orders_listed.{IsListed, orders_are_listed}, Keys_differ.apart_are_found, LiveOrders_known.live_apart, Runs_orderly.legal_is_orderly}

-- what holds of all orders holds of the live ones, each of which waits until it comes to rest
pub of_live : (policy : PolicyData) (history : List RecordData) (P : Order → Type 0) (Q : LiveOrder → Type 0) → ((o : Order) (size gone : ℕ) → P o → Q (open_order o size gone (not (has_come (rest_numbers history) o.number))))
    → AllByRecursion P (orders policy history) → AllByRecursion Q (live policy history)
unfolding live
of_live policy history P Q as_live = all_found_of P Q (open_now (executions policy history) history) by (orders policy history)
  where
    at : (b : Bool) (x y : LiveOrder) → Q x → cond b (Some x) None ≡ Some y → Q y
    at true x y h e = subst Q (same_Some _ _ e) h
    at false x y h e = cc

    by : (o : Order) (x : LiveOrder) → P o → open_now (executions policy history) history o ≡ Some x → Q x
    by o x h e =
        let size : ℕ = total history o in
        let gone : ℕ = done (executions policy history) o in
        at (not (is_dead history o) && nat_lt gone size) (open_order o size gone (not (has_come (rest_numbers history) o.number))) x (as_live o size gone h) e

-- it waits until it comes to rest, and is in a stock of the policy
abbrev IsMade : PolicyData → List RecordData → LiveOrder → Type 0
IsMade policy history o = (o.waits ≡ not (has_come (rest_numbers history) o.number)) × (is_some (stock_named policy o.terms.stock) ≡ true)

all_made : {policy : PolicyData} {history : List RecordData} → IsLegal policy history → AllByRecursion (IsMade policy history) (live policy history)
all_made {policy} {history} legal = of_live policy history (IsListed policy) (IsMade policy history) (λ o size gone listed. (refl, listed)) (orders_are_listed policy history legal)

-- a live order, found under its number
pub record IsLiving (policy : PolicyData) (history : List RecordData) (o : LiveOrder) : Type 0 where
  pub found : live_numbered (live policy history) o.number ≡ Some o
  pub waits : o.waits ≡ not (has_come (rest_numbers history) o.number)
  pub listed : is_some (stock_named policy o.terms.stock) ≡ true

pub all_living : {policy : PolicyData} {history : List RecordData} → IsLegal policy history → AllByRecursion (IsLiving policy history) (live policy history)
all_living {policy} {history} legal =
    all_weaker (λ (o : LiveOrder). (live_numbered (live policy history) o.number ≡ Some o) × IsMade policy history o) (IsLiving policy history)
    (λ o h. record { found = h.0; waits = h.1.0; listed = h.1.1 }) (live policy history)
    (all_and (λ (o : LiveOrder). live_numbered (live policy history) o.number ≡ Some o) (IsMade policy history) (live policy history)
    (apart_are_found (λ (o : LiveOrder). o.number) (live policy history) (live_apart (legal_is_orderly legal))) (all_made legal))

-- two of one number are the same
pub same_order : (policy : PolicyData) (history : List RecordData) (o x : LiveOrder) → live_numbered (live policy history) o.number ≡ Some o → live_numbered (live policy history) x.number ≡ Some x
    → x.number ≡ o.number → x ≡ o
same_order policy history o x found also same = same_Some _ _ (sym also ∙ ap (live_numbered (live policy history)) same ∙ found)

-- the first that waits lives
pub first_lives : {policy : PolicyData} {history : List RecordData} (first : LiveOrder) (others : List LiveOrder) → IsLegal policy history → waiting policy history ≡ first ∷ others
    → IsLiving policy history first × (first.waits ≡ true)
unfolding waiting
first_lives {policy} {history} first others legal e =
    (subst (AllByRecursion (λ (o : LiveOrder). IsLiving policy history o × (o.waits ≡ true))) e
    (all_and (IsLiving policy history) (λ (o : LiveOrder). o.waits ≡ true) (filter (λ (o : LiveOrder). o.waits) (live policy history))
    (filtered (IsLiving policy history) (λ (o : LiveOrder). o.waits) (live policy history) (all_living legal)) (all_pass (λ (o : LiveOrder). o.waits) (live policy history)))).0

-- and is none of those that rest
pub does_not_rest : {policy : PolicyData} {history : List RecordData} (first : LiveOrder) (others : List LiveOrder) → IsLegal policy history → waiting policy history ≡ first ∷ others
    → (o : LiveOrder) → live_numbered (live policy history) o.number ≡ Some o → o.waits ≡ false → o.number ≡ first.number → ⊥
does_not_rest {policy} {history} first others legal e o found rests same =
    let lives : IsLiving policy history first × (first.waits ≡ true) = first_lives first others legal e in
    both_ways _ rests (ap (λ (x : LiveOrder). x.waits) (same_order policy history first o lives.0.found found same) ∙ lives.1)
