-- An order numbered past all records is not dead, has its full size, and has no fills.
use Rattle.std.proofs.{Common.{◌≡◌, ℕ, ◌+◌, ◌<◌, ◌≤◌, Bool, true, false, List, [], ◌∷◌, ◌++◌, refl, ◌∙◌, ap, sym, map, length, arith, cond, length-append, sum_by}, Math.Path.subst, lemmas.{Bool.{le-ltb, ne_eqb, and_left}, List.Sums.sum_by-cons}}
use Rattle.std.specs.{Prelude.{Option, Some, None, ◌||◌, ◌==◌, nat_lt, filter_map, unwrap_or, option_to_list}, List.{list_any, cons_option, last_or, AllByRecursion}}
use Rattle.gx_units.proofs.Lists_hold.{all_weaker, all_both, found_is}
use Rattle.gx_policy.specs.declared.policy.PolicyData.{PolicyData}
use Rattle.gx_history.specs.{declared.record.{Fill.Fill, RecordData.RecordData, Verdict.Verdict}, Orders.{Order, orders, order_numbered, total, is_dead, ends, size_set}, Executions.{Execution, executions, executed_shares, shares_for, sides, side_of, done}, Verdicts.IsLegal}
use Rattle.gx_ouch.specs.declared.letters.Liquidity.{Liquidity}
use Rattle.gx_laws.proofs.{Requests_judged.legal_keeps, Orders_next.{executions_none, executions_next}, Orders_numbered.{NumbersAreWithin, none_within, one_more_within}}

-- each record's number is below this one
abbrev pub AreBefore : ℕ → List RecordData → Type 0
AreBefore number history = AllByRecursion (λ (r : RecordData). r.number < number) history

pub none_late : {X : Type 0} (b : Bool) (x : Option X) → b ≡ false → cond b x None ≡ None
none_late true x h = cc
none_late false x h = refl

end_late : (o : Order) (r : RecordData) → r.number < o.number → ends o r ≡ false
end_late o r h = and_left (nat_lt o.number r.number) _ (le-ltb o.number r.number (omega arith))

size_late : (o : Order) (r : RecordData) → r.number < o.number → size_set o r ≡ None
size_late o r h = none_late (nat_lt o.number r.number) _ (le-ltb o.number r.number (omega arith))

none_ends : (history : List RecordData) (o : Order) → AreBefore o.number history → list_any (ends o) history ≡ false
none_ends [] o h = refl
none_ends (r ∷ history) o h = ap (λ (b : Bool). b || list_any (ends o) history) (end_late o r h.0) ∙ none_ends history o h.1

none_sizes : (history : List RecordData) (o : Order) → AreBefore o.number history → filter_map (size_set o) history ≡ []
none_sizes [] o h = refl
none_sizes (r ∷ history) o h = ap (λ (n : Option ℕ). cons_option n (filter_map (size_set o) history)) (size_late o r h.0) ∙ none_sizes history o h.1

pub new_is_not_dead : (history : List RecordData) (o : Order) → AreBefore o.number history → is_dead history o ≡ false
unfolding is_dead
new_is_not_dead history o h = none_ends history o h

pub new_has_full_size : (history : List RecordData) (o : Order) → AreBefore o.number history → total history o ≡ o.terms.shares
unfolding total
new_has_full_size history o h = ap (λ (ns : List ℕ). unwrap_or (last_or None ns) o.terms.shares) (none_sizes history o h)

-- the order of each fill's side has the number of a record
abbrev pub FillsAreWithin : PolicyData → List RecordData → Type 0
FillsAreWithin policy history = AllByRecursion (λ (e : Execution). e.order.number ≤ length history) (executions policy history)

side_within : (limit : ℕ) (known : List Order) (f : Fill) (liquidity : Liquidity) (number : ℕ) → AllByRecursion (λ (o : Order). o.number ≤ limit) known
    → AllByRecursion (λ (e : Execution). e.order.number ≤ limit) (side_of known f liquidity number)
side_within limit known f liquidity number h = at (order_numbered known number) refl
  where
    at : (found : Option Order) → order_numbered known number ≡ found
        → AllByRecursion (λ (e : Execution). e.order.number ≤ limit) (map (λ (o : Order). record { fill = f; liquidity = liquidity; order = o }) (option_to_list found))
    at None e = tt
    at (Some o) e = (found_is (λ (o : Order). o.number ≤ limit) (λ (o : Order). o.number == number) known o h e, tt)

sides_within : (policy : PolicyData) (history : List RecordData) (v : Verdict) → NumbersAreWithin policy history
    → AllByRecursion (λ (e : Execution). e.order.number ≤ length history) (sides policy history v)
sides_within policy history Verdict.Granted h = tt
sides_within policy history (Verdict.Denied rule) h = tt
sides_within policy history (Verdict.Filled f) h =
    all_both (λ (e : Execution). e.order.number ≤ length history) (side_of (orders policy history) f Liquidity.Removed f.taker) (side_of (orders policy history) f Liquidity.Added f.maker)
    (side_within (length history) (orders policy history) f Liquidity.Removed f.taker h) (side_within (length history) (orders policy history) f Liquidity.Added f.maker h)
sides_within policy history (Verdict.Rested o) h = tt
sides_within policy history (Verdict.Expired o) h = tt

one_more_fill : (policy : PolicyData) (history : List RecordData) (r : RecordData) → NumbersAreWithin policy history → FillsAreWithin policy history → FillsAreWithin policy (history ++ r ∷ [])
one_more_fill policy history r numbers fills =
    let size : length (history ++ r ∷ []) ≡ length history + 1 = length-append history (r ∷ []) in
    subst (λ (es : List Execution). AllByRecursion (λ (e : Execution). e.order.number ≤ length (history ++ r ∷ [])) es) (sym (executions_next policy history r))
    (all_weaker (λ (e : Execution). e.order.number ≤ length history) (λ (e : Execution). e.order.number ≤ length (history ++ r ∷ [])) (λ e h. omega arith)
    (executions policy history ++ sides policy history r.verdict)
    (all_both (λ (e : Execution). e.order.number ≤ length history) (executions policy history) (sides policy history r.verdict) fills (sides_within policy history r.verdict numbers)))

pub fills_are_within : {policy : PolicyData} {history : List RecordData} → IsLegal policy history → FillsAreWithin policy history
fills_are_within {policy} legal =
    (legal_keeps (λ (h : List RecordData). NumbersAreWithin policy h × FillsAreWithin policy h)
    (none_within policy, subst (λ (es : List Execution). AllByRecursion (λ (e : Execution). e.order.number ≤ 0) es) (sym (executions_none policy)) tt)
    (λ h r within follows. (one_more_within r within.0 follows, one_more_fill policy h r within.0 within.1)) legal).1

no_share : (number : ℕ) (e : Execution) → e.order.number < number → shares_for number e ≡ 0
no_share number e h = at (e.order.number == number) (ne_eqb e.order.number number (λ same. absurd (omega arith)))
  where
    at : (b : Bool) → b ≡ false → cond b e.fill.shares 0 ≡ 0
    at true k = cc
    at false k = refl

pub none_executed : (made : List Execution) (number : ℕ) → AllByRecursion (λ (e : Execution). e.order.number < number) made → sum_by (shares_for number) made ≡ 0
none_executed [] number h = refl
none_executed (e ∷ made) number h =
    let whole : sum_by (shares_for number) (e ∷ made) ≡ shares_for number e + sum_by (shares_for number) made = sum_by-cons (shares_for number) e made in
    let first : shares_for number e ≡ 0 = no_share number e h.0 in
    let rest : sum_by (shares_for number) made ≡ 0 = none_executed made number h.1 in
    omega arith

done_of_one : (made : List Execution) (number : ℕ) → AllByRecursion (λ (e : Execution). e.order.number < number) made → sum_by (executed_shares made) (number ∷ []) ≡ 0
unfolding executed_shares
done_of_one made number h =
    let whole : sum_by (executed_shares made) (number ∷ []) ≡ executed_shares made number + 0 = sum_by-cons (executed_shares made) number [] in
    let none : executed_shares made number ≡ 0 = none_executed made number h in
    omega arith

-- an order that replaced none and is numbered past all records
pub new_has_no_fills : {policy : PolicyData} {history : List RecordData} (o : Order) → IsLegal policy history → length history < o.number → o.replaced ≡ []
    → done (executions policy history) o ≡ 0
unfolding done
new_has_no_fills {policy} {history} o legal late alone =
    ap (λ (ns : List ℕ). sum_by (executed_shares (executions policy history)) (o.number ∷ ns)) alone
    ∙ done_of_one (executions policy history) o.number
    (all_weaker (λ (e : Execution). e.order.number ≤ length history) (λ (e : Execution). e.order.number < o.number) (λ e h. omega arith) (executions policy history) (fills_are_within legal))
