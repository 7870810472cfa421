-- What more orders, fills and grants add to sums and counts.
use Rattle.std.proofs.{Common.{◌≡◌, ℕ, ◌+◌, Bool, List, [], ◌∷◌, ◌++◌, refl, ◌∙◌, ap, sum_by}, lemmas.List.{Elements.{filter-append, filter_map-append}, Sums.sum_by-append}}
use Rattle.std.specs.{Prelude.{Option, Some, None, unwrap_or, filter_map}, Option.option_map_or, List.{filter, last_or}}
use Rattle.gx_units.specs.{declared.names.{AccountName.AccountName, Symbol.Symbol}, Money.value}
use Rattle.gx_ouch.specs.declared.outbound.OrderTerms.{OrderTerms}
use Rattle.gx_policy.specs.{declared.policy.{PolicyData.PolicyData, Stock.Stock}, Lists.last_value, People.stock_named}
use Rattle.gx_history.specs.{Executions.Execution, Figures.{done_of_chosen, done_value, reference, price_in}}
use Rattle.gx_laws.proofs.Lists_next.{last_or-append}

sum_of_chosen : {X : Type 0} (f : X → ℕ) (p : X → Bool) (xs ys : List X) → sum_by f (filter p (xs ++ ys)) ≡ sum_by f (filter p xs) + sum_by f (filter p ys)
sum_of_chosen f p xs ys = ap (sum_by f) (filter-append p xs ys) ∙ sum_by-append f (filter p xs) (filter p ys)

pub done_none : (chosen : AccountName → OrderTerms → Bool) → done_of_chosen [] chosen ≡ 0
unfolding done_of_chosen
done_none chosen = refl

pub done_more : (made more : List Execution) (chosen : AccountName → OrderTerms → Bool) → done_of_chosen (made ++ more) chosen ≡ done_of_chosen made chosen + done_of_chosen more chosen
unfolding done_of_chosen
done_more made more chosen = sum_of_chosen (λ (e : Execution). e.fill.shares) (λ (e : Execution). chosen e.order.account e.order.terms) made more

pub done_value_none : (among : AccountName → Bool) → done_value [] among ≡ 0
unfolding done_value
done_value_none among = refl

pub done_value_more : (made more : List Execution) (among : AccountName → Bool) → done_value (made ++ more) among ≡ done_value made among + done_value more among
unfolding done_value
done_value_more made more among = sum_of_chosen (λ (e : Execution). value e.fill.shares e.fill.price) (λ (e : Execution). among e.order.account) made more

last_of_some : {Y : Type 0} (z : Y) (ys : List Y) (a b : Y) → unwrap_or (last_or (Some z) ys) a ≡ unwrap_or (last_or (Some z) ys) b
last_of_some z [] a b = refl
last_of_some z (w ∷ ys) a b = last_of_some w ys a b

last_over : {Y : Type 0} (o : Option Y) (ys : List Y) (d : Y) → unwrap_or (last_or o ys) d ≡ unwrap_or (last_or None ys) (unwrap_or o d)
last_over o [] d = refl
last_over o (y ∷ ys) d = last_of_some y ys d (unwrap_or o d)

-- later marks decide over earlier ones
pub last_value_more : {X Y : Type 0} (mark : X → Option Y) (d : Y) (xs ys : List X) → last_value mark d (xs ++ ys) ≡ last_value mark (last_value mark d xs) ys
last_value_more mark d xs ys =
    ap (λ zs. unwrap_or (last_or None zs) d) (filter_map-append mark xs ys)
    ∙ ap (λ o. unwrap_or o d) (last_or-append None (filter_map mark xs) (filter_map mark ys))
    ∙ last_over (last_or None (filter_map mark xs)) (filter_map mark ys) d

pub reference_none : (policy : PolicyData) (stock : Symbol) → reference policy [] stock ≡ option_map_or (λ (s : Stock). s.reference) (stock_named policy stock) 0
unfolding reference
reference_none policy stock = refl

-- a later fill in the stock decides
pub reference_more : (policy : PolicyData) (made more : List Execution) (stock : Symbol)
    → reference policy (made ++ more) stock ≡ last_value (price_in stock) (reference policy made stock) more
unfolding reference
reference_more policy made more stock = last_value_more (price_in stock) (option_map_or (λ (s : Stock). s.reference) (stock_named policy stock) 0) made more
