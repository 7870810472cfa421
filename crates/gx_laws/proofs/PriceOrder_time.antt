-- At one price the orders rest in the order in which they came to rest.
use Rattle.std.proofs.{Common.{◌≡◌, ℕ, Bool, true, false, not, List, [], ◌∷◌, ◌++◌, refl, ◌∙◌, ap, sym, cond, fold, append_assoc}, lemmas.{Bool.eqb-true, List.append-nil}}
use Rattle.std.specs.{Prelude.nat_lt, List.{filter, AllByRecursion}}
use Rattle.gx_units.specs.declared.names.Symbol.{Symbol}
use Rattle.gx_units.proofs.Lists_hold.{all_pass}
use Rattle.gx_policy.specs.{declared.policy.PolicyData.PolicyData, Lists.inserted_behind}
use Rattle.gx_history.specs.{declared.{live_order.LiveOrder.LiveOrder, «record».RecordData.RecordData}, Live.{by_time, has_price, ahead, side}}
use Rattle.gx_laws.proofs.{PriceOrder_best.not_ahead_of_itself, PriceOrder_filtered.in_order_filter, BookSides_next.prices_rank}

abbrev HasPrice : ℕ → LiveOrder → Type 0
HasPrice price s = has_price price s ≡ true

-- at one price none is ahead of another
none_ahead : (buy : Bool) (price : ℕ) (a b : LiveOrder) → HasPrice price a → HasPrice price b → ahead buy a b ≡ false
none_ahead buy price a b h k =
    ap (λ (n : ℕ). cond buy (nat_lt b.terms.price n) (nat_lt n b.terms.price)) (eqb-true a.terms.price price h ∙ sym (eqb-true b.terms.price price k))
    ∙ not_ahead_of_itself buy b

all_kept : (buy : Bool) (price : ℕ) (x : LiveOrder) (xs : List LiveOrder) → HasPrice price x → AllByRecursion (HasPrice price) xs → filter (λ y. not (ahead buy x y)) xs ≡ xs
all_kept buy price x [] h k = refl
all_kept buy price x (y ∷ ys) h k =
    ap (λ (b : Bool). cond (not b) (y ∷ filter (λ z. not (ahead buy x z)) ys) (filter (λ z. not (ahead buy x z)) ys)) (none_ahead buy price x y h k.0)
    ∙ ap (λ (zs : List LiveOrder). y ∷ zs) (all_kept buy price x ys h k.1)

none_kept : (buy : Bool) (price : ℕ) (x : LiveOrder) (xs : List LiveOrder) → HasPrice price x → AllByRecursion (HasPrice price) xs → filter (ahead buy x) xs ≡ []
none_kept buy price x [] h k = refl
none_kept buy price x (y ∷ ys) h k =
    ap (λ (b : Bool). cond b (y ∷ filter (ahead buy x) ys) (filter (ahead buy x) ys)) (none_ahead buy price x y h k.0) ∙ none_kept buy price x ys h k.1

goes_last : (buy : Bool) (price : ℕ) (x : LiveOrder) (earlier : List LiveOrder) → HasPrice price x → AllByRecursion (HasPrice price) earlier → inserted_behind (ahead buy) earlier x ≡ earlier ++ x ∷ []
goes_last buy price x earlier h k =
    ap (λ (zs : List LiveOrder). zs ++ x ∷ filter (ahead buy x) earlier) (all_kept buy price x earlier h k) ∙ ap (λ (zs : List LiveOrder). earlier ++ x ∷ zs) (none_kept buy price x earlier h k)

one_more : (price : ℕ) (xs : List LiveOrder) (x : LiveOrder) → AllByRecursion (HasPrice price) xs → HasPrice price x → AllByRecursion (HasPrice price) (xs ++ x ∷ [])
one_more price [] x h k = (k, tt)
one_more price (y ∷ ys) x h k = (h.0, one_more price ys x h.1 k)

in_turn : (buy : Bool) (price : ℕ) (earlier xs : List LiveOrder) → AllByRecursion (HasPrice price) earlier → AllByRecursion (HasPrice price) xs → fold (inserted_behind (ahead buy)) earlier xs ≡ earlier ++ xs
in_turn buy price earlier [] h k = sym (append-nil earlier)
in_turn buy price earlier (x ∷ xs) h k =
    ap (λ (zs : List LiveOrder). fold (inserted_behind (ahead buy)) zs xs) (goes_last buy price x earlier k.0 h)
    ∙ in_turn buy price (earlier ++ x ∷ []) xs (one_more price earlier x h k.0) k.1
    ∙ append_assoc earlier (x ∷ []) xs

pub rests_by_time : (policy : PolicyData) (history : List RecordData) (stock : Symbol) (buy : Bool) (price : ℕ)
    → filter (has_price price) (side policy history stock buy) ≡ filter (has_price price) (by_time policy history stock buy)
unfolding side
rests_by_time policy history stock buy price =
    sym (in_order_filter (ahead buy) (prices_rank buy) (has_price price) (by_time policy history stock buy))
    ∙ in_turn buy price [] (filter (has_price price) (by_time policy history stock buy)) tt (all_pass (has_price price) (by_time policy history stock buy))
