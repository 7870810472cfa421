-- Each user's orders are counted after each change.
use Rattle.std.proofs.{Common.{◌≡◌, ℕ, ◌+◌, ◌-◌, ◌≤◌, arith, true, false, not, Bool, cond, List, [], ◌∷◌, ◌++◌, length, refl, ◌∙◌, ap, sym}, lemmas.{Bool.eqb-true, Option.same_Some}}
use Rattle.std.specs.{Prelude.{Option, Some, None, unwrap_or, if◌then◌else◌}, List.{filter, find}, Map.lookup}
use Rattle.gx_units.specs.{Names.same_user, declared.names.UserName.UserName}
use Rattle.gx_units.proofs.Names_equal.{user_is}
use Rattle.gx_history.specs.{declared.live_order.LiveOrder.LiveOrder, LiveOrders.is_of_user}
use Rattle.gx_orders.specs.{LiveOrders.{NumbersRise, with_order_changed, has_number, without_number}, Tables.{counted_of, orders_of, AreCounted, CountsOneLess, CountsOneMore}}
use Rattle.gx_orders.proofs.Orders_changed.{behind, none_taken}

-- one order more of the user
pub one_more : (user : UserName) (count : ℕ) (before after : List (UserName × ℕ)) → count ≡ counted_of before user
    → ((other : UserName) → lookup (same_user other) after ≡ cond (same_user user other) (Some (count + 1)) (lookup (same_user other) before)) → CountsOneMore user before after
one_more user count before after is written other = ap (λ (found : Option ℕ). unwrap_or found 0) (written other) ∙ by (same_user user other) refl
  where
    by : (b : Bool) → same_user user other ≡ b → unwrap_or (cond b (Some (count + 1)) (lookup (same_user other) before)) 0 ≡ counted_of before other + (if b then 1 else 0)
    by true same = ap (λ (n : ℕ). n + 1) (is ∙ ap (counted_of before) (user_is user other same))
    by false apart = omega arith

-- one order less of him
pub one_less : (user : UserName) (count left : ℕ) (before after : List (UserName × ℕ)) → lookup (same_user user) before ≡ Some count → left ≡ count - 1
    → ((other : UserName) → lookup (same_user other) after ≡ cond (same_user user other) (Some left) (lookup (same_user other) before)) → CountsOneLess user before after
one_less user count left before after found is written other = ap (λ (now : Option ℕ). unwrap_or now 0) (written other) ∙ by (same_user user other) refl
  where
    by : (b : Bool) → same_user user other ≡ b → unwrap_or (cond b (Some left) (lookup (same_user other) before)) 0 ≡ counted_of before other - (if b then 1 else 0)
    by true same = is ∙ ap (λ (n : ℕ). n - 1) (ap (λ (was : Option ℕ). unwrap_or was 0) (sym found) ∙ ap (counted_of before) (user_is user other same))
    by false apart = omega arith

-- where none is counted there is none less
pub none_less : (user : UserName) (before after : List (UserName × ℕ)) → None ≡ lookup (same_user user) before → after ≡ before → CountsOneLess user before after
none_less user before after none same other = ap (λ (counts : List (UserName × ℕ)). counted_of counts other) same ∙ by (same_user user other) refl
  where
    by : (b : Bool) → same_user user other ≡ b → counted_of before other ≡ counted_of before other - (if b then 1 else 0)
    by true is =
        let nothing : counted_of before other ≡ 0 = ap (counted_of before) (sym (user_is user other is)) ∙ ap (λ (was : Option ℕ). unwrap_or was 0) (sym none) in
        omega (arith, nothing)
    by false is = omega arith

-- an order that is the user's is one more of his
orders_first : (user : UserName) (o : LiveOrder) (os : List LiveOrder) → orders_of user (o ∷ os) ≡ orders_of user os + (if same_user o.user user then 1 else 0)
orders_first user o os = by (same_user o.user user)
  where
    by : (b : Bool) → length (cond b (o ∷ filter (is_of_user user) os) (filter (is_of_user user) os)) ≡ orders_of user os + (if b then 1 else 0)
    by true = omega arith
    by false = omega arith

orders_last : (user : UserName) (os : List LiveOrder) (o : LiveOrder) → orders_of user (os ++ o ∷ []) ≡ orders_of user os + (if same_user o.user user then 1 else 0)
orders_last user [] o = orders_first user o []
orders_last user (p ∷ ps) o = omega (arith, orders_first user p (ps ++ o ∷ []), orders_first user p ps, orders_last user ps o)

pub few_orders : (user : UserName) (os : List LiveOrder) → orders_of user os ≤ length os
few_orders user [] = omega arith
few_orders user (o ∷ os) = by (same_user o.user user) (orders_first user o os) (few_orders user os)
  where
    by : (b : Bool) → orders_of user (o ∷ os) ≡ orders_of user os + (if b then 1 else 0) → orders_of user os ≤ length os → orders_of user (o ∷ os) ≤ length (o ∷ os)
    by true is few = omega (arith, is, few)
    by false is few = omega (arith, is, few)

-- an order that is written in its place keeps its user
pub orders_changed : (change : LiveOrder → LiveOrder) (n : ℕ) → ((o : LiveOrder) → (change o).user ≡ o.user) → (user : UserName) (os : List LiveOrder) → orders_of user (with_order_changed change n os) ≡ orders_of user os
orders_changed change n keeps user [] = refl
orders_changed change n keeps user (o ∷ os) =
    orders_first user (if has_number n o then change o else o) (with_order_changed change n os)
    ∙ ap (λ (name : UserName). orders_of user (with_order_changed change n os) + (if same_user name user then 1 else 0)) (by (has_number n o))
    ∙ ap (λ (count : ℕ). count + (if same_user o.user user then 1 else 0)) (orders_changed change n keeps user os)
    ∙ sym (orders_first user o os)
  where
    by : (b : Bool) → (if b then change o else o).user ≡ o.user
    by true = keeps o
    by false = refl

-- an order that is taken out is one less of its user's
pub orders_without : (user : UserName) (n : ℕ) (o : LiveOrder) (os : List LiveOrder) → NumbersRise os → find (has_number n) os ≡ Some o
    → orders_of user (without_number n os) + (if same_user o.user user then 1 else 0) ≡ orders_of user os
orders_without user n o [] rise found = cc
orders_without user n o (p ∷ ps) rise found = at (has_number n p) refl found (λ later. orders_without user n o ps rise.1 later)
  where
    at : (b : Bool) → has_number n p ≡ b → cond b (Some p) (find (has_number n) ps) ≡ Some o
        → (find (has_number n) ps ≡ Some o → orders_of user (without_number n ps) + (if same_user o.user user then 1 else 0) ≡ orders_of user ps)
        → orders_of user (cond (not b) (p ∷ without_number n ps) (without_number n ps)) + (if same_user o.user user then 1 else 0) ≡ orders_of user (p ∷ ps)
    at true is this later =
        ap (λ (os : List LiveOrder). orders_of user os + (if same_user o.user user then 1 else 0)) (none_taken n ps (behind n p ps (eqb-true p.number n is) rise.0))
        ∙ ap (λ (x : LiveOrder). orders_of user ps + (if same_user x.user user then 1 else 0)) (sym (same_Some _ _ this))
        ∙ sym (orders_first user p ps)
    at false is this later = omega (arith, orders_first user p (without_number n ps), orders_first user p ps, later this)

pub none_without : (n : ℕ) (os : List LiveOrder) → find (has_number n) os ≡ None → without_number n os ≡ os
none_without n [] none = refl
none_without n (p ∷ ps) none = at (has_number n p) none (λ later. none_without n ps later)
  where
    at : (b : Bool) → cond b (Some p) (find (has_number n) ps) ≡ None → (find (has_number n) ps ≡ None → without_number n ps ≡ ps) → cond (not b) (p ∷ without_number n ps) (without_number n ps) ≡ p ∷ ps
    at true this later = cc
    at false this later = ap (λ (rest : List LiveOrder). p ∷ rest) (later this)

-- after each call
pub counted_entered : (o : LiveOrder) (live now : List LiveOrder) (before after : List (UserName × ℕ)) → AreCounted before live → now ≡ live ++ o ∷ [] → CountsOneMore o.user before after → AreCounted after now
counted_entered o live now before after counted is more user =
    more user ∙ ap (λ (n : ℕ). n + (if same_user o.user user then 1 else 0)) (counted user) ∙ sym (orders_last user live o) ∙ ap (orders_of user) (sym is)

pub counted_changed : (change : LiveOrder → LiveOrder) (n : ℕ) → ((o : LiveOrder) → (change o).user ≡ o.user) → (live now : List LiveOrder) (counts : List (UserName × ℕ)) → AreCounted counts live
    → now ≡ with_order_changed change n live → AreCounted counts now
counted_changed change n keeps live now counts counted is user = counted user ∙ sym (orders_changed change n keeps user live) ∙ ap (orders_of user) (sym is)

pub counted_ended : (n : ℕ) (o : LiveOrder) (live now : List LiveOrder) (before after : List (UserName × ℕ)) → NumbersRise live → AreCounted before live → find (has_number n) live ≡ Some o → now ≡ without_number n live
    → CountsOneLess o.user before after → AreCounted after now
counted_ended n o live now before after rise counted found is less user =
    by (same_user o.user user) (less user) (counted user) (orders_without user n o live rise found) ∙ ap (orders_of user) (sym is)
  where
    by : (b : Bool) → counted_of after user ≡ counted_of before user - (if b then 1 else 0) → counted_of before user ≡ orders_of user live
        → orders_of user (without_number n live) + (if b then 1 else 0) ≡ orders_of user live → counted_of after user ≡ orders_of user (without_number n live)
    by true one was all = omega (arith, one, was, all)
    by false one was all = omega (arith, one, was, all)

pub counted_same : (live now : List LiveOrder) (before after : List (UserName × ℕ)) → AreCounted before live → now ≡ live → after ≡ before → AreCounted after now
counted_same live now before after counted is same user = ap (λ (counts : List (UserName × ℕ)). counted_of counts user) same ∙ counted user ∙ ap (orders_of user) (sym is)
