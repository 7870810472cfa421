-- The tables hang together after each change.
use Rattle.std.proofs.{Common.{◌≡◌, ℕ, ◌<◌, Bool, true, false, cond, not, List, [], ◌∷◌, ◌++◌, refl, ◌∙◌, sym, ap, arith}, lemmas.{Bool.{ltb-true, false_from_ne_true}, Option.same_Some}}
use Rattle.std.specs.{Prelude.{◌&&◌, ◌||◌, is_some}, List.{filter, list_any, AllByRecursion}, Map.{keys_of, lookup}}
use Rattle.gx_units.proofs.Lists_hold.{all_weaker, all_next, filtered}
use Rattle.gx_policy.specs.Lists.{are_distinct}
use Rattle.gx_history.specs.{declared.live_order.{LiveOrder.LiveOrder, UserToken.UserToken}, LiveOrders.{token_of, same_user_token}}
use Rattle.gx_orders.specs.{LiveOrders.{AreOrdersSound, IsOpen, NumbersRise, at_rest, with_order_changed, is_open, is_same_live_token, is_used, open_ones, with_total_and_done, resized_at}, Tables.{AreTied, IsIndexed, orders_shown}}
use Rattle.gx_orders.proofs.{Tokens_table.{key_is, used_found, still_found, added_found, unused, key_is_itself}, Orders_changed.{IsBelow, all_changed, rise_changed, rise_chosen, rise_next}}

still_indexed : (tokens more : List (UserToken × ℕ)) (live : List LiveOrder) → AllByRecursion (IsIndexed tokens) live → AllByRecursion (IsIndexed (tokens ++ more)) live
still_indexed tokens more live indexed =
    all_weaker (IsIndexed tokens) (IsIndexed (tokens ++ more)) (λ (o : LiveOrder) at. still_found (same_user_token (token_of o)) tokens more o.number at) live indexed

-- one more used token
pub tied_marked : (live : List LiveOrder) (tokens more : List (UserToken × ℕ)) → AreTied live tokens → AreTied live (tokens ++ more)
tied_marked live tokens more t = record { rise = t.rise; all_open = t.all_open; all_indexed = still_indexed tokens more live t.all_indexed }

-- one more order
pub tied_entered : (live : List LiveOrder) (tokens : List (UserToken × ℕ)) (o : LiveOrder) → AreTied live tokens
    → IsOpen o → AllByRecursion (IsBelow o.number) live → is_used (keys_of tokens) o.user o.token ≡ false
    → AreTied (live ++ o ∷ []) (tokens ++ (token_of o, o.number) ∷ [])
tied_entered live tokens o t shares_open below new =
    record {
      rise = rise_next live o t.rise below;
      all_open = all_next IsOpen live o t.all_open shares_open;
      all_indexed = all_next (IsIndexed (tokens ++ (token_of o, o.number) ∷ [])) live o (still_indexed tokens ((token_of o, o.number) ∷ []) live t.all_indexed)
          (added_found (same_user_token (token_of o)) tokens (token_of o, o.number) (unused tokens o.user o.token new) (key_is_itself (token_of o)));
    }

-- fewer orders
pub tied_chosen : (p : LiveOrder → Bool) (live : List LiveOrder) (tokens : List (UserToken × ℕ)) → AreTied live tokens → AreTied (filter p live) tokens
tied_chosen p live tokens t =
    record { rise = rise_chosen p live t.rise; all_open = filtered IsOpen p live t.all_open; all_indexed = filtered (IsIndexed tokens) p live t.all_indexed }

-- an order come to rest
pub tied_at_rest : (n : ℕ) (live : List LiveOrder) (tokens : List (UserToken × ℕ)) → AreTied live tokens → AreTied (with_order_changed at_rest n live) tokens
tied_at_rest n live tokens t =
    record {
      rise = rise_changed at_rest n (λ (o : LiveOrder) e. refl) live t.rise;
      all_open = all_changed IsOpen at_rest n (λ (o : LiveOrder) e was. was) live t.all_open;
      all_indexed = all_changed (IsIndexed tokens) at_rest n (λ (o : LiveOrder) e at. at) live t.all_indexed;
    }

chosen_open : (os : List LiveOrder) → AllByRecursion IsOpen (open_ones os)
chosen_open [] = tt
chosen_open (o ∷ os) = by (is_open o) refl (chosen_open os)
  where
    by : (b : Bool) → is_open o ≡ b → AllByRecursion IsOpen (open_ones os) → AllByRecursion IsOpen (cond b (o ∷ open_ones os) (open_ones os))
    by true e later = (ltb-true o.done o.total e, later)
    by false e later = later

-- an order of another size, or gone
pub tied_resized : (n total done : ℕ) (live : List LiveOrder) (tokens : List (UserToken × ℕ)) → AreTied live tokens → AreTied (resized_at n total done live) tokens
tied_resized n total done live tokens t =
    record {
      rise = rise_chosen is_open (with_order_changed (with_total_and_done total done) n live) (rise_changed (with_total_and_done total done) n (λ (o : LiveOrder) e. refl) live t.rise);
      all_open = chosen_open (with_order_changed (with_total_and_done total done) n live);
      all_indexed = filtered (IsIndexed tokens) is_open (with_order_changed (with_total_and_done total done) n live) (all_changed (IsIndexed tokens) (with_total_and_done total done) n (λ (o : LiveOrder) e at. at) live t.all_indexed);
    }

none_same : (tokens : List (UserToken × ℕ)) (o : LiveOrder) (os : List LiveOrder) → AllByRecursion (λ (p : LiveOrder). o.number < p.number) os → IsIndexed tokens o → AllByRecursion (IsIndexed tokens) os
    → list_any (is_same_live_token o) os ≡ false
none_same tokens o [] above here there = refl
none_same tokens o (p ∷ ps) above here there =
    ap (λ (b : Bool). b || list_any (is_same_live_token o) ps) (false_from_ne_true (is_same_live_token o p) (λ same. clash (number same) above.0)) ∙ none_same tokens o ps above.1 here there.1
  where
    number : is_same_live_token o p ≡ true → o.number ≡ p.number
    number same = same_Some _ _ (sym here ∙ ap (λ (k : UserToken). lookup (same_user_token k) tokens) (key_is (token_of o) (token_of p) same) ∙ there.0)

    clash : o.number ≡ p.number → o.number < p.number → ⊥
    clash e h = absurd (omega arith)

tokens_apart : (tokens : List (UserToken × ℕ)) (live : List LiveOrder) → NumbersRise live → AllByRecursion (IsIndexed tokens) live → are_distinct is_same_live_token live ≡ true
tokens_apart tokens [] rise indexed = refl
tokens_apart tokens (o ∷ os) rise indexed =
    ap (λ (b : Bool). not b && are_distinct is_same_live_token os) (none_same tokens o os rise.0 indexed.0 indexed.1) ∙ tokens_apart tokens os rise.1 indexed.1

pub sound_of : (live : List LiveOrder) (tokens : List (UserToken × ℕ)) → AreTied live tokens → AreOrdersSound (orders_shown live tokens)
sound_of live tokens t =
    record {
      rise = t.rise;
      all_open = t.all_open;
      all_used = all_weaker (IsIndexed tokens) (λ (o : LiveOrder). is_used (keys_of tokens) o.user o.token ≡ true)
          (λ (o : LiveOrder) at. sym (used_found tokens o.user o.token) ∙ ap is_some at) live t.all_indexed;
      tokens_differ = tokens_apart tokens live t.rise t.all_indexed;
    }
