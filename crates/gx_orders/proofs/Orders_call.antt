-- What each call leaves in the tables, and what it answers from them.
use Rattle.std.proofs.{Common.{◌≡◌, ℕ, ◌<◌, ◌≤◌, Bool, true, false, cond, List, [], ◌∷◌, ◌++◌, refl, ◌∙◌, sym, ap, subst, if◌then◌else◌, arith}, lemmas.Bool.{ne_eqb, le-ltb}}
use Rattle.std.specs.{Prelude.{Option, Some, None}, List.{last_or, AllByRecursion}, Map.{keys_of, lookup}}
use Rattle.indexmap.specs.IndexMap as index
use Rattle.gx_units.specs.declared.names.{Token.Token, UserName.UserName}
use Rattle.gx_history.specs.{declared.live_order.{LiveOrder.LiveOrder, UserToken.UserToken}, LiveOrders.{is_under, key, token_of, same_user_token}, Live.live_under}
use Rattle.gx_slab.specs.Slabs as slabs
use Rattle.gx_orders.specs.{LiveOrders.{OrdersData, IsOpen, NumbersRise, at_rest, with_order_changed, is_used, open_ones, live_numbered, with_total_and_done, resized_at, without_number}, Tables.{AreTied, orders_shown}}
use Rattle.gx_orders.proofs.{Orders_changed.{IsBelow, all_changed, changed_alike, changed_nowhere, found_has_number, none_shut, shut}, Tables_tied.{tied_entered, tied_resized}, Tokens_table.{nothing_under, under_found, token_last, unused}}

-- the order of the user under the token, where one was entered under it, is live and is under it
abbrev pub checked : UserName → Token → Option LiveOrder → Option LiveOrder
checked user token None = None
checked user token (Some o) = if is_under user token o then Some o else None

-- what is under the token, by the number that was put with it
abbrev pub under_by : List LiveOrder → UserName → Token → Option ℕ → Option LiveOrder
under_by live user token None = None
under_by live user token (Some n) = checked user token (live_numbered live n)

under_in : (live : List LiveOrder) (ts : List (UserToken × ℕ)) → AreTied live ts → (user : UserName) (token : Token) (found : Option ℕ)
    → lookup (same_user_token (key user token)) ts ≡ found → live_under live user token ≡ under_by live user token found
under_in live ts t user token None at = nothing_under live ts user token t.all_indexed (λ n was. let no : None ≡ Some n = sym at ∙ was in cc)
under_in live ts t user token (Some n) at =
    ap (last_or None) (under_found live ts user token n t.all_indexed t.rise at (live_numbered live n) refl)
    ∙ by (live_numbered live n)
  where
    by : (found : Option LiveOrder) → last_or None (elim found [ None ↦ [] | Some o ↦ if is_under user token o then o ∷ [] else [] ]) ≡ checked user token found
    by None = refl
    by (Some o) = elim (is_under user token o) as (λ b. last_or None (if b then o ∷ [] else []) ≡ (if b then Some o else None)) [ true ↦ refl | false ↦ refl ]

pub under_now : (live : List LiveOrder) (ts : List (UserToken × ℕ)) → AreTied live ts → (now : OrdersData) → orders_shown live ts ≡ now → (user : UserName) (token : Token) (found : Option ℕ)
    → lookup (same_user_token (key user token)) ts ≡ found → under_by live user token found ≡ live_under now.live user token
under_now live ts t now is user token found at = sym (under_in live ts t user token found at) ∙ ap (λ (d : OrdersData). live_under d.live user token) is

-- an order written in its place
pub written_is : (f : LiveOrder → LiveOrder) (n : ℕ) (o w : LiveOrder) (live : List LiveOrder) → NumbersRise live → live_numbered live n ≡ Some o → w ≡ f o → w.number ≡ o.number
    → slabs.live_with w live ≡ open_ones (with_order_changed f n live)
written_is f n o w live rise found is named =
    ap (λ (k : ℕ). open_ones (with_order_changed (λ (p : LiveOrder). w) k live)) (named ∙ found_has_number n live o found)
    ∙ ap open_ones (changed_alike (λ (p : LiveOrder). w) f n live o rise found is)

pub rested_is : (n : ℕ) (live : List LiveOrder) → AllByRecursion IsOpen live → open_ones (with_order_changed at_rest n live) ≡ with_order_changed at_rest n live
rested_is n live all = none_shut (with_order_changed at_rest n live) (all_changed IsOpen at_rest n (λ (o : LiveOrder) e was. was) live all)

-- of an order that keeps some shares open all stay, and of one that does not it goes
pub still_open : (n total done : ℕ) (live : List LiveOrder) → AllByRecursion IsOpen live → done < total → open_ones (with_order_changed (with_total_and_done total done) n live) ≡ with_order_changed (with_total_and_done total done) n live
still_open n total done live all shares_open =
    none_shut (with_order_changed (with_total_and_done total done) n live) (all_changed IsOpen (with_total_and_done total done) n (λ (o : LiveOrder) e was. shares_open) live all)

pub open_no_more : (n total done : ℕ) (live : List LiveOrder) → AllByRecursion IsOpen live → total ≤ done → open_ones (with_order_changed (with_total_and_done total done) n live) ≡ without_number n live
open_no_more n total done live all shares_gone = shut (with_total_and_done total done) n (λ (o : LiveOrder) e. le-ltb done total shares_gone) live all

-- nothing changes where the number is not there
pub nowhere : (f : LiveOrder → LiveOrder) (n : ℕ) (live : List LiveOrder) → AllByRecursion IsOpen live → live_numbered live n ≡ None → live ≡ open_ones (with_order_changed f n live)
nowhere f n live all none = sym (ap open_ones (changed_nowhere f n live none) ∙ none_shut live all)

-- an order written with another size
pub record IsResized (live : List LiveOrder) (ts : List (UserToken × ℕ)) (o : LiveOrder) (total done : ℕ) (now : List LiveOrder) : Type 0 where
  pub sized : now ≡ resized_at o.number total done live
  pub tied : AreTied now ts

pub is_resized : (live : List LiveOrder) (ts : List (UserToken × ℕ)) (o : LiveOrder) (total done : ℕ) (now : List LiveOrder) → AreTied live ts → live_numbered live o.number ≡ Some o
    → now ≡ slabs.live_with (with_total_and_done total done o) live → IsResized live ts o total done now
is_resized live ts o total done now t found is =
    let sized : now ≡ resized_at o.number total done live = is ∙ written_is (with_total_and_done total done) o.number o (with_total_and_done total done o) live t.rise found refl refl in
    record { sized = sized; tied = subst (λ (os : List LiveOrder). AreTied os ts) (sym sized) (tied_resized o.number total done live ts t) }

-- one more order, whose token is used now
pub entered_tied : (live : List LiveOrder) (ts : List (UserToken × ℕ)) (o : LiveOrder) → AreTied live ts → IsOpen o → AllByRecursion (IsBelow o.number) live → is_used (keys_of ts) o.user o.token ≡ false
    → (now : List LiveOrder) (tokens : List (UserToken × ℕ)) → now ≡ live ++ o ∷ [] → tokens ≡ ts ++ (token_of o, o.number) ∷ [] → AreTied now tokens
entered_tied live ts o t shares_open below new now tokens e k =
    subst (λ (os : List LiveOrder). AreTied os tokens) (sym e)
    (subst (λ (ks : List (UserToken × ℕ)). AreTied (live ++ o ∷ []) ks) (sym k) (tied_entered live ts o t shares_open below new))

-- no order has a number that is above all
pub none_above : (n : ℕ) (live : List LiveOrder) → AllByRecursion (IsBelow n) live → live_numbered live n ≡ None
none_above n [] below = refl
none_above n (o ∷ os) below =
    ap (λ (b : Bool). cond b (Some o) (live_numbered os n)) (ne_eqb o.number n (λ same. absurd (omega (arith, below.0)))) ∙ none_above n os below.1

pub tokens_are : (ts now : List (UserToken × ℕ)) (user : UserName) (token : Token) (v : ℕ) → is_used (keys_of ts) user token ≡ false
    → now ≡ index.insert_entry same_user_token ts (key user token) v → now ≡ ts ++ (key user token, v) ∷ []
tokens_are ts now user token v new e = e ∙ token_last ts (key user token) v (unused ts user token new)
