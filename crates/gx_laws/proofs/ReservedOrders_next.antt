-- How many live orders a user has once a record has turned them.
use Rattle.std.proofs.Common.{◌≡◌, ◌+◌, ◌≤◌, arith, true, false, Bool, List, [], ◌∷◌, length, refl, ◌∙◌, ap, sym, cond, subst}
use Rattle.std.specs.{Prelude.{ℕ, Option, Some, None, ◌||◌, ◌&&◌, ◌==◌, nat_lt}, List.{cons_option, filter, filter_map, flat_map}}
use Rattle.gx_units.specs.{Names.same_user, declared.names.UserName.UserName}
use Rattle.gx_ouch.specs.declared.letters.CancelReason.{CancelReason}
use Rattle.gx_desk.specs.declared.Action.{Action}
use Rattle.gx_history.specs.{declared.{live_order.LiveOrder.LiveOrder, report.Message.Message}, LiveOrders.{shares_open, is_of_user}, Orders.ends_account, Streams.{canceled_of, ended_of}, Turns.{Turn, Keeps, Adds, Sizes, Replaces, EndsAll, Fills, Rests, Ends, becomes, new_in, live_after, while_open}}
use Rattle.gx_laws.proofs.Lists_counted.{together}

-- how many of these orders are the user's
abbrev pub his_of : UserName → List LiveOrder → ℕ
his_of user found = length (filter (is_of_user user) found)

some_is : (x y : LiveOrder) → Some x ≡ Some y → y.user ≡ x.user
some_is x y e = let same : x ≡ y = cc in ap (λ (o : LiveOrder). o.user) (sym same)

gone_or_his : (b : Bool) (o x : LiveOrder) → cond b None (Some o) ≡ Some x → x.user ≡ o.user
gone_or_his true o x h = cc
gone_or_his false o x h = some_is o x h

open_or_his : (b : Bool) (o y x : LiveOrder) → y.user ≡ o.user → cond b (while_open y) (Some o) ≡ Some x → x.user ≡ o.user
open_or_his true o y x same h = at (nat_lt y.done y.total) h
  where
    at : (c : Bool) → cond c (Some y) None ≡ Some x → x.user ≡ o.user
    at true k = some_is y x k ∙ same
    at false k = cc
open_or_his false o y x same h = some_is o x h

-- an order that goes on is its user's still
still_his : (turn : Turn) (o x : LiveOrder) → becomes turn o ≡ Some x → x.user ≡ o.user
still_his Keeps o x h = some_is o x h
still_his (Adds new) o x h = some_is o x h
still_his (Sizes number size) o x h = open_or_his (o.number == number) o (record o { total = size }) x refl h
still_his (Replaces number new) o x h = gone_or_his (o.number == number) o x h
still_his (EndsAll action) o x h = gone_or_his (ends_account o.account action) o x h
still_his (Fills f) o x h = open_or_his (o.number == f.taker || o.number == f.maker) o (record o { done = o.done + f.shares }) x refl h
still_his (Rests number) o x h = at (number == o.number) h
  where
    at : (b : Bool) → Some (cond b (record o { waits = false }) o) ≡ Some x → x.user ≡ o.user
    at true k = some_is (record o { waits = false }) x k
    at false k = some_is o x k
still_his (Ends number) o x h = gone_or_his (number == o.number) o x h

-- no more of them go on than there were
fewer_go_on : (turn : Turn) (user : UserName) (found : List LiveOrder) → his_of user (filter_map (becomes turn) found) ≤ his_of user found
fewer_go_on turn user [] = omega arith
fewer_go_on turn user (o ∷ os) = at (becomes turn o) refl (fewer_go_on turn user os)
  where
    left : List LiveOrder
    left = filter_map (becomes turn) os

    gone : (b : Bool) → his_of user left ≤ his_of user os → his_of user left ≤ length (cond b (o ∷ filter (is_of_user user) os) (filter (is_of_user user) os))
    gone true h = omega (arith, h)
    gone false h = h

    goes : (b : Bool) (x : LiveOrder) → his_of user left ≤ his_of user os
        → length (cond b (x ∷ filter (is_of_user user) left) (filter (is_of_user user) left)) ≤ length (cond b (o ∷ filter (is_of_user user) os) (filter (is_of_user user) os))
    goes true x h = omega (arith, h)
    goes false x h = h

    at : (y : Option LiveOrder) → becomes turn o ≡ y → his_of user left ≤ his_of user os → his_of user (cons_option y left) ≤ his_of user (o ∷ os)
    at None is h = gone (is_of_user user o) h
    at (Some x) is h =
        subst (λ (u : UserName). length (cond (same_user u user) (x ∷ filter (is_of_user user) left) (filter (is_of_user user) left)) ≤ his_of user (o ∷ os)) (sym (still_his turn o x is)) (goes (is_of_user user o) x h)

-- and one more where one comes
pub held_turned : (turn : Turn) (user : UserName) (found : List LiveOrder) → his_of user (live_after turn found) ≤ his_of user found + his_of user (new_in turn)
held_turned turn user found = omega (arith, together (is_of_user user) (filter_map (becomes turn) found) (new_in turn), fewer_go_on turn user found)

-- as many orders of the user end as he is told of, and the others stay
ended_and_left : (action : Action) (user : UserName) (found : List LiveOrder) → length (ended_of found action user) + his_of user (filter_map (becomes (EndsAll action)) found) ≡ his_of user found
ended_and_left action user [] = refl
ended_and_left action user (o ∷ os) = by (ends_account o.account action) (ended_and_left action user os)
  where
    ends : LiveOrder → Bool
    ends x = is_of_user user x && ends_account x.account action

    told : List LiveOrder → List Message
    told xs = flat_map (λ (x : LiveOrder). canceled_of CancelReason.Supervisory (shares_open x) x) xs

    left : List LiveOrder
    left = filter_map (becomes (EndsAll action)) os

    Before : Type 0
    Before = length (told (filter ends os)) + his_of user left ≡ his_of user os

    gone : (b : Bool) → Before → length (told (cond (b && true) (o ∷ filter ends os) (filter ends os))) + his_of user left ≡ length (cond b (o ∷ filter (is_of_user user) os) (filter (is_of_user user) os))
    gone true h = omega (arith, h)
    gone false h = h

    stays : (b : Bool) → Before
        → length (told (cond (b && false) (o ∷ filter ends os) (filter ends os))) + length (cond b (o ∷ filter (is_of_user user) left) (filter (is_of_user user) left))
        ≡ length (cond b (o ∷ filter (is_of_user user) os) (filter (is_of_user user) os))
    stays true h = omega (arith, h)
    stays false h = h

    by : (c : Bool) → Before
        → length (told (cond (is_of_user user o && c) (o ∷ filter ends os) (filter ends os))) + his_of user (cons_option (cond c None (Some o)) left) ≡ his_of user (o ∷ os)
    by true h = gone (is_of_user user o) h
    by false h = stays (is_of_user user o) h

pub held_and_ended : (action : Action) (user : UserName) (found : List LiveOrder) → length (ended_of found action user) + his_of user (live_after (EndsAll action) found) ≡ his_of user found
held_and_ended action user found = omega (arith, ended_and_left action user found, together (is_of_user user) (filter_map (becomes (EndsAll action)) found) [])
