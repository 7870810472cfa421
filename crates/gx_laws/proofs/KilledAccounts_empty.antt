-- In a legal history no order of a killed account is live: an invariant of the world, by what each record does.
use Rattle.std.proofs.{Common.{◌≡◌, Bool, true, false, List, [], ◌∷◌, refl, ◌∙◌, ap, sym, cond, ℕ}, Math.Path.subst, lemmas.Option.same_Some}
use Rattle.std.specs.{Prelude.{Option, Some, None, is_some, ◌||◌, ◌==◌}, List.{AllByRecursion, filter_map, filter, list_any}}
use Rattle.gx_units.specs.{declared.names.{AccountName.AccountName, Symbol.Symbol, UserName.UserName}, Names.same_account}
use Rattle.gx_units.proofs.{Names_equal.account_is, Lists_hold.{all_weaker, all_both, filtered, all_found_of, found_is}}
use Rattle.gx_desk.specs.declared.{Action.Action, Command.Command}
use Rattle.gx_policy.specs.declared.policy.PolicyData.{PolicyData}
use Rattle.gx_history.specs.{declared.{live_order.LiveOrder.LiveOrder, «record».RecordData.RecordData, moves.Move.{Move, TheVariants.{Nothing, Denies, PutsOn, Adds, Sizes, Replaces, Commands, Fills, Rests, Expires}}}, Book.rest_numbers, InForce.{is_killed, kill_after}, Live.{live, live_numbered, waiting, ahead, is_there, side}, LiveOrders.is_under, Matched.HasNoOrders, MayMove.MayMove, Orders.orders, Turns.{Turn, becomes, new_in, live_after}, Verdicts.IsLegal, World.{World, world, world_after_command, move_of, world_after_move}}
use Rattle.gx_history.specs.Turns as turns
use Rattle.gx_laws.proofs.{Requests_judged.legal_keeps, Streams_next.{legal_next, legal_none}, Orders_owned.last_such_is, LiveOrders_known.all_placed, Moves_allowed.may_move, BookSides_next.becomes_same, World_next.world_next}
use Rattle.gx_laws.specs.EffectLaws.{KilledAreNotLive}

-- the order's account is not killed
abbrev IsSpared : World → LiveOrder → Type 0
IsSpared w o = is_some (w.kills o.account) ≡ false

-- no live order is of a killed account
abbrev Spared : World → Type 0
Spared w = AllByRecursion (IsSpared w) w.live

-- those that go on are for the same accounts
goes_on : (w : World) (turn : Turn) → Spared w → AllByRecursion (IsSpared w) (new_in turn) → AllByRecursion (IsSpared w) (live_after turn w.live)
goes_on w turn h new =
    all_both (IsSpared w) (filter_map (becomes turn) w.live) (new_in turn)
    (all_found_of (IsSpared w) (IsSpared w) (becomes turn) (λ o x spared e. ap (λ (account : AccountName). is_some (w.kills account)) (becomes_same turn o x e).3 ∙ spared) w.live h) new

commanded_spares : (policy : PolicyData) (r : RecordData) (officer : UserName) (c : Command) (w : World) (action : Action) → Spared w → Spared (world_after_command policy r officer c action w)
commanded_spares policy r officer c w (Action.Kill killed) h =
    all_both IsLeft (filter_map (becomes (turns.EndsAll (Action.Kill killed))) w.live) [] (all_found_of (IsSpared w) IsLeft (becomes (turns.EndsAll (Action.Kill killed))) left w.live h) tt
  where
    IsLeft : LiveOrder → Type 0
    IsLeft o = is_some (cond (same_account killed o.account) (Some []) (w.kills o.account)) ≡ false

    left : (o x : LiveOrder) → IsSpared w o → cond (same_account killed o.account) None (Some o) ≡ Some x → IsLeft x
    left o x spared = at (same_account killed o.account) refl
      where
        at : (b : Bool) → same_account killed o.account ≡ b → cond b None (Some o) ≡ Some x → IsLeft x
        at true k e = cc
        at false k e = subst IsLeft (same_Some _ _ e) (ap (λ (b : Bool). is_some (cond b (Some []) (w.kills o.account))) k ∙ spared)
commanded_spares policy r officer c w (Action.Lift lifts) h =
    all_weaker (IsSpared w) (λ (o : LiveOrder). is_some (cond (same_account lifts o.account) (kill_after policy.lifters (Some (Some officer)) (w.kills o.account)) (w.kills o.account)) ≡ false)
    (λ o spared. at (same_account lifts o.account) (w.kills o.account) spared) w.live h
  where
    at : (b : Bool) (before : Option (List UserName)) → is_some before ≡ false → is_some (cond b (kill_after policy.lifters (Some (Some officer)) before) before) ≡ false
    at true None e = refl
    at true (Some officers) e = cc
    at false before e = e
commanded_spares policy r officer c w (Action.SetLimit rule limit) h = h
commanded_spares policy r officer c w (Action.Restrict rule stock) h = h
commanded_spares policy r officer c w (Action.Unrestrict rule stock) h = h
commanded_spares policy r officer c w (Action.Grant reader named) h = h
commanded_spares policy r officer c w (Action.Revoke reader named) h = h
commanded_spares policy r officer c w Action.CloseDay h = goes_on w (turns.EndsAll Action.CloseDay) h tt

moved_spares : (policy : PolicyData) (r : RecordData) (w : World) (m : Move) → MayMove policy w r m → Spared w → Spared (world_after_move policy r m w)
moved_spares policy r w Nothing may h = h
moved_spares policy r w (Denies a rule) may h = h
moved_spares policy r w (PutsOn user line) may h = h
moved_spares policy r w (Adds new) may h = goes_on w (turns.Adds new) h (may.not_killed, tt)
moved_spares policy r w (Sizes cut size) may h = goes_on w (turns.Sizes cut.number size) h tt
moved_spares policy r w (Replaces old new) may h =
    goes_on w (turns.Replaces old.number new) h
    (ap (λ (account : AccountName). is_some (w.kills account)) may.same_account ∙ last_such_is (IsSpared w) (is_under old.user old.token) w.live old h may.is_named, tt)
moved_spares policy r w (Commands officer c) may h = commanded_spares policy r officer c w c.action h
moved_spares policy r w (Fills f) may h = goes_on w (turns.Fills f) h tt
moved_spares policy r w (Rests number) may h = goes_on w (turns.Rests number) h tt
moved_spares policy r w (Expires number) may h = goes_on w (turns.Ends number) h tt

none_live : (policy : PolicyData) → Spared (world policy [])
unfolding live orders
none_live policy = tt

-- so it is in every legal history
pub killed_are_not_live : KilledAreNotLive
killed_are_not_live policy history legal =
    (legal_keeps (λ (h : List RecordData). IsLegal policy h × Spared (world policy h)) (legal_none policy, none_live policy)
    (λ h r so_far follows. (
      legal_next r so_far.0 follows,
      subst Spared (sym (world_next policy h r.step r so_far.0 follows.is_next))
          (moved_spares policy r (world policy h) (move_of policy (world policy h) r) (may_move policy h r.step r so_far.0 follows.is_next) so_far.1),
    )) legal).1

-- the order is not the account's
abbrev pub IsOthers : AccountName → LiveOrder → Type 0
IsOthers account o = same_account account o.account ≡ false

pub killed_have_no_live : {policy : PolicyData} {history : List RecordData} → IsLegal policy history → (account : AccountName) → is_killed policy history account ≡ true → AllByRecursion (IsOthers account) (live policy history)
killed_have_no_live {policy} {history} legal account killed =
    all_weaker (IsSpared (world policy history)) (IsOthers account) (λ o spared. at o spared (same_account account o.account) refl) (live policy history) (killed_are_not_live policy history legal)
  where
    at : (o : LiveOrder) → is_killed policy history o.account ≡ false → (b : Bool) → same_account account o.account ≡ b → same_account account o.account ≡ false
    at o spared true e = let no : true ≡ false = sym killed ∙ ap (is_killed policy history) (account_is account o.account e) ∙ spared in cc
    at o spared false e = e

none_of_it : (account : AccountName) (os : List LiveOrder) → AllByRecursion (IsOthers account) os → list_any (λ (o : LiveOrder). same_account account o.account) os ≡ false
none_of_it account [] h = refl
none_of_it account (o ∷ os) h = ap (λ (b : Bool). b || list_any (λ (o : LiveOrder). same_account account o.account) os) h.0 ∙ none_of_it account os h.1

-- nor does one wait or rest
waiting_others : (policy : PolicyData) (history : List RecordData) (account : AccountName) → AllByRecursion (IsOthers account) (live policy history) → AllByRecursion (IsOthers account) (waiting policy history)
unfolding waiting
waiting_others policy history account h = filtered (IsOthers account) (λ (o : LiveOrder). o.waits) (live policy history) h

resting_others : (policy : PolicyData) (history : List RecordData) (account : AccountName) (stock : Symbol) (buy : Bool) → AllByRecursion (IsOthers account) (live policy history) → AllByRecursion (IsOthers account) (side policy history stock buy)
unfolding side
resting_others policy history account stock buy h =
    all_placed (IsOthers account) (ahead buy) [] (filter (is_there stock buy) (filter_map (live_numbered (live policy history)) (rest_numbers history))) tt
    (filtered (IsOthers account) (is_there stock buy) (filter_map (live_numbered (live policy history)) (rest_numbers history))
    (all_found_of (λ (n : ℕ). Unit {0}) (IsOthers account) (live_numbered (live policy history)) (λ n o any e. found_is (IsOthers account) (λ (x : LiveOrder). x.number == n) (live policy history) o h e) (rest_numbers history) (any_number (rest_numbers history))))
  where
    any_number : (ns : List ℕ) → AllByRecursion (λ (n : ℕ). Unit {0}) ns
    any_number [] = tt
    any_number (n ∷ ns) = (tt, any_number ns)

pub killed_have_no_orders : (policy : PolicyData) (history : List RecordData) (account : AccountName) → IsLegal policy history → is_killed policy history account ≡ true → HasNoOrders policy history account
killed_have_no_orders policy history account legal killed =
    let none : AllByRecursion (IsOthers account) (live policy history) = killed_have_no_live legal account killed in
    record {
      none_live = none_of_it account (live policy history) none;
      none_incoming = none_of_it account (waiting policy history) (waiting_others policy history account none);
      none_resting = λ stock buy. none_of_it account (side policy history stock buy) (resting_others policy history account stock buy none);
    }
