-- What a record makes of the running figures, by what it does.
use Rattle.std.proofs.{Common.{◌≡◌, ℕ, ◌-◌, ◌<◌, arith, true, false, Bool, List, [], ◌∷◌, ◌++◌, refl, ◌∙◌, ap, sym, cond}, Math.Path.subst, lemmas.{Bool.eqb-true, Option.same_Some}}
use Rattle.std.specs.{Prelude.{Option, Some, None, ◌==◌, is_some}, Option.option_map_or, List.{filter, AllByRecursion}}
use Rattle.gx_units.specs.declared.names.{AccountName.AccountName, UserName.UserName}
use Rattle.gx_units.proofs.Lists_hold.{filtered}
use Rattle.gx_desk.specs.declared.{Action.Action, Command.Command}
use Rattle.gx_policy.specs.{declared.policy.PolicyData.PolicyData, People.account_of}
use Rattle.gx_history.specs.{declared.{live_order.LiveOrder.LiveOrder, moves.Move.Move, «record».{Asked.Asked, Fill.Fill, RecordData.RecordData, Request.Request, Step.Step, Verdict.Verdict}}, Figures.{Positions, positions}, Live.{live, live_numbered, live_under}, LiveOrders.{replacement_order, shares_open}, MayMove.MayMove, Orders.{Order, ends_account, order_entered, order_under, orders, orders_added, orders_made, order_replacing}, Requests.{asked_of, is_granted}, Turns.{Turn, new_in, new_order}, Verdicts.{FitsDay, IsLegal, next}, World.{Does, World, move_asked, move_by, turn_in, turn_of, world}}
use Rattle.gx_history.specs.Turns as turns
use Rattle.gx_laws.proofs.{Streams_next.legal_next, Runs_legal.step_left, Moves_known.turn_does, LiveOrders_known.{live_are_found, number_found}, Moves_allowed.may_move, Turns_allowed.records_may_come, Positions_next.{days_begin_empty, positions_go_on}, Positions_sound.positions_are_sound, Sums_turn.left_by}
use Rattle.gx_orders.specs.{Changes.is_lasting, LiveOrders.OrdersData}
use Rattle.gx_orders.proofs.Orders_found.{finds_orders}
use Rattle.gx_matching.specs.Changes.{cut_from}
use Rattle.gx_laws.specs.{Changing.{executed_by, no_positions, positions_with}, Sound.{AreSound, MayChange, MayCome, MayReplaceHeld, MaySizeHeld}}
use Rattle.gx_ledger.specs.{Following.{AreHeld, ClosesAll, Replaces}, Keeping.LedgerData, StandsFor.{Accepts, Carries, Closes, Cuts, Fills, IsHeld, StandsFor}}
use Rattle.gx_ledger.proofs.{Ledger_next.stays_for, EndedOrders_followed.{all_are_ended, distinct_filtered, none_closes}}
use Rattle.gx_gate_state.specs.{declared.state.GateState.GateState, State.Takes, Ends.is_ended, Ledgers.{StandsForDay, ended_orders}}

-- the day is legal with the record too
pub legal_after : {policy : PolicyData} {history : List RecordData} (step : Step) (r : RecordData)
    → IsLegal policy history → FitsDay r → next policy history step ≡ Some r → IsLegal policy (history ++ r ∷ [])
legal_after {policy} {history} step r legal fits left =
    legal_next r legal (record { is_next = ap (next policy history) (step_left policy history step r left) ∙ left; fits_day = fits })

-- ---- which orders a record grants

-- it is granted at the record's moment, to a Replace or to an Enter
abbrev IsGrantOf : RecordData → Bool → Order → Type 0
IsGrantOf r replaces o = (o.moment ≡ r.moment) × (is_some o.previous_token ≡ replaces)

abbrev GrantsSo : RecordData → Move → List Order → Type 0
GrantsSo r (Move.Adds new) grants = AllByRecursion (IsGrantOf r false) grants
GrantsSo r (Move.Replaces old new) grants = AllByRecursion (IsGrantOf r true) grants
GrantsSo r other grants = grants ≡ []

grants_asked : (policy : PolicyData) (w : World) (known : List Order) (r : RecordData) (a : Asked) (q : Request) → MayMove policy w r (move_asked policy w r a q)
    → GrantsSo r (move_asked policy w r a q) (orders_made policy known r a.user q)
grants_asked policy w known r a (Request.Login m) may = refl
grants_asked policy w known r a Request.Logout may = refl
grants_asked policy w known r a (Request.Unreadable m) may = refl
grants_asked policy w known r a (Request.Enter m) may = at (account_of policy a.user) may
  where
    adds : Option AccountName → Move
    adds found = option_map_or (λ (account : AccountName). Move.Adds (new_order policy r a.user account m)) found Move.Nothing

    at : (found : Option AccountName) → MayMove policy w r (adds found) → GrantsSo r (adds found) (option_map_or (λ (account : AccountName). order_entered policy r a.user account m ∷ []) found [])
    at None never = absurd never
    at (Some account) may = ((refl, refl), tt)
grants_asked policy w known r a (Request.Replace m) may = at (live_under w.live a.user m.existing_token) may
  where
    replaces : Option LiveOrder → Move
    replaces found = option_map_or (λ (old : LiveOrder). Move.Replaces old (replacement_order r m old)) found Move.Nothing

    made : (found : Option Order) → AllByRecursion (IsGrantOf r true) (option_map_or (λ (o : Order). order_replacing r m o ∷ []) found [])
    made None = tt
    made (Some o) = ((refl, refl), tt)

    at : (found : Option LiveOrder) → MayMove policy w r (replaces found) → GrantsSo r (replaces found) (option_map_or (λ (o : Order). order_replacing r m o ∷ []) (order_under known a.user m.existing_token) [])
    at None never = absurd never
    at (Some old) may = made (order_under known a.user m.existing_token)
grants_asked policy w known r a (Request.Cancel m) may = at (live_under w.live a.user m.token)
  where
    at : (found : Option LiveOrder) → GrantsSo r (option_map_or (λ (cut : LiveOrder). Move.Sizes cut m.shares) found Move.Nothing) []
    at None = refl
    at (Some cut) = refl
grants_asked policy w known r a (Request.Command c) may = refl

grants_by : (policy : PolicyData) (w : World) (known : List Order) (r : RecordData) (v : Verdict) (s : Step) → MayMove policy w r (move_by policy w r v s)
    → GrantsSo r (move_by policy w r v s) (option_map_or (λ (a : Asked). orders_made policy known r a.user a.request) (cond (is_granted v) (asked_of s) None) [])
grants_by policy w known r Verdict.Granted (Step.Asked a) may = grants_asked policy w known r a a.request may
grants_by policy w known r Verdict.Granted (Step.Matching handed) may = refl
grants_by policy w known r (Verdict.Denied rule) (Step.Asked a) may = refl
grants_by policy w known r (Verdict.Denied rule) (Step.Matching handed) may = refl
grants_by policy w known r (Verdict.Filled f) s may = refl
grants_by policy w known r (Verdict.Rested number) s may = refl
grants_by policy w known r (Verdict.Expired number) s may = refl

grants_does : {policy : PolicyData} {history : List RecordData} (r : RecordData) (m : Move) → Does policy history r m → GrantsSo r m (orders_added policy (orders policy history) r)
grants_does {policy} {history} r m d =
    subst (λ (x : Move). GrantsSo r x (orders_added policy (orders policy history) r)) d.moves
    (grants_by policy (world policy history) (orders policy history) r r.verdict r.step (may_move policy history r.step r d.legal d.is_next))

-- ---- what the figures are taken from

-- what the record does to the live orders, and which orders it grants
record Turns (policy : PolicyData) (history : List RecordData) (r : RecordData) (turn : Turn) (granted : List Order) : Type 0 where
  of_turn : turn_of policy (world policy history) r ≡ turn
  of_grants : orders_added policy (orders policy history) r ≡ granted

module _ (policy : PolicyData) (history : List RecordData) (m : Move) (r : RecordData) (k : GateState) (turn : Turn) (granted : List Order) (t : Takes policy history m r k) (does : Turns policy history r turn granted) where
  -- they go on
  goes_on : positions policy (history ++ r ∷ []) ≡ positions_with turn granted (positions policy history)
  goes_on = positions_go_on policy history r.step r t.does.legal t.does.is_next ∙ (λ i. positions_with (does.of_turn i) (does.of_grants i) (positions policy history))

  -- and it may be done
  may_come : MayChange policy (positions policy history) turn granted
  may_come =
      subst (MayChange policy (positions policy history) turn) does.of_grants
      (subst (λ (x : Turn). MayChange policy (positions policy history) x (orders_added policy (orders policy history) r)) does.of_turn (records_may_come policy history r.step r t.does.legal t.does.is_next))

  -- a ledger that stands for what the turn makes stands for the day with the record
  stands_then : (new : LedgerData) → StandsFor policy new (positions_with turn granted (positions policy history)) → StandsForDay policy new (history ++ r ∷ [])
  stands_then new stands = subst (StandsFor policy new) (sym goes_on) stands

  -- a call that carries the ledger over the turn
  carried : (new : LedgerData) (may : PolicyData → Positions → Type 0) → Carries k.ledger new may turn granted → may policy (positions policy history) → StandsForDay policy new (history ++ r ∷ [])
  carried new may carries can =
      let sound_then : AreSound policy (positions_with turn granted (positions policy history)) =
      subst (AreSound policy) goes_on (positions_are_sound policy (history ++ r ∷ []) (legal_after r.step r t.does.legal t.fits t.does.is_next)) in
      stands_then new (carries policy (positions policy history) t.in_force.ledger (positions_are_sound policy history t.does.legal) can sound_then)

-- a turn that adds no order, fills none, and leaves each what it has open
record IsIdle (turn : Turn) (grants : List Order) : Type 0 where
  none_comes : new_in turn ≡ []
  none_fills : executed_by turn grants ≡ []
  same : (o : LiveOrder) → left_by turn o ≡ shares_open o

-- it changes nothing that the ledger stands for
unchanged : {policy : PolicyData} {history : List RecordData} (m : Move) (r : RecordData) (k : GateState) (new : LedgerData) → (t : Takes policy history m r k) → orders_added policy (orders policy history) r ≡ []
    → IsIdle (turn_in m) (orders policy history) → new ≡ k.ledger → StandsForDay policy new (history ++ r ∷ [])
unchanged {policy} {history} m r k new t none idle new_is =
    subst (λ (x : LedgerData). StandsForDay policy x (history ++ r ∷ [])) (sym new_is)
    (stands_then policy history m r k (turn_in m) [] t (record { of_turn = turn_does r m t.does; of_grants = none }) k.ledger
    (stays_for k.ledger (positions policy history) (turn_in m) idle.none_comes idle.none_fills idle.same t.in_force.ledger))

-- at the beginning of a day
pub begins : {policy : PolicyData} (ledger : LedgerData) → StandsFor policy ledger no_positions → StandsForDay policy ledger []
begins {policy} ledger stands = subst (StandsFor policy ledger) (sym (days_begin_empty policy)) stands

-- ---- what nothing changes

keeps_idle : (grants : List Order) → IsIdle turns.Keeps grants
keeps_idle grants = record { none_comes = refl; none_fills = refl; same = λ o. refl }

pub none_ends : (action : Action) → is_lasting action ≡ true → (account : AccountName) → ends_account account action ≡ false
none_ends (Action.SetLimit rule limit) h account = refl
none_ends (Action.Restrict rule stock) h account = refl
none_ends (Action.Unrestrict rule stock) h account = refl
none_ends (Action.Grant reader named) h account = refl
none_ends (Action.Revoke reader named) h account = refl
none_ends (Action.Kill named) h account = cc
none_ends (Action.Lift named) h account = refl
none_ends Action.CloseDay h account = cc

-- an order that comes to rest keeps what it has open
rests_idle : (number : ℕ) (grants : List Order) → IsIdle (turns.Rests number) grants
rests_idle number grants = record { none_comes = refl; none_fills = refl; same = λ o. at (number == o.number) o }
  where
    at : (b : Bool) (o : LiveOrder) → shares_open (cond b (record o { waits = false }) o) ≡ shares_open o
    at true o = refl
    at false o = refl

-- what is done adds no order, ends none, and fills none
abbrev pub IsQuiet : Move → Type 0
IsQuiet (Move.Denies a rule) = Unit {0}
IsQuiet (Move.PutsOn user line) = Unit {0}
IsQuiet (Move.Rests number) = Unit {0}
IsQuiet other = ⊥

pub quiet_figured : {policy : PolicyData} {history : List RecordData} (m : Move) (r : RecordData) (k : GateState) (new : LedgerData) → Takes policy history m r k → IsQuiet m → new ≡ k.ledger
    → StandsForDay policy new (history ++ r ∷ [])
quiet_figured {policy} {history} (Move.Denies a rule) r k new t quiet same =
    unchanged (Move.Denies a rule) r k new t (grants_does r (Move.Denies a rule) t.does) (keeps_idle (orders policy history)) same
quiet_figured {policy} {history} (Move.PutsOn user line) r k new t quiet same =
    unchanged (Move.PutsOn user line) r k new t (grants_does r (Move.PutsOn user line) t.does) (keeps_idle (orders policy history)) same
quiet_figured {policy} {history} (Move.Rests number) r k new t quiet same =
    unchanged (Move.Rests number) r k new t (grants_does r (Move.Rests number) t.does) (rests_idle number (orders policy history)) same
quiet_figured Move.Nothing r k new t never same = absurd never
quiet_figured (Move.Adds o) r k new t never same = absurd never
quiet_figured (Move.Sizes cut size) r k new t never same = absurd never
quiet_figured (Move.Replaces o p) r k new t never same = absurd never
quiet_figured (Move.Commands officer c) r k new t never same = absurd never
quiet_figured (Move.Fills f) r k new t never same = absurd never
quiet_figured (Move.Expires number) r k new t never same = absurd never

-- ---- an Enter

pub enter_figured : {policy : PolicyData} {history : List RecordData} (r : RecordData) (o : LiveOrder) (before : GateState) (new : LedgerData) → Takes policy history (Move.Adds o) r before
    → Accepts o r.moment false before.ledger new → StandsForDay policy new (history ++ r ∷ [])
enter_figured {policy} {history} r o before new t accepts =
    let m : Move = Move.Adds o in
    let turns_so : turn_of policy (world policy history) r ≡ turns.Adds o = turn_does r m t.does in
    let may : MayCome policy (positions policy history) o (orders_added policy (orders policy history) r) =
    may_come policy history m r before (turns.Adds o) (orders_added policy (orders policy history) r) t (record { of_turn = turns_so; of_grants = refl }) in
    let does : Turns policy history r (turns.Adds o) (may.grant ∷ []) = record { of_turn = turns_so; of_grants = may.is_granted } in
    let made : AllByRecursion (IsGrantOf r false) (may.grant ∷ []) = subst (AllByRecursion (IsGrantOf r false)) may.is_granted (grants_does r m t.does) in
    carried policy history m r before (turns.Adds o) (may.grant ∷ []) t does new _
    (accepts may.grant (record { is_of = may.is_of; moment = made.0.0; replacement = made.0.1 }))
    (may_come policy history m r before (turns.Adds o) (may.grant ∷ []) t does)

-- ---- a Cancel

pub cancel_figured : {policy : PolicyData} {history : List RecordData} (r : RecordData) (cut : LiveOrder) (size : ℕ) (before : GateState) (fewer : ℕ) (new : LedgerData) → Takes policy history (Move.Sizes cut size) r before
    → fewer ≡ cut_from cut size → Cuts cut fewer before.ledger new → StandsForDay policy new (history ++ r ∷ [])
cancel_figured {policy} {history} r cut size before fewer new t fewer_is cuts =
    let m : Move = Move.Sizes cut size in
    let does : Turns policy history r (turns.Sizes cut.number size) [] = record { of_turn = turn_does r m t.does; of_grants = grants_does r m t.does } in
    let held : IsHeld (positions policy history) cut = finds_orders policy history r m t.does in
    let may : MaySizeHeld (positions policy history) cut.number size = may_come policy history m r before (turns.Sizes cut.number size) [] t does in
    let less : size - cut.done < cut.total - cut.done = subst (λ (x : LiveOrder). size - x.done < x.total - x.done) (same_Some _ _ (sym may.is_there.is_found ∙ held)) may.is_less in
    carried policy history m r before (turns.Sizes cut.number size) [] t does new _ (cuts size) (record { is_held = held; is_less = omega (arith, less, fewer_is) })

-- ---- a Replace

pub replace_figured : {policy : PolicyData} {history : List RecordData} (r : RecordData) (o coming : LiveOrder) (before : GateState) (new : LedgerData) → Takes policy history (Move.Replaces o coming) r before
    → Replaces o coming r.moment before.ledger new → StandsForDay policy new (history ++ r ∷ [])
replace_figured {policy} {history} r o coming before new t replaces =
    let m : Move = Move.Replaces o coming in
    let turns_so : turn_of policy (world policy history) r ≡ turns.Replaces o.number coming = turn_does r m t.does in
    let may : MayReplaceHeld policy (positions policy history) o.number coming (orders_added policy (orders policy history) r) =
    may_come policy history m r before (turns.Replaces o.number coming) (orders_added policy (orders policy history) r) t (record { of_turn = turns_so; of_grants = refl }) in
    let grant : Order = may.may_come.grant in
    let does : Turns policy history r (turns.Replaces o.number coming) (grant ∷ []) = record { of_turn = turns_so; of_grants = may.may_come.is_granted } in
    let made : AllByRecursion (IsGrantOf r true) (grant ∷ []) = subst (AllByRecursion (IsGrantOf r true)) may.may_come.is_granted (grants_does r m t.does) in
    carried policy history m r before (turns.Replaces o.number coming) (grant ∷ []) t does new _
    (replaces grant (record { is_of = may.may_come.is_of; moment = made.0.0; replacement = made.0.1 }))
    (record {
      is_held = (finds_orders policy history r m t.does).is_live;
      may_replace = may_come policy history m r before (turns.Replaces o.number coming) (grant ∷ []) t does;
    })

-- ---- a command

-- a command that ends no order closes none
pub none_end : (action : Action) → is_lasting action ≡ true → (live : List LiveOrder) → filter (is_ended action) live ≡ []
none_end action lasts [] = refl
none_end action lasts (o ∷ live) = ap (λ (b : Bool). cond b (o ∷ filter (is_ended action) live) (filter (is_ended action) live)) (none_ends action lasts o.account) ∙ none_end action lasts live

pub none_to_close : (action : Action) (live : List LiveOrder) (k : LedgerData) → is_lasting action ≡ true → ClosesAll (ended_orders action live) k k
none_to_close action live k lasts = subst (λ (os : List LiveOrder). ClosesAll os k k) (sym (none_end action lasts live)) (none_closes k)

pub command_figured : {policy : PolicyData} {history : List RecordData} (r : RecordData) (officer : UserName) (c : Command) (before : GateState) (new : LedgerData) → Takes policy history (Move.Commands officer c) r before
    → ClosesAll (ended_orders c.action before.orders.live) before.ledger new → StandsForDay policy new (history ++ r ∷ [])
command_figured {policy} {history} r officer c before new t closes =
    let m : Move = Move.Commands officer c in
    let held : Positions = positions policy history in
    let sound : AreSound policy held = positions_are_sound policy history t.does.legal in
    let are_held : AreHeld held (ended_orders c.action held.live) = record {
      all_held = filtered (IsHeld held) (is_ended c.action) held.live (live_are_found policy history t.does.legal);
      differ = distinct_filtered (is_ended c.action) held.live sound.numbers_differ;
    } in
    stands_then policy history m r before (turns.EndsAll c.action) [] t (record { of_turn = turn_does r m t.does; of_grants = grants_does r m t.does }) new
    (subst (StandsFor policy new) (all_are_ended policy held c.action sound)
    (subst (λ (d : OrdersData). ClosesAll (ended_orders c.action d.live) before.ledger new) t.in_force.orders closes policy held t.in_force.ledger sound are_held))

-- ---- a fill

-- an order that is kept is the definitions' own
pub held_numbered : {policy : PolicyData} {history : List RecordData} (m : Move) (r : RecordData) (k : GateState) (number : ℕ) (o : LiveOrder) → Takes policy history m r k → live_numbered k.orders.live number ≡ Some o
    → live_numbered (live policy history) number ≡ Some o
held_numbered m r k number o t found = sym (ap (λ (d : OrdersData). live_numbered d.live number) t.in_force.orders) ∙ found

pub fill_figured : {policy : PolicyData} {history : List RecordData} (r : RecordData) (f : Fill) (taker maker : LiveOrder) (before : GateState) (new : LedgerData) → Takes policy history (Move.Fills f) r before
    → live_numbered before.orders.live f.taker ≡ Some taker → live_numbered before.orders.live f.maker ≡ Some maker
    → Fills taker maker f.shares f.price before.ledger new → StandsForDay policy new (history ++ r ∷ [])
fill_figured {policy} {history} r f taker maker before new t takes makes carries =
    let m : Move = Move.Fills f in
    let taker_held : live_numbered (live policy history) f.taker ≡ Some taker = held_numbered m r before f.taker taker t takes in
    let maker_held : live_numbered (live policy history) f.maker ≡ Some maker = held_numbered m r before f.maker maker t makes in
    let taker_is : taker.number ≡ f.taker = eqb-true taker.number f.taker (number_found (live policy history) f.taker taker taker_held) in
    let maker_is : maker.number ≡ f.maker = eqb-true maker.number f.maker (number_found (live policy history) f.maker maker maker_held) in
    let theirs : Fill = record { taker = taker.number; maker = maker.number; shares = f.shares; price = f.price } in
    let same : f ≡ theirs = λ i. record { taker = sym taker_is i; maker = sym maker_is i; shares = f.shares; price = f.price } in
    let does : Turns policy history r (turns.Fills theirs) [] = record { of_turn = turn_does r m t.does ∙ ap turns.Fills same; of_grants = grants_does r m t.does } in
    carried policy history m r before (turns.Fills theirs) [] t does new _ carries
    (record {
      taker_is_held = ap (live_numbered (live policy history)) taker_is ∙ taker_held;
      maker_is_held = ap (live_numbered (live policy history)) maker_is ∙ maker_held;
      may_fill = may_come policy history m r before (turns.Fills theirs) [] t does;
    })

-- ---- an order that ends

pub end_figured : {policy : PolicyData} {history : List RecordData} (r : RecordData) (o : LiveOrder) (before : GateState) (new : LedgerData) → Takes policy history (Move.Expires o.number) r before
    → live_numbered before.orders.live o.number ≡ Some o → Closes o before.ledger new → StandsForDay policy new (history ++ r ∷ [])
end_figured {policy} {history} r o before new t found closes =
    let m : Move = Move.Expires o.number in
    carried policy history m r before (turns.Ends o.number) [] t (record { of_turn = turn_does r m t.does; of_grants = grants_does r m t.does }) new _ closes
    (held_numbered m r before o.number o t found)
