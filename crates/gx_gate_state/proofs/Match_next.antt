-- What a matching step makes of the state.
use Rattle.std.proofs.{Common.{◌≡◌, ℕ, ◌<◌, arith, Bool, true, false, not, zero, suc, ◌+◌, cond, get_or, if◌then◌else◌, List, [], ◌∷◌, ◌++◌, refl, ◌∙◌, ap, sym, map}, Math.Path.subst, lemmas.{List.{Quantifiers.position-Some, append-nil}, Iterator.Adapters.position_from-zero, Option.same_Some}}
use Rattle.std.specs.{Prelude.{Option, Some, None, is_some, length, find, position, unwrap_or, option_and_then, option_map, option_to_list, ◌&&◌}, List.{AllByRecursion, flat_map, position_from, slice_get}, Option.option_map_or}
use Rattle.gx_units.specs.{Names.same_account, declared.names.AccountName.AccountName}
use Rattle.gx_units.proofs.Names_equal.{account_is}
use Rattle.gx_ouch.specs.declared.letters.{CancelReason.CancelReason, Liquidity.Liquidity}
use Rattle.gx_policy.specs.{declared.policy.{Account.Account, PolicyData.PolicyData, Role.Role, User.User}, People.{account_of, account_of_role, is_reader, role_in, user_in}, Soundness.is_sound}
use Rattle.gx_history.specs.{declared.{«record».{Fill.Fill, RecordData.RecordData, Step.Step, Verdict.Verdict}, report.Message.Message, live_order.LiveOrder.LiveOrder, moves.Move.Move}, Book.is_buy, Executions.{Execution, sides}, InForce.is_entitled, Streams.{report_of, stream, to_user, canceled_of}, LiveOrders.shares_open, Live.{live, live_numbered}, Requests.{asked_of, is_fill as makes_fill}, Verdicts.next, World.Does}
use Rattle.gx_laws.proofs.{Masks_bits.same_mask, Names_differ.accounts_few, Orders_owned.IsHisAccounts, Accounts_known.accounts_are_known, Runs_orderly.legal_is_orderly, Fills_executed.{IsFill, both_sides, is_fill, maker_side, sides_are, taker_side}, NamedOrders_only.IsOfKnown, Moves_known.{expiry_does, fill_does, matches_at, may_do}}
use Rattle.gx_book.specs.{Resting.resting_of, Books.{StockOrders, resting_in}, Changes.put_to_rest, Queue.IsLatest}
use Rattle.gx_orders.specs.{Laws.{CanFill, ComesFirst}, Changes.orders_moved, LiveOrders.{OrdersData, first_waiting}}
use Rattle.gx_matching.proofs.Resting_order.{first_is_latest}
use Rattle.gx_streams.specs.{declared.fill.{FillSide.FillSide, FillRole.FillRole, ReportedFill.ReportedFill}, Fills.{liquidity_of, fill_side}, Kept.reserved_in, Laws.TellsOne, Sending.{AreSent, IsMadeBy, IsSide}, Streams.{AllStreams, has_own_stream, with_fill}, Telling.shown_streams}
use Rattle.gx_streams.proofs.{Fills_told.{sides_are_his, stays_by_fill}, Reports_told.stays_by_none}
use Rattle.gx_people.specs.Entitled.{sees}
use Rattle.gx_people.proofs.Grants_next as entitling
use Rattle.gx_ledger.specs.StandsFor.{Fills}
use Rattle.gx_trading_status.specs.{StatusData.at_moment, InForce.status_moved}
use Rattle.gx_orders.proofs.Orders_found.{finds_orders}
use Rattle.gx_matching.specs.Changes.{taken_beside}
use Rattle.gx_gate_state.specs.{declared.state.GateState.GateState, State.{AreInForceAfter, AreInForce, HasEnough, HaveReservedWithRecord, HaveReservedForRecord, KnowTheSame, Takes}, Matching.{place_of, told_side}}
use Rattle.gx_gate_state.proofs.{State_next.{goes_on, has_place, still_sent, told_by}, Ledger_next.{fill_figured, held_numbered, legal_after, quiet_figured}, Reserved_next.{Makes, all_are_placed, known_told, match_fits, one_finds}}

his_role : (account : AccountName) (role : Role) → account_of_role role ≡ Some account → role ≡ Role.Trader account
his_role account (Role.Trader named) e = ap (λ (found : Option AccountName). option_map_or Role.Trader found (Role.Trader named)) e
his_role account (Role.Officer powers scope) e = cc
his_role account (Role.Reader names) e = cc

-- a trader is told report by report
pub trader_told : (account : AccountName) (found : Option User) → option_and_then account_of_role (option_map (λ (u : User). u.role) found) ≡ Some account
    → (is_some found && not (is_reader (option_map (λ (u : User). u.role) found))) ≡ true
trader_told account None e = let none : false ≡ true = ap is_some e in none
trader_told account (Some u) e = ap (λ (role : Role). not (is_reader (Some role))) (his_role account u.role e)

-- the matching step that is next
pub record IsMatched (policy : PolicyData) (history : List RecordData) (r : RecordData) : Type 0 where
  pub handed : ℕ
  pub left : next policy history (Step.Matching handed) ≡ Some r

pub is_matched : {policy : PolicyData} {history : List RecordData} (r : RecordData) (m : Move) → Does policy history r m → asked_of r.step ≡ None → IsMatched policy history r
is_matched {policy} {history} r m d none =
    let s : (handed : ℕ) × (r.step ≡ Step.Matching handed) = matches_at r.step none in
    record { handed = s.0; left = ap (next policy history) (sym s.1) ∙ d.is_next }

-- ---- a fill

-- the fill can be made of the orders that are kept
pub can_fill : {policy : PolicyData} {history : List RecordData} (r : RecordData) (k : GateState) (f : Fill) → Takes policy history (Move.Fills f) r k → CanFill k.orders.live f
can_fill {policy} {history} r k f t = subst (λ (d : OrdersData). CanFill d.live f) (sym t.in_force.orders) (finds_orders policy history r (Move.Fills f) t.does)

-- the account of an order of its user stands in the file
slice_there : (accounts : List Account) (i : ℕ) (d : Account) → i < length accounts → slice_get accounts i ≡ Some (get_or accounts i d)
slice_there [] i d h = absurd (omega (arith, h))
slice_there (a ∷ others) zero d h = refl
slice_there (a ∷ others) (suc i) d h = slice_there others i d (omega (arith, h))

found_from : (test : Account → Bool) (n : ℕ) (accounts : List Account) → is_some (position_from test n accounts) ≡ is_some (find test accounts)
found_from test n [] = refl
found_from test n (a ∷ others) =
    elim (test a) as (λ b. is_some (cond b (Some n) (position_from test (n + 1) others)) ≡ is_some (cond b (Some a) (find test others)))
    [ true ↦ refl | false ↦ found_from test (n + 1) others ]

pub place_is : (accounts : List Account) (name : AccountName) → is_some (find (λ (a : Account). same_account a.name name) accounts) ≡ true
    → option_map (λ (a : Account). a.name) (slice_get accounts (place_of accounts name)) ≡ Some name
place_is accounts name there = by (position test accounts) refl (ap is_some (position_from-zero test accounts) ∙ found_from test 0 accounts ∙ there)
  where
    test : Account → Bool
    test a = same_account a.name name

    no_account : Account
    no_account = record { name = name; firm = record { bytes = [] } }

    at : Option ℕ → Option AccountName
    at o = option_map (λ (a : Account). a.name) (slice_get accounts (unwrap_or o (length accounts)))

    by : (o : Option ℕ) → position test accounts ≡ o → is_some (position test accounts) ≡ true → at (position test accounts) ≡ Some name
    by None is h = let no : false ≡ true = sym (ap is_some is) ∙ h in cc
    by (Some i) is h =
        let p = position-Some test accounts i no_account is in
        ap at is ∙ ap (option_map (λ (a : Account). a.name)) (slice_there accounts i no_account p.0) ∙ ap (λ (n : AccountName). Some n) (account_is (get_or accounts i no_account).name name p.1)

-- a live order's side, as it is told, is this side of the fill that the record makes
side_told : {policy : PolicyData} {history : List RecordData} (r : RecordData) (f : Fill) (o lives : LiveOrder) (of : IsOfKnown policy history lives) (liquidity : Liquidity) (party : FillRole) (made : ReportedFill)
    → is_sound policy ≡ true → o ≡ lives → account_of policy of.order.user ≡ Some of.order.account
    → fill_side made party ≡ told_side policy o → made.match_number ≡ r.number → made.shares ≡ f.shares → made.price ≡ f.price → liquidity_of party ≡ liquidity
    → IsSide policy r (record { fill = f; liquidity = liquidity; order = of.order }) made party
side_told {policy} r f o lives of liquidity party made sound is his side_is number_is shares_are price_is liquid =
    let all = side_is ∙ ap (told_side policy) (is ∙ sym of.is_it) in
    record {
      user = ap (λ (x : FillSide). x.user) all;
      account = ap (λ (x : FillSide). x.account) all;
      side = ap (λ (x : FillSide). x.side) all;
      executed = λ i. record { token = (all i).token; shares = shares_are i; price = price_is i; liquidity = liquid i; match_number = number_is i };
      place = ap (λ (x : FillSide). option_map (λ (a : Account). a.name) (slice_get policy.accounts x.account_place)) all
          ∙ place_is policy.accounts of.order.account (accounts_are_known policy of.order.user of.order.account sound his);
      reads_not = reads_not (role_in policy.users of.order.user) his;
    }
  where
    reads_not : (role : Option Role) → option_and_then account_of_role role ≡ Some of.order.account → is_reader role ≡ false
    reads_not None e = cc
    reads_not (Some (Role.Trader account)) e = refl
    reads_not (Some (Role.Officer powers scope)) e = cc
    reads_not (Some (Role.Reader names)) e = cc

-- both orders of a fill, as they are kept, and whose they are
pub record FillOrders (policy : PolicyData) (history : List RecordData) (r : RecordData) (f : Fill) (taker maker : LiveOrder) : Type 0 where
  pub is : IsFill policy history r f
  pub taker_is : taker ≡ is.may.taker
  pub maker_is : maker ≡ is.may.maker
  pub taker_his : account_of policy is.taker_waits.known.of.order.user ≡ Some is.taker_waits.known.of.order.account
  pub maker_his : account_of policy is.maker_rests.known.of.order.user ≡ Some is.maker_rests.known.of.order.account

pub fill_orders : {policy : PolicyData} {history : List RecordData} (r : RecordData) (k : GateState) (f : Fill) (taker maker : LiveOrder) → Takes policy history (Move.Fills f) r k
    → live_numbered k.orders.live f.taker ≡ Some taker → live_numbered k.orders.live f.maker ≡ Some maker → FillOrders policy history r f taker maker
fill_orders {policy} {history} r k f taker maker t takes makes =
    let m : Move = Move.Fills f in
    let fills : r.verdict ≡ Verdict.Filled f = fill_does r f t.does in
    let matches : IsMatched policy history r = is_matched r m t.does (may_do r m t.does).is_match in
    let fill : IsFill policy history r f = is_fill matches.handed r f (legal_is_orderly t.does.legal) matches.left fills in
    let his : AllByRecursion (λ (e : Execution). IsHisAccounts policy e.order) (both_sides f fill.taker_waits.known.of.order fill.maker_rests.known.of.order) =
    subst (AllByRecursion (λ (e : Execution). IsHisAccounts policy e.order)) (ap (sides policy history) (sym fills) ∙ sides_are r f fill) (sides_are_his policy history f) in
    record {
      is = fill;
      taker_is = same_Some _ _ (sym (held_numbered m r k f.taker taker t takes) ∙ ap (live_numbered (live policy history)) fill.of_taker ∙ fill.taker_waits.known.is_found);
      maker_is = same_Some _ _ (sym (held_numbered m r k f.maker maker t makes) ∙ ap (live_numbered (live policy history)) fill.of_maker ∙ fill.maker_rests.known.is_found);
      taker_his = his.0;
      maker_his = (his.1).0;
    }

-- both users are told report by report
owner_told : {policy : PolicyData} {history : List RecordData} (k : GateState) (o lives : LiveOrder) (of : IsOfKnown policy history lives) (side : FillSide) → AreInForce policy history k
    → o ≡ lives → account_of policy of.order.user ≡ Some of.order.account → side ≡ told_side policy o → has_own_stream k.streams side.user ≡ true
owner_told {policy} k o lives of side kept_is is his side_is =
    ap (λ (x : FillSide). has_own_stream k.streams x.user) (side_is ∙ ap (told_side policy) (is ∙ sym of.is_it))
    ∙ known_told k kept_is of.order.user ∙ trader_told of.order.account (user_in policy.users of.order.user) his

pub taker_told : {policy : PolicyData} {history : List RecordData} (r : RecordData) (k : GateState) (f : Fill) (taker maker : LiveOrder) (side : FillSide) → Takes policy history (Move.Fills f) r k
    → live_numbered k.orders.live f.taker ≡ Some taker → live_numbered k.orders.live f.maker ≡ Some maker → side ≡ told_side policy taker → has_own_stream k.streams side.user ≡ true
taker_told r k f taker maker side t takes makes is =
    let both = fill_orders r k f taker maker t takes makes in
    owner_told k taker both.is.may.taker both.is.taker_waits.known.of side t.in_force both.taker_is both.taker_his is

pub maker_told : {policy : PolicyData} {history : List RecordData} (r : RecordData) (k : GateState) (f : Fill) (taker maker : LiveOrder) (side : FillSide) → Takes policy history (Move.Fills f) r k
    → live_numbered k.orders.live f.taker ≡ Some taker → live_numbered k.orders.live f.maker ≡ Some maker → side ≡ told_side policy maker → has_own_stream k.streams side.user ≡ true
maker_told r k f taker maker side t takes makes is =
    let both = fill_orders r k f taker maker t takes makes in
    owner_told k maker both.is.may.maker both.is.maker_rests.known.of side t.in_force both.maker_is both.maker_his is

-- who is sent what among people is who is entitled
sent_by_records : {policy : PolicyData} {history : List RecordData} (k : GateState) → is_sound policy ≡ true → AreInForce policy history k → AreSent policy history k.streams
sent_by_records {policy} {history} k sound kept_is user =
    kept_is.sent user
    ∙ ap (λ (mask : ℕ). if is_reader (role_in policy.users user) then Some mask else None)
    (same_mask (sees k.people user) (is_entitled policy history user)
    (λ account. ap (λ (us : List User). sees us user account) kept_is.people ∙ entitling.kept policy history user account sound) policy.accounts)

pub fill_goes_on : {policy : PolicyData} {history : List RecordData} (r : RecordData) (before k : GateState) (f : Fill) (taker maker : LiveOrder) (taken kept_side : FillSide) (made : ReportedFill)
    → Takes policy history (Move.Fills f) r before → live_numbered before.orders.live f.taker ≡ Some taker → live_numbered before.orders.live f.maker ≡ Some maker
    → is_sound policy ≡ true
    → taken ≡ told_side policy taker → kept_side ≡ told_side policy maker
    → made ≡ record { match_number = r.number; moment = r.moment; shares = f.shares; price = f.price; taker = taken; maker = kept_side }
    → k.people ≡ before.people → k.rules ≡ before.rules → k.status ≡ at_moment r.moment (status_moved (Move.Fills f) before.status)
    → k.orders ≡ orders_moved (Move.Fills f) before.orders
    → k.book ≡ taken_beside f.shares before.book maker → Fills taker maker f.shares f.price before.ledger k.ledger
    → k.streams ≡ with_fill made before.streams
    → AreInForceAfter policy history r k
fill_goes_on {policy} {history} r before k f taker maker taken kept_side made t takes makes sound taken_is kept_is made_is people_are rules_are day_is orders_are book_is carries streams_are =
    goes_on (Move.Fills f) r before k t people_are rules_are day_is orders_are
    (book_is ∙ ap (λ (found : Option LiveOrder). option_map_or (taken_beside f.shares before.book) found before.book) (sym makes))
    (fill_figured r f taker maker before k.ledger t takes makes carries)
    (ap shown_streams streams_are
    ∙ stays_by_fill policy history r before.streams made (accounts_few policy sound) t.in_force.streams (sent_by_records before sound t.in_force) is_made)
    (still_sent policy before.people k.people before.streams.readers k.streams.readers people_are (ap (λ (s : AllStreams). s.readers) streams_are) t.in_force.sent)
  where
    both : FillOrders policy history r f taker maker
    both = fill_orders r before f taker maker t takes makes

    is_made : IsMadeBy policy history r made
    is_made = record {
      made = f;
      taker = taker_side f both.is.taker_waits.known.of.order;
      maker = maker_side f both.is.maker_rests.known.of.order;
      fills = fill_does r f t.does;
      sides_are = sides_are r f both.is;
      takers = side_told r f taker both.is.may.taker both.is.taker_waits.known.of Liquidity.Removed FillRole.Taker made sound both.taker_is both.taker_his
          (ap (λ (x : ReportedFill). x.taker) made_is ∙ taken_is) (ap (λ (x : ReportedFill). x.match_number) made_is) (ap (λ (x : ReportedFill). x.shares) made_is) (ap (λ (x : ReportedFill). x.price) made_is) refl;
      makers = side_told r f maker both.is.may.maker both.is.maker_rests.known.of Liquidity.Added FillRole.Maker made sound both.maker_is both.maker_his
          (ap (λ (x : ReportedFill). x.maker) made_is ∙ kept_is) (ap (λ (x : ReportedFill). x.match_number) made_is) (ap (λ (x : ReportedFill). x.shares) made_is) (ap (λ (x : ReportedFill). x.price) made_is) refl;
      moment = ap (λ (x : ReportedFill). x.moment) made_is;
    }

-- ---- an order that comes to rest

-- the first that waits is the one of the number
first_found : {policy : PolicyData} {history : List RecordData} (r : RecordData) (k : GateState) (number : ℕ) (o : LiveOrder) → Takes policy history (Move.Rests number) r k → live_numbered k.orders.live number ≡ Some o
    → first_waiting (live policy history) ≡ Some o
first_found {policy} {history} r k number o t found =
    let first : ComesFirst (live policy history) number = finds_orders policy history r (Move.Rests number) t.does in
    first.waits_first ∙ sym first.is_found ∙ held_numbered (Move.Rests number) r k number o t found

-- its number is above those that rest at its price
pub comes_last : {policy : PolicyData} {history : List RecordData} (r : RecordData) (k : GateState) (number : ℕ) (o : LiveOrder) → Takes policy history (Move.Rests number) r k → live_numbered k.orders.live number ≡ Some o
    → IsLatest (resting_of o) (resting_in k.book o.terms.stock (is_buy o.terms.side))
comes_last {policy} {history} r k number o t found =
    subst (λ (b : List StockOrders). IsLatest (resting_of o) (resting_in b o.terms.stock (is_buy o.terms.side))) (sym t.in_force.book)
    (first_is_latest policy history o t.does.legal (first_found r k number o t found))

pub rest_goes_on : {policy : PolicyData} {history : List RecordData} (r : RecordData) (before k : GateState) (number : ℕ) (o : LiveOrder) → Takes policy history (Move.Rests number) r before
    → live_numbered before.orders.live number ≡ Some o
    → k.people ≡ before.people → k.rules ≡ before.rules → k.status ≡ at_moment r.moment (status_moved (Move.Rests number) before.status)
    → k.orders ≡ orders_moved (Move.Rests number) before.orders → k.book ≡ put_to_rest o before.book → k.ledger ≡ before.ledger → k.streams ≡ before.streams
    → AreInForceAfter policy history r k
rest_goes_on {policy} {history} r before k number o t found people_are rules_are day_is orders_are book_is ledger_is streams_are =
    goes_on (Move.Rests number) r before k t people_are rules_are day_is orders_are
    (book_is ∙ ap (λ (x : Option LiveOrder). option_map_or (λ (y : LiveOrder). put_to_rest y before.book) x before.book) (sym found))
    (quiet_figured (Move.Rests number) r before k.ledger t tt ledger_is)
    (ap shown_streams streams_are ∙ stays_by_none policy history (history ++ r ∷ []) before.streams t.in_force.streams (λ user. told_by (Move.Rests number) r user t.does))
    (still_sent policy before.people k.people before.streams.readers k.streams.readers people_are (ap (λ (s : AllStreams). s.readers) streams_are) t.in_force.sent)

-- ---- an order that ends

-- what its user is told
abbrev pub told_of_end : LiveOrder → List Message
told_of_end o = canceled_of CancelReason.ImmediateOrCancel (shares_open o) o

pub end_tells : {policy : PolicyData} {history : List RecordData} (r : RecordData) (k : GateState) (o : LiveOrder) → Takes policy history (Move.Expires o.number) r k → live_numbered k.orders.live o.number ≡ Some o
    → TellsOne policy history (history ++ r ∷ []) r o.user (told_of_end o)
end_tells {policy} {history} r k o t found user =
    told_by (Move.Expires o.number) r user t.does
    ∙ ap (λ (x : Option LiveOrder). stream policy history user ++ map (report_of r) (flat_map (λ (y : LiveOrder). to_user y.user user (told_of_end y)) (option_to_list x)))
    (held_numbered (Move.Expires o.number) r k o.number o t found)
    ∙ ap (λ (ms : List Message). stream policy history user ++ map (report_of r) ms) (append-nil (to_user o.user user (told_of_end o)))

pub end_has_place : {policy : PolicyData} {history : List RecordData} (r : RecordData) (k : GateState) (o : LiveOrder) → Takes policy history (Move.Expires o.number) r k → live_numbered k.orders.live o.number ≡ Some o
    → HaveReservedForRecord policy history r k.streams → 0 < reserved_in k.streams.lists o.user
end_has_place {policy} {history} r k o t found places = has_place policy history r k.streams o.user _ places (end_tells r k o t found)

-- its user has his place
pub end_fits : {policy : PolicyData} {history : List RecordData} (r : RecordData) (k : GateState) (o : LiveOrder) (streams : AllStreams) → Takes policy history (Move.Expires o.number) r k → live_numbered k.orders.live o.number ≡ Some o
    → Makes policy history k streams → HasEnough k.orders.live k.people policy streams o.user → HaveReservedWithRecord policy history r streams
end_fits {policy} {history} r k o streams t found makes has =
    let matches : IsMatched policy history r = is_matched r (Move.Expires o.number) t.does (may_do r (Move.Expires o.number) t.does).is_match in
    match_fits matches.handed r k streams t.does.legal matches.left makes
    (one_finds policy history r k streams o.user _ (end_tells r k o t found) has)

-- whoever has all places has one for each report
pub end_is_placed : {policy : PolicyData} {history : List RecordData} (r : RecordData) (k : GateState) (o : LiveOrder) (streams : AllStreams) → Takes policy history (Move.Expires o.number) r k
    → KnowTheSame k.streams streams → HaveReservedWithRecord policy history r streams → HaveReservedForRecord policy history r streams
end_is_placed r k o streams t same have =
    all_are_placed r streams (λ user. same user ∙ known_told k t.in_force user)
    (legal_after r.step r t.does.legal t.fits t.does.is_next) (ap makes_fill (expiry_does r o.number t.does)) have
