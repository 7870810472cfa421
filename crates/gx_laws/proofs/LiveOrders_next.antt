-- What one more record makes of each live order, and so of them all.
use Rattle.std.proofs.{Common.{◌≡◌, ℕ, ◌+◌, ◌<◌, ◌≤◌, Bool, true, false, not, List, [], ◌∷◌, ◌++◌, refl, ◌∙◌, ap, sym, cond, length, arith}, Math.Path.subst, lemmas.{List.{append-nil, Elements.filter_map-append}, Bool.{lt-ltb, le-ltb, ltb-false, ltb-true}}}
use Rattle.std.specs.{Prelude.{Option, Some, None, ◌||◌, ◌&&◌, ◌==◌, nat_lt, unwrap_or, option_and_then, option_to_list}, Option.option_map_or, List.{AllByRecursion, cons_option, filter_map}}
use Rattle.gx_units.specs.declared.names.AccountName.{AccountName}
use Rattle.gx_ouch.specs.declared.inbound.{CancelOrder.CancelOrder, EnterOrder.EnterOrder, ReplaceOrder.ReplaceOrder}
use Rattle.gx_desk.specs.declared.Action.{Action}
use Rattle.gx_policy.specs.{declared.policy.PolicyData.PolicyData, Lists.where_true, People.account_of}
use Rattle.gx_history.specs.{declared.{live_order.LiveOrder.LiveOrder, «record».{Asked.Asked, Fill.Fill, RecordData.RecordData, Request.Request, Step.Step, Verdict.Verdict}, moves.Move.Move}, Book.{rest_numbers, rested_of}, Executions.{Execution, done, executions, sides}, Live.{has_come, live, open_now, open_order, open_with}, LiveOrders.replacement_order, Orders.{Order, ends, ends_account, is_dead, orders, orders_added, size_set, total, order_entered, order_replacing}, Requests.{is_judged, granted_of}, Turns.{Turn, Keeps, Adds, Sizes, Replaces, EndsAll, Fills, Rests, Ends, becomes, new_in, new_order, live_after, while_open}, Verdicts.{IsLegal, next}, World.{LiveGoesOn, move_asked, turn_by, turn_in, world}}
use Rattle.gx_laws.proofs.{Orders_ended.sooner, Enters_granted.{HasAccount, entered_has_account, entered_has_shares}, Requests_judged.asked_is_judged, Records_idle.{AddsNothing, EndsNone}, Orders_next.{done_none, open_next, orders_next}, Orders_numbered.number_left, Lists_next.list_any_next, Runs_legal.step_left, Commands_granted.{GrantsCommand, grants_the_command, command_adds_nothing, ends_by_command}, Denials_idle.{IsDenial, denial_adds_nothing, denial_ends_none}, Lists_found.{all_before_it, not_among}, Fills_executed.{IsFill, is_fill, done_by_fill, sides_are}, Matches_allowed.may_match, NamedOrders_live.{IsEarlier, Names, all_earlier, names_live}, NamedOrders_only.{FindsOne, IsToldApart, finds_one, is_under_swapped}, NewOrders_open.{new_has_full_size, new_has_no_fills, new_is_not_dead}, Requests_granted.{Grants, IsQuiet, it_grants, quiet_adds_nothing, quiet_ends_none, adds_by, ends_by, fills_none, size_by, login_is_quiet, logout_is_quiet}, Runs_orderly.{HasGone, IsOrderly, legal_is_orderly}, Replaces_granted.{done_before, ends_not_itself, made, more_than_done, size_of, sizes_not_itself}, Records_ungranted.{match_grants_nothing, ends_by_verdict, no_size, none_added}}
use Rattle.gx_units.proofs.{Test_known.and_false, Lists_hold.{every, all_weaker, all_and}}

-- where each becomes so, all do
pub each_turned : {X Y : Type 0} (before after : X → Option Y) (f : Y → Option Y) (xs : List X) → AllByRecursion (λ (x : X). after x ≡ option_and_then f (before x)) xs
    → filter_map after xs ≡ filter_map f (filter_map before xs)
each_turned before after f [] h = refl
each_turned {X} {Y} before after f (x ∷ xs) h =
    ap (λ (found : Option Y). cons_option found (filter_map after xs)) h.0 ∙ ap (cons_option (option_and_then f (before x))) (each_turned before after f xs h.1) ∙ at (before x)
  where
    at : (found : Option Y) → cons_option (option_and_then f found) (filter_map f (filter_map before xs)) ≡ filter_map f (cons_option found (filter_map before xs))
    at None = refl
    at (Some y) = refl

-- what is done with an order that is found
then_so : (b : Bool) (x : LiveOrder) (f : LiveOrder → Option LiveOrder) → cond b (f x) None ≡ option_and_then f (cond b (Some x) None)
then_so true x f = refl
then_so false x f = refl

on_it : (o : Order) (dead : Bool) (size gone : ℕ) (waits : Bool) (f g : LiveOrder → Option LiveOrder) → f (open_order o size gone waits) ≡ g (open_order o size gone waits)
    → option_and_then f (open_with o dead size gone waits) ≡ option_and_then g (open_with o dead size gone waits)
on_it o dead size gone waits f g same = at (not dead && nat_lt gone size)
  where
    at : (b : Bool) → option_and_then f (cond b (Some (open_order o size gone waits)) None) ≡ option_and_then g (cond b (Some (open_order o size gone waits)) None)
    at true = same
    at false = refl

-- it ends, or does not
ends_so : (o : Order) (dead e : Bool) (size gone : ℕ) (waits : Bool)
    → open_with o (dead || e) size (gone + 0) waits ≡ option_and_then (λ (x : LiveOrder). cond e None (Some x)) (open_with o dead size gone waits)
ends_so o dead e size gone waits =
    let same : gone + 0 ≡ gone = omega arith in
    ap (λ (n : ℕ). open_with o (dead || e) size n waits) same ∙ at dead e (nat_lt gone size) ∙ then_so (not dead && nat_lt gone size) (open_order o size gone waits) (λ (x : LiveOrder). cond e None (Some x))
  where
    x : LiveOrder
    x = open_order o size gone waits

    at : (b c d : Bool) → cond (not (b || c) && d) (Some x) None ≡ cond (not b && d) (cond c None (Some x)) None
    at true c d = refl
    at false true true = refl
    at false true false = refl
    at false false d = refl

-- it has another size, where it is live
sizes_so : (o : Order) (dead : Bool) (size gone : ℕ) (waits e : Bool) (new : ℕ) → (e ≡ true → (not dead && nat_lt gone size) ≡ true)
    → open_with o (dead || false) (unwrap_or (where_true e new) size) (gone + 0) waits ≡ option_and_then (λ (x : LiveOrder). cond e (while_open (record x { total = new })) (Some x)) (open_with o dead size gone waits)
sizes_so o dead size gone waits e new lives =
    let same : gone + 0 ≡ gone = omega arith in
    ap (λ (n : ℕ). open_with o (dead || false) (unwrap_or (where_true e new) size) n waits) same
    ∙ at dead e lives
    ∙ then_so (not dead && nat_lt gone size) (open_order o size gone waits) (λ (x : LiveOrder). cond e (while_open (record x { total = new })) (Some x))
  where
    x : LiveOrder
    x = open_order o size gone waits

    at : (b c : Bool) → (c ≡ true → (not b && nat_lt gone size) ≡ true)
        → open_with o (b || false) (unwrap_or (where_true c new) size) gone waits ≡ cond (not b && nat_lt gone size) (cond c (while_open (record x { total = new })) (Some x)) None
    at true true h = let no : false ≡ true = h refl in cc
    at true false h = refl
    at false true h = sym (ap (λ (b : Bool). cond b (while_open (record x { total = new })) None) (h refl))
    at false false h = refl

-- more of it is executed
fills_so : (o : Order) (dead : Bool) (size gone : ℕ) (waits e : Bool) (shares : ℕ)
    → open_with o (dead || false) size (gone + cond e shares 0) waits ≡ option_and_then (λ (x : LiveOrder). cond e (while_open (record x { done = x.done + shares })) (Some x)) (open_with o dead size gone waits)
fills_so o dead size gone waits e shares = at dead e ∙ then_so (not dead && nat_lt gone size) (open_order o size gone waits) (λ (x : LiveOrder). cond e (while_open (record x { done = x.done + shares })) (Some x))
  where
    x : LiveOrder
    x = open_order o size gone waits

    none_left : (b : Bool) → nat_lt gone size ≡ b → while_open (record x { done = gone + shares }) ≡ cond b (while_open (record x { done = gone + shares })) None
    none_left true h = refl
    none_left false h =
        let much : size ≤ gone = ltb-false gone size h in
        ap (λ (b : Bool). cond b (Some (record x { done = gone + shares })) None) (le-ltb (gone + shares) size (omega arith))

    at : (b c : Bool) → open_with o (b || false) size (gone + cond c shares 0) waits ≡ cond (not b && nat_lt gone size) (cond c (while_open (record x { done = gone + shares })) (Some x)) None
    at true c = refl
    at false true = none_left (nat_lt gone size) refl
    at false false = let same : gone + 0 ≡ gone = omega arith in ap (λ (n : ℕ). open_with o false size n waits) same

-- it comes to rest, or does not
rests_so : (o : Order) (dead : Bool) (size gone : ℕ) (came e : Bool)
    → open_with o (dead || false) size (gone + 0) (not (came || e)) ≡ option_and_then (λ (x : LiveOrder). Some (cond e (record x { waits = false }) x)) (open_with o dead size gone (not came))
rests_so o dead size gone came e =
    let same : gone + 0 ≡ gone = omega arith in
    ap (λ (n : ℕ). open_with o (dead || false) size n (not (came || e))) same
    ∙ at dead came e (nat_lt gone size)
    ∙ then_so (not dead && nat_lt gone size) (open_order o size gone (not came)) (λ (x : LiveOrder). Some (cond e (record x { waits = false }) x))
  where
    x : Bool → LiveOrder
    x came = open_order o size gone (not came)

    at : (b c d e : Bool) → cond (not (b || false) && e) (Some (x (c || d))) None ≡ cond (not b && e) (Some (cond d (record (x c) { waits = false }) (x c))) None
    at true c d e = refl
    at false true true e = refl
    at false true false e = refl
    at false false true e = refl
    at false false false e = refl

-- where nothing comes to rest
no_rest : (ns : List ℕ) (v : _) (n : ℕ) → rested_of v ≡ None → has_come (ns ++ option_to_list (rested_of v)) n ≡ has_come ns n
no_rest ns v n none = ap (λ (found : Option ℕ). has_come (ns ++ option_to_list found) n) none ∙ ap (λ (ms : List ℕ). has_come ms n) (append-nil ns)

-- each order that was made before becomes so
abbrev AllBecome : PolicyData → List RecordData → RecordData → Turn → Type 0
AllBecome policy history r turn =
    AllByRecursion (λ (o : Order). open_now (executions policy (history ++ r ∷ [])) (history ++ r ∷ []) o ≡ option_and_then (becomes turn) (open_now (executions policy history) history o)) (orders policy history)

-- the live orders are turned so
live_by : (policy : PolicyData) (history : List RecordData) (r : RecordData) (turn : Turn) → AllBecome policy history r turn
    → filter_map (open_now (executions policy (history ++ r ∷ [])) (history ++ r ∷ [])) (orders_added policy (orders policy history) r) ≡ new_in turn
    → live policy (history ++ r ∷ []) ≡ live_after turn (live policy history)
unfolding live
live_by policy history r turn old new =
    let after : Order → Option LiveOrder = open_now (executions policy (history ++ r ∷ [])) (history ++ r ∷ []) in
    ap (filter_map after) (orders_next policy history r)
    ∙ filter_map-append after (orders policy history) (orders_added policy (orders policy history) r)
    ∙ ap (λ (more : List LiveOrder). filter_map after (orders policy history) ++ more) new
    ∙ ap (λ (found : List LiveOrder). found ++ new_in turn) (each_turned (open_now (executions policy history) history) after (becomes turn) (orders policy history) old)

-- a record that makes, sizes, fills and rests none, and ends these
ends_those : (policy : PolicyData) (history : List RecordData) (r : RecordData) (o : Order) (e : Bool) → size_set o r ≡ None → sides policy history r.verdict ≡ [] → rested_of r.verdict ≡ None → ends o r ≡ e
    → open_now (executions policy (history ++ r ∷ [])) (history ++ r ∷ []) o ≡ option_and_then (λ (x : LiveOrder). cond e None (Some x)) (open_now (executions policy history) history o)
ends_those policy history r o e sizes fills rests stops =
    open_next policy history r o e None 0 stops sizes (ap (λ (es : List Execution). done es o) fills ∙ done_none o)
    ∙ ap (λ (b : Bool). open_with o (is_dead history o || e) (total history o) (done (executions policy history) o + 0) (not b)) (no_rest (rest_numbers history) r.verdict o.number rests)
    ∙ ends_so o (is_dead history o) e (total history o) (done (executions policy history) o) (not (has_come (rest_numbers history) o.number))

-- nothing
pub live_stays : {policy : PolicyData} {history : List RecordData} (r : RecordData) → AddsNothing policy history r → EndsNone r → live policy (history ++ r ∷ []) ≡ live_after Keeps (live policy history)
live_stays {policy} {history} r n stay =
    live_by policy history r Keeps (every _ (λ (o : Order). ends_those policy history r o false (n.sizes_none o) n.fills_none n.rests_none (stay o)) (orders policy history))
    (ap (filter_map (open_now (executions policy (history ++ r ∷ [])) (history ++ r ∷ []))) n.makes_none)

-- a command
live_commanded : {policy : PolicyData} {history : List RecordData} (r : RecordData) (a : Asked) (action : Action) → IsLegal policy history → r.number ≡ length history + 1 → GrantsCommand r a action
    → live policy (history ++ r ∷ []) ≡ live_after (EndsAll action) (live policy history)
live_commanded {policy} {history} r a action legal place g =
    let n : AddsNothing policy history r = command_adds_nothing policy history r a action g in
    live_by policy history r (EndsAll action)
    (all_weaker (IsEarlier r) (λ (o : Order). open_now (executions policy (history ++ r ∷ [])) (history ++ r ∷ []) o ≡ option_and_then (becomes (EndsAll action)) (open_now (executions policy history) history o))
    (λ (o : Order) early.
    ends_those policy history r o (ends_account o.account action) (n.sizes_none o) n.fills_none n.rests_none
    (ends_by_command o r a action g ∙ ap (λ (b : Bool). b && ends_account o.account action) (lt-ltb o.number r.number early))
    ∙ on_it o (is_dead history o) (total history o) (done (executions policy history) o) (not (has_come (rest_numbers history) o.number))
    (λ (x : LiveOrder). cond (ends_account o.account action) None (Some x)) (becomes (EndsAll action)) refl)
    (orders policy history) (all_earlier r legal place))
    (ap (filter_map (open_now (executions policy (history ++ r ∷ [])) (history ++ r ∷ []))) n.makes_none)

-- a request that is about no order
quiet : (policy : PolicyData) (history : List RecordData) (a : Asked) (r : RecordData) (q : Request) → Grants r a q → IsQuiet q → live policy (history ++ r ∷ []) ≡ live_after Keeps (live policy history)
quiet policy history a r q g none = live_stays r (quiet_adds_nothing policy history r a q g none) (quiet_ends_none r a q g none)

-- what becomes of an order that is known under a token, and told apart from all others
sized_by : {policy : PolicyData} {history : List RecordData} (r : RecordData) (a : Asked) (m : CancelOrder) (s : LiveOrder) → IsLegal policy history → r.number ≡ length history + 1 → Grants r a (Request.Cancel m)
    → (one : FindsOne policy history a.user m.token s) → live policy (history ++ r ∷ []) ≡ live_after (Sizes one.known.order.number m.shares) (live policy history)
sized_by {policy} {history} r a m s legal place g one =
    live_by policy history r (Sizes one.known.order.number m.shares)
    (all_weaker (λ (o : Order). IsEarlier r o × IsToldApart a.user m.token one.known.order o) _ (λ (o : Order) h. each o h.0 h.1) (orders policy history)
    (all_and (IsEarlier r) (IsToldApart a.user m.token one.known.order) (orders policy history) (all_earlier r legal place) one.alone))
    (ap (filter_map (open_now (executions policy (history ++ r ∷ [])) (history ++ r ∷ []))) (adds_by policy (orders policy history) r a (Request.Cancel m) g))
  where
    itself : (not (is_dead history one.known.order) && nat_lt (done (executions policy history) one.known.order) (total history one.known.order)) ≡ true
    itself = ap (λ (b : Bool). not b && nat_lt (done (executions policy history) one.known.order) (total history one.known.order)) one.known.is_not_dead ∙ one.known.has_some

    each : (o : Order) → IsEarlier r o → IsToldApart a.user m.token one.known.order o
        → open_now (executions policy (history ++ r ∷ [])) (history ++ r ∷ []) o ≡ option_and_then (becomes (Sizes one.known.order.number m.shares)) (open_now (executions policy history) history o)
    each o early apart =
        let before : nat_lt o.number r.number ≡ true = lt-ltb o.number r.number early in
        open_next policy history r o false (where_true (o.number == one.known.order.number) m.shares) 0 (ends_by r a (Request.Cancel m) o g before) (size_of r a m one.known.order o g before apart)
        (ap (λ (es : List Execution). done es o) (fills_none policy history r a (Request.Cancel m) g) ∙ done_none o)
        ∙ ap (λ (b : Bool). open_with o (is_dead history o || false) (unwrap_or (where_true (o.number == one.known.order.number) m.shares) (total history o)) (done (executions policy history) o + 0) (not b)) (no_rest (rest_numbers history) r.verdict o.number (ap rested_of g.grants))
        ∙ sizes_so o (is_dead history o) (total history o) (done (executions policy history) o) (not (has_come (rest_numbers history) o.number)) (o.number == one.known.order.number) m.shares
        (λ same. ap (λ (x : Order). not (is_dead history x) && nat_lt (done (executions policy history) x) (total history x)) (apart.is_it same) ∙ itself)
        ∙ on_it o (is_dead history o) (total history o) (done (executions policy history) o) (not (has_come (rest_numbers history) o.number))
        (λ (x : LiveOrder). cond (o.number == one.known.order.number) (while_open (record x { total = m.shares })) (Some x)) (becomes (Sizes one.known.order.number m.shares)) refl

-- an order of its number alone, which has as much open as it asks for
new_comes : {policy : PolicyData} {history : List RecordData} (r : RecordData) (o : Order) (gone : ℕ) → IsLegal policy history → r.number ≡ length history + 1 → o.number ≡ r.number → sides policy history r.verdict ≡ []
    → rested_of r.verdict ≡ None → done (executions policy history) o ≡ gone → gone < o.terms.shares
    → open_now (executions policy (history ++ r ∷ [])) (history ++ r ∷ []) o ≡ Some (open_order o o.terms.shares gone true)
new_comes {policy} {history} r o gone legal place same fills rests so_far some =
    let late : length history < o.number = omega arith in
    let before : AllByRecursion (λ (x : RecordData). x.number < o.number) history = all_before_it o.number legal (same ∙ place) in
    let none : gone + 0 ≡ gone = omega arith in
    open_next policy history r o false None 0 (ends_not_itself o r same) (sizes_not_itself o r same) (ap (λ (es : List Execution). done es o) fills ∙ done_none o)
    ∙ ap (λ (b : Bool). open_with o (b || false) (total history o) (done (executions policy history) o + 0) (not (has_come (rest_numbers history ++ option_to_list (rested_of r.verdict)) o.number))) (new_is_not_dead history o before)
    ∙ ap (λ (n : ℕ). open_with o false n (done (executions policy history) o + 0) (not (has_come (rest_numbers history ++ option_to_list (rested_of r.verdict)) o.number))) (new_has_full_size history o before)
    ∙ ap (λ (n : ℕ). open_with o false o.terms.shares (n + 0) (not (has_come (rest_numbers history ++ option_to_list (rested_of r.verdict)) o.number))) so_far
    ∙ ap (λ (n : ℕ). open_with o false o.terms.shares n (not (has_come (rest_numbers history ++ option_to_list (rested_of r.verdict)) o.number))) none
    ∙ ap (λ (b : Bool). open_with o false o.terms.shares gone (not b)) (no_rest (rest_numbers history) r.verdict o.number rests ∙ not_among (length history) o.number (rest_numbers history) late (legal_is_orderly legal).rested_within)
    ∙ ap (λ (b : Bool). cond b (Some (open_order o o.terms.shares gone true)) None) (lt-ltb gone o.terms.shares some)

-- a Replace
abbrev as_open : PolicyData → List RecordData → Order → LiveOrder
as_open policy history o = open_order o (total history o) (done (executions policy history) o) (not (has_come (rest_numbers history) o.number))

replaced_by : {policy : PolicyData} {history : List RecordData} (r : RecordData) (a : Asked) (m : ReplaceOrder) (s : LiveOrder) → IsLegal policy history → r.number ≡ length history + 1 → Grants r a (Request.Replace m)
    → (one : FindsOne policy history a.user m.existing_token s) → done (executions policy history) one.known.order < m.shares
    → live policy (history ++ r ∷ []) ≡ live_after (Replaces one.known.order.number (replacement_order r m (as_open policy history one.known.order))) (live policy history)
replaced_by {policy} {history} r a m s legal place g one some =
    live_by policy history r (Replaces one.known.order.number (replacement_order r m (as_open policy history one.known.order)))
    (all_weaker (λ (o : Order). IsEarlier r o × IsToldApart a.user m.existing_token one.known.order o) _ (λ (o : Order) h. each o h.0 h.1) (orders policy history)
    (all_and (IsEarlier r) (IsToldApart a.user m.existing_token one.known.order) (orders policy history) (all_earlier r legal place) one.alone))
    (ap (filter_map after) (adds_by policy (orders policy history) r a (Request.Replace m) g ∙ made r a m s one)
    ∙ ap (λ (found : Option LiveOrder). cons_option found []) (new_comes r (order_replacing r m one.known.order) (done (executions policy history) one.known.order) legal place refl (fills_none policy history r a (Request.Replace m) g) (ap rested_of g.grants) (done_before r m one.known.order legal place) some))
  where
    after : Order → Option LiveOrder
    after = open_now (executions policy (history ++ r ∷ [])) (history ++ r ∷ [])

    each : (o : Order) → IsEarlier r o → IsToldApart a.user m.existing_token one.known.order o
        → open_now (executions policy (history ++ r ∷ [])) (history ++ r ∷ []) o ≡ option_and_then (becomes (Replaces one.known.order.number (replacement_order r m (as_open policy history one.known.order)))) (open_now (executions policy history) history o)
    each o early apart =
        let before : nat_lt o.number r.number ≡ true = lt-ltb o.number r.number early in
        ends_those policy history r o (o.number == one.known.order.number) (size_by r a (Request.Replace m) o g before) (fills_none policy history r a (Request.Replace m) g) (ap rested_of g.grants)
        (ends_by r a (Request.Replace m) o g before ∙ is_under_swapped a.user m.existing_token o ∙ apart.by_number)
        ∙ on_it o (is_dead history o) (total history o) (done (executions policy history) o) (not (has_come (rest_numbers history) o.number))
        (λ (x : LiveOrder). cond (o.number == one.known.order.number) None (Some x)) (becomes (Replaces one.known.order.number (replacement_order r m (as_open policy history one.known.order)))) refl

-- an Enter
entered_by : {policy : PolicyData} {history : List RecordData} (r : RecordData) (a : Asked) (m : EnterOrder) (account : AccountName) → IsLegal policy history → r.number ≡ length history + 1 → Grants r a (Request.Enter m)
    → account_of policy a.user ≡ Some account → 0 < m.shares → live policy (history ++ r ∷ []) ≡ live_after (Adds (new_order policy r a.user account m)) (live policy history)
entered_by {policy} {history} r a m account legal place g his some =
    live_by policy history r (Adds (new_order policy r a.user account m))
    (all_weaker (IsEarlier r) _ (λ (o : Order) early. each o early) (orders policy history) (all_earlier r legal place))
    (ap (filter_map (open_now (executions policy (history ++ r ∷ [])) (history ++ r ∷ []))) (adds_by policy (orders policy history) r a (Request.Enter m) g ∙ ap (λ (found : Option AccountName). option_map_or (λ (x : AccountName). order_entered policy r a.user x m ∷ []) found []) his)
    ∙ ap (λ (found : Option LiveOrder). cons_option found []) (new_comes r (order_entered policy r a.user account m) 0 legal place refl (fills_none policy history r a (Request.Enter m) g) (ap rested_of g.grants)
    (new_has_no_fills (order_entered policy r a.user account m) legal (late r.number place) refl) some))
  where
    late : (n : ℕ) → n ≡ length history + 1 → length history < n
    late n e = omega arith

    each : (o : Order) → IsEarlier r o → open_now (executions policy (history ++ r ∷ [])) (history ++ r ∷ []) o ≡ option_and_then (becomes (Adds (new_order policy r a.user account m))) (open_now (executions policy history) history o)
    each o early =
        let before : nat_lt o.number r.number ≡ true = lt-ltb o.number r.number early in
        ends_those policy history r o false (size_by r a (Request.Enter m) o g before) (fills_none policy history r a (Request.Enter m) g) (ap rested_of g.grants) (ends_by r a (Request.Enter m) o g before)

-- a fill
filled_by : {policy : PolicyData} {history : List RecordData} (r : RecordData) (f : Fill) → IsOrderly policy history → IsFill policy history r f → live policy (history ++ r ∷ []) ≡ live_after (Fills f) (live policy history)
filled_by {policy} {history} r f orderly is =
    live_by policy history r (Fills f) (all_weaker (HasGone policy history) _ (λ (o : Order) gone. each o gone) (orders policy history) orderly.gone)
    (ap (filter_map (open_now (executions policy (history ++ r ∷ [])) (history ++ r ∷ []))) (none_added policy history r is.grants_nothing))
  where
    each : (o : Order) → HasGone policy history o → open_now (executions policy (history ++ r ∷ [])) (history ++ r ∷ []) o ≡ option_and_then (becomes (Fills f)) (open_now (executions policy history) history o)
    each o gone =
        open_next policy history r o false None (cond (o.number == f.taker || o.number == f.maker) f.shares 0)
        (ends_by_verdict o r (Verdict.Filled f) is.grants_nothing is.is_fill ∙ and_false (nat_lt o.number r.number)) (no_size o r is.grants_nothing)
        (ap (λ (es : List Execution). done es o) (sides_are r f is) ∙ done_by_fill r f is o gone)
        ∙ ap (λ (b : Bool). open_with o (is_dead history o || false) (total history o) (done (executions policy history) o + cond (o.number == f.taker || o.number == f.maker) f.shares 0) (not b))
        (no_rest (rest_numbers history) r.verdict o.number (ap rested_of is.is_fill))
        ∙ fills_so o (is_dead history o) (total history o) (done (executions policy history) o) (not (has_come (rest_numbers history) o.number)) (o.number == f.taker || o.number == f.maker) f.shares
        ∙ on_it o (is_dead history o) (total history o) (done (executions policy history) o) (not (has_come (rest_numbers history) o.number))
        (λ (x : LiveOrder). cond (o.number == f.taker || o.number == f.maker) (while_open (record x { done = x.done + f.shares })) (Some x)) (becomes (Fills f)) refl

-- an order comes to rest
rested_by : (policy : PolicyData) (history : List RecordData) (r : RecordData) (number : ℕ) → granted_of r ≡ None → r.verdict ≡ Verdict.Rested number → live policy (history ++ r ∷ []) ≡ live_after (Rests number) (live policy history)
rested_by policy history r number none rests =
    live_by policy history r (Rests number) (every _ (λ (o : Order). each o) (orders policy history))
    (ap (filter_map (open_now (executions policy (history ++ r ∷ [])) (history ++ r ∷ []))) (none_added policy history r none))
  where
    each : (o : Order) → open_now (executions policy (history ++ r ∷ [])) (history ++ r ∷ []) o ≡ option_and_then (becomes (Rests number)) (open_now (executions policy history) history o)
    each o =
        open_next policy history r o false None 0 (ends_by_verdict o r (Verdict.Rested number) none rests ∙ and_false (nat_lt o.number r.number)) (no_size o r none)
        (ap (λ (v : Verdict). done (sides policy history v) o) rests ∙ done_none o)
        ∙ ap (λ (v : Verdict). open_with o (is_dead history o || false) (total history o) (done (executions policy history) o + 0) (not (has_come (rest_numbers history ++ option_to_list (rested_of v)) o.number))) rests
        ∙ ap (λ (b : Bool). open_with o (is_dead history o || false) (total history o) (done (executions policy history) o + 0) (not b)) (list_any_next (λ (n : ℕ). n == o.number) (rest_numbers history) number)
        ∙ rests_so o (is_dead history o) (total history o) (done (executions policy history) o) (has_come (rest_numbers history) o.number) (number == o.number)
        ∙ on_it o (is_dead history o) (total history o) (done (executions policy history) o) (not (has_come (rest_numbers history) o.number))
        (λ (x : LiveOrder). Some (cond (number == o.number) (record x { waits = false }) x)) (becomes (Rests number)) refl

-- an order ends
ended_by : (policy : PolicyData) (history : List RecordData) (r : RecordData) (number : ℕ) → AllByRecursion (IsEarlier r) (orders policy history) → granted_of r ≡ None → r.verdict ≡ Verdict.Expired number
    → live policy (history ++ r ∷ []) ≡ live_after (Ends number) (live policy history)
ended_by policy history r number earlier none stops =
    live_by policy history r (Ends number) (all_weaker (IsEarlier r) _ (λ (o : Order) early. each o early) (orders policy history) earlier)
    (ap (filter_map (open_now (executions policy (history ++ r ∷ [])) (history ++ r ∷ []))) (none_added policy history r none))
  where
    each : (o : Order) → IsEarlier r o → open_now (executions policy (history ++ r ∷ [])) (history ++ r ∷ []) o ≡ option_and_then (becomes (Ends number)) (open_now (executions policy history) history o)
    each o early =
        ends_those policy history r o (number == o.number) (no_size o r none) (ap (sides policy history) stops) (ap rested_of stops)
        (ends_by_verdict o r (Verdict.Expired number) none stops ∙ ap (λ (b : Bool). b && number == o.number) (lt-ltb o.number r.number early))
        ∙ on_it o (is_dead history o) (total history o) (done (executions policy history) o) (not (has_come (rest_numbers history) o.number))
        (λ (x : LiveOrder). cond (number == o.number) None (Some x)) (becomes (Ends number)) refl

-- a granted request
by_grant : {policy : PolicyData} {history : List RecordData} (a : Asked) (r : RecordData) → IsLegal policy history → next policy history (Step.Asked a) ≡ Some r → r.verdict ≡ Verdict.Granted
    → (q : Request) → a.request ≡ q → live policy (history ++ r ∷ []) ≡ live_after (turn_in (move_asked policy (world policy history) r a q)) (live policy history)
by_grant {policy} {history} a r legal left granted_of (Request.Login m) asks = quiet policy history a r (Request.Login m) (it_grants policy history a r (Request.Login m) left asks granted_of) (login_is_quiet m)
by_grant {policy} {history} a r legal left granted_of Request.Logout asks = quiet policy history a r Request.Logout (it_grants policy history a r Request.Logout left asks granted_of) logout_is_quiet
by_grant {policy} {history} a r legal left granted_of (Request.Unreadable m) asks = quiet policy history a r (Request.Unreadable m) (it_grants policy history a r (Request.Unreadable m) left asks granted_of)
    (record { makes_none = λ policy known r user. refl; sizes_none = λ o user. refl; ends_none = λ o user. refl })
by_grant {policy} {history} a r legal left granted_of (Request.Enter m) asks =
    let his : HasAccount _ = entered_has_account policy history a r m left granted_of asks in
    entered_by r a m his.0 legal (number_left policy history (Step.Asked a) r left) (it_grants policy history a r (Request.Enter m) left asks granted_of) his.1
    (ltb-true 0 m.shares (entered_has_shares policy history a r m left granted_of asks))
    ∙ ap (λ (found : Option AccountName). live_after (turn_in (option_map_or (λ (account : AccountName). Move.Adds (new_order policy r a.user account m)) found Move.Nothing)) (live policy history)) (sym his.1)
by_grant {policy} {history} a r legal left granted_of (Request.Replace m) asks =
    let named : Names policy history a.user m.existing_token = names_live policy history a r (Request.Replace m) m.existing_token left granted_of asks refl refl in
    let one : FindsOne policy history a.user m.existing_token named.0 = finds_one a.user m.existing_token named.0 legal named.1 in
    replaced_by r a m named.0 legal (number_left policy history (Step.Asked a) r left) (it_grants policy history a r (Request.Replace m) left asks granted_of) one
    (subst (λ (o : LiveOrder). o.done < m.shares) (sym one.known.is_it) (more_than_done policy history a r m named.0 left granted_of asks named.1))
    ∙ ap (λ (o : LiveOrder). live_after (Replaces o.number (replacement_order r m o)) (live policy history)) one.known.is_it
    ∙ ap (λ (found : Option LiveOrder). live_after (turn_in (option_map_or (λ (old : LiveOrder). Move.Replaces old (replacement_order r m old)) found Move.Nothing)) (live policy history)) (sym named.1)
by_grant {policy} {history} a r legal left granted_of (Request.Cancel m) asks =
    let named : Names policy history a.user m.token = names_live policy history a r (Request.Cancel m) m.token left granted_of asks refl refl in
    let one : FindsOne policy history a.user m.token named.0 = finds_one a.user m.token named.0 legal named.1 in
    sized_by r a m named.0 legal (number_left policy history (Step.Asked a) r left) (it_grants policy history a r (Request.Cancel m) left asks granted_of) one
    ∙ ap (λ (o : LiveOrder). live_after (Sizes o.number m.shares) (live policy history)) one.known.is_it
    ∙ ap (λ (found : Option LiveOrder). live_after (turn_in (option_map_or (λ (cut : LiveOrder). Move.Sizes cut m.shares) found Move.Nothing)) (live policy history)) (sym named.1)
by_grant {policy} {history} a r legal left granted_of (Request.Command c) asks =
    live_commanded r a c.action legal (number_left policy history (Step.Asked a) r left) (grants_the_command policy history a r c c.action left asks refl granted_of)

by_asked : {policy : PolicyData} {history : List RecordData} (a : Asked) (r : RecordData) → IsLegal policy history → next policy history (Step.Asked a) ≡ Some r
    → (v : Verdict) → r.verdict ≡ v → live policy (history ++ r ∷ []) ≡ live_after (turn_by policy (world policy history) r v (Step.Asked a)) (live policy history)
by_asked a r legal left Verdict.Granted e = by_grant a r legal left e a.request refl
by_asked {policy} {history} a r legal left (Verdict.Denied rule) e =
    let d : IsDenial r = record { rule = rule; verdict = e } in live_stays r (denial_adds_nothing policy history r d) (denial_ends_none r d)
by_asked {policy} {history} a r legal left (Verdict.Filled f) e = let judged : false ≡ true = ap is_judged (sym e) ∙ asked_is_judged policy history a r left in cc
by_asked {policy} {history} a r legal left (Verdict.Rested number) e = let judged : false ≡ true = ap is_judged (sym e) ∙ asked_is_judged policy history a r left in cc
by_asked {policy} {history} a r legal left (Verdict.Expired number) e = let judged : false ≡ true = ap is_judged (sym e) ∙ asked_is_judged policy history a r left in cc

pub by_match : {policy : PolicyData} {history : List RecordData} (handed : ℕ) (r : RecordData) → IsOrderly policy history → next policy history (Step.Matching handed) ≡ Some r
    → (v : Verdict) → r.verdict ≡ v → live policy (history ++ r ∷ []) ≡ live_after (turn_by policy (world policy history) r v (Step.Matching handed)) (live policy history)
by_match {policy} {history} handed r orderly left Verdict.Granted e = absurd (may_match policy history handed r Verdict.Granted left e)
by_match {policy} {history} handed r orderly left (Verdict.Denied rule) e = absurd (may_match policy history handed r (Verdict.Denied rule) left e)
by_match handed r orderly left (Verdict.Filled f) e =
    filled_by r f orderly (is_fill handed r f orderly left e)
by_match {policy} {history} handed r orderly left (Verdict.Rested number) e = rested_by policy history r number (match_grants_nothing r handed (step_left policy history (Step.Matching handed) r left)) e
by_match {policy} {history} handed r orderly left (Verdict.Expired number) e =
    ended_by policy history r number (sooner (length history) r.number (number_left policy history (Step.Matching handed) r left) (orders policy history) orderly.within) (match_grants_nothing r handed (step_left policy history (Step.Matching handed) r left)) e

pub live_next : LiveGoesOn
live_next policy history (Step.Asked a) r legal left =
    by_asked a r legal left r.verdict refl
    ∙ ap (λ (s : Step). live_after (turn_by policy (world policy history) r r.verdict s) (live policy history)) (sym (step_left policy history (Step.Asked a) r left))
live_next policy history (Step.Matching handed) r legal left =
    by_match handed r (legal_is_orderly legal) left r.verdict refl
    ∙ ap (λ (s : Step). live_after (turn_by policy (world policy history) r r.verdict s) (live policy history)) (sym (step_left policy history (Step.Matching handed) r left))
