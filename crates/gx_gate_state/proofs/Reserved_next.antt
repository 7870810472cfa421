-- Places that are kept for what a record tells, and behind it.
use Rattle.std.proofs.{Common.{◌≡◌, ℕ, ◌+◌, ◌<◌, ◌≤◌, get_or, take, arith, true, false, not, Bool, List, [], ◌∷◌, ◌++◌, length, length-append, refl, ◌∙◌, ap, sym, cond, map, if◌then◌else◌}, Math.Path.subst, lemmas.{List.{append_cancel_left, take_more}, Bool.and_parts}}
use Rattle.std.specs.Prelude.{Option, Some, None, is_some, ◌&&◌}
use Rattle.gx_units.specs.{Names.same_user, declared.names.UserName.UserName}
use Rattle.gx_units.proofs.{Names_equal.user_is, Lists_hold.{all_weaker, all_next}}
use Rattle.gx_policy.specs.{declared.policy.{PolicyData.PolicyData, User.User}, People.{is_officer, is_reader, role_in, user_in}}
use Rattle.gx_history.specs.{declared.{«record».{Asked.Asked, RecordData.RecordData, Step.Step, Verdict.Verdict}, report.Message.Message, live_order.LiveOrder.LiveOrder}, Requests.{is_judged, is_fill}, Streams.{report_of, reports_of, stream}, Verdicts.{IsLegal, day_limit, next}, Live.live, Reserved.{may_notify_all_users, enough_reserved, is_never_refused, most_kills, orders_held, reserved_reports}}
use Rattle.gx_laws.proofs.{Requests_judged.asked_is_judged, Streams_next.{legal_before, stream_next}, Positions_sound.live_are_few, ReservedPlaces_enough.{enough_is_more, kept_places_are_enough, matches_want_no_more, others_want_no_more, so_many_are_enough}}
use Rattle.gx_orders.specs.LiveOrders.{OrdersData}
use Rattle.gx_people.proofs.Users_laws.{officers_stay}
use Rattle.gx_streams.specs.{Kept.{reserved_in, with_reserved}, Laws.TellsOne, Sending.KnowsReaders, Streams.{AllStreams, has_own_stream, on_list_of}}
use Rattle.gx_streams.proofs.{UserLists_found.told_are, Copies_only.{copies_alone, none_sent, only_known, readers_are}, Places_kept.{others_keep, places_kept}}
use Rattle.gx_gate_state.specs.{declared.state.GateState.GateState, State.{AreInForce, HasEnough, HasReserved, HaveReservedWithRecord, HaveEnough, HaveNoFewer, HaveReservedForRecord, HaveReservedReports, KnowTheSame, KnowsUsers, TakesAsked, count_of_user, enough_of}}
use Rattle.gx_gate_state.proofs.Ledger_next.{legal_after}

-- places that are reserved take none from anybody
pub more_places : (streams : AllStreams) (user : UserName) (places : ℕ) (other : UserName) → has_own_stream streams user ≡ true
    → reserved_in streams.lists other ≤ reserved_in (on_list_of user (with_reserved places) streams).lists other
more_places streams user places other known = by (same_user user other) refl
  where
    by : (b : Bool) → same_user user other ≡ b → reserved_in streams.lists other ≤ reserved_in (on_list_of user (with_reserved places) streams).lists other
    by false is = omega (arith, others_keep streams user (with_reserved places) other is)
    by true is =
        subst (λ (x : UserName). reserved_in streams.lists x ≤ reserved_in (on_list_of user (with_reserved places) streams).lists x) (user_is user other is)
        (omega (arith, places_kept streams user places known))

-- and there are as many as were asked for
pub as_many_places : (streams : AllStreams) (user : UserName) (places : ℕ) → has_own_stream streams user ≡ true
    → places ≤ reserved_in (on_list_of user (with_reserved places) streams).lists user
as_many_places streams user places known = omega (arith, places_kept streams user places known)

-- one more has enough, and those before him keep theirs
pub more_have_enough : (live : List LiveOrder) (people : List User) (policy : PolicyData) (before after : AllStreams) (users : List User) (i : ℕ) (u : User)
    → ((other : UserName) → has_own_stream after other ≡ has_own_stream before other) → ((other : UserName) → reserved_in before.lists other ≤ reserved_in after.lists other)
    → i < length users → u ≡ get_or users i u → HaveEnough live people policy before (take i users) → HasEnough live people policy after u.name
    → HaveEnough live people policy after (take (i + 1) users)
more_have_enough live people policy before after users i u same more within at all one =
    subst (HaveEnough live people policy after) (sym (take_more users i u within ∙ ap (λ (x : User). take i users ++ x ∷ []) (sym at)))
    (all_next (λ (x : User). HasEnough live people policy after x.name) (take i users) u
    (all_weaker (λ (x : User). HasEnough live people policy before x.name) (λ (x : User). HasEnough live people policy after x.name)
    (λ (x : User) has known. omega (arith, has (sym (same x.name) ∙ known), more x.name)) (take i users) all) one)

-- what is enough by what is kept is enough by what is defined
enough_is : {policy : PolicyData} {history : List RecordData} (k : GateState) (user : UserName) → AreInForce policy history k
    → enough_of k.orders.live k.people policy user ≡ enough_reserved policy history user
enough_is {policy} {history} k user in_force =
    let orders : count_of_user k.orders.live user ≡ orders_held policy history user =
    ap (λ (d : OrdersData). count_of_user d.live user) in_force.orders in
    let kills : cond (is_officer (role_in k.people user)) (length policy.accounts) 0 ≡ most_kills policy user =
    ap (λ (people : List User). cond (is_officer (role_in people user)) (length policy.accounts) 0) in_force.people
    ∙ ap (λ (b : Bool). cond b (length policy.accounts) 0) (officers_stay policy history user) in
    omega (arith, orders, kills)

-- the places that are made before a record, where some are kept already
pub record Makes (policy : PolicyData) (history : List RecordData) (k : GateState) (streams : AllStreams) : Type 0 where
  pub in_force : AreInForce policy history k
  pub kept : HaveReservedReports policy history k.streams
  pub known : KnowTheSame k.streams streams
  pub more : HaveNoFewer k.streams streams

-- what was kept is kept still
pub keep_still : {policy : PolicyData} {history : List RecordData} (k : GateState) (streams : AllStreams) → Makes policy history k streams → HaveReservedReports policy history streams
keep_still k streams m = record { kept = λ user known. omega (arith, m.kept.kept user (sym (m.known user) ∙ known), m.more user) }

-- a user for whom enough is made has enough
has_enough : {policy : PolicyData} {history : List RecordData} (k : GateState) (streams : AllStreams) (user : UserName) → AreInForce policy history k
    → HasEnough k.orders.live k.people policy streams user → HasReserved user (enough_reserved policy history user) streams
has_enough k streams user in_force has known = omega (arith, has known, enough_is k user in_force)

-- a user who is known is one of the policy's
all_have : (live : List LiveOrder) (people : List User) (policy : PolicyData) (streams : AllStreams) (user : UserName) → has_own_stream streams user ≡ true
    → (users : List User) → HaveEnough live people policy streams users → is_some (user_in users user) ≡ true → enough_of live people policy user ≤ reserved_in streams.lists user
all_have live people policy streams user known [] all there = cc
all_have live people policy streams user known (u ∷ us) all there = at (same_user u.name user) refl there (all_have live people policy streams user known us all.1)
  where
    at : (b : Bool) → same_user u.name user ≡ b → is_some (cond b (Some u) (user_in us user)) ≡ true
        → (is_some (user_in us user) ≡ true → enough_of live people policy user ≤ reserved_in streams.lists user) → enough_of live people policy user ≤ reserved_in streams.lists user
    at true is found rest =
        let same : u.name ≡ user = user_is u.name user is in
        subst (λ (x : UserName). enough_of live people policy x ≤ reserved_in streams.lists x) same (all.0 (ap (λ (x : UserName). has_own_stream streams x) same ∙ known))
    at false is found rest = rest found

masked_if : (b : Bool) (mask : ℕ) → is_some (if b then Some mask else None) ≡ b
masked_if true mask = refl
masked_if false mask = refl

-- the readers are the policy's
pub readers_known : {policy : PolicyData} {history : List RecordData} (k : GateState) → AreInForce policy history k → KnowsReaders policy k.streams
readers_known {policy} k kept user = ap is_some (kept.sent user) ∙ masked_if (is_reader (role_in policy.users user)) _

-- who is known and no reader is told report by report
pub known_told : {policy : PolicyData} {history : List RecordData} (k : GateState) → AreInForce policy history k → KnowsUsers policy k.streams
known_told {policy} {history} k kept = told_are policy history k.streams kept.streams (readers_known k kept)

-- who is told report by report is one of the policy's users
told_there : (policy : PolicyData) (streams : AllStreams) (user : UserName) → KnowsUsers policy streams → has_own_stream streams user ≡ true → is_some (user_in policy.users user) ≡ true
told_there policy streams user knows told = (and_parts (is_some (user_in policy.users user)) (not (is_reader (role_in policy.users user))) (sym (knows user) ∙ told)).0

pub each_has_enough : {policy : PolicyData} {history : List RecordData} (k : GateState) (streams : AllStreams) → AreInForce policy history k → KnowTheSame k.streams streams
    → HaveEnough k.orders.live k.people policy streams policy.users → (user : UserName) → HasEnough k.orders.live k.people policy streams user
each_has_enough {policy} k streams in_force same all user known =
    all_have k.orders.live k.people policy streams user known policy.users all (told_there policy k.streams user (known_told k in_force) (sym (same user) ∙ known))

-- at the beginning of a day
pub kept_at_first : {policy : PolicyData} (k : GateState) (streams : AllStreams) → AreInForce policy [] k → KnowTheSame k.streams streams
    → HaveEnough k.orders.live k.people policy streams policy.users → HaveReservedReports policy [] streams
kept_at_first {policy} k streams in_force same all = record {
  kept = λ user known.
      omega (arith, has_enough k streams user in_force (each_has_enough k streams in_force same all user) known, enough_is_more policy [] user);
}

-- nothing is owed to who is not known
stranger_fits : {policy : PolicyData} (history : List RecordData) (r : RecordData) (user : UserName) (places : ℕ)
    → IsLegal policy (history ++ r ∷ []) → user_in policy.users user ≡ None → length (reports_of policy user (history, r)) ≤ places
stranger_fits {policy} history r user places legal none =
    let nothing : stream policy history user ++ reports_of policy user (history, r) ≡ [] = sym (stream_next policy history r user) ∙ only_known policy (history ++ r ∷ []) user legal none in
    omega (arith, ap length nothing, length-append (stream policy history user) (reports_of policy user (history, r)))

-- nor to a reader, but by a fill
reader_fits : {policy : PolicyData} (history : List RecordData) (r : RecordData) (user : UserName) (places : ℕ)
    → IsLegal policy (history ++ r ∷ []) → is_fill r.verdict ≡ false → is_reader (role_in policy.users user) ≡ true → length (reports_of policy user (history, r)) ≤ places
reader_fits {policy} history r user places legal no_fill reads =
    let nothing : reports_of policy user (history, r) ≡ [] = copies_alone r user (readers_are policy user reads) (legal_before history r legal).1 ∙ none_sent policy history r user no_fill in
    omega (arith, ap length nothing)

-- what is judged is no fill
pub judged_no_fill : (v : Verdict) → is_judged v ≡ true → is_fill v ≡ false
judged_no_fill Verdict.Granted h = refl
judged_no_fill (Verdict.Denied rule) h = refl
judged_no_fill (Verdict.Filled f) h = cc
judged_no_fill (Verdict.Rested number) h = refl
judged_no_fill (Verdict.Expired number) h = refl

pub asked_no_fill : {policy : PolicyData} {history : List RecordData} (a : Asked) (r : RecordData) (k : GateState) → TakesAsked policy history a r k → is_fill r.verdict ≡ false
asked_no_fill {policy} {history} a r k t = judged_no_fill r.verdict (asked_is_judged policy history a r t.left)

-- whoever has all places has one for each report
pub all_are_placed : {policy : PolicyData} {history : List RecordData} (r : RecordData) (streams : AllStreams) → KnowsUsers policy streams → IsLegal policy (history ++ r ∷ []) → is_fill r.verdict ≡ false
    → HaveReservedWithRecord policy history r streams → HaveReservedForRecord policy history r streams
all_are_placed {policy} {history} r streams knows legal no_fill have user = by (user_in policy.users user) refl
  where
    by_role : is_some (user_in policy.users user) ≡ true → (b : Bool) → is_reader (role_in policy.users user) ≡ b → length (reports_of policy user (history, r)) ≤ reserved_in streams.lists user
    by_role there true reads = reader_fits history r user _ legal no_fill reads
    by_role there false reads_not =
        omega (arith, have.all user (knows user ∙ ap (λ b. b && not (is_reader (role_in policy.users user))) there ∙ ap not reads_not))

    by : (found : Option User) → user_in policy.users user ≡ found → length (reports_of policy user (history, r)) ≤ reserved_in streams.lists user
    by None is = stranger_fits history r user _ legal is
    by (Some u) is = by_role (ap is_some is) (is_reader (role_in policy.users user)) refl

-- ---- a request

-- a granted Kill or Logout finds its places
pub kept_fit : {policy : PolicyData} {history : List RecordData} (a : Asked) (r : RecordData) (k : GateState) → TakesAsked policy history a r k → HaveReservedReports policy history k.streams
    → is_never_refused a.request r.verdict ≡ true → HaveReservedWithRecord policy history r k.streams
kept_fit {policy} {history} a r k t keep is = record {
  all = λ user known. omega (arith, keep.kept user known, kept_places_are_enough policy history a r user t.legal t.left is);
}

-- where all have enough, a Lift and a Close Day do
pub many_fit : {policy : PolicyData} {history : List RecordData} (a : Asked) (r : RecordData) (k : GateState) (streams : AllStreams) → TakesAsked policy history a r k → KnowTheSame k.streams streams
    → HaveEnough k.orders.live k.people policy streams policy.users → HaveReservedWithRecord policy history r streams
many_fit {policy} {history} a r k streams t same all = record {
  all = λ user known.
      omega (
        arith,
        has_enough k streams user t.in_force (each_has_enough k streams t.in_force same all user) known,
        so_many_are_enough policy history a r user t.legal t.left,
      );
}

-- and any other request where who asks has enough
pub asker_fits : {policy : PolicyData} {history : List RecordData} (a : Asked) (r : RecordData) (k : GateState) (streams : AllStreams) → TakesAsked policy history a r k → Makes policy history k streams
    → may_notify_all_users a.request r.verdict ≡ false → HasEnough k.orders.live k.people policy streams a.user → HaveReservedWithRecord policy history r streams
asker_fits {policy} {history} a r k streams t m few has = record { all = λ user. by user (same_user a.user user) refl }
  where
    by : (user : UserName) (b : Bool) → same_user a.user user ≡ b → HasReserved user (length (reports_of policy user (history, r)) + reserved_reports policy (history ++ r ∷ []) user) streams
    by user true is = λ known.
        let enough : enough_reserved policy history user ≤ reserved_in streams.lists user =
        has_enough k streams user m.in_force (subst (HasEnough k.orders.live k.people policy streams) (user_is a.user user is) has) known in
        omega (arith, enough, so_many_are_enough policy history a r user t.legal t.left)
    by user false is = λ known.
        omega (arith, m.kept.kept user (sym (m.known user) ∙ known), m.more user, others_want_no_more policy history a r user t.legal t.left few is)

-- so has a request's record
pub asked_are_placed : {policy : PolicyData} {history : List RecordData} (a : Asked) (r : RecordData) (k : GateState) (streams : AllStreams) → TakesAsked policy history a r k → KnowTheSame k.streams streams
    → HaveReservedWithRecord policy history r streams → HaveReservedForRecord policy history r streams
asked_are_placed a r k streams t same have =
    all_are_placed r streams (λ user. same user ∙ known_told k t.in_force user)
    (legal_after (Step.Asked a) r t.legal t.fits t.left) (asked_no_fill a r k t) have

-- ---- a matching step

-- whoever is told has enough, and is told of two things at most
pub record FindsPlace (policy : PolicyData) (history : List RecordData) (r : RecordData) (k : GateState) (streams : AllStreams) (user : UserName) : Type 0 where
  -- he is told
  pub told : Bool
  pub few : length (reports_of policy user (history, r)) ≤ cond told 2 0
  pub has : told ≡ true → HasEnough k.orders.live k.people policy streams user

pub match_fits : {policy : PolicyData} {history : List RecordData} (handed : ℕ) (r : RecordData) (k : GateState) (streams : AllStreams) → IsLegal policy history → next policy history (Step.Matching handed) ≡ Some r
    → Makes policy history k streams → ((user : UserName) → FindsPlace policy history r k streams user) → HaveReservedWithRecord policy history r streams
match_fits {policy} {history} handed r k streams legal left m finds = record { all = λ user known. by user known (finds user).told (finds user).few (finds user).has }
  where
    by : (user : UserName) → has_own_stream streams user ≡ true → (told : Bool) → length (reports_of policy user (history, r)) ≤ cond told 2 0
        → (told ≡ true → HasEnough k.orders.live k.people policy streams user)
        → length (reports_of policy user (history, r)) + reserved_reports policy (history ++ r ∷ []) user ≤ reserved_in streams.lists user
    by user known true few has =
        omega (
          arith,
          few,
          has_enough k streams user m.in_force (has refl) known,
          enough_is_more policy history user,
          matches_want_no_more policy history handed r user legal left,
        )
    by user known false few has =
        omega (arith, few, m.kept.kept user (sym (m.known user) ∙ known), m.more user, matches_want_no_more policy history handed r user legal left)

-- a step that tells one user one thing
pub one_finds : (policy : PolicyData) (history : List RecordData) (r : RecordData) (k : GateState) (streams : AllStreams) (receiver : UserName) (message : Message)
    → TellsOne policy history (history ++ r ∷ []) r receiver (message ∷ []) → HasEnough k.orders.live k.people policy streams receiver → (user : UserName) → FindsPlace policy history r k streams user
one_finds policy history r k streams receiver message tells has user = record {
  told = same_user receiver user;
  few = few (same_user receiver user) (ap length (append_cancel_left (stream policy history user) _ _ (sym (stream_next policy history r user) ∙ tells user)));
  has = λ is. subst (HasEnough k.orders.live k.people policy streams) (user_is receiver user is) has;
}
  where
    few : (b : Bool) → length (reports_of policy user (history, r)) ≡ length (map (report_of r) (cond {A = List Message} b (message ∷ []) [])) → length (reports_of policy user (history, r)) ≤ cond b 2 0
    few true e = omega (arith, e)
    few false e = omega (arith, e)

-- so few orders are live
pub few_live : {policy : PolicyData} {history : List RecordData} (k : GateState) → IsLegal policy history → AreInForce policy history k → length k.orders.live ≤ day_limit
few_live {policy} {history} k legal in_force =
    let same : length k.orders.live ≡ length (live policy history) = ap (λ (d : OrdersData). length d.live) in_force.orders in
    omega (arith, same, live_are_few policy history legal)

-- where nobody has fewer places, those that are kept are there still: a matching step leaves no more to be kept
pub match_keeps : {policy : PolicyData} {history : List RecordData} (handed : ℕ) (r : RecordData) (before after : AllStreams) → IsLegal policy history → next policy history (Step.Matching handed) ≡ Some r
    → KnowsUsers policy before → KnowsUsers policy after → HaveNoFewer before after → HaveReservedReports policy history before → HaveReservedReports policy (history ++ r ∷ []) after
match_keeps {policy} {history} handed r before after legal left knows knows_then more keep = record {
  kept = λ user told. omega (arith, keep.kept user (knows user ∙ sym (knows_then user) ∙ told), more user, matches_want_no_more policy history handed r user legal left);
}
