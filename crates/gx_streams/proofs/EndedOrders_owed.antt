-- What a command owes for the orders that it ends, user by user.
use Rattle.std.proofs.{Common.{◌≡◌, suc, length, Bool, true, false, cond, List, [], ◌∷◌, ◌++◌, map, refl, ◌∙◌, ap, sym}, lemmas.List.{Elements.filter-append, append-nil}}
use Rattle.std.specs.{Prelude.{filter, ◌&&◌}, List.flat_map}
use Rattle.gx_units.specs.{Names.same_user, declared.names.UserName.UserName}
use Rattle.gx_ouch.specs.declared.letters.CancelReason.{CancelReason}
use Rattle.gx_desk.specs.declared.Action.{Action}
use Rattle.gx_policy.specs.declared.policy.PolicyData.{PolicyData}
use Rattle.gx_history.specs.{declared.{«record».RecordData.RecordData, report.{Message.Message, Report.Report}, live_order.LiveOrder.LiveOrder}, LiveOrders.shares_open, Live.live, Orders.ends_account, Streams.{canceled_of, ended_of, report_of, stream, to_user}}
use Rattle.gx_streams.specs.{Laws.{TellsAll, TellsNobody, TellsOne}, Telling.{end_message, end_messages, report_to, reports_to}}

abbrev is_his : UserName → UserName × Report → Bool
is_his user o = same_user o.0 user

abbrev canceled_now : LiveOrder → List Message
canceled_now o = canceled_of CancelReason.Supervisory (shares_open o) o

each_is_owed : (r : RecordData) (user : UserName) (ends : LiveOrder → Bool) (found : List LiveOrder)
    → map (report_of r) (flat_map canceled_now (filter (λ (o : LiveOrder). same_user o.user user && ends o) found))
    ≡ reports_to (map (report_to r) (map end_message (filter ends found))) user
each_is_owed r user ends [] = refl
each_is_owed r user ends (o ∷ found) = by (same_user o.user user) refl (ends o) (each_is_owed r user ends found)
  where
    his : List LiveOrder
    his = filter (λ (x : LiveOrder). same_user x.user user && ends x) found

    all : List (UserName × Report)
    all = map (report_to r) (map end_message (filter ends found))

    first : UserName × Report
    first = report_to r (end_message o)

    kept : Bool → List (UserName × Report)
    kept a = cond a (first ∷ filter (is_his user) all) (filter (is_his user) all)

    by : (a : Bool) → same_user o.user user ≡ a → (b : Bool) → map (report_of r) (flat_map canceled_now his) ≡ reports_to all user
        → map (report_of r) (flat_map canceled_now (cond (same_user o.user user && b) (o ∷ his) his)) ≡ reports_to (map (report_to r) (map end_message (cond b (o ∷ filter ends found) (filter ends found)))) user
    by true is true later =
        ap (λ a. map (report_of r) (flat_map canceled_now (cond (a && true) (o ∷ his) his))) is
        ∙ ap (λ (rest : List Report). first.1 ∷ rest) later
        ∙ sym (ap (λ a. map (λ (o : UserName × Report). o.1) (kept a)) is)
    by true is false later = ap (λ a. map (report_of r) (flat_map canceled_now (cond (a && false) (o ∷ his) his))) is ∙ later
    by false is true later =
        ap (λ a. map (report_of r) (flat_map canceled_now (cond (a && true) (o ∷ his) his))) is
        ∙ later
        ∙ sym (ap (λ a. map (λ (o : UserName × Report). o.1) (kept a)) is)
    by false is false later = ap (λ a. map (report_of r) (flat_map canceled_now (cond (a && false) (o ∷ his) his))) is ∙ later

pub ended_are_owed : (found : List LiveOrder) (r : RecordData) (action : Action) (user : UserName)
    → map (report_of r) (ended_of found action user) ≡ reports_to (map (report_to r) (end_messages found action)) user
ended_are_owed found r action user = each_is_owed r user (λ (o : LiveOrder). ends_account o.account action) found

one_each : (r : RecordData) (xs : List LiveOrder) → length (map (report_of r) (flat_map canceled_now xs)) ≡ length xs
one_each r [] = refl
one_each r (o ∷ xs) = ap suc (one_each r xs)

pub ended_are_counted : (found : List LiveOrder) (r : RecordData) (action : Action) (user : UserName)
    → length (reports_to (map (report_to r) (end_messages found action)) user)
    ≡ length (filter (λ (o : LiveOrder). same_user o.user user && ends_account o.account action) found)
ended_are_counted found r action user =
    ap length (sym (ended_are_owed found r action user))
    ∙ one_each r (filter (λ (o : LiveOrder). same_user o.user user && ends_account o.account action) found)

map_both : {X Y : Type 0} (f : X → Y) (xs ys : List X) → map f (xs ++ ys) ≡ map f xs ++ map f ys
map_both f [] ys = refl
map_both f (x ∷ xs) ys = ap (λ rest. f x ∷ rest) (map_both f xs ys)

pub owed_both : (user : UserName) (xs ys : List (UserName × Report)) → reports_to (xs ++ ys) user ≡ reports_to xs user ++ reports_to ys user
owed_both user xs ys =
    ap (map (λ (o : UserName × Report). o.1)) (filter-append (is_his user) xs ys) ∙ map_both (λ (o : UserName × Report). o.1) (filter (is_his user) xs) (filter (is_his user) ys)

abbrev addressed : UserName → Message → UserName × Message
addressed officer m = (officer, m)

answers_owed : (r : RecordData) (officer user : UserName) (b : Bool) → same_user officer user ≡ b → (answers : List Message)
    → reports_to (map (report_to r) (map (addressed officer) answers)) user ≡ cond b (map (report_of r) answers) []
answers_owed r officer user true is [] = refl
answers_owed r officer user false is [] = refl
answers_owed r officer user true is (m ∷ answers) =
    ap (λ b. map (λ (o : UserName × Report). o.1) (cond b ((officer, report_of r m) ∷ filter (is_his user) (map (report_to r) (map (addressed officer) answers))) (filter (is_his user) (map (report_to r) (map (addressed officer) answers))))) is
    ∙ ap (λ (rest : List Report). report_of r m ∷ rest) (answers_owed r officer user true is answers)
answers_owed r officer user false is (m ∷ answers) =
    ap (λ b. map (λ (o : UserName × Report). o.1) (cond b ((officer, report_of r m) ∷ filter (is_his user) (map (report_to r) (map (addressed officer) answers))) (filter (is_his user) (map (report_to r) (map (addressed officer) answers))))) is
    ∙ answers_owed r officer user false is answers

to_him : (r : RecordData) (officer user : UserName) (answers : List Message)
    → map (report_of r) (to_user officer user answers) ≡ reports_to (map (report_to r) (map (addressed officer) answers)) user
to_him r officer user answers = by (same_user officer user) refl
  where
    by : (b : Bool) → same_user officer user ≡ b → map (report_of r) (to_user officer user answers) ≡ reports_to (map (report_to r) (map (addressed officer) answers)) user
    by true is = ap (λ b. map (report_of r) (cond b answers [])) is ∙ sym (answers_owed r officer user true is answers)
    by false is = ap (λ b. map (report_of r) (cond b answers [])) is ∙ sym (answers_owed r officer user false is answers)

pub answered_are_told : (policy : PolicyData) (before after : List RecordData) (r : RecordData) (action : Action) (officer : UserName) (answers : List Message)
    → ((user : UserName) → stream policy after user ≡ stream policy before user ++ map (report_of r) (ended_of (live policy before) action user ++ to_user officer user answers))
    → TellsAll policy before after r (end_messages (live policy before) action ++ map (λ (m : Message). (officer, m)) answers)
answered_are_told policy before after r action officer answers told user =
    told user
    ∙ ap (λ (rs : List Report). stream policy before user ++ rs)
    (map_both (report_of r) (ended_of (live policy before) action user) (to_user officer user answers)
    ∙ ap (λ (rs : List Report). rs ++ map (report_of r) (to_user officer user answers)) (ended_are_owed (live policy before) r action user)
    ∙ ap (λ (rs : List Report). reports_to (map (report_to r) (end_messages (live policy before) action)) user ++ rs) (to_him r officer user answers)
    ∙ sym (owed_both user (map (report_to r) (end_messages (live policy before) action)) (map (report_to r) (map (addressed officer) answers)))
    ∙ ap (λ (os : List (UserName × Report)). reports_to os user) (sym (map_both (report_to r) (end_messages (live policy before) action) (map (addressed officer) answers))))

pub ended_are_told : (policy : PolicyData) (before after : List RecordData) (r : RecordData) (action : Action) (officer : UserName)
    → ((user : UserName) → stream policy after user ≡ stream policy before user ++ map (report_of r) (ended_of (live policy before) action user ++ to_user officer user []))
    → TellsAll policy before after r (end_messages (live policy before) action)
ended_are_told policy before after r action officer told user =
    answered_are_told policy before after r action officer [] told user
    ∙ ap (λ (os : List (UserName × Message)). stream policy before user ++ reports_to (map (report_to r) os) user) (append-nil (end_messages (live policy before) action))

pub one_among_all : (policy : PolicyData) (before after : List RecordData) (r : RecordData) (receiver : UserName) (told : List Message)
    → TellsOne policy before after r receiver told → TellsAll policy before after r (map (λ (m : Message). (receiver, m)) told)
one_among_all policy before after r receiver told h user = h user ∙ ap (λ (rs : List Report). stream policy before user ++ rs) (to_him r receiver user told)

pub none_for_one : (policy : PolicyData) (before after : List RecordData) (r : RecordData) (receiver : UserName)
    → TellsOne policy before after r receiver [] → TellsNobody policy before after
none_for_one policy before after r receiver h user = one_among_all policy before after r receiver [] h user ∙ append-nil (stream policy before user)

pub two_among_all : (policy : PolicyData) (before after : List RecordData) (r : RecordData) (first second : UserName) (one other : Message)
    → ((user : UserName)
    → stream policy after user ≡ stream policy before user ++ map (report_of r) (to_user first user (one ∷ []) ++ to_user second user (other ∷ [])))
    → TellsAll policy before after r ((first, one) ∷ (second, other) ∷ [])
two_among_all policy before after r first second one other told user =
    told user
    ∙ ap (λ (rs : List Report). stream policy before user ++ rs)
    (map_both (report_of r) (to_user first user (one ∷ [])) (to_user second user (other ∷ []))
    ∙ ap (λ (rs : List Report). rs ++ map (report_of r) (to_user second user (other ∷ []))) (to_him r first user (one ∷ []))
    ∙ ap (λ (rs : List Report). reports_to ((first, report_of r one) ∷ []) user ++ rs) (to_him r second user (other ∷ []))
    ∙ sym (owed_both user ((first, report_of r one) ∷ []) ((second, report_of r other) ∷ [])))
