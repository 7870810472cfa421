-- What a fill tells each user.
use Rattle.std.proofs.{Common.{◌≡◌, ℕ, ◌≤◌, length, Bool, true, false, true≢false, List, [], ◌∷◌, ◌++◌, map, refl, ◌∙◌, ap, sym, if◌then◌else◌}, lemmas.List.append-nil}
use Rattle.std.specs.{Prelude.{Option, Some, None, option_to_list, ◌==◌}, Option.option_map_or, List.{AllByRecursion, flat_map}}
use Rattle.gx_units.specs.{Names.same_user, declared.names.UserName.UserName}
use Rattle.gx_units.proofs.{Names_equal.user_is, Lists_hold.{all_both, all_mapped}}
use Rattle.gx_ouch.specs.declared.{outbound.{Executed.Executed, Outbound.Outbound}, letters.Liquidity.Liquidity}
use Rattle.gx_desk.specs.declared.DropCopy.{DropCopy}
use Rattle.gx_policy.specs.{declared.policy.PolicyData.PolicyData, People.{is_reader, role_in}}
use Rattle.gx_history.specs.{declared.{«record».{RecordData.RecordData, Verdict.Verdict, Fill.Fill}, report.{Message.Message, Report.Report}}, Executions.{Execution, sides, side_of as side_of_fill}, Orders.{Order, order_numbered, orders}, InForce.is_entitled, Masks.mask_by, Streams.{copies_of, copy_of as drop_copy_of, executed_message, report_of, reports_of, reports_of_execution, reports_of_verdict}}
use Rattle.gx_laws.proofs.{Masks_bits.has_where, Streams_next.stream_next, Orders_owned.{IsHisAccounts, orders_are_their_users}, Records_idle.others_not}
use Rattle.gx_streams.specs.{declared.fill.{FillRole.FillRole, ReportedFill.ReportedFill}, Fills.{fill_copy, copy_report, executed_of, executed_report, executed_to, fill_side}, Kept.UserList, Sending.{AreSent, IsMadeBy, IsSide}, Streams.{AllStreams, ReaderMask, fill_reports, with_fill, with_fill_reports}, Telling.{each_with_more, shown_streams, shown_list, reports_after, with_more}}
use Rattle.gx_streams.specs.Fills as fills
use Rattle.gx_streams.proofs.{Copies_only.all_found, Reports_told.{each_told_same, more_told}}

-- ---- a fill is shown last of those whom it tells

shown_each : (readers : List ReaderMask) (f : ReportedFill) (lists : List (UserList Report)) → map shown_list (map (with_fill_reports readers f) lists) ≡ each_with_more (fill_reports readers f) (map shown_list lists)
shown_each readers f [] = refl
shown_each readers f (l ∷ ls) = ap (λ rest. with_more (fill_reports readers f) (shown_list l) ∷ rest) (shown_each readers f ls)

pub fill_is_shown : (streams : AllStreams) (f : ReportedFill) → shown_streams (with_fill f streams) ≡ each_with_more (fill_reports streams.readers f) (shown_streams streams)
unfolding shown_streams
fill_is_shown streams f = shown_each streams.readers f streams.lists

-- ---- what the record owes is what the fill tells

one_if : {X : Type 0} → Bool → X → List X
one_if b x = if b then x ∷ [] else []

two_reported : (r : RecordData) (a b : Bool) (m n : Message) → map (report_of r) (one_if a m ++ (one_if b n ++ [])) ≡ one_if a (report_of r m) ++ one_if b (report_of r n)
unfolding one_if
two_reported r true true m n = refl
two_reported r true false m n = refl
two_reported r false true m n = refl
two_reported r false false m n = refl

executed_to_him : RecordData → Execution → Message
executed_to_him r e = Message.Order (Outbound.Executed (executed_message r e))

copy_for_him : RecordData → Execution → Message
copy_for_him r e = Message.DropCopy (record { executed = executed_message r e; account = e.order.account; side = e.order.terms.side })

-- what the record owes, by whose each side is and who is entitled to it
owed_by : {policy : PolicyData} {history : List RecordData} (r : RecordData) (user : UserName) (f : ReportedFill) (is : IsMadeBy policy history r f)
    → reports_of policy user (history, r)
    ≡ (one_if (same_user is.taker.order.user user) (report_of r (executed_to_him r is.taker)) ++ one_if (same_user is.maker.order.user user) (report_of r (executed_to_him r is.maker)))
    ++ (one_if (is_entitled policy history user is.taker.order.account) (report_of r (copy_for_him r is.taker)) ++ one_if (is_entitled policy history user is.maker.order.account) (report_of r (copy_for_him r is.maker)))
unfolding one_if executed_to_him copy_for_him
owed_by {policy} {history} r user f is =
    ap (λ (v : Verdict). map (report_of r) (reports_of_verdict policy history r v r.step user) ++ copies_of policy user (history, r)) is.fills
    ∙ ap (λ (v : Verdict). map (report_of r) (flat_map (reports_of_execution r user) (sides policy history v)) ++ copies_of policy user (history, r)) (sym is.fills)
    ∙ ap (λ (es : List Execution). map (report_of r) (flat_map (reports_of_execution r user) es) ++ map (report_of r) (flat_map (drop_copy_of (is_entitled policy history) r user) es)) is.sides_are
    ∙ ap (λ (rs : List Report). rs ++ map (report_of r) (flat_map (drop_copy_of (is_entitled policy history) r user) (is.taker ∷ is.maker ∷ [])))
    (two_reported r (same_user is.taker.order.user user) (same_user is.maker.order.user user) (executed_to_him r is.taker) (executed_to_him r is.maker))
    ∙ ap (λ (rs : List Report). (one_if (same_user is.taker.order.user user) (report_of r (executed_to_him r is.taker)) ++ one_if (same_user is.maker.order.user user) (report_of r (executed_to_him r is.maker))) ++ rs)
    (two_reported r (is_entitled policy history user is.taker.order.account) (is_entitled policy history user is.maker.order.account) (copy_for_him r is.taker) (copy_for_him r is.maker))

order_report : ℕ → Executed → Report
order_report moment e = record { timestamp = moment; message = Message.Order (Outbound.Executed e) }

copied : ℕ → DropCopy → Report
copied moment c = record { timestamp = moment; message = Message.DropCopy c }

executed_is : {policy : PolicyData} (r : RecordData) (e : Execution) (f : ReportedFill) (party : FillRole) → f.moment ≡ r.moment → IsSide policy r e f party → executed_report f party ≡ report_of r (executed_to_him r e)
unfolding order_report executed_to_him
executed_is r e f party at is = ap (λ n. order_report n (fills.executed_of_fill f party)) at ∙ ap (order_report r.moment) is.executed

copy_is : {policy : PolicyData} (r : RecordData) (e : Execution) (f : ReportedFill) (party : FillRole) → f.moment ≡ r.moment → IsSide policy r e f party → copy_report f party ≡ report_of r (copy_for_him r e)
unfolding copied copy_for_him
copy_is r e f party at is =
    ap (λ n. copied n (record { executed = fills.executed_of_fill f party; account = (fill_side f party).account; side = (fill_side f party).side })) at
    ∙ ap (λ x. copied r.moment (record { executed = x; account = (fill_side f party).account; side = (fill_side f party).side })) is.executed
    ∙ ap (λ x. copied r.moment (record { executed = executed_message r e; account = x; side = (fill_side f party).side })) is.account
    ∙ ap (λ x. copied r.moment (record { executed = executed_message r e; account = e.order.account; side = x })) is.side

-- a party's copy, by the mask in force
copied_where : {policy : PolicyData} (history : List RecordData) (r : RecordData) (user : UserName) (e : Execution) (f : ReportedFill) (party : FillRole) → length policy.accounts ≤ 64 → f.moment ≡ r.moment → IsSide policy r e f party
    → fill_copy (mask_by (is_entitled policy history user) policy.accounts) f party ≡ one_if (is_entitled policy history user e.order.account) (report_of r (copy_for_him r e))
unfolding one_if
copied_where {policy} history r user e f party few at is =
    ap (λ b. if b then copy_report f party ∷ [] else []) (has_where (is_entitled policy history user) policy.accounts (fill_side f party).account_place e.order.account few is.place)
    ∙ ap (λ (x : Report). if is_entitled policy history user e.order.account then x ∷ [] else []) (copy_is r e f party at is)

-- a party's report, to its user
executed_where : {policy : PolicyData} (r : RecordData) (user : UserName) (e : Execution) (f : ReportedFill) (party : FillRole) → f.moment ≡ r.moment → IsSide policy r e f party
    → executed_to f user party ≡ one_if (same_user e.order.user user) (report_of r (executed_to_him r e))
unfolding one_if
executed_where r user e f party at is =
    ap (λ (name : UserName). if same_user name user then executed_report f party ∷ [] else []) is.user
    ∙ ap (λ (x : Report). if same_user e.order.user user then x ∷ [] else []) (executed_is r e f party at is)

-- no side is a reader's
not_his : {policy : PolicyData} (r : RecordData) (user : UserName) (e : Execution) (f : ReportedFill) (party : FillRole) → IsSide policy r e f party → is_reader (role_in policy.users user) ≡ true
    → same_user e.order.user user ≡ false
not_his {policy} r user e f party is reads = by (same_user e.order.user user) refl
  where
    by : (b : Bool) → same_user e.order.user user ≡ b → b ≡ false
    by true same = absurd (true≢false (sym reads ∙ ap (λ (name : UserName). is_reader (role_in policy.users name)) (sym (user_is e.order.user user same)) ∙ is.reads_not))
    by false same = refl

pub told_is_owed : {policy : PolicyData} {history : List RecordData} (r : RecordData) (streams : AllStreams) (f : ReportedFill) → length policy.accounts ≤ 64
    → AreSent policy history streams → IsMadeBy policy history r f → (user : UserName) → fill_reports streams.readers f user ≡ reports_of policy user (history, r)
unfolding one_if
told_is_owed {policy} {history} r streams f few sent is user =
    ap (λ (o : Option ℕ). option_map_or (λ (mask : ℕ). fills.fill_copies mask f) o (executed_of f user)) (sent user)
    ∙ by (is_reader (role_in policy.users user)) refl
    ∙ sym (owed_by r user f is)
  where
    told : Bool → List Report
    told b = option_map_or (λ (mask : ℕ). fills.fill_copies mask f) (if b then Some (mask_by (is_entitled policy history user) policy.accounts) else None) (executed_of f user)

    own : Bool → Bool → List Report
    own a b = one_if a (report_of r (executed_to_him r is.taker)) ++ one_if b (report_of r (executed_to_him r is.maker))

    seen : Bool → Bool → List Report
    seen a b = one_if a (report_of r (copy_for_him r is.taker)) ++ one_if b (report_of r (copy_for_him r is.maker))

    by : (b : Bool) → is_reader (role_in policy.users user) ≡ b
        → told (is_reader (role_in policy.users user))
        ≡ own (same_user is.taker.order.user user) (same_user is.maker.order.user user) ++ seen (is_entitled policy history user is.taker.order.account) (is_entitled policy history user is.maker.order.account)
    by true reads =
        ap told reads
        ∙ ap (λ (rs : List Report). rs ++ fill_copy (mask_by (is_entitled policy history user) policy.accounts) f FillRole.Maker) (copied_where history r user is.taker f FillRole.Taker few is.moment is.takers)
        ∙ ap (λ (rs : List Report). one_if (is_entitled policy history user is.taker.order.account) (report_of r (copy_for_him r is.taker)) ++ rs) (copied_where history r user is.maker f FillRole.Maker few is.moment is.makers)
        ∙ sym (ap (λ a. own a (same_user is.maker.order.user user) ++ seen (is_entitled policy history user is.taker.order.account) (is_entitled policy history user is.maker.order.account)) (not_his r user is.taker f FillRole.Taker is.takers reads)
        ∙ ap (λ b. own false b ++ seen (is_entitled policy history user is.taker.order.account) (is_entitled policy history user is.maker.order.account)) (not_his r user is.maker f FillRole.Maker is.makers reads))
    by false reads_not =
        ap told reads_not
        ∙ ap (λ (rs : List Report). rs ++ executed_to f user FillRole.Maker) (executed_where r user is.taker f FillRole.Taker is.moment is.takers)
        ∙ ap (λ (rs : List Report). one_if (same_user is.taker.order.user user) (report_of r (executed_to_him r is.taker)) ++ rs) (executed_where r user is.maker f FillRole.Maker is.moment is.makers)
        ∙ sym (append-nil (own (same_user is.taker.order.user user) (same_user is.maker.order.user user)))
        ∙ sym (ap (λ a. own (same_user is.taker.order.user user) (same_user is.maker.order.user user) ++ seen a (is_entitled policy history user is.maker.order.account)) (others_not policy history user is.taker.order.account reads_not)
        ∙ ap (λ b. own (same_user is.taker.order.user user) (same_user is.maker.order.user user) ++ seen false b) (others_not policy history user is.maker.order.account reads_not))

pub stays_by_fill : (policy : PolicyData) (history : List RecordData) (r : RecordData) (streams : AllStreams) (f : ReportedFill) → length policy.accounts ≤ 64
    → shown_streams streams ≡ reports_after policy history → AreSent policy history streams → IsMadeBy policy history r f → shown_streams (with_fill f streams) ≡ reports_after policy (history ++ r ∷ [])
stays_by_fill policy history r streams f few h sent is =
    fill_is_shown streams f
    ∙ ap (each_with_more (fill_reports streams.readers f)) h
    ∙ each_told_same (fill_reports streams.readers f) (λ user. reports_of policy user (history, r)) (told_is_owed r streams f few sent is) (reports_after policy history)
    ∙ sym (more_told policy history (history ++ r ∷ []) (λ user. reports_of policy user (history, r)) (stream_next policy history r))

-- ---- whose the sides are

side_is_his : (policy : PolicyData) (known : List Order) (f : Fill) (liquidity : Liquidity) (number : ℕ) → AllByRecursion (IsHisAccounts policy) known
    → AllByRecursion (λ (e : Execution). IsHisAccounts policy e.order) (side_of_fill known f liquidity number)
side_is_his policy known f liquidity number h =
    all_mapped (λ (e : Execution). IsHisAccounts policy e.order) (λ (o : Order). let e : Execution = record { fill = f; liquidity = liquidity; order = o } in e) (option_to_list (order_numbered known number))
    (all_found (IsHisAccounts policy) (λ (o : Order). o.number == number) known h)

-- each side of a fill is of an order for its user's account
pub sides_are_his : (policy : PolicyData) (history : List RecordData) (f : Fill) → AllByRecursion (λ (e : Execution). IsHisAccounts policy e.order) (sides policy history (Verdict.Filled f))
sides_are_his policy history f =
    let known : List Order = orders policy history in
    let his : AllByRecursion (IsHisAccounts policy) known = orders_are_their_users policy history in
    all_both (λ (e : Execution). IsHisAccounts policy e.order) (side_of_fill known f Liquidity.Removed f.taker) (side_of_fill known f Liquidity.Added f.maker)
    (side_is_his policy known f Liquidity.Removed f.taker his) (side_is_his policy known f Liquidity.Added f.maker his)
