-- The lists of users after one of them changed, and the reserved places.
use Rattle.std.proofs.{Common.{◌≡◌, ℕ, ◌+◌, ◌-◌, ◌<◌, ◌≤◌, max, Bool, true, false, not, ◌&&◌, cond, List, [], ◌∷◌, ◌++◌, length, map, refl, ◌∙◌, ap, sym, arith, true≢false, if◌then◌else◌}, lemmas.Bool.and_parts}
use Rattle.std.specs.{Prelude.{Option, Some, None, is_some, filter}, Option.option_map_or}
use Rattle.gx_units.specs.{Names.same_user, declared.names.UserName.UserName}
use Rattle.gx_units.proofs.Names_equal.{user_is, user_is_itself}
use Rattle.gx_history.specs.declared.report.Report.{Report}
use Rattle.gx_streams.specs.{Kept.{ReservedList, UserList, is_known, list_of, on_user, reserved_in, with_reserved_last, with_last, with_reserved}, Streams.{AllStreams, has_own_stream, mask_of, on_list_of}, Telling.{reports_to, with_all_reports, with_report}}
use Rattle.gx_streams.proofs.Users_table.{known_after}

abbrev picked : (ReservedList Report → ReservedList Report) → UserList Report → Bool → UserList Report
picked change l b = if b then record { user = l.user; kept = change l.kept } else l

-- what is found of the user is what was, changed
his : {Y : Type 0} (of : ReservedList Report → Y) (otherwise : Y) (user : UserName) (change : ReservedList Report → ReservedList Report) (lists : List (UserList Report))
    → option_map_or (λ (l : UserList Report). of l.kept) (list_of (on_user user change lists) user) otherwise
    ≡ option_map_or (λ (l : UserList Report). of (change l.kept)) (list_of lists user) otherwise
his of otherwise user change [] = refl
his {Y} of otherwise user change (l ∷ ls) = by (same_user user l.user) refl (his of otherwise user change ls)
  where
    found : Bool → UserList Report → Y
    found b m = option_map_or (λ (x : UserList Report). of x.kept) (cond b (Some m) (list_of (on_user user change ls) user)) otherwise

    was : Bool → Y
    was b = option_map_or (λ (x : UserList Report). of (change x.kept)) (cond b (Some l) (list_of ls user)) otherwise

    by : (b : Bool) → same_user user l.user ≡ b → found false l ≡ was false → found (same_user user (picked change l (same_user user l.user)).user) (picked change l (same_user user l.user)) ≡ was (same_user user l.user)
    by true is later = ap (λ b. found (same_user user (picked change l b).user) (picked change l b)) is ∙ ap (λ b. found b (picked change l true)) is ∙ sym (ap was is)
    by false is later = ap (λ b. found (same_user user (picked change l b).user) (picked change l b)) is ∙ ap (λ b. found b l) is ∙ later ∙ sym (ap was is)

-- and of another, what was
another : {Y : Type 0} (of : ReservedList Report → Y) (otherwise : Y) (user : UserName) (change : ReservedList Report → ReservedList Report) (other : UserName) → same_user user other ≡ false → (lists : List (UserList Report))
    → option_map_or (λ (l : UserList Report). of l.kept) (list_of (on_user user change lists) other) otherwise
    ≡ option_map_or (λ (l : UserList Report). of l.kept) (list_of lists other) otherwise
another of otherwise user change other apart [] = refl
another {Y} of otherwise user change other apart (l ∷ ls) = by (same_user user l.user) refl (same_user other l.user) refl (another of otherwise user change other apart ls)
  where
    found : List (UserList Report) → Bool → UserList Report → Y
    found rest b m = option_map_or (λ (x : UserList Report). of x.kept) (cond b (Some m) (list_of rest other)) otherwise

    by : (b : Bool) → same_user user l.user ≡ b → (d : Bool) → same_user other l.user ≡ d → found (on_user user change ls) false l ≡ found ls false l
        → found (on_user user change ls) (same_user other (picked change l (same_user user l.user)).user) (picked change l (same_user user l.user)) ≡ found ls (same_user other l.user) l
    by true is true is_other later =
        let named : other ≡ l.user = user_is other l.user is_other in
        absurd (true≢false (sym is ∙ ap (same_user user) (sym named) ∙ apart))
    by true is false is_other later =
        ap (λ b. found (on_user user change ls) (same_user other (picked change l b).user) (picked change l b)) is
        ∙ ap (λ b. found (on_user user change ls) b (picked change l true)) is_other ∙ later ∙ sym (ap (λ b. found ls b l) is_other)
    by false is true is_other later =
        ap (λ b. found (on_user user change ls) (same_user other (picked change l b).user) (picked change l b)) is
        ∙ ap (λ b. found (on_user user change ls) b l) is_other ∙ sym (ap (λ b. found ls b l) is_other)
    by false is false is_other later =
        ap (λ b. found (on_user user change ls) (same_user other (picked change l b).user) (picked change l b)) is
        ∙ ap (λ b. found (on_user user change ls) b l) is_other ∙ later ∙ sym (ap (λ b. found ls b l) is_other)

pub users_stay : (streams : AllStreams) (user : UserName) (change : ReservedList Report → ReservedList Report) (other : UserName) → has_own_stream (on_list_of user change streams) other ≡ has_own_stream streams other
users_stay streams user change other = ap (λ b. b && not (is_some (mask_of streams other))) (known_after streams.lists user other change)

pub others_keep : (streams : AllStreams) (user : UserName) (change : ReservedList Report → ReservedList Report) (other : UserName)
    → same_user user other ≡ false → reserved_in (on_list_of user change streams).lists other ≡ reserved_in streams.lists other
others_keep streams user change other apart = another (λ (k : ReservedList Report). k.reserved) 0 user change other apart streams.lists

pub none_taken : (streams : AllStreams) (user : UserName) (report : Report) (other : UserName) → reserved_in (on_list_of user (with_last report) streams).lists other ≡ reserved_in streams.lists other
none_taken streams user report other = by (same_user user other) refl
  where
    by : (b : Bool) → same_user user other ≡ b → reserved_in (on_list_of user (with_last report) streams).lists other ≡ reserved_in streams.lists other
    by true is =
        let named : user ≡ other = user_is user other is in
        ap (λ (u : UserName). reserved_in (on_list_of u (with_last report) streams).lists other) named ∙ his (λ (k : ReservedList Report). k.reserved) 0 other (with_last report) streams.lists
    by false is = others_keep streams user (with_last report) other is

one_less : (found : Option (UserList Report)) → option_map_or (λ (l : UserList Report). l.kept.reserved - 1) found 0 ≡ option_map_or (λ (l : UserList Report). l.kept.reserved) found 0 - 1
one_less None = refl
one_less (Some l) = refl

pub one_taken : (streams : AllStreams) (user : UserName) (report : Report) → reserved_in (on_list_of user (with_reserved_last report) streams).lists user ≡ reserved_in streams.lists user - 1
one_taken streams user report = his (λ (k : ReservedList Report). k.reserved) 0 user (with_reserved_last report) streams.lists ∙ one_less (list_of streams.lists user)

so_many : (found : Option (UserList Report)) (places : ℕ) → is_some found ≡ true
    → option_map_or (λ (l : UserList Report). max l.kept.reserved places) found 0 ≡ max (option_map_or (λ (l : UserList Report). l.kept.reserved) found 0) places
so_many None places known = absurd (true≢false (sym known))
so_many (Some l) places known = refl

pub places_kept : (streams : AllStreams) (user : UserName) (places : ℕ)
    → has_own_stream streams user ≡ true → reserved_in (on_list_of user (with_reserved places) streams).lists user ≡ max (reserved_in streams.lists user) places
places_kept streams user places told =
    let known : is_known streams.lists user ≡ true = (and_parts (is_known streams.lists user) (not (is_some (mask_of streams user))) told).0 in
    his (λ (k : ReservedList Report). k.reserved) 0 user (with_reserved places) streams.lists ∙ so_many (list_of streams.lists user) places known

-- how many are owed to the user, by whether the first is
count_at : (o : UserName × Report) (owed : List (UserName × Report)) (user : UserName) (b : Bool) → same_user o.0 user ≡ b
    → length (reports_to (o ∷ owed) user) ≡ (if b then length (reports_to owed user) + 1 else length (reports_to owed user))
count_at o owed user true is = ap (λ b. length (map (λ (x : UserName × Report). x.1) (cond b (o ∷ filter (λ (x : UserName × Report). same_user x.0 user) owed) (filter (λ (x : UserName × Report). same_user x.0 user) owed)))) is ∙ omega arith
count_at o owed user false is = ap (λ b. length (map (λ (x : UserName × Report). x.1) (cond b (o ∷ filter (λ (x : UserName × Report). same_user x.0 user) owed) (filter (λ (x : UserName × Report). same_user x.0 user) owed)))) is

pub owed_taken : (streams : AllStreams) (owed : List (UserName × Report)) (user : UserName) → reserved_in (with_all_reports owed streams).lists user ≡ reserved_in streams.lists user - length (reports_to owed user)
owed_taken streams [] user = omega arith
owed_taken streams (o ∷ owed) user = by (same_user o.0 user) refl (owed_taken (with_report streams o) owed user)
  where
    by : (b : Bool) → same_user o.0 user ≡ b
        → reserved_in (with_all_reports owed (with_report streams o)).lists user ≡ reserved_in (with_report streams o).lists user - length (reports_to owed user)
        → reserved_in (with_all_reports owed (with_report streams o)).lists user ≡ reserved_in streams.lists user - length (reports_to (o ∷ owed) user)
    by true is later =
        let named : o.0 ≡ user = user_is o.0 user is in
        let one : reserved_in (with_report streams o).lists user ≡ reserved_in streams.lists user - 1 =
        ap (λ (u : UserName). reserved_in (on_list_of u (with_reserved_last o.1) streams).lists user) named ∙ one_taken streams user o.1
        in
        let count : length (reports_to (o ∷ owed) user) ≡ length (reports_to owed user) + 1 = count_at o owed user true is in
        omega (arith, later, one, count)
    by false is later =
        let none : reserved_in (with_report streams o).lists user ≡ reserved_in streams.lists user = others_keep streams o.0 (with_reserved_last o.1) user is in
        let count : length (reports_to (o ∷ owed) user) ≡ length (reports_to owed user) = count_at o owed user false is in
        omega (arith, later, none, count)

pub count_of_both : (before behind : List (UserName × Report)) (user : UserName) → length (reports_to (before ++ behind) user) ≡ length (reports_to before user) + length (reports_to behind user)
count_of_both [] behind user = omega arith
count_of_both (o ∷ before) behind user = by (same_user o.0 user) refl (count_of_both before behind user)
  where
    by : (b : Bool) → same_user o.0 user ≡ b → length (reports_to (before ++ behind) user) ≡ length (reports_to before user) + length (reports_to behind user)
        → length (reports_to (o ∷ (before ++ behind)) user) ≡ length (reports_to (o ∷ before) user) + length (reports_to behind user)
    by true is later =
        let first : length (reports_to (o ∷ (before ++ behind)) user) ≡ length (reports_to (before ++ behind) user) + 1 = count_at o (before ++ behind) user true is in
        let second : length (reports_to (o ∷ before) user) ≡ length (reports_to before user) + 1 = count_at o before user true is in
        omega (arith, first, second, later)
    by false is later =
        let first : length (reports_to (o ∷ (before ++ behind)) user) ≡ length (reports_to (before ++ behind) user) = count_at o (before ++ behind) user false is in
        let second : length (reports_to (o ∷ before) user) ≡ length (reports_to before user) = count_at o before user false is in
        omega (arith, first, second, later)

pub each_has_a_place : (streams : AllStreams) (before : List (UserName × Report)) (o : UserName × Report) (behind : List (UserName × Report))
    → length (reports_to (before ++ o ∷ behind) o.0) ≤ reserved_in streams.lists o.0 → 0 < reserved_in (with_all_reports before streams).lists o.0
each_has_a_place streams before o behind enough =
    let left : reserved_in (with_all_reports before streams).lists o.0 ≡ reserved_in streams.lists o.0 - length (reports_to before o.0) = owed_taken streams before o.0 in
    let whole : length (reports_to (before ++ o ∷ behind) o.0) ≡ length (reports_to before o.0) + length (reports_to (o ∷ behind) o.0) = count_of_both before (o ∷ behind) o.0 in
    let own : length (reports_to (o ∷ behind) o.0) ≡ length (reports_to behind o.0) + 1 = count_at o behind o.0 true (user_is_itself o.0) in
    omega (arith, enough, left, whole, own)
