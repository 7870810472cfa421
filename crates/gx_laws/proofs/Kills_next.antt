-- What one more record does to the Kill of an account.
use Rattle.std.proofs.{Common.{◌≡◌, Bool, true, false, not, List, [], ◌∷◌, ◌++◌, refl, ◌∙◌, ap, sym, cond}, lemmas.List.{append-nil, Elements.{filter-append, filter_map-append}}}
use Rattle.std.specs.{Prelude.{Option, Some, None, is_some, is_none, option_map, option_and_then, ◌||◌}, Option.option_or, List.{cons_option, filter, filter_map, list_any}}
use Rattle.gx_units.specs.{Names.same_user, declared.names.{AccountName.AccountName, UserName.UserName}}
use Rattle.gx_units.proofs.Names_equal.{user_is}
use Rattle.gx_policy.specs.{declared.policy.{Lifters.Lifters, PolicyData.PolicyData}, Lists.{behind_last, once, where_true}}
use Rattle.gx_history.specs.{declared.record.RecordData.RecordData, InForce.{fewer_than, has_lifted, is_killed, kill_after, kill_in_force, kill_or_lift_of, kills_and_lifts, lifters_asked, officers_of, with_officer}, Requests.granted_mark}

behind_last_next : {X : Type 0} (test : X → Bool) (xs : List X) (x : X)
    → behind_last test (xs ++ x ∷ []) ≡ cond (test x) (Some []) (option_map (λ (ys : List X). ys ++ x ∷ []) (behind_last test xs))
behind_last_next {X} test [] x =
    elim (test x) as (λ b. option_or None (where_true b []) ≡ cond b (Some []) (option_map (λ (ys : List X). ys ++ x ∷ []) None)) [ true ↦ refl | false ↦ refl ]
behind_last_next {X} test (y ∷ ys) x =
    ap (λ (o : Option (List X)). option_or o (where_true (test y) (ys ++ x ∷ []))) (behind_last_next test ys x)
    ∙ there (test x) (test y) (behind_last test ys)
  where
    more : List X → List X
    more zs = zs ++ x ∷ []

    there : (b c : Bool) (o : Option (List X)) → option_or (cond b (Some []) (option_map more o)) (where_true c (ys ++ x ∷ [])) ≡ cond b (Some []) (option_map more (option_or o (where_true c ys)))
    there true c o = refl
    there false true None = refl
    there false false None = refl
    there false c (Some zs) = refl

once_next : {X : Type 0} (same : X → X → Bool) (xs : List X) (x : X)
    → once same (xs ++ x ∷ []) ≡ cond (list_any (λ y. same y x) xs) (once same xs) (once same xs ++ x ∷ [])
once_next same [] x = refl
once_next {X} same (y ∷ ys) x =
    ap (λ (zs : List X). y ∷ filter others zs) (once_next same ys x) ∙ by (list_any (λ z. same z x) ys) (same y x) refl
  where
    others : X → Bool
    others z = not (same y z)

    kept : (b : Bool) → same y x ≡ b → filter others (x ∷ []) ≡ cond b [] (x ∷ [])
    kept b is = ap (λ (c : Bool). cond (not c) (x ∷ []) []) is ∙ elim b as (λ b. cond (not b) (x ∷ []) [] ≡ cond b [] (x ∷ [])) [ true ↦ refl | false ↦ refl ]

    by : (met : Bool) (b : Bool) → same y x ≡ b
        → y ∷ filter others (cond met (once same ys) (once same ys ++ x ∷ [])) ≡ cond (same y x || met) (y ∷ filter others (once same ys)) (y ∷ filter others (once same ys) ++ x ∷ [])
    by true true is = ap (λ (c : Bool). cond (c || true) (y ∷ filter others (once same ys)) (y ∷ filter others (once same ys) ++ x ∷ [])) (sym is)
    by true false is = ap (λ (c : Bool). cond (c || true) (y ∷ filter others (once same ys)) (y ∷ filter others (once same ys) ++ x ∷ [])) (sym is)
    by false true is =
        ap (λ (zs : List X). y ∷ zs) (filter-append others (once same ys) (x ∷ []) ∙ ap (λ (zs : List X). filter others (once same ys) ++ zs) (kept true is) ∙ append-nil (filter others (once same ys)))
        ∙ ap (λ (c : Bool). cond (c || false) (y ∷ filter others (once same ys)) (y ∷ filter others (once same ys) ++ x ∷ [])) (sym is)
    by false false is =
        ap (λ (zs : List X). y ∷ zs) (filter-append others (once same ys) (x ∷ []) ∙ ap (λ (zs : List X). filter others (once same ys) ++ zs) (kept false is))
        ∙ ap (λ (c : Bool). cond (c || false) (y ∷ filter others (once same ys)) (y ∷ filter others (once same ys) ++ x ∷ [])) (sym is)

-- what is left out fails the test, so that some pass where some passed
any_kept : {X : Type 0} (keep test : X → Bool) → ((x : X) → keep x ≡ false → test x ≡ false) → (xs : List X) → list_any test (filter keep xs) ≡ list_any test xs
any_kept keep test fails [] = refl
any_kept {X} keep test fails (x ∷ xs) = by (keep x) refl (any_kept keep test fails xs)
  where
    by : (b : Bool) → keep x ≡ b → list_any test (filter keep xs) ≡ list_any test xs → list_any test (cond (keep x) (x ∷ filter keep xs) (filter keep xs)) ≡ (test x || list_any test xs)
    by true is deeper = ap (λ (c : Bool). list_any test (cond c (x ∷ filter keep xs) (filter keep xs))) is ∙ ap (λ (c : Bool). test x || c) deeper
    by false is deeper =
        ap (λ (c : Bool). list_any test (cond c (x ∷ filter keep xs) (filter keep xs))) is
        ∙ deeper
        ∙ ap (λ (c : Bool). c || list_any test xs) (sym (fails x is))

once_has : (officer : UserName) (officers : List UserName) → has_lifted officer (once same_user officers) ≡ has_lifted officer officers
once_has officer [] = refl
once_has officer (first ∷ more) = by (same_user first officer) refl (once_has officer more)
  where
    others : UserName → Bool
    others other = not (same_user first other)

    is_not : (b c : Bool) → not b ≡ false → (b ≡ true → c ≡ false) → c ≡ false
    is_not true c h leads = leads refl
    is_not false c h leads = cc

    by : (b : Bool) → same_user first officer ≡ b → has_lifted officer (once same_user more) ≡ has_lifted officer more
        → (same_user first officer || list_any (λ other. same_user other officer) (filter others (once same_user more))) ≡ (same_user first officer || has_lifted officer more)
    by true is deeper = ap (λ (c : Bool). c || list_any (λ other. same_user other officer) (filter others (once same_user more))) is ∙ ap (λ (c : Bool). c || has_lifted officer more) (sym is)
    by false is deeper = ap (λ (c : Bool). same_user first officer || c) (
        any_kept others (λ other. same_user other officer)
        (λ (other : UserName) h. is_not (same_user first other) (same_user other officer) h
        (λ same. ap (λ (name : UserName). same_user name officer) (sym (user_is first other same)) ∙ is))
        (once same_user more)
        ∙ deeper)

-- one Lift more
officers_next : (lifts : List (Option UserName)) (officer : UserName) → officers_of (lifts ++ Some officer ∷ []) ≡ with_officer officer (officers_of lifts)
officers_next lifts officer =
    ap (once same_user) (filter_map-append (λ lift. lift) lifts (Some officer ∷ []))
    ∙ once_next same_user officers officer
    ∙ ap (λ (b : Bool). cond b (once same_user officers) (once same_user officers ++ officer ∷ [])) (sym (once_has officer officers))
  where
    officers : List UserName
    officers = filter_map (λ lift. lift) lifts

-- who are as many as are asked for stay so
still_enough : (asked : Lifters) (officers : List UserName) (officer : UserName)
    → fewer_than (lifters_asked asked) (with_officer officer officers)
    ≡ option_and_then (λ (found : List UserName). fewer_than (lifters_asked asked) (with_officer officer found)) (fewer_than (lifters_asked asked) officers)
still_enough Lifters.One [] officer = refl
still_enough Lifters.One (first ∷ more) officer = by (has_lifted officer (first ∷ more))
  where
    by : (b : Bool) → fewer_than 1 (cond b (first ∷ more) (first ∷ more ++ officer ∷ [])) ≡ None
    by true = refl
    by false = refl
still_enough Lifters.Two [] officer = refl
still_enough Lifters.Two (first ∷ []) officer = refl
still_enough Lifters.Two (first ∷ second ∷ more) officer = by (has_lifted officer (first ∷ second ∷ more))
  where
    by : (b : Bool) → fewer_than 2 (cond b (first ∷ second ∷ more) (first ∷ second ∷ more ++ officer ∷ [])) ≡ None
    by true = refl
    by false = refl

-- a Kill that nobody has lifted is in force, however many officers are asked for
fresh_kill : (asked : Lifters) → fewer_than (lifters_asked asked) [] ≡ Some []
fresh_kill Lifters.One = refl
fresh_kill Lifters.Two = refl

abbrev kill_of : Lifters → List (Option UserName) → Option (List UserName)
kill_of asked marks = option_and_then (fewer_than (lifters_asked asked)) (option_map officers_of (behind_last is_none marks))

one_more : (asked : Lifters) (marks : List (Option UserName)) (mark : Option UserName) → kill_of asked (marks ++ mark ∷ []) ≡ kill_after asked (Some mark) (kill_of asked marks)
one_more asked marks None =
    ap (λ (o : Option (List (Option UserName))). option_and_then (fewer_than (lifters_asked asked)) (option_map officers_of o)) (behind_last_next is_none marks None)
    ∙ fresh_kill asked
one_more asked marks (Some officer) =
    ap (λ (o : Option (List (Option UserName))). option_and_then (fewer_than (lifters_asked asked)) (option_map officers_of o)) (behind_last_next is_none marks (Some officer))
    ∙ by (behind_last is_none marks)
  where
    by : (o : Option (List (Option UserName)))
        → option_and_then (fewer_than (lifters_asked asked)) (option_map officers_of (option_map (λ (ys : List (Option UserName)). ys ++ Some officer ∷ []) o))
        ≡ kill_after asked (Some (Some officer)) (option_and_then (fewer_than (lifters_asked asked)) (option_map officers_of o))
    by None = refl
    by (Some lifts) = ap (fewer_than (lifters_asked asked)) (officers_next lifts officer) ∙ still_enough asked (officers_of lifts) officer

marked : (asked : Lifters) (marks : List (Option UserName)) (mark : Option (Option UserName)) → kill_of asked (marks ++ cons_option mark []) ≡ kill_after asked mark (kill_of asked marks)
marked asked marks None = ap (kill_of asked) (append-nil marks)
marked asked marks (Some mark) = one_more asked marks mark

pub kill_in_force_none : (policy : PolicyData) (account : AccountName) → kill_in_force policy [] account ≡ None
unfolding kill_in_force
kill_in_force_none policy account = refl

pub kill_in_force_next : (policy : PolicyData) (history : List RecordData) (r : RecordData) (account : AccountName)
    → kill_in_force policy (history ++ r ∷ []) account ≡ kill_after policy.lifters (granted_mark (kill_or_lift_of account) r) (kill_in_force policy history account)
unfolding kill_in_force
kill_in_force_next policy history r account =
    ap (kill_of policy.lifters) (filter_map-append (granted_mark (kill_or_lift_of account)) history (r ∷ []))
    ∙ marked policy.lifters (kills_and_lifts history account) (granted_mark (kill_or_lift_of account) r)

pub is_killed_next : (policy : PolicyData) (history : List RecordData) (r : RecordData) (account : AccountName)
    → is_killed policy (history ++ r ∷ []) account ≡ is_some (kill_after policy.lifters (granted_mark (kill_or_lift_of account) r) (kill_in_force policy history account))
is_killed_next policy history r account = ap is_some (kill_in_force_next policy history r account)
