-- In a legal history the orders are the granted Enters and Replaces, and no user has two under one token.
use Rattle.std.proofs.{Common.{◌≡◌, ℕ, Bool, true, false, List, [], ◌∷◌, ◌++◌, refl, ◌∙◌, ap, sym, map, cond, inl, inr}, Math.Path.subst, lemmas.List.{map-append, append-nil, Elements.filter-append}}
use Rattle.std.specs.{Prelude.{Option, ◌&&◌, ◌||◌, not, filter}, Option.option_map_or, List.{list_any, AllByRecursion}}
use Rattle.gx_units.specs.{Names.{same_user, same_token}, declared.names.{UserName.UserName, Token.Token}}
use Rattle.gx_policy.specs.{declared.policy.PolicyData.PolicyData, Lists.are_distinct}
use Rattle.gx_history.specs.{declared.record.{Asked.Asked, RecordData.RecordData, Verdict.Verdict}, Orders.{Order, orders, is_token_used, record_uses, uses_token, asks_under}, Requests.{asked_of, is_order, new_token}, Verdicts.{Follows, IsLegal}}
use Rattle.gx_laws.specs.HistoryLaws.{grants_order, is_same_token}
use Rattle.gx_laws.proofs.{Orders_added.{AddsNone, AddsOne, what_is_added, added_is_unused, granted_is}, Requests_judged.legal_keeps, Orders_next.{orders_none, orders_next, is_token_used_next}}
use Rattle.gx_units.proofs.{Test_known.or_true, Names_equal.{user_is, token_is, user_is_itself, token_is_itself}, Lists_hold.{all_weaker, all_both}}

abbrev number_of_order : Order → ℕ
number_of_order o = o.number

abbrev number_of_record : RecordData → ℕ
number_of_record r = r.number

abbrev AreGrants : PolicyData → List RecordData → Type 0
AreGrants policy history = map number_of_order (orders policy history) ≡ map number_of_record (filter grants_order history)

one_more_grant : {policy : PolicyData} {history : List RecordData} (r : RecordData) → AreGrants policy history → Follows policy (history, r) → AreGrants policy (history ++ r ∷ [])
one_more_grant {policy} {history} r same follows = elim (what_is_added r follows) [ inl none ↦ of_none none | inr one ↦ of_one one ]
  where
    of_none : AddsNone policy history r → AreGrants policy (history ++ r ∷ [])
    of_none none =
        ap (map number_of_order) (orders_next policy history r ∙ ap (λ (more : List Order). orders policy history ++ more) none.adds ∙ append-nil (orders policy history))
        ∙ same
        ∙ sym (ap (map number_of_record) (filter-append grants_order history (r ∷ [])
        ∙ ap (λ (b : Bool). filter grants_order history ++ cond b (r ∷ []) []) none.grants_none ∙ append-nil (filter grants_order history)))

    of_one : AddsOne policy history r → AreGrants policy (history ++ r ∷ [])
    of_one one =
        let grants : grants_order r ≡ true = ap (λ (g : Option Asked). option_map_or (λ (a : Asked). is_order a.request) g false) (granted_is r one.a one.asks one.grants) ∙ one.is_for_order in
        ap (map number_of_order) (orders_next policy history r ∙ ap (λ (more : List Order). orders policy history ++ more) one.adds)
        ∙ map-append number_of_order (orders policy history) (one.o ∷ [])
        ∙ ap (λ (ns : List ℕ). ns ++ one.o.number ∷ []) same
        ∙ ap (λ (n : ℕ). map number_of_record (filter grants_order history) ++ n ∷ []) one.numbered
        ∙ sym (ap (map number_of_record) (filter-append grants_order history (r ∷ []) ∙ ap (λ (b : Bool). filter grants_order history ++ cond b (r ∷ []) []) grants)
        ∙ map-append number_of_record (filter grants_order history) (r ∷ []))

-- the orders are the granted Enters and Replaces, in the order of the records
pub orders_are_grants : (policy : PolicyData) (history : List RecordData) → IsLegal policy history
    → map (λ (o : Order). o.number) (orders policy history) ≡ map (λ (r : RecordData). r.number) (filter grants_order history)
orders_are_grants policy history legal =
    legal_keeps (AreGrants policy) (ap (map number_of_order) (orders_none policy)) (λ h r same follows. one_more_grant r same follows) legal

-- a list of distinct ones, and one more
pub distinct_next : {X : Type 0} (same : X → X → Bool) (xs : List X) (x : X) → are_distinct same xs ≡ true → AllByRecursion (λ (y : X). same y x ≡ false) xs → are_distinct same (xs ++ x ∷ []) ≡ true
distinct_next same [] x h differs = refl
distinct_next {X} same (y ∷ xs) x h differs =
    ap (λ (b : Bool). not b && are_distinct same (xs ++ x ∷ [])) (none_later xs (not_first _ _ h) differs.0) ∙ distinct_next same xs x (second _ _ h) differs.1
  where
    not_first : (b c : Bool) → (not b && c) ≡ true → b ≡ false
    not_first true c k = cc
    not_first false c k = refl

    second : (b c : Bool) → (not b && c) ≡ true → c ≡ true
    second true c k = cc
    second false c k = k

    both_not : (b c d : Bool) → (b || c) ≡ false → (c ≡ false → d ≡ false) → (b || d) ≡ false
    both_not true c d k step = cc
    both_not false c d k step = step k

    none_later : (zs : List X) → list_any (same y) zs ≡ false → same y x ≡ false → list_any (same y) (zs ++ x ∷ []) ≡ false
    none_later [] k last = ap (λ (b : Bool). b || false) last
    none_later (z ∷ zs) k last = both_not (same y z) (list_any (same y) zs) (list_any (same y) (zs ++ x ∷ [])) k (λ deeper. none_later zs deeper last)

abbrev IsUsed : List RecordData → Order → Type 0
IsUsed history o = is_token_used history o.user o.token ≡ true

still_used : (history : List RecordData) (r : RecordData) (o : Order) → IsUsed history o → IsUsed (history ++ r ∷ []) o
still_used history r o h = is_token_used_next history r o.user o.token ∙ ap (λ (b : Bool). b || record_uses o.user o.token r) h

now_used : {policy : PolicyData} {history : List RecordData} (r : RecordData) (one : AddsOne policy history r) → IsUsed (history ++ r ∷ []) one.o
now_used {history} r one =
    is_token_used_next history r one.o.user one.o.token
    ∙ ap (λ (b : Bool). is_token_used history one.o.user one.o.token || b)
    (ap (λ (v : Verdict). uses_token v && option_map_or (asks_under one.o.user one.o.token) (asked_of r.step) false) one.grants
    ∙ ap (λ (found : Option Asked). option_map_or (asks_under one.o.user one.o.token) found false) (ap asked_of one.asks)
    ∙ ap (λ (user : UserName). same_user one.a.user user && option_map_or (λ (t : Token). same_token t one.o.token) (new_token one.a.request) false) one.his
    ∙ ap (λ (b : Bool). b && option_map_or (λ (t : Token). same_token t one.o.token) (new_token one.a.request) false) (user_is_itself one.a.user)
    ∙ ap (λ (found : Option Token). option_map_or (λ (t : Token). same_token t one.o.token) found false) one.under
    ∙ token_is_itself one.o.token)
    ∙ or_true (is_token_used history one.o.user one.o.token)

-- an order of a used token is none of a token that is not used
no_clash : (history : List RecordData) (x y : Order) → IsUsed history y → is_token_used history x.user x.token ≡ false → is_same_token y x ≡ false
no_clash history x y used unused = at (same_user y.user x.user) (same_token y.token x.token) refl refl
  where
    at : (b c : Bool) → same_user y.user x.user ≡ b → same_token y.token x.token ≡ c → (b && c) ≡ false
    at true true e f =
        let same : is_token_used history y.user y.token ≡ is_token_used history x.user x.token =
        ap (λ (u : UserName). is_token_used history u y.token) (user_is y.user x.user e) ∙ ap (is_token_used history x.user) (token_is y.token x.token f) in
        cc
    at true false e f = refl
    at false c e f = refl

abbrev TokensAreKept : PolicyData → List RecordData → Type 0
TokensAreKept policy history = AllByRecursion (IsUsed history) (orders policy history) × (are_distinct is_same_token (orders policy history) ≡ true)

one_more_token : {policy : PolicyData} {history : List RecordData} (r : RecordData) → TokensAreKept policy history → Follows policy (history, r) → TokensAreKept policy (history ++ r ∷ [])
one_more_token {policy} {history} r kept follows = elim (what_is_added r follows) [ inl none ↦ of_none none | inr one ↦ of_one one ]
  where
    still : AllByRecursion (IsUsed (history ++ r ∷ [])) (orders policy history)
    still = all_weaker (IsUsed history) (IsUsed (history ++ r ∷ [])) (λ o h. still_used history r o h) (orders policy history) kept.0

    of_none : AddsNone policy history r → TokensAreKept policy (history ++ r ∷ [])
    of_none none =
        subst (λ (os : List Order). AllByRecursion (IsUsed (history ++ r ∷ [])) os × (are_distinct is_same_token os ≡ true))
        (sym (orders_next policy history r ∙ ap (λ (more : List Order). orders policy history ++ more) none.adds ∙ append-nil (orders policy history)))
        (still, kept.1)

    of_one : AddsOne policy history r → TokensAreKept policy (history ++ r ∷ [])
    of_one one =
        subst (λ (os : List Order). AllByRecursion (IsUsed (history ++ r ∷ [])) os × (are_distinct is_same_token os ≡ true))
        (sym (orders_next policy history r ∙ ap (λ (more : List Order). orders policy history ++ more) one.adds)) (
          all_both (IsUsed (history ++ r ∷ [])) (orders policy history) (one.o ∷ []) still (now_used r one, tt),
          distinct_next is_same_token (orders policy history) one.o kept.1
              (all_weaker (IsUsed history) (λ (y : Order). is_same_token y one.o ≡ false) (λ y used. no_clash history one.o y used (added_is_unused r one follows)) (orders policy history) kept.0),
        )

-- no user has two orders under one token
pub tokens_differ : (policy : PolicyData) (history : List RecordData) → IsLegal policy history → are_distinct is_same_token (orders policy history) ≡ true
tokens_differ policy history legal =
    (legal_keeps (TokensAreKept policy)
    (subst (λ (os : List Order). AllByRecursion (IsUsed []) os × (are_distinct is_same_token os ≡ true)) (sym (orders_none policy)) (tt, refl))
    (λ h r kept follows. one_more_token r kept follows) legal).1
