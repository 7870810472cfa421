-- What the tables answer, and how a new token goes into them.
use Rattle.std.proofs.{Common.{◌≡◌, ℕ, ◌<◌, Bool, true, false, cond, List, [], ◌∷◌, ◌++◌, refl, ◌∙◌, sym, ap, arith, if◌then◌else◌}, lemmas.{Bool.{eqb-true, eq-eqb, and_parts}, List.map-append, Map.Made.is_some-lookup, Option.same_Some}}
use Rattle.std.specs.{Prelude.{Option, Some, None, ◌&&◌, is_some}, List.{filter, find, last_or, AllByRecursion}, Map.{keys_of, lookup}}
use Rattle.indexmap.specs.IndexMap.{insert_entry}
use Rattle.gx_units.specs.{Names.{same_user, same_token}, declared.names.{Token.Token, UserName.UserName}}
use Rattle.gx_units.proofs.{Names_equal.{user_is, token_is, user_is_itself, token_is_itself}, Lists_hold.all_weaker}
use Rattle.gx_history.specs.{declared.live_order.{LiveOrder.LiveOrder, UserToken.UserToken}, LiveOrders.{is_under, key, token_of, same_user_token}, Live.live_under}
use Rattle.gx_orders.specs.{LiveOrders.{NumbersRise, has_number, is_used}, Tables.IsIndexed}
use Rattle.gx_orders.proofs.Orders_changed.{IsAbove, behind}

-- the same user and token are the same key
pub key_is : (a b : UserToken) → same_user_token a b ≡ true → a ≡ b
key_is a b h =
    let parts = and_parts (same_user a.user b.user) (same_token a.token b.token) h in
    ap (λ (u : UserName). key u a.token) (user_is a.user b.user parts.0) ∙ ap (λ (t : Token). key b.user t) (token_is a.token b.token parts.1)

pub key_is_itself : (a : UserToken) → same_user_token a a ≡ true
key_is_itself a = ap (λ (b : Bool). b && same_token a.token a.token) (user_is_itself a.user) ∙ token_is_itself a.token

pub used_found : (tokens : List (UserToken × ℕ)) (user : UserName) (token : Token)
    → is_some (lookup (same_user_token (key user token)) tokens) ≡ is_used (keys_of tokens) user token
used_found tokens user token = is_some-lookup (same_user_token (key user token)) tokens

-- an order under the token is the one that was entered under it
IsTheOne : List (UserToken × ℕ) → UserName → Token → LiveOrder → Type 0
IsTheOne tokens user token o = is_under user token o ≡ true → lookup (same_user_token (key user token)) tokens ≡ Some o.number

the_one : (tokens : List (UserToken × ℕ)) (user : UserName) (token : Token) (o : LiveOrder) → IsIndexed tokens o → IsTheOne tokens user token o
unfolding IsTheOne
the_one tokens user token o indexed under =
    let parts = and_parts (same_user o.user user) (same_token o.token token) under in
    let same : key user token ≡ token_of o =
    ap (λ (u : UserName). key u token) (sym (user_is o.user user parts.0)) ∙ ap (λ (t : Token). key o.user t) (sym (token_is o.token token parts.1)) in
    ap (λ (k : UserToken). lookup (same_user_token k) tokens) same ∙ indexed

none_under : (user : UserName) (token : Token) (os : List LiveOrder) → AllByRecursion (λ (o : LiveOrder). is_under user token o ≡ false) os → filter (is_under user token) os ≡ []
none_under user token [] h = refl
none_under user token (o ∷ os) h = ap (λ (b : Bool). cond b (o ∷ filter (is_under user token) os) (filter (is_under user token) os)) h.0 ∙ none_under user token os h.1

not_it : (b : Bool) → (b ≡ true → false ≡ true) → b ≡ false
not_it true h = sym (h refl)
not_it false h = refl

-- no order is under a token that is not used
pub nothing_under : (live : List LiveOrder) (tokens : List (UserToken × ℕ)) (user : UserName) (token : Token) → AllByRecursion (IsIndexed tokens) live
    → ((n : ℕ) → lookup (same_user_token (key user token)) tokens ≡ Some n → false ≡ true) → live_under live user token ≡ None
unfolding IsTheOne
nothing_under live tokens user token indexed none =
    ap (last_or None) (none_under user token live
    (all_weaker (IsIndexed tokens) (λ (o : LiveOrder). is_under user token o ≡ false) (λ (o : LiveOrder) at. not_it (is_under user token o) (λ under. none o.number (the_one tokens user token o at under))) live indexed))

-- an order under the token has the number that it was entered under
numbered_under : (tokens : List (UserToken × ℕ)) (user : UserName) (token : Token) (n : ℕ) (o : LiveOrder) → IsIndexed tokens o
    → lookup (same_user_token (key user token)) tokens ≡ Some n → is_under user token o ≡ true → o.number ≡ n
unfolding IsTheOne
numbered_under tokens user token n o indexed at under = same_Some _ _ (sym (the_one tokens user token o indexed under) ∙ at)

later_not_under : (tokens : List (UserToken × ℕ)) (user : UserName) (token : Token) (n : ℕ) (os : List LiveOrder) → AllByRecursion (IsIndexed tokens) os
    → lookup (same_user_token (key user token)) tokens ≡ Some n → AllByRecursion (IsAbove n) os → AllByRecursion (λ (o : LiveOrder). is_under user token o ≡ false) os
later_not_under tokens user token n [] indexed at above = tt
later_not_under tokens user token n (o ∷ os) indexed at above =
    (not_it (is_under user token o) (λ under. clash (numbered_under tokens user token n o indexed.0 at under) above.0), later_not_under tokens user token n os indexed.1 at above.1)
  where
    clash : o.number ≡ n → n < o.number → false ≡ true
    clash same above = absurd (omega arith)

-- what is under the token, where an order was entered under it: the order of that number, if it is under the token
pub under_found : (live : List LiveOrder) (tokens : List (UserToken × ℕ)) (user : UserName) (token : Token) (n : ℕ) → AllByRecursion (IsIndexed tokens) live → NumbersRise live
    → lookup (same_user_token (key user token)) tokens ≡ Some n
    → (found : Option LiveOrder) → find (has_number n) live ≡ found
    → filter (is_under user token) live ≡ elim found [ None ↦ [] | Some o ↦ if is_under user token o then o ∷ [] else [] ]
under_found [] tokens user token n indexed rise at found is = ap (λ (f : Option LiveOrder). elim f [ None ↦ [] | Some o ↦ if is_under user token o then o ∷ [] else [] ]) is
under_found (o ∷ os) tokens user token n indexed rise at found is =
    by (has_number n o) refl is (λ later. under_found os tokens user token n indexed.1 rise.1 at found later)
  where
    answer : Option LiveOrder → List LiveOrder
    answer f = elim f [ None ↦ [] | Some x ↦ if is_under user token x then x ∷ [] else [] ]

    differs : has_number n o ≡ false → is_under user token o ≡ true → false ≡ true
    differs e under = sym e ∙ eq-eqb o.number n (numbered_under tokens user token n o indexed.0 at under)

    by : (b : Bool) → has_number n o ≡ b → cond b (Some o) (find (has_number n) os) ≡ found → (find (has_number n) os ≡ found → filter (is_under user token) os ≡ answer found)
        → filter (is_under user token) (o ∷ os) ≡ answer found
    by true e is later =
        ap (λ (rest : List LiveOrder). cond (is_under user token o) (o ∷ rest) rest)
        (none_under user token os (later_not_under tokens user token n os indexed.1 at (behind n o os (eqb-true o.number n e) rise.0)))
        ∙ ap answer is
    by false e is later =
        ap (λ (b : Bool). cond b (o ∷ filter (is_under user token) os) (filter (is_under user token) os)) (not_it (is_under user token o) (differs e)) ∙ later is

-- a token that was found is found where others are added
pub still_found : {K X : Type 0} (test : K → Bool) (es more : List (K × X)) (x : X) → lookup test es ≡ Some x → lookup test (es ++ more) ≡ Some x
still_found test [] more x found = cc
still_found {K} {X} test (e ∷ es) more x found = by (test e.0) found (λ later. still_found test es more x later)
  where
    by : (b : Bool) → cond b (Some e.1) (lookup test es) ≡ Some x → (lookup test es ≡ Some x → lookup test (es ++ more) ≡ Some x) → cond b (Some e.1) (lookup test (es ++ more)) ≡ Some x
    by true is later = is
    by false is later = later is

-- and a new one where it was added
pub added_found : {K X : Type 0} (test : K → Bool) (es : List (K × X)) (e : K × X) → lookup test es ≡ None → test e.0 ≡ true → lookup test (es ++ e ∷ []) ≡ Some e.1
added_found test [] e none is = ap (λ (b : Bool). cond b (Some e.1) None) is
added_found {K} {X} test (d ∷ ds) e none is = by (test d.0) none (λ later. added_found test ds e later is)
  where
    by : (b : Bool) → cond b (Some d.1) (lookup test ds) ≡ None → (lookup test ds ≡ None → lookup test (ds ++ e ∷ []) ≡ Some e.1) → cond b (Some d.1) (lookup test (ds ++ e ∷ [])) ≡ Some e.1
    by true k later = cc
    by false k later = later k

is_none_then : {X : Type 0} (o : Option X) → is_some o ≡ false → o ≡ None
is_none_then None h = refl
is_none_then (Some x) h = cc

-- a token that is not used is not found
pub unused : (tokens : List (UserToken × ℕ)) (user : UserName) (token : Token) → is_used (keys_of tokens) user token ≡ false → lookup (same_user_token (key user token)) tokens ≡ None
unused tokens user token h = is_none_then (lookup (same_user_token (key user token)) tokens) (used_found tokens user token ∙ h)

-- a new token goes last
pub token_last : (tokens : List (UserToken × ℕ)) (k : UserToken) (v : ℕ) → lookup (same_user_token k) tokens ≡ None → insert_entry same_user_token tokens k v ≡ tokens ++ (k, v) ∷ []
token_last [] k v none = refl
token_last (e ∷ es) k v none = by (same_user_token k e.0) none (λ later. token_last es k v later)
  where
    by : (b : Bool) → cond b (Some e.1) (lookup (same_user_token k) es) ≡ None → (lookup (same_user_token k) es ≡ None → insert_entry same_user_token es k v ≡ es ++ (k, v) ∷ [])
        → (if b then (e.0, v) ∷ es else e ∷ insert_entry same_user_token es k v) ≡ e ∷ es ++ (k, v) ∷ []
    by true h later = cc
    by false h later = ap (λ (rest : List (UserToken × ℕ)). e ∷ rest) (later h)

pub keys_last : (tokens : List (UserToken × ℕ)) (k : UserToken) (v : ℕ) → keys_of (tokens ++ (k, v) ∷ []) ≡ keys_of tokens ++ k ∷ []
keys_last tokens k v = map-append (λ (e : UserToken × ℕ). e.0) tokens ((k, v) ∷ [])
