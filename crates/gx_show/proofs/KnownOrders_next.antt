-- What one more record adds to the orders that are known.
use Rattle.std.proofs.{Common.{◌≡◌, Bool, true, false, List, [], ◌∷◌, ◌++◌, map, refl, ◌∙◌, ap, sym, cond}, lemmas.List.map-append}
use Rattle.std.specs.{Prelude.{Option, Some, None, ◌&&◌, option_and_then, option_map, option_to_list}, List.{filter, last_or}, Option.option_map_or}
use Rattle.gx_units.specs.{declared.names.{AccountName.AccountName, Token.Token, UserName.UserName}, Names.{same_user, same_token}}
use Rattle.gx_policy.specs.{declared.policy.PolicyData.PolicyData, People.account_of}
use Rattle.gx_history.specs.{declared.record.{Asked.Asked, RecordData.RecordData, Request.Request}, Orders.{Order, order_entered, order_under, orders, orders_added, orders_made, order_replacing}, Requests.granted_of}
use Rattle.gx_laws.proofs.Orders_next.{orders_next, orders_none}
use Rattle.gx_show.specs.{declared.known_order.KnownOrder.KnownOrder, Known.{is_known_under, known_of, known_orders, order_made, made_by, known_order_under}}

pub known_none : (policy : PolicyData) → known_orders policy [] ≡ []
unfolding known_orders
known_none policy = ap (map known_of) (orders_none policy)

kept_mapped : {X Y : Type 0} (f : X → Y) (test : Y → Bool) (xs : List X) → filter test (map f xs) ≡ map f (filter (λ x. test (f x)) xs)
kept_mapped f test [] = refl
kept_mapped {X} {Y} f test (x ∷ xs) = by (test (f x)) (kept_mapped f test xs)
  where
    by : (b : Bool) → filter test (map f xs) ≡ map f (filter (λ x. test (f x)) xs)
        → cond b (f x ∷ filter test (map f xs)) (filter test (map f xs)) ≡ map f (cond b (x ∷ filter (λ x. test (f x)) xs) (filter (λ x. test (f x)) xs))
    by true deeper = ap (λ (ys : List Y). f x ∷ ys) deeper
    by false deeper = deeper

last_mapped : {X Y : Type 0} (f : X → Y) (o : Option X) (xs : List X) → last_or (option_map f o) (map f xs) ≡ option_map f (last_or o xs)
last_mapped f o [] = refl
last_mapped f o (x ∷ xs) = last_mapped f (Some x) xs

under_mapped : (known : List Order) (user : UserName) (token : Token) → known_order_under (map known_of known) user token ≡ option_map known_of (order_under known user token)
under_mapped known user token =
    ap (last_or None) (kept_mapped known_of (is_known_under user token) known)
    ∙ last_mapped known_of None (filter (λ (o : Order). same_user o.user user && same_token o.token token) known)

made_mapped : (policy : PolicyData) (known : List Order) (r : RecordData) (user : UserName) (request : Request)
    → map known_of (orders_made policy known r user request) ≡ option_to_list (made_by policy (map known_of known) r.number user request)
made_mapped policy known r user (Request.Enter m) = by (account_of policy user)
  where
    by : (account : Option AccountName)
        → map known_of (option_map_or (λ account. order_entered policy r user account m ∷ []) account [])
        ≡ option_to_list (option_map (λ (account : AccountName). record { number = r.number; user = user; account = account; token = m.token; stock = m.stock }) account)
    by (Some account) = refl
    by None = refl
made_mapped policy known r user (Request.Replace m) =
    by (order_under known user m.existing_token)
    ∙ ap (λ (o : Option KnownOrder). option_to_list (option_map again o)) (sym (under_mapped known user m.existing_token))
  where
    again : KnownOrder → KnownOrder
    again o = record { number = r.number; user = o.user; account = o.account; token = m.replacement_token; stock = o.stock }

    by : (o : Option Order) → map known_of (option_map_or (λ o. order_replacing r m o ∷ []) o []) ≡ option_to_list (option_map again (option_map known_of o))
    by (Some o) = refl
    by None = refl
made_mapped policy known r user (Request.Login m) = refl
made_mapped policy known r user Request.Logout = refl
made_mapped policy known r user (Request.Unreadable m) = refl
made_mapped policy known r user (Request.Cancel m) = refl
made_mapped policy known r user (Request.Command m) = refl

added_mapped : (policy : PolicyData) (known : List Order) (r : RecordData) → map known_of (orders_added policy known r) ≡ option_to_list (order_made policy (map known_of known) r)
added_mapped policy known r = by (granted_of r)
  where
    by : (a : Option Asked)
        → map known_of (option_map_or (λ (a : Asked). orders_made policy known r a.user a.request) a [])
        ≡ option_to_list (option_and_then (λ (a : Asked). made_by policy (map known_of known) r.number a.user a.request) a)
    by (Some a) = made_mapped policy known r a.user a.request
    by None = refl

pub known_next : (policy : PolicyData) (history : List RecordData) (r : RecordData)
    → known_orders policy (history ++ r ∷ []) ≡ known_orders policy history ++ option_to_list (order_made policy (known_orders policy history) r)
unfolding known_orders
known_next policy history r =
    ap (map known_of) (orders_next policy history r)
    ∙ map-append known_of (orders policy history) (orders_added policy (orders policy history) r)
    ∙ ap (λ (more : List KnownOrder). map known_of (orders policy history) ++ more) (added_mapped policy (orders policy history) r)
