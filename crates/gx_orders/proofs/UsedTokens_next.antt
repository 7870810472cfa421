-- What is kept answers what the definitions ask.
use Rattle.std.proofs.{Common.{◌≡◌, Bool, true, false, cond, List, [], ◌∷◌, ◌++◌, refl, ◌∙◌, sym, ap, if◌then◌else◌}, lemmas.List.Elements.filter_map-append}
use Rattle.std.specs.{Prelude.{Option, Some, None, ◌&&◌, ◌||◌, option_map, option_to_list, slice_get}, Option.option_map_or, List.{filter, find, filter_map, cons_option, list_any}}
use Rattle.gx_units.specs.{Names.{same_user, same_token}, declared.names.{Token.Token, UserName.UserName}}
use Rattle.gx_policy.specs.declared.policy.PolicyData.{PolicyData}
use Rattle.gx_history.specs.{declared.{«record».{Asked.Asked, RecordData.RecordData}, live_order.UserToken.UserToken}, Orders.{asks_under, is_token_used, record_uses, uses_token}, Requests.{asked_of, new_token}, LiveOrders.{key, same_user_token}}
use Rattle.gx_orders.specs.{LiveOrders.is_used, InForce.{orders_in_force, token_asked, token_used_by, used_tokens}}
use Rattle.gx_units.proofs.{Test_known.{or_false, and_false}, Names_equal.{same_user_flip, same_token_flip}, Lists_found.one_found}

-- the first that passes is the first of those that pass
pub first_of_filter : {X : Type 0} (p : X → Bool) (xs : List X) → find p xs ≡ slice_get (filter p xs) 0
first_of_filter p [] = refl
first_of_filter p (x ∷ xs) =
    ap (λ o. cond (p x) (Some x) o) (first_of_filter p xs)
    ∙ elim (p x) as (λ b. cond b (Some x) (slice_get (filter p xs) 0) ≡ slice_get (cond b (x ∷ filter p xs) (filter p xs)) 0) [ true ↦ refl | false ↦ refl ]

-- the token is used where some record uses it
asks_so : (user : UserName) (token : Token) (found : Option Asked)
    → list_any (same_user_token (key user token)) (option_to_list (token_asked found)) ≡ option_map_or (asks_under user token) found false
asks_so user token None = refl
asks_so user token (Some a) = at (new_token a.request)
  where
    at : (under : Option Token) → list_any (same_user_token (key user token)) (option_to_list (option_map (key a.user) under))
        ≡ (same_user a.user user && option_map_or (λ (t : Token). same_token t token) under false)
    at None = sym (and_false (same_user a.user user))
    at (Some t) =
        or_false (same_user user a.user && same_token token t)
        ∙ ap (λ (b : Bool). b && same_token token t) (same_user_flip user a.user) ∙ ap (λ (b : Bool). same_user a.user user && b) (same_token_flip token t)

uses_so : (user : UserName) (token : Token) (r : RecordData)
    → list_any (same_user_token (key user token)) (option_to_list (token_used_by r)) ≡ record_uses user token r
uses_so user token r = at (uses_token r.verdict)
  where
    at : (b : Bool) → list_any (same_user_token (key user token)) (option_to_list (if b then token_asked (asked_of r.step) else None)) ≡ (b && option_map_or (asks_under user token) (asked_of r.step) false)
    at true = asks_so user token (asked_of r.step)
    at false = refl

any_more : {X : Type 0} (p : X → Bool) (o : Option X) (xs : List X) → list_any p (cons_option o xs) ≡ (list_any p (option_to_list o) || list_any p xs)
any_more p None xs = refl
any_more p (Some x) xs = ap (λ (b : Bool). b || list_any p xs) (sym (or_false (p x)))

all_used : (user : UserName) (token : Token) (history : List RecordData)
    → list_any (same_user_token (key user token)) (filter_map token_used_by history) ≡ list_any (record_uses user token) history
all_used user token [] = refl
all_used user token (r ∷ history) =
    any_more (same_user_token (key user token)) (token_used_by r) (filter_map token_used_by history)
    ∙ ap (λ (b : Bool). b || list_any (same_user_token (key user token)) (filter_map token_used_by history)) (uses_so user token r)
    ∙ ap (λ (b : Bool). record_uses user token r || b) (all_used user token history)

pub used_is : (policy : PolicyData) (history : List RecordData) (user : UserName) (token : Token) → is_used (orders_in_force policy history).used user token ≡ is_token_used history user token
unfolding used_tokens is_token_used
used_is policy history user token = all_used user token history

-- one more record uses one more token, or none
pub used_next : (history : List RecordData) (r : RecordData) → used_tokens (history ++ r ∷ []) ≡ used_tokens history ++ option_to_list (token_used_by r)
unfolding used_tokens
used_next history r =
    filter_map-append token_used_by history (r ∷ []) ∙ ap (λ (ts : List UserToken). filter_map token_used_by history ++ ts) (one_found (token_used_by r))
