-- What is known once one more order is noted.
use Rattle.std.proofs.{Common.{◌≡◌, Bool, true, false, cond, ◌&&◌, ◌==◌, List, [], ◌∷◌, ◌++◌, refl, ap, sym, subst, ◌∙◌, true≢false}, lemmas.{Bool.and_parts, Option.same_Some}}
use Rattle.std.specs.{Prelude.{Option, Some, None, find, option_map, is_some, nat_eq}, Option.{option_map_or, option_or}, List.{filter, last_or}, Map.lookup}
use Rattle.gx_units.specs.{Names.{same_token, same_user}, declared.names.{AccountName.AccountName, UserName.UserName}}
use Rattle.gx_units.proofs.Names_equal.{user_is}
use Rattle.gx_ouch.specs.declared.inbound.{EnterOrder.EnterOrder, ReplaceOrder.ReplaceOrder}
use Rattle.gx_policy.specs.{declared.policy.PolicyData.PolicyData, People.account_of}
use Rattle.gx_history.specs.{declared.record.{RecordData.RecordData, Request.Request}, Orders.{Order, order_entered, order_numbered, order_under, orders_made, order_replacing}, Book.is_buy}
use Rattle.gx_laws.proofs.Lists_next.{last_such_next}
use Rattle.gx_overview.specs.{declared.owners.{Owner.Owner, Owners.Owners}, Executed.{KnowOrders, is_key, owner_of}, Owning.{IsOneMore, Learn}}

-- the first that passes, of one more
find_next : {X : Type 0} (p : X → Bool) (xs : List X) (x : X) → find p (xs ++ x ∷ []) ≡ option_or (find p xs) (cond (p x) (Some x) None)
find_next p [] x = refl
find_next {X} p (y ∷ xs) x = by (p y) (find_next p xs x)
  where
    by : (b : Bool) → find p (xs ++ x ∷ []) ≡ option_or (find p xs) (cond (p x) (Some x) None)
        → cond b (Some y) (find p (xs ++ x ∷ [])) ≡ option_or (cond b (Some y) (find p xs)) (cond (p x) (Some x) None)
    by true later = refl
    by false later = later

owner_or : (o : Order) (found : Option Order) (b : Bool) → option_or (option_map owner_of found) (cond b (Some (owner_of o)) None) ≡ option_map owner_of (option_or found (cond b (Some o) None))
owner_or o None true = refl
owner_or o None false = refl
owner_or o (Some p) b = refl

owner_if : (o : Order) (found : Option Order) (b : Bool) → cond b (Some (owner_of o)) (option_map owner_of found) ≡ option_map owner_of (cond b (Some o) found)
owner_if o found true = refl
owner_if o found false = refl

-- one more order is known
one_more_known : (old new : Owners) (known : List Order) (o : Order) → IsOneMore o.number (record { user = o.user; token = o.token }) (owner_of o) old new → KnowOrders old known
    → KnowOrders new (known ++ o ∷ [])
one_more_known old new known o more knows = record {
  numbered = λ n.
      more.numbered n
      ∙ ap (λ found. option_or found (cond (nat_eq o.number n) (Some (owner_of o)) None)) (knows.numbered n)
      ∙ owner_or o (order_numbered known n) (nat_eq o.number n)
      ∙ ap (option_map owner_of) (sym (find_next (λ (p : Order). p.number == n) known o));
  under = λ user token.
      more.under user token
      ∙ ap (λ found. cond (same_user o.user user && same_token o.token token) (Some (owner_of o)) found) (knows.under user token)
      ∙ owner_if o (order_under known user token) (same_user o.user user && same_token o.token token)
      ∙ ap (option_map owner_of) (sym (last_such_next (λ (p : Order). same_user p.user user && same_token p.token token) known o));
}

-- a granted Enter
pub entered_known : (policy : PolicyData) (r : RecordData) (user : UserName) (m : EnterOrder) (account : AccountName) (old new : Owners) → account_of policy user ≡ Some account
    → IsOneMore r.number (record { user = user; token = m.token }) (record { account = account; stock = m.stock; buys = is_buy m.side }) old new
    → Learn old new (λ known. orders_made policy known r user (Request.Enter m))
entered_known policy r user m account old new is more =
    λ known knows. subst (λ (found : Option AccountName). KnowOrders new (known ++ option_map_or (λ (a : AccountName). order_entered policy r user a m ∷ []) found [])) (sym is)
    (one_more_known old new known (order_entered policy r user account m) more knows)

-- what was found passes
found_passes : {X : Type 0} (test : X → Bool) (start : Option X) (xs : List X) (x : X) → (start ≡ Some x → test x ≡ true) → last_or start (filter test xs) ≡ Some x → test x ≡ true
found_passes test start [] x first is = first is
found_passes {X} test start (y ∷ ys) x first is = by (test y) refl (λ begins found. found_passes test (Some y) ys x begins found) (λ found. found_passes test start ys x first found) is
  where
    by : (b : Bool) → test y ≡ b → ((Some y ≡ Some x → test x ≡ true) → last_or (Some y) (filter test ys) ≡ Some x → test x ≡ true)
        → (last_or start (filter test ys) ≡ Some x → test x ≡ true) → last_or start (cond b (y ∷ filter test ys) (filter test ys)) ≡ Some x → test x ≡ true
    by true passes here there found = here (λ same. subst (λ (z : X). test z ≡ true) (same_Some _ _ same) passes) found
    by false fails here there found = there found

nobody : {X : Type 0} (x : X) {P : Type 0} → None ≡ Some x → P
nobody x is = absurd (true≢false (sym (ap is_some is)))

-- a granted Replace of an order that is known
pub replaced_known : (policy : PolicyData) (r : RecordData) (user : UserName) (m : ReplaceOrder) (owner : Owner) (old new : Owners) → lookup (is_key user m.existing_token) old.by_token.entries ≡ Some owner
    → IsOneMore r.number (record { user = user; token = m.replacement_token }) owner old new
    → Learn old new (λ known. orders_made policy known r user (Request.Replace m))
replaced_known policy r user m owner old new is more = λ known knows. by known knows (order_under known user m.existing_token) refl (sym (knows.under user m.existing_token) ∙ is)
  where
    by : (known : List Order) → KnowOrders old known → (found : Option Order) → order_under known user m.existing_token ≡ found → option_map owner_of found ≡ Some owner
        → KnowOrders new (known ++ option_map_or (λ (o : Order). order_replacing r m o ∷ []) found [])
    by known knows None at his = nobody owner his
    by known knows (Some o) at his =
        let same : o.user ≡ user =
        user_is o.user user (and_parts (same_user o.user user) (same_token o.token m.existing_token)
        (found_passes (λ (p : Order). same_user p.user user && same_token p.token m.existing_token) None known o (λ none. nobody o none) at)).0 in
        one_more_known old new known (order_replacing r m o)
        (subst (λ (u : UserName). IsOneMore r.number (record { user = u; token = m.replacement_token }) (owner_of o) old new) (sym same)
        (subst (λ (w : Owner). IsOneMore r.number (record { user = user; token = m.replacement_token }) w old new) (sym (same_Some _ _ his)) more)) knows
