-- The live order that a Cancel or a Replace names is the one order of its user under the token.
use Rattle.std.proofs.{Common.{◌≡◌, ℕ, ◌+◌, ◌-◌, ◌<◌, Bool, true, false, List, refl, ◌∙◌, ap, sym, arith, inl, inr}, lemmas.Bool.{eq-eqb, and_parts}}
use Rattle.std.specs.{Prelude.{Option, Some, None, ◌&&◌, ◌==◌, is_none, nat_lt, not, option_and_then}, List.AllByRecursion}
use Rattle.gx_units.specs.{declared.names.{Token.Token, UserName.UserName}, Names.{same_user, same_token}}
use Rattle.gx_units.proofs.{Names_equal.{same_user_flip, same_token_flip, user_is, token_is, user_is_itself, token_is_itself}, Lists_hold.{all_weaker, all_and, all_found_of}}
use Rattle.gx_policy.specs.declared.policy.PolicyData.{PolicyData}
use Rattle.gx_history.specs.{declared.{live_order.LiveOrder.LiveOrder, «record».RecordData.RecordData}, Book.rest_numbers, Executions.{done, executions}, Live.{has_come, live, live_under, open_now, open_order}, LiveOrders.shares_open, Orders.{Order, is_dead, orders, order_under, total}, Verdicts.IsLegal}
use Rattle.gx_history.specs.LiveOrders as lives
use Rattle.gx_laws.specs.{HistoryLaws.is_same_token, EffectLaws.{LiveOrdersAreTheOne, TotalsAreOpenAndDone}}
use Rattle.gx_laws.proofs.{Orders_added.{found_passes, under_known}, Orders_ended.live_have_open, Orders_owned.last_such_is, Tokens_differ.tokens_differ, Lists_members.{IsIn, all_are_in, IsItOrOther, others_differ}, Keys_differ.others_apart, Lists_found.open_parts, Runs_orderly.{legal_is_orderly, number_of}}

abbrev same_number : Order → Order → Bool
same_number a b = a.number == b.number

-- the order of the user under the token
abbrev pub is_under : UserName → Token → Order → Bool
is_under user token o = same_user o.user user && same_token o.token token

-- the name and the number say the same of this order: both fit o alone
pub record IsToldApart (user : UserName) (token : Token) (o x : Order) : Type 0 where
  pub by_number : is_under user token x ≡ (x.number == o.number)
  pub is_it : (x.number == o.number) ≡ true → x ≡ o

-- the same words the other way round
pub is_under_swapped : (user : UserName) (token : Token) (o : Order) → (same_user user o.user && same_token token o.token) ≡ is_under user token o
is_under_swapped user token o =
    ap (λ (b : Bool). b && same_token token o.token) (same_user_flip user o.user) ∙ ap (λ (b : Bool). same_user o.user user && b) (same_token_flip token o.token)

pairs_swap : (a b : Order) → is_same_token a b ≡ is_same_token b a
pairs_swap a b = ap (λ (x : Bool). x && same_token a.token b.token) (same_user_flip a.user b.user) ∙ ap (λ (x : Bool). same_user b.user a.user && x) (same_token_flip a.token b.token)

-- an order under the token has the same token as another under it
same_under : (user : UserName) (token : Token) (x o : Order) → is_under user token x ≡ true → is_under user token o ≡ true → is_same_token x o ≡ true
same_under user token x o h k =
    let of_x : (same_user x.user user ≡ true) × (same_token x.token token ≡ true) = and_parts (same_user x.user user) (same_token x.token token) h in
    let of_o : (same_user o.user user ≡ true) × (same_token o.token token ≡ true) = and_parts (same_user o.user user) (same_token o.token token) k in
    ap (λ (u : UserName). same_user u o.user && same_token x.token o.token) (user_is x.user user of_x.0 ∙ sym (user_is o.user user of_o.0))
    ∙ ap (λ (t : Token). same_user o.user o.user && same_token t o.token) (token_is x.token token of_x.1 ∙ sym (token_is o.token token of_o.1))
    ∙ ap (λ (b : Bool). b && same_token o.token o.token) (user_is_itself o.user)
    ∙ token_is_itself o.token

told_apart : (user : UserName) (token : Token) (o x : Order) → is_under user token o ≡ true → IsItOrOther is_same_token o x → IsItOrOther same_number o x → IsToldApart user token o x
told_apart user token o x h (inl e) k = record {
  by_number = ap (is_under user token) e ∙ h ∙ sym (eq-eqb o.number o.number refl) ∙ ap (λ (y : Order). y.number == o.number) (sym e);
  is_it = λ same. e;
}
told_apart user token o x h (inr d) (inl e) = record {
  by_number = ap (is_under user token) e ∙ h ∙ sym (eq-eqb o.number o.number refl) ∙ ap (λ (y : Order). y.number == o.number) (sym e);
  is_it = λ same. e;
}
told_apart user token o x h (inr d) (inr n) = record {
  by_number = at (is_under user token x) refl ∙ sym n;
  is_it = λ (same : (x.number == o.number) ≡ true). let no : true ≡ false = sym same ∙ n in cc;
}
  where
    at : (b : Bool) → is_under user token x ≡ b → is_under user token x ≡ false
    at true e = let same : is_same_token x o ≡ true = same_under user token x o e h in cc
    at false e = e

-- what is known of a live order: the order that it is of
pub record IsOfKnown (policy : PolicyData) (history : List RecordData) (o : LiveOrder) : Type 0 where
  pub order : Order
  pub is_known : IsIn order (orders policy history)
  pub is_now : open_now (executions policy history) history order ≡ Some o
  pub is_not_dead : is_dead history order ≡ false
  pub has_some : nat_lt (done (executions policy history) order) (total history order) ≡ true
  pub is_it : open_order order (total history order) (done (executions policy history) order) (not (has_come (rest_numbers history) order.number)) ≡ o

pub live_of_known : (policy : PolicyData) (history : List RecordData) → AllByRecursion (IsOfKnown policy history) (live policy history)
unfolding live
live_of_known policy history =
    all_found_of (λ (x : Order). IsIn x (orders policy history)) (IsOfKnown policy history) (open_now (executions policy history) history)
    (λ x o among h.
    let parts : (is_dead history x ≡ false) × (nat_lt (done (executions policy history) x) (total history x) ≡ true) × (open_order x (total history x) (done (executions policy history) x) (not (has_come (rest_numbers history) x.number)) ≡ o) =
    open_parts x (is_dead history x) (total history x) (done (executions policy history) x) (not (has_come (rest_numbers history) x.number)) o h in
    record { order = x; is_known = among; is_now = h; is_not_dead = parts.0; has_some = parts.1; is_it = parts.2 })
    (orders policy history) (all_are_in (orders policy history))

-- the user's live order under the token: an order that is known, and no other is under it
pub record FindsOne (policy : PolicyData) (history : List RecordData) (user : UserName) (token : Token) (o : LiveOrder) : Type 0 where
  pub known : IsOfKnown policy history o
  pub is_under_it : is_under user token known.order ≡ true
  pub alone : AllByRecursion (IsToldApart user token known.order) (orders policy history)
  pub is_last : order_under (orders policy history) user token ≡ Some known.order

pub finds_one : {policy : PolicyData} {history : List RecordData} (user : UserName) (token : Token) (o : LiveOrder) → IsLegal policy history
    → live_under (live policy history) user token ≡ Some o → FindsOne policy history user token o
finds_one {policy} {history} user token o legal found = record {
  known = known;
  is_under_it = under;
  alone = apart;
  is_last = at (order_under (orders policy history) user token) refl (under_known policy history user token (ap is_none found));
}
  where
    known : IsOfKnown policy history o
    known = last_such_is (IsOfKnown policy history) (lives.is_under user token) (live policy history) o (live_of_known policy history) found

    under : is_under user token known.order ≡ true
    under = ap (lives.is_under user token) known.is_it ∙ found_passes (lives.is_under user token) (live policy history) o found

    apart : AllByRecursion (IsToldApart user token known.order) (orders policy history)
    apart =
        all_weaker (λ (x : Order). IsItOrOther is_same_token known.order x × IsItOrOther same_number known.order x) (IsToldApart user token known.order) (λ (x : Order) h. told_apart user token known.order x under h.0 h.1) (orders policy history)
        (all_and (IsItOrOther is_same_token known.order) (IsItOrOther same_number known.order) (orders policy history)
        (others_differ is_same_token pairs_swap known.order (orders policy history) (tokens_differ policy history legal) known.is_known)
        (others_apart number_of known.order (orders policy history) (legal_is_orderly legal).apart known.is_known))

    at : (last : Option Order) → order_under (orders policy history) user token ≡ last → is_none last ≡ false → order_under (orders policy history) user token ≡ Some known.order
    at None e k = cc
    at (Some x) e k =
        let his : is_under user token x ≡ true = found_passes (is_under user token) (orders policy history) x e in
        let told : IsToldApart user token known.order x = last_such_is (IsToldApart user token known.order) (is_under user token) (orders policy history) x apart e in
        e ∙ ap (λ (y : Order). Some y) (told.is_it (sym told.by_number ∙ his))

-- it is live as that order is now
pub is_the_one : LiveOrdersAreTheOne
is_the_one policy history user token o legal found =
    let one : FindsOne policy history user token o = finds_one user token o legal found in
    ap (option_and_then (open_now (executions policy history) history)) one.is_last ∙ one.known.is_now

-- its size is what it has open and what its chain has executed
pub totals_of_live : TotalsAreOpenAndDone
totals_of_live policy history =
    all_weaker (λ (o : LiveOrder). o.done < o.total) (λ (o : LiveOrder). o.total ≡ shares_open o + o.done) (λ o h. whole o.total o.done h) (live policy history) (live_have_open policy history)
  where
    whole : (size gone : ℕ) → gone < size → size ≡ size - gone + gone
    whole size gone h = omega arith
