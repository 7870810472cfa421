-- The orders of an account end one by one.
use Rattle.std.proofs.{Common.{◌≡◌, ℕ, ◌<◌, ◌≤◌, ◌+◌, arith, true, false, not, Bool, cond, List, [], ◌∷◌, length, drop, get_or, refl, ◌∙◌, ap, sym, subst, ◌==◌}, Math.ListN.drop_of_length-le, lemmas.{Bool.{eqb-true, ne_eqb, and_parts}, List.drop_more}}
use Rattle.std.specs.{Prelude.{Option, Some, None, ◌&&◌}, List.{cons_option, AllByRecursion}}
use Rattle.gx_units.specs.{Names.same_account, declared.names.{AccountName.AccountName, UserName.UserName}}
use Rattle.gx_units.proofs.Lists_hold.{filtered}
use Rattle.gx_laws.proofs.Rules_first.{first_such}
use Rattle.gx_history.specs.declared.live_order.LiveOrder.{LiveOrder}
use Rattle.gx_slab.specs.Slabs as slabs
use Rattle.gx_slab.specs.Slabs.{numbered_of, order_of}
use Rattle.gx_orders.specs.{LiveOrders.{IsOpen, NumbersRise, has_number, live_numbered, of_account, of_others, with_total_and_done, without_number}, Tables.{CanEnd, CountsOneLess, without_of}}
use Rattle.gx_orders.proofs.Orders_call as calls
use Rattle.gx_orders.proofs.{Counts_next.counted_ended, Orders_changed.{IsAbove, behind, none_taken, rise_chosen}, AccountOrders_next.{found_left, given_always, given_left, is_its, its_number, none_ends}}

-- ---- one order ends

none_above_of : (account : AccountName) (n : ℕ) (os : List LiveOrder) → AllByRecursion (IsAbove n) os → order_of account os n ≡ None
none_above_of account n [] above = refl
none_above_of account n (o ∷ os) above =
    ap (λ (b : Bool). cond (b && same_account account o.account) (Some o) (order_of account os n)) (ne_eqb o.number n (λ same. absurd (omega (arith, above.0))))
    ∙ none_above_of account n os above.1

none_taken_of : (account : AccountName) (n : ℕ) (os : List LiveOrder) → AllByRecursion (IsAbove n) os → without_of account n os ≡ os
none_taken_of account n [] above = refl
none_taken_of account n (o ∷ os) above =
    ap (λ (b : Bool). cond (not (b && same_account account o.account)) (o ∷ without_of account n os) (without_of account n os)) (ne_eqb o.number n (λ same. absurd (omega (arith, above.0))))
    ∙ ap (λ (rest : List LiveOrder). o ∷ rest) (none_taken_of account n os above.1)

-- the order of the number that is one of the account is the order of the number
pub found_numbered : (account : AccountName) (n : ℕ) (live : List LiveOrder) (o : LiveOrder) → NumbersRise live → order_of account live n ≡ Some o → live_numbered live n ≡ Some o
found_numbered account n [] o rise found = cc
found_numbered account n (x ∷ xs) o rise found = by (has_number n x) (same_account account x.account) refl found (λ h. found_numbered account n xs o rise.1 h)
  where
    by : (b s : Bool) → has_number n x ≡ b → cond (b && s) (Some x) (order_of account xs n) ≡ Some o → (order_of account xs n ≡ Some o → live_numbered xs n ≡ Some o)
        → cond b (Some x) (live_numbered xs n) ≡ Some o
    by true true e h later = h
    by true false e h later = let never : None ≡ Some o = sym (none_above_of account n xs (behind n x xs (eqb-true x.number n e) rise.0)) ∙ h in cc
    by false s e h later = later h

without_is : (account : AccountName) (n : ℕ) (live : List LiveOrder) (o : LiveOrder) → NumbersRise live → order_of account live n ≡ Some o → without_number n live ≡ without_of account n live
without_is account n [] o rise found = refl
without_is account n (x ∷ xs) o rise found = by (has_number n x) (same_account account x.account) refl found (λ h. without_is account n xs o rise.1 h)
  where
    by : (b s : Bool) → has_number n x ≡ b → cond (b && s) (Some x) (order_of account xs n) ≡ Some o → (order_of account xs n ≡ Some o → without_number n xs ≡ without_of account n xs)
        → cond (not b) (x ∷ without_number n xs) (without_number n xs) ≡ cond (not (b && s)) (x ∷ without_of account n xs) (without_of account n xs)
    by true true e h later =
        let above : AllByRecursion (IsAbove n) xs = behind n x xs (eqb-true x.number n e) rise.0 in
        none_taken n xs above ∙ sym (none_taken_of account n xs above)
    by true false e h later = let never : None ≡ Some o = sym (none_above_of account n xs (behind n x xs (eqb-true x.number n e) rise.0)) ∙ h in cc
    by false s e h later = ap (λ (rest : List LiveOrder). x ∷ rest) (later h)

pub none_ended : (account : AccountName) (n : ℕ) (live : List LiveOrder) → order_of account live n ≡ None → live ≡ without_of account n live
none_ended account n [] none = refl
none_ended account n (x ∷ xs) none = by (is_its account n x) none (λ h. none_ended account n xs h)
  where
    by : (b : Bool) → cond b (Some x) (order_of account xs n) ≡ None → (order_of account xs n ≡ None → xs ≡ without_of account n xs)
        → x ∷ xs ≡ cond (not b) (x ∷ without_of account n xs) (without_of account n xs)
    by true h later = cc
    by false h later = ap (λ (rest : List LiveOrder). x ∷ rest) (later h)

pub record HasEnded (account : AccountName) (n : ℕ) (live now : List LiveOrder) (after : List (UserName × ℕ)) : Type 0 where
  pub can : CanEnd now after
  pub ended : now ≡ without_of account n live

-- an order written with its executed shares as its size
pub has_ended : (account : AccountName) (n : ℕ) (o : LiveOrder) (live now : List LiveOrder) (before after : List (UserName × ℕ)) → CanEnd live before → order_of account live n ≡ Some o
    → now ≡ slabs.live_with (with_total_and_done o.done o.done o) live → CountsOneLess o.user before after → HasEnded account n live now after
has_ended account n o live now before after can found is less =
    let numbered : live_numbered live n ≡ Some o = found_numbered account n live o can.rise found in
    let gone : now ≡ without_number n live =
    is
    ∙ calls.written_is (with_total_and_done o.done o.done) n o (with_total_and_done o.done o.done o) live can.rise numbered refl refl
    ∙ calls.open_no_more n o.done o.done live can.all_open (omega arith) in
    record {
      can = record {
        rise = subst NumbersRise (sym gone) (rise_chosen (λ (p : LiveOrder). not (has_number n p)) live can.rise);
        all_open = subst (AllByRecursion IsOpen) (sym gone) (filtered IsOpen (λ (p : LiveOrder). not (has_number n p)) live can.all_open);
        counted = counted_ended n o live now before after can.rise can.counted numbered gone less;
      };
      ended = gone ∙ without_is account n live o can.rise found;
    }

-- ---- all of the account

left_of : (account : AccountName) (n : ℕ) (live : List LiveOrder) → of_account account (without_of account n live) ≡ without_number n (of_account account live)
left_of account n [] = refl
left_of account n (o ∷ os) = by (has_number n o) (same_account account o.account) refl refl (left_of account n os)
  where
    by : (b s : Bool) → has_number n o ≡ b → same_account account o.account ≡ s → of_account account (without_of account n os) ≡ without_number n (of_account account os)
        → of_account account (cond (not (b && s)) (o ∷ without_of account n os) (without_of account n os)) ≡ without_number n (cond s (o ∷ of_account account os) (of_account account os))
    by true true e f later = later ∙ sym (ap (λ (b : Bool). cond (not b) (o ∷ without_number n (of_account account os)) (without_number n (of_account account os))) e)
    by true false e f later = ap (λ (s : Bool). cond s (o ∷ of_account account (without_of account n os)) (of_account account (without_of account n os))) f ∙ later
    by false true e f later =
        ap (λ (s : Bool). cond s (o ∷ of_account account (without_of account n os)) (of_account account (without_of account n os))) f
        ∙ ap (λ (rest : List LiveOrder). o ∷ rest) later
        ∙ sym (ap (λ (b : Bool). cond (not b) (o ∷ without_number n (of_account account os)) (without_number n (of_account account os))) e)
    by false false e f later = ap (λ (s : Bool). cond s (o ∷ of_account account (without_of account n os)) (of_account account (without_of account n os))) f ∙ later

others_stay : (account : AccountName) (n : ℕ) (live : List LiveOrder) → of_others account (without_of account n live) ≡ of_others account live
others_stay account n [] = refl
others_stay account n (o ∷ os) = by (has_number n o) (same_account account o.account) refl (others_stay account n os)
  where
    by : (b s : Bool) → same_account account o.account ≡ s → of_others account (without_of account n os) ≡ of_others account os
        → of_others account (cond (not (b && s)) (o ∷ without_of account n os) (without_of account n os)) ≡ cond (not s) (o ∷ of_others account os) (of_others account os)
    by true true f later = later
    by true false f later =
        ap (λ (s : Bool). cond (not s) (o ∷ of_others account (without_of account n os)) (of_others account (without_of account n os))) f ∙ ap (λ (rest : List LiveOrder). o ∷ rest) later
    by false true f later = ap (λ (s : Bool). cond (not s) (o ∷ of_others account (without_of account n os)) (of_others account (without_of account n os))) f ∙ later
    by false false f later =
        ap (λ (s : Bool). cond (not s) (o ∷ of_others account (without_of account n os)) (of_others account (without_of account n os))) f ∙ ap (λ (rest : List LiveOrder). o ∷ rest) later

-- the numbers give the others as before
given_without : (account : AccountName) (n : ℕ) (live : List LiveOrder) (numbers : List ℕ) → numbered_of account (without_of account n live) numbers ≡ without_number n (numbered_of account live numbers)
given_without account n live numbers =
    given_always (order_of account (without_of account n live)) (λ (k : ℕ). cond (k == n) None (order_of account live k)) (λ k. found_left (is_its account k) (is_its account n) (k == n) (alike k) live) numbers
    ∙ given_left (order_of account live) (has_number n) (λ (k : ℕ). k == n) (λ k o h. ap (λ (m : ℕ). m == n) (its_number account k o (first_such (is_its account k) live o h).3)) numbers
  where
    with_account : (b s : Bool) → s ≡ true → (b && s) ≡ b
    with_account true s h = h
    with_account false s h = refl

    alike : (k : ℕ) (o : LiveOrder) → is_its account k o ≡ true → is_its account n o ≡ (k == n)
    alike k o h =
        with_account (has_number n o) (same_account account o.account) (and_parts (has_number k o) (same_account account o.account) h).1
        ∙ ap (λ (m : ℕ). m == n) (its_number account k o h)

-- the first of them has ended
first_ended : (n : ℕ) (found : Option LiveOrder) (os : List LiveOrder) → ((o : LiveOrder) → found ≡ Some o → has_number n o ≡ true) → without_number n (cons_option found os) ≡ without_number n os
first_ended n None os is = refl
first_ended n (Some o) os is = ap (λ (b : Bool). cond (not b) (o ∷ without_number n os) (without_number n os)) (is o refl)

-- so far: the numbers left give what is left of the account, and the others are as before
pub record AreEnding (account : AccountName) (before : List LiveOrder) (left : List ℕ) (now : List LiveOrder) (counts : List (UserName × ℕ)) : Type 0 where
  pub can : CanEnd now counts
  pub listed : numbered_of account now left ≡ of_account account now
  pub others : of_others account now ≡ of_others account before

pub one_ended : (account : AccountName) (before live now : List LiveOrder) (numbers : List ℕ) (i d : ℕ) (counts after : List (UserName × ℕ)) → i < length numbers
    → AreEnding account before (drop i numbers) live counts → CanEnd now after → now ≡ without_of account (get_or numbers i d) live → AreEnding account before (drop (i + 1) numbers) now after
one_ended account before live now numbers i d counts after within so_far can is =
    record {
      can = can;
      listed = ap (λ (os : List LiveOrder). numbered_of account os (drop (i + 1) numbers)) is
          ∙ given_without account n live (drop (i + 1) numbers)
          ∙ sym (first_ended n (order_of account live n) (numbered_of account live (drop (i + 1) numbers)) (λ o h. numbered o (first_such (is_its account n) live o h).3))
          ∙ ap (λ (numbers : List ℕ). without_number n (numbered_of account live numbers)) (sym (drop_more numbers i d within))
          ∙ ap (without_number n) so_far.listed
          ∙ sym (left_of account n live)
          ∙ ap (of_account account) (sym is);
      others = ap (of_others account) is ∙ others_stay account n live ∙ so_far.others;
    }
  where
    n : ℕ
    n = get_or numbers i d

    numbered : (o : LiveOrder) → is_its account n o ≡ true → has_number n o ≡ true
    numbered o h = (and_parts (has_number n o) (same_account account o.account) h).0

pub all_ended : (account : AccountName) (before now : List LiveOrder) (numbers : List ℕ) (i : ℕ) (counts : List (UserName × ℕ)) → length numbers ≤ i → AreEnding account before (drop i numbers) now counts
    → now ≡ of_others account before
all_ended account before now numbers i counts past so_far =
    sym (none_ends account now (sym so_far.listed ∙ ap (numbered_of account now) (drop_of_length-le numbers past)))
    ∙ so_far.others
