-- The orders that the numbers of an account give, after each change.
use Rattle.std.proofs.{Common.{◌≡◌, ℕ, ◌<◌, arith, true, false, not, Bool, cond, List, [], ◌∷◌, ◌++◌, map, refl, ◌∙◌, ap, sym, subst, ◌==◌, if◌then◌else◌}, lemmas.{Bool.{eq-eqb, eqb-true, ne_eqb, and_parts, and_right}, List.{Elements.{filter-append, filter_map-append}, append-nil}}}
use Rattle.std.specs.{Prelude.{Option, Some, None, ◌&&◌, is_some, option_map, unwrap_or}, List.{cons_option, filter, filter_map, find, AllByRecursion}, Map.lookup}
use Rattle.gx_units.specs.{Names.same_account, declared.names.AccountName.AccountName}
use Rattle.gx_units.proofs.{Names_equal.{same_account_flip, account_is, account_is_itself}, Lists_found.filter_swap}
use Rattle.gx_laws.proofs.Rules_first.{first_such}
use Rattle.gx_history.specs.declared.live_order.LiveOrder.{LiveOrder}
use Rattle.gx_slab.specs.Slabs.{numbered_of, order_of}
use Rattle.gx_orders.specs.{LiveOrders.{with_order_changed, has_number, of_account, of_others, without_number}, Tables.{AreListed, ListsOneMore, ListsTheSame, NumbersBelow, is_live_of, listed_of}}
use Rattle.gx_orders.proofs.Orders_changed.{IsBelow}

-- ---- what is found

found_before : {X : Type 0} (p : X → Bool) (xs : List X) (y : X) → p y ≡ false → find p (xs ++ y ∷ []) ≡ find p xs
found_before p [] y fails = ap (λ (b : Bool). cond b (Some y) None) fails
found_before p (x ∷ xs) y fails = ap (cond (p x) (Some x)) (found_before p xs y fails)

found_last : {X : Type 0} (p : X → Bool) (xs : List X) (y : X) → find p xs ≡ None → p y ≡ true → find p (xs ++ y ∷ []) ≡ Some y
found_last p [] y none is = ap (λ (b : Bool). cond b (Some y) None) is
found_last p (x ∷ xs) y none is = by (p x) none (λ h. found_last p xs y h is)
  where
    by : (b : Bool) → cond b (Some x) (find p xs) ≡ None → (find p xs ≡ None → find p (xs ++ y ∷ []) ≡ Some y) → cond b (Some x) (find p (xs ++ y ∷ [])) ≡ Some y
    by true h later = cc
    by false h later = later h

-- among those that q leaves, where all that pass p are alike to q
pub found_left : {X : Type 0} (p q : X → Bool) (r : Bool) → ((x : X) → p x ≡ true → q x ≡ r) → (xs : List X) → find p (filter (λ (x : X). not (q x)) xs) ≡ cond r None (find p xs)
found_left p q true alike [] = refl
found_left p q false alike [] = refl
found_left {X} p q r alike (x ∷ xs) = by (p x) (q x) r refl (alike x) (found_left p q r alike xs)
  where
    left : List X
    left = filter (λ (y : X). not (q y)) xs

    by : (b c t : Bool) → p x ≡ b → (b ≡ true → c ≡ t) → find p left ≡ cond t None (find p xs) → find p (cond (not c) (x ∷ left) left) ≡ cond t None (cond b (Some x) (find p xs))
    by true true true e same later = later
    by true true false e same later = let never : true ≡ false = same refl in cc
    by true false true e same later = let never : false ≡ true = same refl in cc
    by true false false e same later = ap (λ (b : Bool). cond b (Some x) (find p left)) e
    by false true t e same later = later
    by false false t e same later = ap (λ (b : Bool). cond b (Some x) (find p left)) e ∙ later

-- and so many are left of them
pub passed_left : {X : Type 0} (p q : X → Bool) (r : Bool) → ((x : X) → p x ≡ true → q x ≡ r) → (xs : List X) → filter p (filter (λ (x : X). not (q x)) xs) ≡ cond r [] (filter p xs)
passed_left p q true alike [] = refl
passed_left p q false alike [] = refl
passed_left {X} p q r alike (x ∷ xs) = by (p x) (q x) r refl (alike x) (passed_left p q r alike xs)
  where
    left : List X
    left = filter (λ (y : X). not (q y)) xs

    by : (b c t : Bool) → p x ≡ b → (b ≡ true → c ≡ t) → filter p left ≡ cond t [] (filter p xs) → filter p (cond (not c) (x ∷ left) left) ≡ cond t [] (cond b (x ∷ filter p xs) (filter p xs))
    by true true true e same later = later
    by true true false e same later = let never : true ≡ false = same refl in cc
    by true false true e same later = let never : false ≡ true = same refl in cc
    by true false false e same later = ap (λ (b : Bool). cond b (x ∷ filter p left) (filter p left)) e ∙ ap (λ (rest : List X). x ∷ rest) later
    by false true t e same later = later
    by false false t e same later = ap (λ (b : Bool). cond b (x ∷ filter p left) (filter p left)) e ∙ later

-- a change that keeps the test
found_changed : {X : Type 0} (p : X → Bool) (g : X → X) → ((x : X) → p (g x) ≡ p x) → (xs : List X) → find p (map g xs) ≡ option_map g (find p xs)
found_changed p g keeps [] = refl
found_changed p g keeps (x ∷ xs) = ap (λ (b : Bool). cond b (Some (g x)) (find p (map g xs))) (keeps x) ∙ by (p x) (found_changed p g keeps xs)
  where
    by : (b : Bool) → find p (map g xs) ≡ option_map g (find p xs) → cond b (Some (g x)) (find p (map g xs)) ≡ option_map g (cond b (Some x) (find p xs))
    by true later = refl
    by false later = later

passed_changed : {X : Type 0} (p : X → Bool) (g : X → X) → ((x : X) → p (g x) ≡ p x) → (xs : List X) → filter p (map g xs) ≡ map g (filter p xs)
passed_changed p g keeps [] = refl
passed_changed {X} p g keeps (x ∷ xs) = ap (λ (b : Bool). cond b (g x ∷ filter p (map g xs)) (filter p (map g xs))) (keeps x) ∙ by (p x) (passed_changed p g keeps xs)
  where
    by : (b : Bool) → filter p (map g xs) ≡ map g (filter p xs) → cond b (g x ∷ filter p (map g xs)) (filter p (map g xs)) ≡ map g (cond b (x ∷ filter p xs) (filter p xs))
    by true later = ap (λ (rest : List X). g x ∷ rest) later
    by false later = later

-- ---- what each of some gives

given_alike : {X Y : Type 0} (P : X → Type 0) (h g : X → Option Y) → ((x : X) → P x → h x ≡ g x) → (xs : List X) → AllByRecursion P xs → filter_map h xs ≡ filter_map g xs
given_alike P h g same [] all = refl
given_alike {X} {Y} P h g same (x ∷ xs) all =
    ap (λ (found : Option Y). cons_option found (filter_map h xs)) (same x all.0) ∙ ap (cons_option (g x)) (given_alike P h g same xs all.1)

pub given_always : {X Y : Type 0} (h g : X → Option Y) → ((x : X) → h x ≡ g x) → (xs : List X) → filter_map h xs ≡ filter_map g xs
given_always h g same [] = refl
given_always {X} {Y} h g same (x ∷ xs) = ap (λ (found : Option Y). cons_option found (filter_map h xs)) (same x) ∙ ap (cons_option (g x)) (given_always h g same xs)

given_changed : {X Y : Type 0} (h : X → Option Y) (g : Y → Y) (xs : List X) → filter_map (λ (x : X). option_map g (h x)) xs ≡ map g (filter_map h xs)
given_changed h g [] = refl
given_changed {X} {Y} h g (x ∷ xs) = by (h x) (given_changed h g xs)
  where
    by : (found : Option Y) → filter_map (λ (x : X). option_map g (h x)) xs ≡ map g (filter_map h xs)
        → cons_option (option_map g found) (filter_map (λ (x : X). option_map g (h x)) xs) ≡ map g (cons_option found (filter_map h xs))
    by None later = later
    by (Some y) later = ap (λ (rest : List Y). g y ∷ rest) later

-- those that are not wanted of what is given
pub given_left : {X Y : Type 0} (h : X → Option Y) (q : Y → Bool) (r : X → Bool) → ((x : X) (y : Y) → h x ≡ Some y → q y ≡ r x) → (xs : List X)
    → filter_map (λ (x : X). cond (r x) None (h x)) xs ≡ filter (λ (y : Y). not (q y)) (filter_map h xs)
given_left h q r alike [] = refl
given_left {X} {Y} h q r alike (x ∷ xs) = by (h x) (r x) (alike x) (given_left h q r alike xs)
  where
    left : List Y
    left = filter (λ (y : Y). not (q y)) (filter_map h xs)

    by : (found : Option Y) (b : Bool) → ((y : Y) → found ≡ Some y → q y ≡ b) → filter_map (λ (x : X). cond (r x) None (h x)) xs ≡ left
        → cons_option (cond b None found) (filter_map (λ (x : X). cond (r x) None (h x)) xs) ≡ filter (λ (y : Y). not (q y)) (cons_option found (filter_map h xs))
    by None true same later = later
    by None false same later = later
    by (Some y) true same later = later ∙ sym (ap (λ (b : Bool). cond (not b) (y ∷ left) left) (same y refl))
    by (Some y) false same later = ap (λ (rest : List Y). y ∷ rest) later ∙ sym (ap (λ (b : Bool). cond (not b) (y ∷ left) left) (same y refl))

-- what gives nothing may go
pub swept : {X Y : Type 0} (h : X → Option Y) (xs : List X) → filter_map h (filter (λ (x : X). is_some (h x)) xs) ≡ filter_map h xs
swept h [] = refl
swept {X} {Y} h (x ∷ xs) = by (h x) refl (swept h xs)
  where
    left : List X
    left = filter (λ (y : X). is_some (h y)) xs

    by : (found : Option Y) → h x ≡ found → filter_map h left ≡ filter_map h xs → filter_map h (cond (is_some found) (x ∷ left) left) ≡ cons_option found (filter_map h xs)
    by None e later = later
    by (Some y) e later = ap (λ (f : Option Y). cons_option f (filter_map h left)) e ∙ ap (λ (rest : List Y). y ∷ rest) later

-- ---- the orders of an account

-- the order of the number, where it is one of the account
abbrev pub is_its : AccountName → ℕ → LiveOrder → Bool
is_its account n o = has_number n o && same_account account o.account

pub its_number : (account : AccountName) (n : ℕ) (o : LiveOrder) → is_its account n o ≡ true → o.number ≡ n
its_number account n o is = eqb-true o.number n (and_parts (has_number n o) (same_account account o.account) is).0

-- an order above all is not there yet
none_yet : (account : AccountName) (n : ℕ) (live : List LiveOrder) → AllByRecursion (IsBelow n) live → order_of account live n ≡ None
none_yet account n [] below = refl
none_yet account n (o ∷ os) below =
    ap (λ (b : Bool). cond (b && same_account account o.account) (Some o) (order_of account os n)) (ne_eqb o.number n (λ same. absurd (omega (arith, below.0))))
    ∙ none_yet account n os below.1

-- and those that are there are below it
found_below : (account : AccountName) (n k : ℕ) (live : List LiveOrder) (o : LiveOrder) → AllByRecursion (IsBelow n) live → order_of account live k ≡ Some o → k < n
found_below account n k [] o below found = cc
found_below account n k (x ∷ xs) o below found = by (is_its account k x) refl found (λ h. found_below account n k xs o below.1 h)
  where
    by : (b : Bool) → is_its account k x ≡ b → cond b (Some x) (order_of account xs k) ≡ Some o → (order_of account xs k ≡ Some o → k < n) → k < n
    by true e is later = omega (arith, below.0, its_number account k x e)
    by false e is later = later is

pub swept_below : (account : AccountName) (n : ℕ) (live : List LiveOrder) → AllByRecursion (IsBelow n) live → (numbers : List ℕ) → NumbersBelow n (filter (is_live_of account live) numbers)
swept_below account n live below [] = tt
swept_below account n live below (k ∷ ks) = by (order_of account live k) refl (swept_below account n live below ks)
  where
    left : List ℕ
    left = filter (is_live_of account live) ks

    by : (found : Option LiveOrder) → order_of account live k ≡ found → NumbersBelow n left → NumbersBelow n (cond (is_some found) (k ∷ left) left)
    by None e later = later
    by (Some o) e later = (found_below account n k live o below e, later)

-- ---- one order more

still_given : (account : AccountName) (o : LiveOrder) (live : List LiveOrder) (numbers : List ℕ) → NumbersBelow o.number numbers → numbered_of account (live ++ o ∷ []) numbers ≡ numbered_of account live numbers
still_given account o live numbers below =
    given_alike (λ (n : ℕ). n < o.number) (order_of account (live ++ o ∷ [])) (order_of account live) (λ n less. found_before (is_its account n) live o (other n less)) numbers below
  where
    other : (n : ℕ) → n < o.number → is_its account n o ≡ false
    other n less = ap (λ (b : Bool). b && same_account account o.account) (ne_eqb o.number n (λ same. absurd (omega (arith, less))))

others_given : (account : AccountName) (o : LiveOrder) (live : List LiveOrder) (numbers : List ℕ) → same_account account o.account ≡ false
    → numbered_of account (live ++ o ∷ []) numbers ≡ numbered_of account live numbers
others_given account o live numbers apart =
    given_always (order_of account (live ++ o ∷ [])) (order_of account live) (λ n. found_before (is_its account n) live o (and_right (has_number n o) (same_account account o.account) apart)) numbers

-- its number put last
pub put_last : (o : LiveOrder) (live : List LiveOrder) (numbers : List ℕ) → AllByRecursion (IsBelow o.number) live → NumbersBelow o.number numbers
    → numbered_of o.account (live ++ o ∷ []) (numbers ++ o.number ∷ []) ≡ numbered_of o.account live numbers ++ o ∷ []
put_last o live numbers below under =
    filter_map-append (order_of o.account (live ++ o ∷ [])) numbers (o.number ∷ [])
    ∙ ap (λ (given : List LiveOrder). given ++ cons_option (order_of o.account (live ++ o ∷ []) o.number) []) (still_given o.account o live numbers under)
    ∙ ap (λ (found : Option LiveOrder). numbered_of o.account live numbers ++ cons_option found []) (found_last (is_its o.account o.number) live o (none_yet o.account o.number live below) it)
  where
    it : is_its o.account o.number o ≡ true
    it = ap (λ (b : Bool). b && same_account o.account o.account) (eq-eqb o.number o.number refl) ∙ account_is_itself o.account

-- where it is not live after all, the list gives what it gave
pub put_in_vain : (account : AccountName) (n : ℕ) (live : List LiveOrder) (numbers : List ℕ) → AllByRecursion (IsBelow n) live → numbered_of account live (numbers ++ n ∷ []) ≡ numbered_of account live numbers
put_in_vain account n live numbers below =
    filter_map-append (order_of account live) numbers (n ∷ [])
    ∙ ap (λ (found : Option LiveOrder). numbered_of account live numbers ++ cons_option found []) (none_yet account n live below)
    ∙ append-nil (numbered_of account live numbers)

-- ---- one list written among all

pub lists_same : (account : AccountName) (was new : List ℕ) (live : List LiveOrder) (before after : List (AccountName × List ℕ)) → was ≡ listed_of before account
    → numbered_of account live new ≡ numbered_of account live was
    → ((other : AccountName) → lookup (same_account other) after ≡ cond (same_account account other) (Some new) (lookup (same_account other) before)) → ListsTheSame live before after
lists_same account was new live before after is same written other =
    ap (λ (found : Option (List ℕ)). numbered_of other live (unwrap_or found [])) (written other) ∙ by (same_account account other) refl
  where
    by : (b : Bool) → same_account account other ≡ b → numbered_of other live (unwrap_or (cond b (Some new) (lookup (same_account other) before)) []) ≡ numbered_of other live (listed_of before other)
    by true e =
        subst (λ (name : AccountName). numbered_of name live new ≡ numbered_of name live (listed_of before name)) (account_is account other e)
        (same ∙ ap (numbered_of account live) is)
    by false e = refl

pub lists_more : (o : LiveOrder) (was new : List ℕ) (live : List LiveOrder) (before after : List (AccountName × List ℕ)) → was ≡ listed_of before o.account
    → numbered_of o.account (live ++ o ∷ []) new ≡ numbered_of o.account live was ++ o ∷ []
    → ((other : AccountName) → lookup (same_account other) after ≡ cond (same_account o.account other) (Some new) (lookup (same_account other) before)) → ListsOneMore o live before after
lists_more o was new live before after is more written other =
    ap (λ (found : Option (List ℕ)). numbered_of other (live ++ o ∷ []) (unwrap_or found [])) (written other) ∙ by (same_account o.account other) refl
  where
    by : (b : Bool) → same_account o.account other ≡ b
        → numbered_of other (live ++ o ∷ []) (unwrap_or (cond b (Some new) (lookup (same_account other) before)) []) ≡ numbered_of other live (listed_of before other) ++ of_account other (o ∷ [])
    by true e =
        subst (λ (name : AccountName). numbered_of name (live ++ o ∷ []) new ≡ numbered_of name live (listed_of before name) ++ of_account name (o ∷ [])) (account_is o.account other e)
        (more
        ∙ ap (λ (numbers : List ℕ). numbered_of o.account live numbers ++ o ∷ []) is
        ∙ sym (ap (λ (b : Bool). numbered_of o.account live (listed_of before o.account) ++ cond b (o ∷ []) []) (account_is_itself o.account)))
    by false e =
        let apart : same_account other o.account ≡ false = same_account_flip other o.account ∙ e in
        others_given other o live (listed_of before other) apart
        ∙ sym (ap (λ (b : Bool). numbered_of other live (listed_of before other) ++ cond b (o ∷ []) []) apart ∙ append-nil (numbered_of other live (listed_of before other)))

-- ---- after each call

pub listed_entered : (o : LiveOrder) (live now : List LiveOrder) (before after : List (AccountName × List ℕ)) → AreListed before live → now ≡ live ++ o ∷ [] → ListsOneMore o live before after → AreListed after now
listed_entered o live now before after listed is more account =
    ap (λ (os : List LiveOrder). numbered_of account os (listed_of after account)) is
    ∙ more account
    ∙ ap (λ (given : List LiveOrder). given ++ of_account account (o ∷ [])) (listed account)
    ∙ sym (filter-append (λ (p : LiveOrder). same_account account p.account) live (o ∷ []))
    ∙ ap (of_account account) (sym is)

pub listed_changed : (change : LiveOrder → LiveOrder) (n : ℕ) → ((o : LiveOrder) → (change o).number ≡ o.number) → ((o : LiveOrder) → (change o).account ≡ o.account)
    → (live now : List LiveOrder) (lists : List (AccountName × List ℕ)) → AreListed lists live → now ≡ with_order_changed change n live → AreListed lists now
listed_changed change n keeps_number keeps_account live now lists listed is account =
    ap (λ (os : List LiveOrder). numbered_of account os numbers) is
    ∙ given_always (order_of account (with_order_changed change n live)) (λ (k : ℕ). option_map g (order_of account live k)) (λ k. found_changed (is_its account k) g (λ o. its_kept k o (has_number n o)) live) numbers
    ∙ given_changed (order_of account live) g numbers
    ∙ ap (map g) (listed account)
    ∙ sym (passed_changed (λ (o : LiveOrder). same_account account o.account) g (λ o. account_kept o (has_number n o)) live)
    ∙ ap (of_account account) (sym is)
  where
    numbers : List ℕ
    numbers = listed_of lists account

    g : LiveOrder → LiveOrder
    g o = if has_number n o then change o else o

    its_kept : (k : ℕ) (o : LiveOrder) (b : Bool) → is_its account k (if b then change o else o) ≡ is_its account k o
    its_kept k o true =
        ap (λ (m : ℕ). (m == k) && same_account account (change o).account) (keeps_number o) ∙ ap (λ (name : AccountName). has_number k o && same_account account name) (keeps_account o)
    its_kept k o false = refl

    account_kept : (o : LiveOrder) (b : Bool) → same_account account (if b then change o else o).account ≡ same_account account o.account
    account_kept o true = ap (same_account account) (keeps_account o)
    account_kept o false = refl

pub listed_without : (n : ℕ) (live now : List LiveOrder) (lists : List (AccountName × List ℕ)) → AreListed lists live → now ≡ without_number n live → AreListed lists now
listed_without n live now lists listed is account =
    ap (λ (os : List LiveOrder). numbered_of account os numbers) is
    ∙ given_always (order_of account (without_number n live)) (λ (k : ℕ). cond (k == n) None (order_of account live k))
    (λ k. found_left (is_its account k) (has_number n) (k == n) (λ o h. ap (λ (m : ℕ). m == n) (its_number account k o h)) live) numbers
    ∙ given_left (order_of account live) (has_number n) (λ (k : ℕ). k == n)
    (λ k o h. ap (λ (m : ℕ). m == n) (its_number account k o (first_such (is_its account k) live o h).3)) numbers
    ∙ ap (without_number n) (listed account)
    ∙ filter_swap (λ (o : LiveOrder). not (has_number n o)) (λ (o : LiveOrder). same_account account o.account) live
    ∙ ap (of_account account) (sym is)
  where
    numbers : List ℕ
    numbers = listed_of lists account

pub listed_of_others : (killed : AccountName) (live now : List LiveOrder) (before after : List (AccountName × List ℕ)) → AreListed before live → now ≡ of_others killed live
    → ((other : AccountName) → lookup (same_account other) after ≡ cond (same_account killed other) None (lookup (same_account other) before)) → AreListed after now
listed_of_others killed live now before after listed is gone account =
    ap (λ (os : List LiveOrder). numbered_of account os (listed_of after account)) is
    ∙ ap (λ (found : Option (List ℕ)). numbered_of account (of_others killed live) (unwrap_or found [])) (gone account)
    ∙ by (same_account killed account) refl
    ∙ ap (of_account account) (sym is)
  where
    alike : (b : Bool) → same_account killed account ≡ b → (o : LiveOrder) → same_account account o.account ≡ true → same_account killed o.account ≡ b
    alike b e o h = ap (same_account killed) (sym (account_is account o.account h)) ∙ e

    by : (b : Bool) → same_account killed account ≡ b
        → numbered_of account (of_others killed live) (unwrap_or (cond b None (lookup (same_account account) before)) []) ≡ of_account account (of_others killed live)
    by true e = sym (passed_left (λ (o : LiveOrder). same_account account o.account) (λ (o : LiveOrder). same_account killed o.account) true (alike true e) live)
    by false e =
        given_always (order_of account (of_others killed live)) (order_of account live)
        (λ k. found_left (is_its account k) (λ (o : LiveOrder). same_account killed o.account) false (λ o h. alike false e o (and_parts (has_number k o) (same_account account o.account) h).1) live)
        (listed_of before account)
        ∙ listed account
        ∙ sym (passed_left (λ (o : LiveOrder). same_account account o.account) (λ (o : LiveOrder). same_account killed o.account) false (alike false e) live)

-- of an account that has none, none ends
pub none_ends : (account : AccountName) (live : List LiveOrder) → of_account account live ≡ [] → of_others account live ≡ live
none_ends account [] none = refl
none_ends account (o ∷ os) none = by (same_account account o.account) none (λ h. none_ends account os h)
  where
    by : (b : Bool) → cond b (o ∷ of_account account os) (of_account account os) ≡ [] → (of_account account os ≡ [] → of_others account os ≡ os)
        → cond (not b) (o ∷ of_others account os) (of_others account os) ≡ o ∷ os
    by true h later = cc
    by false h later = ap (λ (rest : List LiveOrder). o ∷ rest) (later h)
