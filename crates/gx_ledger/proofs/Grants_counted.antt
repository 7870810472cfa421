-- Counting among the last of a list, by moments and by likeness.
use Rattle.std.proofs.{Common.{◌≡◌, ℕ, ◌+◌, ◌-◌, ◌<◌, ◌≤◌, zero, suc, Bool, true, false, cond, eqb, ◌&&◌, List, [], ◌∷◌, map, length, drop, reverse, refl, sym, ap, ◌∙◌, arith, min, true≢false}, lemmas.{Bool.{eq-eqb, eqb-true, lt-ltb, ltb-false, ltb-true}, List.{drop-map, length-map, length-reverse, Folds.prefix_len-append, Sums.sum_by-cons}, Grind.reverse_onto}}
use Rattle.std.specs.{Option.option_map_or, Prelude.{count_by, is_none, nat_lt}, List.{AllByRecursion, filter, prefix_len}}
use Rattle.gx_units.specs.declared.names.AccountName.{AccountName}
use Rattle.gx_history.specs.{declared.record.Request.Request, Figures.{equal_recent, is_alike, recent}, Orders.Order}
use Rattle.gx_policy.specs.Lists.{last_few}
use Rattle.gx_laws.specs.Sound.{NeverFall}
use Rattle.gx_ledger.specs.{Running.{asked_as, count_alike, is_recent, recent_in}, StandsFor.{entered_of, enters_of, moments_of}}
use Rattle.gx_ledger.proofs.Enters_alike.{alike_in, asked_alike, is_like}

pub none_left : {X : Type 0} (n : ℕ) → drop {A = X} n [] ≡ []
none_left zero = refl
none_left (suc n) = refl

-- the moments that are less than the window back, all of them
abbrev recent_among : List ℕ → ℕ → ℕ → ℕ
recent_among moments window moment = count_by (is_recent window moment) moments

-- the last few of what each gives
pub last_few-map : {X Y : Type 0} (f : X → Y) (n : ℕ) (xs : List X) → last_few n (map f xs) ≡ map f (last_few n xs)
last_few-map f n xs = ap (λ k. drop (k - n) (map f xs)) (length-map xs f) ∙ drop-map f (length xs - n) xs

pub count_by-map : {X Y : Type 0} (p : Y → Bool) (f : X → Y) (xs : List X) → count_by p (map f xs) ≡ count_by (λ x. p (f x)) xs
count_by-map p f [] = refl
count_by-map p f (x ∷ xs) =
    let left = sum_by-cons (λ y. cond (p y) 1 0) (f x) (map f xs) in
    let right = sum_by-cons (λ x. cond (p (f x)) 1 0) x xs in
    let deeper = count_by-map p f xs in
    omega (arith, left, right, deeper)

-- counting those of these accounts that pass is counting among theirs
pub count_chosen : {X : Type 0} (q p : X → Bool) (xs : List X) → count_by (λ x. q x && p x) xs ≡ count_by p (filter q xs)
count_chosen q p [] = refl
count_chosen q p (x ∷ xs) = by (q x) (sum_by-cons (λ x. cond (q x && p x) 1 0) x xs) (count_chosen q p xs)
  where
    by : (b : Bool) → count_by (λ x. q x && p x) (x ∷ xs) ≡ cond (b && p x) 1 0 + count_by (λ x. q x && p x) xs → count_by (λ x. q x && p x) xs ≡ count_by p (filter q xs)
        → count_by (λ x. q x && p x) (x ∷ xs) ≡ count_by p (cond b (x ∷ filter q xs) (filter q xs))
    by true here deeper = let right = sum_by-cons (λ x. cond (p x) 1 0) x (filter q xs) in omega (arith, here, deeper, right)
    by false here deeper = omega (arith, here, deeper)

-- later moments are recent where earlier ones are
abbrev Rise : List ℕ → Type 0
Rise [] = Unit {0}
Rise (m ∷ ms) = AllByRecursion (λ later. m ≤ later) ms × Rise ms

rise_of : (grants : List Order) (among : AccountName → Bool) → NeverFall grants → Rise (moments_of grants among)
rise_of [] among falls = tt
rise_of (o ∷ grants) among falls = by (among o.account) (later_of grants falls.0) (rise_of grants among falls.1)
  where
    later_of : (os : List Order) → AllByRecursion (λ (later : Order). o.moment ≤ later.moment) os → AllByRecursion (λ later. o.moment ≤ later) (moments_of os among)
    later_of [] all = tt
    later_of (p ∷ os) all = one (among p.account) (later_of os all.1)
      where
        one : (b : Bool) → AllByRecursion (λ later. o.moment ≤ later) (moments_of os among) → AllByRecursion (λ later. o.moment ≤ later) (map (λ (o : Order). o.moment) (cond b (p ∷ filter (λ (o : Order). among o.account) os) (filter (λ (o : Order). among o.account) os)))
        one true rest = (all.0, rest)
        one false rest = rest

    by : (b : Bool) → AllByRecursion (λ later. o.moment ≤ later) (moments_of grants among) → Rise (moments_of grants among) → Rise (map (λ (o : Order). o.moment) (cond b (o ∷ filter (λ (o : Order). among o.account) grants) (filter (λ (o : Order). among o.account) grants)))
    by true later rest = (later, rest)
    by false later rest = rest

recent_cons : (m : ℕ) (ms : List ℕ) (window moment : ℕ) → recent_among (m ∷ ms) window moment ≡ cond (nat_lt (moment - m) window) 1 0 + recent_among ms window moment
recent_cons m ms window moment = sum_by-cons (λ m. cond (nat_lt (moment - m) window) 1 0) m ms

-- at most all are recent
recent_at_most : (ms : List ℕ) (window moment : ℕ) → recent_among ms window moment ≤ length ms
recent_at_most [] window moment = omega arith
recent_at_most (m ∷ ms) window moment = by (nat_lt (moment - m) window) (recent_cons m ms window moment) (recent_at_most ms window moment)
  where
    by : (b : Bool) → recent_among (m ∷ ms) window moment ≡ cond b 1 0 + recent_among ms window moment → recent_among ms window moment ≤ length ms → recent_among (m ∷ ms) window moment ≤ length (m ∷ ms)
    by true is deeper = omega (arith, is, deeper)
    by false is deeper = omega (arith, is, deeper)

-- all are recent that are no earlier than a recent one
all_recent : (m : ℕ) (ms : List ℕ) (window moment : ℕ) → moment - m < window → AllByRecursion (λ later. m ≤ later) ms → recent_among ms window moment ≡ length ms
all_recent m [] window moment within later = refl
all_recent m (n ∷ ms) window moment within later =
    let near : moment - n < window = omega (arith, within, later.0) in
    let is = recent_cons n ms window moment ∙ ap (λ b. cond b 1 0 + recent_among ms window moment) (lt-ltb (moment - n) window near) in
    let deeper = all_recent m ms window moment within later.1 in
    omega (arith, is, deeper)

-- what is recent among the last n, is recent up to n
recent_up_to : (n : ℕ) (ms : List ℕ) (window moment : ℕ) → Rise ms → recent_among (last_few n ms) window moment ≡ min n (recent_among ms window moment)
recent_up_to n [] window moment rise =
    let none : recent_among (last_few n []) window moment ≡ 0 = ap (λ ms. recent_among ms window moment) (none_left (0 - n)) in
    none ∙ omega arith
recent_up_to n (m ∷ ms) window moment rise = by (nat_lt (length ms) n) refl (recent_up_to n ms window moment rise.1)
  where
    long : (b : Bool) → nat_lt (moment - m) window ≡ b → n ≤ length ms → recent_among (m ∷ ms) window moment ≡ cond b 1 0 + recent_among ms window moment → min n (recent_among ms window moment) ≡ min n (recent_among (m ∷ ms) window moment)
    long true h enough is =
        let all : recent_among ms window moment ≡ length ms = all_recent m ms window moment (ltb-true (moment - m) window h) rise.0 in
        omega (arith, all, enough, is)
    long false h enough is = omega (arith, is)

    by : (b : Bool) → nat_lt (length ms) n ≡ b → recent_among (last_few n ms) window moment ≡ min n (recent_among ms window moment) → recent_among (last_few n (m ∷ ms)) window moment ≡ min n (recent_among (m ∷ ms) window moment)
    by true h deeper =
        let few : length ms < n = ltb-true (length ms) n h in
        let whole : length (m ∷ ms) - n ≡ 0 = omega (arith, few) in
        let most : recent_among (m ∷ ms) window moment ≤ length (m ∷ ms) = recent_at_most (m ∷ ms) window moment in
        ap (λ k. recent_among (drop k (m ∷ ms)) window moment) whole ∙ omega (arith, few, most)
    by false h deeper =
        let enough : n ≤ length ms = ltb-false (length ms) n h in
        let past : length (m ∷ ms) - n ≡ suc (length ms - n) = omega (arith, enough) in
        ap (λ k. recent_among (drop k (m ∷ ms)) window moment) past ∙ deeper ∙ long (nat_lt (moment - m) window) refl enough (recent_cons m ms window moment)

-- later moments rise too
rise_drop : (n : ℕ) (ms : List ℕ) → Rise ms → Rise (drop n ms)
rise_drop zero ms rise = rise
rise_drop (suc n) [] rise = tt
rise_drop (suc n) (m ∷ ms) rise = rise_drop n ms rise.1

-- where moments rise, the recent ones come last
recent_last : (ms : List ℕ) (window moment : ℕ) → Rise ms → recent_in ms window moment ≡ recent_among ms window moment
recent_last [] window moment rise = refl
recent_last (m ∷ ms) window moment rise =
    ap (prefix_len p) (reverse_onto ms m []) ∙ prefix_len-append p (reverse ms) (m ∷ []) ∙ by (p m) refl (recent_cons m ms window moment) (recent_last ms window moment rise.1)
  where
    p : ℕ → Bool
    p = is_recent window moment

    as_long : length (reverse ms) ≡ length ms
    as_long = length-reverse ms

    whole : (t : Bool) → eqb (prefix_len p (reverse ms)) (length (reverse ms)) ≡ t → prefix_len p (reverse ms) ≡ length ms
        → cond t (length (reverse ms) + (1 + 0)) (prefix_len p (reverse ms)) ≡ length ms + 1
    whole true h all = omega (arith, as_long)
    whole false h all = absurd (true≢false (sym (eq-eqb (prefix_len p (reverse ms)) (length (reverse ms)) (all ∙ sym as_long)) ∙ h))

    rest : (t : Bool) → eqb (prefix_len p (reverse ms)) (length (reverse ms)) ≡ t → cond t (length (reverse ms) + 0) (prefix_len p (reverse ms)) ≡ prefix_len p (reverse ms)
    rest true h = let same = eqb-true (prefix_len p (reverse ms)) (length (reverse ms)) h in omega (arith, same)
    rest false h = refl

    by : (b : Bool) → p m ≡ b → recent_among (m ∷ ms) window moment ≡ cond b 1 0 + recent_among ms window moment → recent_in ms window moment ≡ recent_among ms window moment
        → cond (eqb (prefix_len p (reverse ms)) (length (reverse ms))) (length (reverse ms) + cond b (1 + 0) 0) (prefix_len p (reverse ms)) ≡ recent_among (m ∷ ms) window moment
    by true h is deeper =
        let all : recent_among ms window moment ≡ length ms = all_recent m ms window moment (ltb-true (moment - m) window h) rise.0 in
        let there = whole (eqb (prefix_len p (reverse ms)) (length (reverse ms))) refl (deeper ∙ all) in
        omega (arith, there, is, all)
    by false h is deeper =
        let there = rest (eqb (prefix_len p (reverse ms)) (length (reverse ms))) refl in
        omega (arith, there, is, deeper)

-- counting moments is counting orders
recent_is : (grants : List Order) (among : AccountName → Bool) (window moment : ℕ) → recent_among (moments_of grants among) window moment ≡ recent grants among window moment
unfolding recent
recent_is grants among window moment =
    count_by-map (λ m. nat_lt (moment - m) window) (λ (o : Order). o.moment) (filter (λ (o : Order). among o.account) grants)
    ∙ sym (count_chosen (λ (o : Order). among o.account) (λ (o : Order). nat_lt (moment - o.moment) window) grants)

like_is : (q : Request) (o : Order) → is_like q (entered_of o) ≡ is_alike q o
like_is (Request.Enter m) o = refl
like_is (Request.Replace m) o = refl
like_is (Request.Cancel m) o = refl
like_is (Request.Login m) o = refl
like_is Request.Logout o = refl
like_is (Request.Unreadable m) o = refl
like_is (Request.Command m) o = refl

-- counting like Enters is counting orders
pub alike_is : (n : ℕ) (grants : List Order) (among : AccountName → Bool) (q : Request)
    → option_map_or (count_alike (last_few n (enters_of grants among))) (asked_as q) 0 ≡ equal_recent grants among n (is_alike q)
unfolding equal_recent
alike_is n grants among q =
    let enters : List Order = filter (λ (o : Order). among o.account && is_none o.previous_token) grants in
    sym (asked_alike (last_few n (enters_of grants among)) q)
    ∙ ap (λ es. alike_in es q) (last_few-map entered_of n enters)
    ∙ count_by-map (is_like q) entered_of (last_few n enters)
    ∙ (λ i. count_by (λ (o : Order). like_is q o i) (last_few n enters))

-- the last n moments of these accounts
pub recent_counted : (n : ℕ) (grants : List Order) (among : AccountName → Bool) (window moment : ℕ) → NeverFall grants
    → recent_in (last_few n (moments_of grants among)) window moment ≡ min n (recent grants among window moment)
recent_counted n grants among window moment falls =
    let ms : List ℕ = moments_of grants among in
    let rise : Rise ms = rise_of grants among falls in
    recent_last (last_few n ms) window moment (rise_drop (length ms - n) ms rise)
    ∙ recent_up_to n ms window moment rise
    ∙ ap (min n) (recent_is grants among window moment)
