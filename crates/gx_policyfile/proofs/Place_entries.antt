-- The entries of a place that was read.
use Rattle.std.proofs.{Common.{◌≡◌, ℕ, Bool, true, false, not, ◌&&◌, ◌||◌, ◌+◌, nat_lt, nat_le, List, [], ◌∷◌, ◌++◌, length, map, Result, Ok, refl, sym, ap, ◌∙◌, arith, length-append, le-leb, append-nil, append_assoc}, lemmas.{Bool.{and_parts, false≢true, ltb-false}, List.{map-append, Folds.list_any-append}}}
use Rattle.std.specs.List.{list_all, list_any}
use Rattle.toml.specs.Data.{Members}
use Rattle.gx_policy.specs.Lists.{are_distinct}
use Rattle.gx_policyvalues.specs.declared.fault.FaultKind.{FaultKind, TheVariants.{DuplicateName, TooMany}}
use Rattle.gx_policyfile.specs.Place.{is_taken, next, each, place_of}
use Rattle.gx_policyfile.proofs.Step_parts.{bind_ok, failed, by_ok, and_both}

or_false : (a b : Bool) → (a || b) ≡ false → (a ≡ false) × (b ≡ false)
or_false true b h = absurd (false≢true (sym h))
or_false false b h = (refl, h)

unmatched : (a b c : Bool) → not a ≡ true → b ≡ false → c ≡ true → (not (a || (b || false)) && c) ≡ true
unmatched true b c h p q = absurd (false≢true h)
unmatched false b c h p q = rw (p, q)

pub distinct_push : {X : Type 0} (same : X → X → Bool) (xs : List X) (x : X) → are_distinct same xs ≡ true → list_any (λ y. same y x) xs ≡ false → are_distinct same (xs ++ x ∷ []) ≡ true
distinct_push same [] x h n = refl
distinct_push same (y ∷ xs) x h n =
    let (apart, rest) = and_parts (not (list_any (same y) xs)) (are_distinct same xs) h in
    let (here, more) = or_false (same y x) (list_any (λ z. same z x) xs) n in
    ap (λ b. not b && are_distinct same (xs ++ x ∷ [])) (list_any-append (same y) xs (x ∷ [])) ∙ unmatched (list_any (same y) xs) (same y x) _ apart here (distinct_push same xs x rest more)

pub all_push : {X : Type 0} (p : X → Bool) (xs : List X) (x : X) → list_all p xs ≡ true → p x ≡ true → list_all p (xs ++ x ∷ []) ≡ true
all_push p [] x h q = rw q
all_push p (y ∷ xs) x h q =
    let (here, more) = and_parts (p y) (list_all p xs) h in
    rw (here, all_push p xs x more q)

-- an entry that was read behind others
pub next_ok : {X : Type 0} (same : X → X → Bool) (meant : Members → Result X FaultKind) (earlier : List X) (entry : Members) (x : X)
    → next same meant earlier entry ≡ Ok x → (meant entry ≡ Ok x) × (list_any (λ other. same other x) earlier ≡ false)
unfolding is_taken
next_ok same meant earlier entry x h =
    let (y, is, tested) = bind_ok (meant entry) _ x h in
    let (free, kept) = failed (list_any (λ other. same other y) earlier) (Ok y) DuplicateName x tested in
    by_ok (λ z. (meant entry ≡ Ok z) × (list_any (λ other. same other z) earlier ≡ false)) y x kept (is, free)

-- each is good, no two are the same, and none is lost
pub record ArePlaced {X : Type 0} (same : X → X → Bool) (is_good : X → Bool) (count : ℕ) (xs : List X) : Type 0 where
  pub good : list_all is_good xs ≡ true
  pub distinct : are_distinct same xs ≡ true
  pub long : length xs ≡ count

pub each_placed : {X : Type 0} (same : X → X → Bool) (meant : Members → Result X FaultKind) (is_good : X → Bool) → ((entry : Members) (x : X) → meant entry ≡ Ok x → is_good x ≡ true)
    → (earlier : List X) (entries : List Members) (xs : List X) → list_all is_good earlier ≡ true → are_distinct same earlier ≡ true
    → each same meant earlier entries ≡ Ok xs → ArePlaced same is_good (length earlier + length entries) xs
each_placed same meant is_good good earlier [] xs g d h =
    let e : earlier ≡ xs = cc in
    rw (← e) (record { good = g; distinct = d; long = omega arith })
each_placed same meant is_good good earlier (entry ∷ entries) xs g d h =
    let (x, taken, rest) = bind_ok (next same meant earlier entry) _ xs h in
    let (is, free) = next_ok same meant earlier entry x taken in
    let placed = each_placed same meant is_good good (earlier ++ x ∷ []) entries xs (all_push is_good earlier x g (good entry x is)) (distinct_push same earlier x d free) rest in
    record { good = placed.good; distinct = placed.distinct; long = placed.long ∙ omega (arith, length-append earlier (x ∷ [])) }

-- the entries are those of the tables, in their order, where an entry tells so much of its table
pub each_map : {X B : Type 0} (same : X → X → Bool) (meant : Members → Result X FaultKind) (shown : X → B) (told : Members → B)
    → ((entry : Members) (x : X) → meant entry ≡ Ok x → shown x ≡ told entry)
    → (earlier : List X) (entries : List Members) (xs : List X) → each same meant earlier entries ≡ Ok xs → map shown xs ≡ map shown earlier ++ map told entries
each_map same meant shown told tells earlier [] xs h =
    let e : earlier ≡ xs = cc in
    rw (← e) (sym (append-nil _))
each_map same meant shown told tells earlier (entry ∷ entries) xs h =
    let (x, taken, rest) = bind_ok (next same meant earlier entry) _ xs h in
    let (is, free) = next_ok same meant earlier entry x taken in
    each_map same meant shown told tells (earlier ++ x ∷ []) entries xs rest
    ∙ rw (map-append shown earlier (x ∷ []), append_assoc (map shown earlier) (shown x ∷ []) (map told entries), tells entry x is) refl

-- each table is as the reading of an entry asks
pub each_asked : {X : Type 0} (same : X → X → Bool) (meant : Members → Result X FaultKind) (asked : Members → Bool)
    → ((entry : Members) (x : X) → meant entry ≡ Ok x → asked entry ≡ true)
    → (earlier : List X) (entries : List Members) (xs : List X) → each same meant earlier entries ≡ Ok xs → list_all asked entries ≡ true
each_asked same meant asked asks earlier [] xs h = refl
each_asked same meant asked asks earlier (entry ∷ entries) xs h =
    let (x, taken, rest) = bind_ok (next same meant earlier entry) _ xs h in
    let (is, free) = next_ok same meant earlier entry x taken in
    and_both _ _ (asks entry x is) (each_asked same meant asked asks (earlier ++ x ∷ []) entries xs rest)

-- a place that was read: no more tables than it may have, and each of them an entry
pub place_ok : {X : Type 0} (same : X → X → Bool) (meant : Members → Result X FaultKind) (most : ℕ) (entries : List Members) (xs : List X)
    → place_of most same meant entries ≡ Ok xs → (nat_le (length entries) most ≡ true) × (each same meant [] entries ≡ Ok xs)
place_ok same meant most entries xs h =
    let (few, rest) = failed (nat_lt most (length entries)) _ TooMany xs h in
    (le-leb _ _ (omega (arith, ltb-false _ _ few)), rest)

pub place_placed : {X : Type 0} (same : X → X → Bool) (meant : Members → Result X FaultKind) (is_good : X → Bool) (most : ℕ) → ((entry : Members) (x : X) → meant entry ≡ Ok x → is_good x ≡ true)
    → (entries : List Members) (xs : List X) → place_of most same meant entries ≡ Ok xs → (nat_le (length xs) most ≡ true) × (list_all is_good xs ≡ true) × (are_distinct same xs ≡ true)
place_placed same meant is_good most good entries xs h =
    let (few, rest) = place_ok same meant most entries xs h in
    let placed = each_placed same meant is_good good [] entries xs refl refl rest in
    let long : length xs ≡ length entries = omega (arith, placed.long) in
    (rw long few, placed.good, placed.distinct)
