-- What one more change makes of the counts.
use Rattle.std.proofs.{Common.{◌≡◌, ℕ, ◌+◌, ◌<◌, ◌≤◌, ◌^◌, ◌==◌, arith, subst, Bool, true, false, cond, List, [], ◌∷◌, ◌++◌, map, length, take, get_or, refl, ap, sym, ◌∙◌}, lemmas.{Grind.flat_map-append, Bool.eq-eqb, Slice.Eq.bytes_eq-Decides, List.{Sums.{sum_by-append, sum_by_push}, append-nil, take_more, map-id}, Simd.map-map}}
use Rattle.std.specs.Prelude.{Option, Some, None, count_by, option_and_then}
use Rattle.gx_units.specs.declared.names.{AccountName.AccountName, RuleId.RuleId}
use Rattle.gx_units.proofs.{Names_equal.{account_is, rule_is, account_is_itself}, Lists_found.map_same}
use Rattle.gx_policy.specs.{declared.{policy.PolicyData.PolicyData, rule_name.RuleName.RuleName}, Lists.once, People.account_of, RuleNames.rule_id}
use Rattle.gx_history.specs.Requests.{denied_by}
use Rattle.gx_overview.specs.Accounts.{capped_count}
use Rattle.gx_activity.proofs.{Counts_next.one_more_is, Counts_bounds.fits, Table_next.table_from}
use Rattle.gx_whatif.specs.{contracts.heading.HeadingPartialEq.TheImpl.{eq-value}, declared.{change.VerdictChange.VerdictChange, heading.{Heading.Heading, HeadingRow.HeadingRow}}, Counting.{counted_each, heading_uncounted, heading_once_more, heading_count, heading_table}, Headings.{all_headings, denied_no_more, denied_now, heading_row, heading_rows, headings, heading_of_account, same_heading}}

-- ---- headings are the same where they are equal

same_itself : (h : Heading) → same_heading h h ≡ true
same_itself (Heading.DeniedNow rule) = (bytes_eq-Decides rule.bytes rule.bytes).1 refl
same_itself (Heading.DeniedNoMore rule) = (bytes_eq-Decides rule.bytes rule.bytes).1 refl
same_itself (Heading.OfAccount account) = account_is_itself account
same_itself Heading.OfNoAccount = refl

same_are_equal : (a b : Heading) → same_heading a b ≡ true → a ≡ b
same_are_equal (Heading.DeniedNow a) (Heading.DeniedNow b) h = ap (λ (r : RuleId). Heading.DeniedNow r) (rule_is a b h)
same_are_equal (Heading.DeniedNow a) (Heading.DeniedNoMore b) h = cc
same_are_equal (Heading.DeniedNow a) (Heading.OfAccount b) h = cc
same_are_equal (Heading.DeniedNow a) Heading.OfNoAccount h = cc
same_are_equal (Heading.DeniedNoMore a) (Heading.DeniedNow b) h = cc
same_are_equal (Heading.DeniedNoMore a) (Heading.DeniedNoMore b) h = ap (λ (r : RuleId). Heading.DeniedNoMore r) (rule_is a b h)
same_are_equal (Heading.DeniedNoMore a) (Heading.OfAccount b) h = cc
same_are_equal (Heading.DeniedNoMore a) Heading.OfNoAccount h = cc
same_are_equal (Heading.OfAccount a) (Heading.DeniedNow b) h = cc
same_are_equal (Heading.OfAccount a) (Heading.DeniedNoMore b) h = cc
same_are_equal (Heading.OfAccount a) (Heading.OfAccount b) h = ap (λ (account : AccountName). Heading.OfAccount account) (account_is a b h)
same_are_equal (Heading.OfAccount a) Heading.OfNoAccount h = cc
same_are_equal Heading.OfNoAccount (Heading.DeniedNow b) h = cc
same_are_equal Heading.OfNoAccount (Heading.DeniedNoMore b) h = cc
same_are_equal Heading.OfNoAccount (Heading.OfAccount b) h = cc
same_are_equal Heading.OfNoAccount Heading.OfNoAccount h = refl

-- as their own comparison says
compared : (a b : Heading) → eq-value.it a b ≡ same_heading a b
compared (Heading.DeniedNow a) (Heading.DeniedNow b) = refl
compared (Heading.DeniedNow a) (Heading.DeniedNoMore b) = refl
compared (Heading.DeniedNow a) (Heading.OfAccount b) = refl
compared (Heading.DeniedNow a) Heading.OfNoAccount = refl
compared (Heading.DeniedNoMore a) (Heading.DeniedNow b) = refl
compared (Heading.DeniedNoMore a) (Heading.DeniedNoMore b) = refl
compared (Heading.DeniedNoMore a) (Heading.OfAccount b) = refl
compared (Heading.DeniedNoMore a) Heading.OfNoAccount = refl
compared (Heading.OfAccount a) (Heading.DeniedNow b) = refl
compared (Heading.OfAccount a) (Heading.DeniedNoMore b) = refl
compared (Heading.OfAccount a) (Heading.OfAccount b) = refl
compared (Heading.OfAccount a) Heading.OfNoAccount = refl
compared Heading.OfNoAccount (Heading.DeniedNow b) = refl
compared Heading.OfNoAccount (Heading.DeniedNoMore b) = refl
compared Heading.OfNoAccount (Heading.OfAccount b) = refl
compared Heading.OfNoAccount Heading.OfNoAccount = refl

pub same_tests : eq-value.it ≡ same_heading
same_tests = λ i a b. compared a b i

-- ---- one more

more_often : (came : List Heading) (x h : Heading) → heading_count (came ++ x ∷ []) h ≡ cond (same_heading x h) (heading_once_more (heading_count came h)) (heading_count came h)
more_often came x h = ap (λ (n : ℕ). row (capped_count n)) (sum_by_push (λ (y : Heading). cond (same_heading y h) 1 0) came x) ∙ by (same_heading x h)
  where
    row : ℕ → HeadingRow
    row n = record { heading = h; count = n }

    before : ℕ
    before = count_by (λ (y : Heading). same_heading y h) came

    by : (b : Bool) → row (capped_count (before + cond b 1 0)) ≡ cond b (row (capped_count (capped_count before + 1))) (row (capped_count before))
    by true = ap row (one_more_is true before)
    by false = ap row (one_more_is false before)

-- these behind those that came
pub table_grows : (came more : List Heading) → counted_each (heading_table came) more ≡ heading_table (came ++ more)
table_grows came more =
    table_from same_heading same_itself same_are_equal (λ (x : Heading). x) heading_count heading_uncounted (λ (x : Heading) (row : HeadingRow). heading_once_more row) (λ x. refl) more_often came more

-- one change further
pub counted_further : (policy : PolicyData) (found : List VerdictChange) (i : ℕ) (c d : VerdictChange) (before after : List (Heading × HeadingRow)) → i < length found → c ≡ get_or found i d
    → before ≡ heading_table (all_headings policy (take i found)) → after ≡ counted_each before (headings policy c) → after ≡ heading_table (all_headings policy (take (i + 1) found))
counted_further policy found i c d before after within is so_far counted =
    counted
    ∙ ap (λ (entries : List (Heading × HeadingRow)). counted_each entries (headings policy c)) so_far
    ∙ table_grows (all_headings policy (take i found)) (headings policy c)
    ∙ ap heading_table
    (ap (λ (more : List Heading). all_headings policy (take i found) ++ more) (sym (append-nil (headings policy c)))
    ∙ sym (flat_map-append (headings policy) (take i found) (c ∷ []))
    ∙ ap (all_headings policy) (ap (λ (x : VerdictChange). take i found ++ x ∷ []) is ∙ sym (take_more found i d within)))

-- ---- no count stops

-- of which sort a heading is: no two of one change are of the same
abbrev sort_of : Heading → ℕ
sort_of (Heading.DeniedNow rule) = 0
sort_of (Heading.DeniedNoMore rule) = 1
sort_of (Heading.OfAccount account) = 2
sort_of Heading.OfNoAccount = 2

abbrev often : Heading → List Heading → ℕ
often h came = count_by (λ (x : Heading). same_heading x h) came

one_is : (x h : Heading) → often h (x ∷ []) ≤ cond (sort_of x == sort_of h) 1 0
one_is x h = by (same_heading x h) refl
  where
    by : (b : Bool) → same_heading x h ≡ b → 0 + cond b 1 0 ≤ cond (sort_of x == sort_of h) 1 0
    by true is =
        subst (λ (n : ℕ). 1 ≤ n) (sym (ap (λ (b : Bool). cond b 1 0) (eq-eqb (sort_of x) (sort_of h) (ap sort_of (same_are_equal x h is))))) (omega arith)
    by false is = omega arith

now_is : (rule : Option RuleName) (h : Heading) → often h (denied_now rule) ≤ cond (0 == sort_of h) 1 0
now_is None h = omega arith
now_is (Some rule) h = one_is (Heading.DeniedNow (rule_id rule)) h

no_more_is : (rule : Option RuleName) (h : Heading) → often h (denied_no_more rule) ≤ cond (1 == sort_of h) 1 0
no_more_is None h = omega arith
no_more_is (Some rule) h = one_is (Heading.DeniedNoMore (rule_id rule)) h

account_heading_is : (account : Option AccountName) (h : Heading) → often h (heading_of_account account ∷ []) ≤ cond (2 == sort_of h) 1 0
account_heading_is None h = one_is Heading.OfNoAccount h
account_heading_is (Some account) h = one_is (Heading.OfAccount account) h

one_sort : (h : Heading) → cond (0 == sort_of h) 1 0 + cond (1 == sort_of h) 1 0 + cond (2 == sort_of h) 1 0 ≤ 1
one_sort (Heading.DeniedNow rule) = omega arith
one_sort (Heading.DeniedNoMore rule) = omega arith
one_sort (Heading.OfAccount account) = omega arith
one_sort Heading.OfNoAccount = omega arith

-- a change comes under a heading once at most
once_at_most : (policy : PolicyData) (c : VerdictChange) (h : Heading) → often h (headings policy c) ≤ 1
once_at_most policy c h =
    let test : Heading → ℕ = λ (x : Heading). cond (same_heading x h) 1 0 in
    let now : List Heading = denied_now (option_and_then denied_by c.told) in
    let no_more : List Heading = denied_no_more (denied_by c.recorded) in
    let whose : List Heading = heading_of_account (option_and_then (account_of policy) c.user) ∷ [] in
    omega (
      arith,
      sum_by-append test (now ++ no_more) whose,
      sum_by-append test now no_more,
      now_is (option_and_then denied_by c.told) h,
      no_more_is (denied_by c.recorded) h,
      account_heading_is (option_and_then (account_of policy) c.user) h,
      one_sort h,
    )

-- so a heading comes no more often than there are changes
few_came : (policy : PolicyData) (found : List VerdictChange) (h : Heading) → often h (all_headings policy found) ≤ length found
few_came policy [] h = omega arith
few_came policy (c ∷ found) h =
    let test : Heading → ℕ = λ (x : Heading). cond (same_heading x h) 1 0 in
    omega (arith, sum_by-append test (headings policy c) (all_headings policy found), once_at_most policy c h, few_came policy found h)

all_fit : (policy : PolicyData) (found : List VerdictChange) (n : ℕ) → n ≡ length found → n < 2 ^ 64 → (h : Heading) → heading_count (all_headings policy found) h ≡ heading_row (all_headings policy found) h
all_fit policy found n is few h = ap row (fits (often h (all_headings policy found)) (omega (arith, few_came policy found h)))
  where
    row : ℕ → HeadingRow
    row count = record { heading = h; count = count }

-- the rows alone
pub rows_are : (policy : PolicyData) (found : List VerdictChange) (entries : List (Heading × HeadingRow)) (rows : List HeadingRow) (n : ℕ) → entries ≡ heading_table (all_headings policy found)
    → rows ≡ map (λ (e : Heading × HeadingRow). e.1) entries → n ≡ length found → n < 2 ^ 64 → rows ≡ heading_rows policy found
rows_are policy found entries rows n is listed many few =
    let came : List Heading = all_headings policy found in
    listed
    ∙ ap (map (λ (e : Heading × HeadingRow). e.1)) is
    ∙ map-map {B = Heading × HeadingRow} (λ (e : Heading × HeadingRow). e.1) (λ (h : Heading). (h, heading_count came h)) (once same_heading (map (λ (h : Heading). h) came))
    ∙ map_same (heading_count came) (heading_row came) (all_fit policy found n many few) (once same_heading (map (λ (h : Heading). h) came))
    ∙ ap (λ (hs : List Heading). map (heading_row came) (once same_heading hs)) (map-id came)
