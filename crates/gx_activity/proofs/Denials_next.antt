-- What one more denial makes of the counts.
use Rattle.std.proofs.{Common.{◌≡◌, ℕ, ◌+◌, ◌<◌, ◌≤◌, ◌^◌, Bool, true, false, cond, ◌&&◌, List, [], ◌∷◌, ◌++◌, map, length, take, get_or, arith, refl, ap, sym, ◌∙◌}, lemmas.{Slice.Eq.bytes_eq-Decides, List.{Elements.filter_map-append, Sums.{count_by-le-length, sum_by_push}, append-nil, map-id, take_more}, Simd.map-map, Bool.and_parts}}
use Rattle.std.specs.{Prelude.{Option, Some, None, count_by, option_to_list}, Option.option_eq}
use Rattle.gx_units.specs.{Names.{same_account, same_rule}, declared.names.AccountName.AccountName}
use Rattle.gx_units.proofs.{Names_equal.{account_is, rule_is, account_is_itself}, Lists_found.{one_found, few_found, map_same}}
use Rattle.gx_policy.specs.{declared.policy.PolicyData.PolicyData, Lists.once}
use Rattle.gx_history.specs.declared.record.RecordData.{RecordData}
use Rattle.gx_overview.specs.Accounts.{capped_count}
use Rattle.gx_activity.specs.{declared.denials.{Denial.Denial, DenialRow.DenialRow}, Denials.{denial_in, denial_row, denial_rows, denials, denial_row_of, same_denial}, Denying.{counted_in, counted_once, denial_table, never, once_more, so_often, table_of}}
use Rattle.gx_activity.proofs.{Counts_next.one_more_is, Counts_bounds.fits, Table_next.{listed_value_of, table_next}}

-- ---- denials are the same where they are equal

owner_is_itself : (a : Option AccountName) → option_eq same_account a a ≡ true
owner_is_itself None = refl
owner_is_itself (Some account) = account_is_itself account

owner_is : (a b : Option AccountName) → option_eq same_account a b ≡ true → a ≡ b
owner_is None None h = refl
owner_is None (Some b) h = cc
owner_is (Some a) None h = cc
owner_is (Some a) (Some b) h = ap (λ (account : AccountName). Some account) (account_is a b h)

same_itself : (d : Denial) → same_denial d d ≡ true
same_itself d = ap (λ (b : Bool). b && option_eq same_account d.account d.account) ((bytes_eq-Decides d.rule.bytes d.rule.bytes).1 refl) ∙ owner_is_itself d.account

same_are_equal : (a b : Denial) → same_denial a b ≡ true → a ≡ b
same_are_equal a b same =
    let parts : (same_rule a.rule b.rule ≡ true) × (option_eq same_account a.account b.account ≡ true) = and_parts (same_rule a.rule b.rule) (option_eq same_account a.account b.account) same in
    λ i. record { rule = rule_is a.rule b.rule parts.0 i; account = owner_is a.account b.account parts.1 i }

-- ---- one more

more_often : (came : List Denial) (x d : Denial) → so_often (came ++ x ∷ []) d ≡ cond (same_denial x d) (once_more (so_often came d)) (so_often came d)
more_often came x d = ap (λ (n : ℕ). row (capped_count n)) (sum_by_push (λ (y : Denial). cond (same_denial y d) 1 0) came x) ∙ by (same_denial x d)
  where
    row : ℕ → DenialRow
    row n = record { denial = d; count = n }

    before : ℕ
    before = count_by (λ (y : Denial). same_denial y d) came

    by : (b : Bool) → row (capped_count (before + cond b 1 0)) ≡ cond b (row (capped_count (capped_count before + 1))) (row (capped_count before))
    by true = ap row (one_more_is true before)
    by false = ap row (one_more_is false before)

table_grows : (came : List Denial) (d : Denial) → counted_once (table_of came) d ≡ table_of (came ++ d ∷ [])
table_grows came d =
    table_next same_denial same_itself same_are_equal (λ (x : Denial). x) so_often never (λ (x : Denial) (row : DenialRow). once_more row) (λ x. refl) more_often came d

in_table : (came : List Denial) (found : Option Denial) → counted_in (table_of came) found ≡ table_of (came ++ option_to_list found)
in_table came None = ap table_of (sym (append-nil came))
in_table came (Some d) = table_grows came d

denials_next : (policy : PolicyData) (records : List RecordData) (r : RecordData) → denials policy (records ++ r ∷ []) ≡ denials policy records ++ option_to_list (denial_in policy r)
denials_next policy records r = filter_map-append (denial_in policy) records (r ∷ []) ∙ ap (λ (ds : List Denial). denials policy records ++ ds) (one_found (denial_in policy r))

pub denials_further : (policy : PolicyData) (records : List RecordData) (i : ℕ) (r d : RecordData) (before after : List (Denial × DenialRow)) → i < length records → r ≡ get_or records i d
    → before ≡ denial_table policy (take i records) → after ≡ counted_in before (denial_in policy r) → after ≡ denial_table policy (take (i + 1) records)
denials_further policy records i r d before after within is so_far counted =
    counted
    ∙ ap (λ (entries : List (Denial × DenialRow)). counted_in entries (denial_in policy r)) so_far
    ∙ in_table (denials policy (take i records)) (denial_in policy r)
    ∙ ap table_of
    (sym (denials_next policy (take i records) r)
    ∙ ap (denials policy) (ap (λ (x : RecordData). take i records ++ x ∷ []) is ∙ sym (take_more records i d within)))

-- ---- the rows alone

all_fit : (policy : PolicyData) (records : List RecordData) (n : ℕ) → n ≡ length records → n < 2 ^ 63 → (d : Denial) → so_often (denials policy records) d ≡ denial_row (denials policy records) d
all_fit policy records n is few d =
    let his : count_by (λ (x : Denial). same_denial x d) (denials policy records) ≤ length (denials policy records) = count_by-le-length (λ (x : Denial). same_denial x d) (denials policy records) in
    let all : length (denials policy records) ≤ length records = few_found (denial_in policy) records in
    ap row (fits (count_by (λ (x : Denial). same_denial x d) (denials policy records)) (omega arith))
  where
    row : ℕ → DenialRow
    row count = record { denial = d; count = count }

pub rows_are : (policy held : PolicyData) (records shown : List RecordData) (entries : List (Denial × DenialRow)) (n : ℕ) → entries ≡ denial_table held shown → held ≡ policy → shown ≡ records
    → n ≡ length records → n < 2 ^ 63 → map (λ (e : Denial × DenialRow). e.1) entries ≡ denial_rows policy records
rows_are policy held records shown entries n is under of many few =
    ap (map (λ (e : Denial × DenialRow). e.1)) (is ∙ (λ i. denial_table (under i) (of i)))
    ∙ map-map {B = Denial × DenialRow} (λ (e : Denial × DenialRow). e.1) (λ (d : Denial). (d, so_often (denials policy records) d)) (once same_denial (map (λ (d : Denial). d) (denials policy records)))
    ∙ map_same (so_often (denials policy records)) (denial_row (denials policy records)) (all_fit policy records n many few) (once same_denial (map (λ (d : Denial). d) (denials policy records)))
    ∙ ap (λ (ds : List Denial). map (denial_row (denials policy records)) (once same_denial ds)) (map-id (denials policy records))

-- and each of them
pub each_is : (policy : PolicyData) (records : List RecordData) (rows : List DenialRow) (n : ℕ) → rows ≡ denial_rows policy records → n ≡ length records → n < 2 ^ 63
    → (d : Denial) → denial_row_of rows d ≡ denial_row (denials policy records) d
each_is policy records rows n is many few d =
    ap (λ (rs : List DenialRow). denial_row_of rs d)
    (is
    ∙ ap (λ (ds : List Denial). map (denial_row (denials policy records)) (once same_denial ds)) (sym (map-id (denials policy records)))
    ∙ map_same (denial_row (denials policy records)) (so_often (denials policy records)) (λ x. sym (all_fit policy records n many few x)) (once same_denial (map (λ (x : Denial). x) (denials policy records))))
    ∙ listed_value_of same_denial same_itself same_are_equal (λ (x : Denial). x) so_often never (λ (x : Denial) (row : DenialRow). once_more row) (λ x. refl) more_often (λ (row : DenialRow). row.denial) (λ xs k. refl) (denials policy records) d
    ∙ all_fit policy records n many few d
