-- One more rule, or one more place of the table, is noted.
use Rattle.std.proofs.{Common.{◌≡◌, ℕ, ◌+◌, ◌<◌, ◌≤◌, Bool, true, false, cond, not, ◌⊎◌, inl, inr, List, [], ◌∷◌, ◌++◌, length, take, get_or, refl, sym, ap, subst, ◌∙◌}, lemmas.{List.{Folds.list_any-append, take_all, take_more}, Option.{slice_get-get_or, slice_get-map, same_Some}, Bool.not-false}}
use Rattle.std.specs.{Prelude.{Option, Some, None, ◌||◌, is_some, option_and_then, option_map, slice_get}, List.list_any, Map.{keys_of, lookup}}
use Rattle.gx_units.specs.{Names.same_rule, declared.names.{AccountName.AccountName, RuleId.RuleId}}
use Rattle.gx_units.proofs.{Names_equal.{rule_is, rule_is_itself}, Lists_hold.found_is}
use Rattle.gx_policy.specs.{declared.policy.{FileRule.FileRule, PolicyData.PolicyData}, People.rule_in}
use Rattle.gx_history.specs.declared.{facts.StockSide.StockSide, «record».RecordData.RecordData}
use Rattle.gx_laws.proofs.{Rules_first.first_such, Lists_members.{IsIn, all_are_in}}
use Rattle.gx_peaks.specs.{declared.{figure.Figure.Figure, key.PeakKey.PeakKey, table.{HeldPeak.HeldPeak, PeakTable.PeakTable}}, Figures.is_counted, Keys.{key_of, same_key}, Noting.{AdvancesTo, AreTheirs, IsNoted, IsOfAccount, IsOfPlace, IsOfRule, IsSame, IsKeptUnder, IsUnder, held_under}, Same.key_is}
use Rattle.gx_peaks.proofs.{Peaks_call.{and_then, noted_advances, noted_theirs, reached_by, stays_put}, Figure_sort.{Sort, has_sort, sort_under}}

-- what is so of one of them all, or of one more, is so of one of so many and one more
any_more : {X : Type 0} (test : X → Bool) (xs : List X) (i : ℕ) (d : X) → i < length xs → list_any test (take (i + 1) xs) ≡ true → (list_any test (take i xs) ≡ true) ⊎ (test (get_or xs i d) ≡ true)
any_more test xs i d within h =
    by (list_any test (take i xs)) refl (sym (ap (list_any test) (take_more xs i d within) ∙ list_any-append test (take i xs) (get_or xs i d ∷ [])) ∙ h)
  where
    last : (b : Bool) → (b || false) ≡ true → b ≡ true
    last true k = refl
    last false k = k

    by : (b : Bool) → list_any test (take i xs) ≡ b → (b || (test (get_or xs i d) || false)) ≡ true → (list_any test (take i xs) ≡ true) ⊎ (test (get_or xs i d) ≡ true)
    by true e k = inl e
    by false e k = inr (last (test (get_or xs i d)) k)

-- ---- one more rule

-- a rule of this name has it
is_named : (policy : PolicyData) (rule : FileRule) (name : RuleId) → rule_in policy.rules name ≡ Some rule → rule.name ≡ name
is_named policy rule name found = rule_is rule.name name (first_such (λ (r : FileRule). same_rule r.name name) policy.rules rule found).3

-- it does, and that is noted
pub noted_under : {policy : PolicyData} {records : List RecordData} (rule : FileRule) (account : AccountName) (side : Option StockSide) (old new : PeakTable)
    → IsNoted policy records (record { rule = rule.name; account = account; side = side }) old new → AdvancesTo policy records (IsUnder policy rule account side) old new
noted_under {policy} {records} rule account side old new note =
    let named : RuleId → Figure = λ name. record { rule = name; account = account; side = side } in
    reached_by policy records (λ f. IsSame policy f (named rule.name)) (IsUnder policy rule account side) old new
    (λ f counted of. subst (λ (name : RuleId). IsSame policy f (named name)) (sym (is_named policy rule f.rule of.is_rule)) of.of_account)
    (noted_advances (named rule.name) old new note)

-- the figure is the account's, of one of these rules
pub record OfRules (policy : PolicyData) (account : AccountName) (side : Option StockSide) (rules : List FileRule) (figure : Figure) : Type 0 where
  pub rule : FileRule
  pub is_there : IsIn rule rules
  pub is_under : IsUnder policy rule account side figure

pub no_rule_yet : (policy : PolicyData) (records : List RecordData) (account : AccountName) (side : Option StockSide) (rules : List FileRule) (table : PeakTable)
    → AdvancesTo policy records (OfRules policy account side (take 0 rules)) table table
no_rule_yet policy records account side rules table = stays_put policy records (OfRules policy account side (take 0 rules)) table (λ f counted of. of.is_there)

in_either : {X : Type 0} (x : X) (xs ys : List X) → IsIn x (xs ++ ys) → IsIn x xs ⊎ IsIn x ys
in_either x [] ys h = inr h
in_either x (y ∷ xs) ys (inl e) = inl (inl e)
in_either x (y ∷ xs) ys (inr h) = by (in_either x xs ys h)
  where
    by : IsIn x xs ⊎ IsIn x ys → IsIn x (y ∷ xs) ⊎ IsIn x ys
    by (inl h) = inl (inr h)
    by (inr h) = inr h

pub one_more_rule : (policy : PolicyData) (records : List RecordData) (account : AccountName) (side : Option StockSide) (rules : List FileRule) (i : ℕ) (rule : FileRule) (first mid last : PeakTable)
    → i < length rules → rule ≡ get_or rules i rule → AdvancesTo policy records (OfRules policy account side (take i rules)) first mid
    → AdvancesTo policy records (IsUnder policy rule account side) mid last → AdvancesTo policy records (OfRules policy account side (take (i + 1) rules)) first last
one_more_rule policy records account side rules i rule first mid last within is so_far note =
    reached_by policy records (λ f. OfRules policy account side (take i rules) f ⊎ IsUnder policy rule account side f) (OfRules policy account side (take (i + 1) rules)) first last
    (λ f counted of. by f of (in_either of.rule (take i rules) (get_or rules i rule ∷ []) (subst (IsIn of.rule) (take_more rules i rule within) of.is_there)))
    (and_then policy records (OfRules policy account side (take i rules)) (IsUnder policy rule account side) first mid last so_far note)
  where
    by : (f : Figure) (of : OfRules policy account side (take (i + 1) rules) f) → IsIn of.rule (take i rules) ⊎ IsIn of.rule (get_or rules i rule ∷ []) → OfRules policy account side (take i rules) f ⊎ IsUnder policy rule account side f
    by f of (inl before) = inl (record { rule = of.rule; is_there = before; is_under = of.is_under })
    by f of (inr (inl e)) = inr (subst (λ (r : FileRule). IsUnder policy r account side f) (sym e ∙ sym is) of.is_under)
    by f of (inr (inr none)) = absurd none

-- a figure that is counted has a rule
has_rule : (policy : PolicyData) (f : Figure) → is_counted policy f ≡ true → (rule : FileRule) × (rule_in policy.rules f.rule ≡ Some rule)
has_rule policy f counted = let sort = has_sort policy f counted in by (rule_in policy.rules f.rule) sort.0 sort.1
  where
    by : (found : Option FileRule) (s : Sort) → option_and_then (sort_under policy f.account f.side) found ≡ Some s → (rule : FileRule) × (found ≡ Some rule)
    by None s h = cc
    by (Some rule) s h = (rule, refl)

pub all_rules : (policy : PolicyData) (records : List RecordData) (account : AccountName) (side : Option StockSide) (rules : List FileRule) (i : ℕ) (first last : PeakTable)
    → rules ≡ policy.rules → length rules ≤ i → AdvancesTo policy records (OfRules policy account side (take i rules)) first last → AdvancesTo policy records (IsOfAccount policy account side) first last
all_rules policy records account side rules i first last same whole so_far =
    reached_by policy records (OfRules policy account side (take i rules)) (IsOfAccount policy account side) first last
    (λ f counted his.
    let found = has_rule policy f counted in
    record {
      rule = found.0;
      is_there = subst (IsIn found.0) (sym (take_all i rules whole ∙ same))
          (found_is (λ (r : FileRule). IsIn r policy.rules) (λ (r : FileRule). same_rule r.name f.rule) policy.rules found.0 (all_are_in policy.rules) found.1);
      is_under = record { is_rule = found.1; of_account = his };
    }) so_far

-- ---- one more place

-- the figure is of the rule, and its key is one of these
abbrev pub OfKeys : PolicyData → RuleId → List PeakKey → Figure → Type 0
OfKeys policy rule keys figure = (same_rule rule figure.rule ≡ true) × (list_any (same_key (key_of policy figure)) keys ≡ true)

pub no_place_yet : (policy : PolicyData) (records : List RecordData) (rule : RuleId) (keys : List PeakKey) (table : PeakTable) → AdvancesTo policy records (OfKeys policy rule (take 0 keys)) table table
no_place_yet policy records rule keys table = stays_put policy records (OfKeys policy rule (take 0 keys)) table (λ f counted of. let no : false ≡ true = of.1 in cc)

pub one_more_place : (policy : PolicyData) (records : List RecordData) (rule : RuleId) (keys : List PeakKey) (i : ℕ) (first mid last : PeakTable) → i < length keys → keys_of mid.peaks.entries ≡ keys
    → AdvancesTo policy records (OfKeys policy rule (take i keys)) first mid → AdvancesTo policy records (IsOfPlace policy rule mid i) mid last
    → AdvancesTo policy records (OfKeys policy rule (take (i + 1) keys)) first last
one_more_place policy records rule keys i first mid last within same so_far place =
    reached_by policy records (λ f. OfKeys policy rule (take i keys) f ⊎ IsOfPlace policy rule mid i f) (OfKeys policy rule (take (i + 1) keys)) first last
    (λ f counted of. by f of.0 (any_more (same_key (key_of policy f)) keys i (key_of policy f) within of.1))
    (and_then policy records (OfKeys policy rule (take i keys)) (IsOfPlace policy rule mid i) first mid last so_far place)
  where
    by : (f : Figure) → same_rule rule f.rule ≡ true → (list_any (same_key (key_of policy f)) (take i keys) ≡ true) ⊎ (same_key (key_of policy f) (get_or keys i (key_of policy f)) ≡ true)
        → OfKeys policy rule (take i keys) f ⊎ IsOfPlace policy rule mid i f
    by f of (inl before) = inl (of, before)
    by f of (inr now) = inr (record {
      of_rule = of;
      stands = ap (λ (ks : List PeakKey). slice_get ks i) same ∙ slice_get-get_or keys i (key_of policy f) within
          ∙ ap Some (sym (key_is (key_of policy f) (get_or keys i (key_of policy f)) now));
    })

-- what is kept stands under one of the keys
has_key : (test : PeakKey → Bool) (entries : List (PeakKey × HeldPeak)) → is_some (lookup test entries) ≡ list_any test (keys_of entries)
has_key test [] = refl
has_key test (e ∷ entries) = by (test e.0) (has_key test entries)
  where
    by : (b : Bool) → is_some (lookup test entries) ≡ list_any test (keys_of entries) → is_some (cond b (Some e.1) (lookup test entries)) ≡ (b || list_any test (keys_of entries))
    by true rest = refl
    by false rest = rest

pub all_places : (policy : PolicyData) (records : List RecordData) (rule : RuleId) (keys : List PeakKey) (i : ℕ) (first last : PeakTable) → length keys ≤ i → keys_of last.peaks.entries ≡ keys
    → AdvancesTo policy records (OfKeys policy rule (take i keys)) first last → AdvancesTo policy records (IsOfRule policy rule last) first last
all_places policy records rule keys i first last whole same so_far =
    reached_by policy records (OfKeys policy rule (take i keys)) (IsOfRule policy rule last) first last
    (λ f counted of. (
      of.of_rule,
      ap (list_any (same_key (key_of policy f))) (take_all i keys whole ∙ sym same) ∙ sym (has_key (same_key (key_of policy f)) last.peaks.entries) ∙ of.is_kept,
    )) so_far

-- the key at a place
key_at : (entries : List (PeakKey × HeldPeak)) (place : ℕ) (key : PeakKey) (held : HeldPeak) → Some (key, held) ≡ slice_get entries place → slice_get (keys_of entries) place ≡ Some key
key_at entries place key held is = slice_get-map (λ (e : PeakKey × HeldPeak). e.0) entries place ∙ ap (option_map (λ (e : PeakKey × HeldPeak). e.0)) (sym is)

-- the figure whose key stands there has its rule
rule_at : {policy : PolicyData} (rule : RuleId) (table : PeakTable) (place : ℕ) (key : PeakKey) (held : HeldPeak) (f : Figure) → Some (key, held) ≡ slice_get table.peaks.entries place → IsOfPlace policy rule table place f → key ≡ key_of policy f
rule_at rule table place key held f is of = same_Some _ _ (sym (key_at table.peaks.entries place key held is) ∙ of.stands)

-- another rule's place
pub other_place : (policy : PolicyData) (records : List RecordData) (rule : RuleId) (table : PeakTable) (place : ℕ) (key : PeakKey) (held : HeldPeak) → Some (key, held) ≡ slice_get table.peaks.entries place
    → not (same_rule key.rule rule) ≡ true → AdvancesTo policy records (IsOfPlace policy rule table place) table table
other_place policy records rule table place key held is apart =
    stays_put policy records (IsOfPlace policy rule table place) table
    (λ f counted of.
    let named : rule ≡ f.rule = rule_is rule f.rule of.of_rule in
    let same : same_rule key.rule rule ≡ true = ap (λ (n : RuleId). same_rule n rule) (ap (λ (k : PeakKey). k.rule) (rule_at rule table place key held f is of) ∙ sym named) ∙ rule_is_itself rule in
    let no : not true ≡ true = ap not (sym same) ∙ apart in
    cc)

-- what is so once the figure of a place is noted
pub record IsPlaceNoted (policy : PolicyData) (records : List RecordData) (rule : RuleId) (place : ℕ) (old new : PeakTable) : Type 0 where
  pub theirs : AreTheirs policy new
  pub keys : keys_of new.peaks.entries ≡ keys_of old.peaks.entries
  pub noted : AdvancesTo policy records (IsOfPlace policy rule old place) old new

pub place_noted : {policy : PolicyData} {records : List RecordData} (rule : RuleId) (old new : PeakTable) (place : ℕ) (key : PeakKey) (held : HeldPeak) → AreTheirs policy old → held_under old key ≡ Some held
    → Some (key, held) ≡ slice_get old.peaks.entries place → not (same_rule key.rule rule) ≡ false
    → IsNoted policy records (record { rule = rule; account = held.account; side = key.side }) old new → IsPlaceNoted policy records rule place old new
place_noted {policy} {records} rule old new place key held theirs found is same note =
    let figure : Figure = record { rule = rule; account = held.account; side = key.side } in
    let name : key.rule ≡ rule = rule_is key.rule rule (not-false (same_rule key.rule rule) same) in
    let his : IsKeptUnder policy key figure = subst (λ (n : RuleId). IsKeptUnder policy key (record { rule = n; account = held.account; side = key.side })) name (theirs key held found) in
    record {
      theirs = noted_theirs figure old new note theirs;
      keys = note.keys (ap (λ (k : PeakKey). is_some (held_under old k)) his.has_key ∙ ap is_some found);
      noted =
          reached_by policy records (λ f. IsSame policy f figure) (IsOfPlace policy rule old place) old new
          (λ f counted of. record { is_counted = his.is_counted; same_key = sym (rule_at rule old place key held f is of) ∙ sym his.has_key })
          (noted_advances figure old new note);
    }
