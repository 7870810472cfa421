-- Figures of one key are one figure.
use Rattle.gx_policy.specs.{declared.{kinds.{ExposureLimit.ExposureLimit}, policy.{Count.Count, FileRule.FileRule, PolicyData.PolicyData, RuleKind.RuleKind, Scope.Scope}}, People.{account_named, covers, rule_in}}
use Rattle.std.proofs.{Common.{◌≡◌, Bool, true, false, cond, ◌⊎◌, inl, inr, List, [], refl, sym, ap, subst, ◌∙◌}, lemmas.{Bool.{and_parts, not-true}, Option.same_Some}}
use Rattle.std.specs.Prelude.{Option, Some, None, ◌&&◌, is_some, option_and_then}
use Rattle.gx_units.specs.{Names.{same_account, same_stock}, declared.names.AccountName.AccountName}
use Rattle.gx_units.proofs.Names_equal.{account_is, stock_is}
use Rattle.gx_history.specs.{declared.{facts.StockSide.StockSide, live_order.LiveOrder.LiveOrder, «record».RecordData.RecordData}, Book.{is_buy, is_on}, Figures.{counts_account, on_side}}
use Rattle.gx_records.specs.State.{counted_with, is_for}
use Rattle.gx_peaks.specs.{declared.{figure.Figure.Figure, key.PeakKey.PeakKey}, Figures.{amount, is_counted}, Keys.{key_of, whose}, Noting.{IsOfAccount, IsSame, stock_side_of}}
use Rattle.gx_peaks.proofs.{Figures_unraised.{counts_gain, counts_order}, Figure_sort.{Net, Shares, Sort, Value, amount_is, has_sort, is_some_always, sort_by, sort_of, sort_under, total_of}}

-- ---- one key, one sort

-- the sorts of two accounts of which a rule of this kind keeps one peak
abbrev SameSort : RuleKind → Scope → Option StockSide → AccountName → AccountName → Type 0
SameSort kind scope side x y = whose kind x ≡ whose kind y → (s t : Sort) → sort_by kind side (λ (c : Count). counts_account c scope x) ≡ Some s → sort_by kind side (λ (c : Count). counts_account c scope y) ≡ Some t → s ≡ t

same_sort : (kind : RuleKind) (scope : Scope) (side : Option StockSide) (x y : AccountName) → SameSort kind scope side x y
same_sort (RuleKind.Exposure ExposureLimit.GrossShares limit Count.Each) scope None x y e s t h k = sym (same_Some _ _ h) ∙ ap (λ (a : AccountName). Shares (counts_account Count.Each scope a)) (same_Some _ _ e) ∙ same_Some _ _ k
same_sort (RuleKind.Exposure ExposureLimit.GrossShares limit Count.Together) scope None x y e s t h k = sym (same_Some _ _ h) ∙ same_Some _ _ k
same_sort (RuleKind.Exposure ExposureLimit.GrossShares limit count) scope (Some side) x y e s t h k = cc
same_sort (RuleKind.Exposure ExposureLimit.GrossValue limit Count.Each) scope None x y e s t h k = sym (same_Some _ _ h) ∙ ap (λ (a : AccountName). Value (counts_account Count.Each scope a)) (same_Some _ _ e) ∙ same_Some _ _ k
same_sort (RuleKind.Exposure ExposureLimit.GrossValue limit Count.Together) scope None x y e s t h k = sym (same_Some _ _ h) ∙ same_Some _ _ k
same_sort (RuleKind.Exposure ExposureLimit.GrossValue limit count) scope (Some side) x y e s t h k = cc
same_sort (RuleKind.Exposure ExposureLimit.NetShares limit count) scope None x y e s t h k = cc
same_sort (RuleKind.Exposure ExposureLimit.NetShares limit Count.Each) scope (Some side) x y e s t h k = sym (same_Some _ _ h) ∙ ap (λ (a : AccountName). Net (counts_account Count.Each scope a) side) (same_Some _ _ e) ∙ same_Some _ _ k
same_sort (RuleKind.Exposure ExposureLimit.NetShares limit Count.Together) scope (Some side) x y e s t h k = sym (same_Some _ _ h) ∙ same_Some _ _ k
same_sort (RuleKind.Rate rate count) scope side x y e s t h k = cc
same_sort (RuleKind.Repeat repeat count) scope side x y e s t h k = cc
same_sort (RuleKind.Listed kind stocks) scope side x y e s t h k = cc
same_sort (RuleKind.Plain kind) scope side x y e s t h k = cc
same_sort (RuleKind.Order kind limit) scope side x y e s t h k = cc

same_found : (policy : PolicyData) (side : Option StockSide) (x y : AccountName) (found : Option FileRule)
    → option_and_then (λ (rule : FileRule). whose rule.kind x) found ≡ option_and_then (λ (rule : FileRule). whose rule.kind y) found
    → (s t : Sort) → option_and_then (sort_under policy x side) found ≡ Some s → option_and_then (sort_under policy y side) found ≡ Some t → s ≡ t
same_found policy side x y None e s t h k = cc
same_found policy side x y (Some rule) e s t h k = by (is_for policy x rule) (is_for policy y rule) h k
  where
    by : (a b : Bool) → cond a (sort_by rule.kind side (counted_with rule x)) None ≡ Some s → cond b (sort_by rule.kind side (counted_with rule y)) None ≡ Some t → s ≡ t
    by true true h k = same_sort rule.kind rule.scope side x y e s t h k
    by true false h k = cc
    by false true h k = cc
    by false false h k = cc

-- two counted figures of one key come to the same
pub amounts_same : (policy : PolicyData) (figure other : Figure) → is_counted policy figure ≡ true → is_counted policy other ≡ true → key_of policy figure ≡ key_of policy other
    → (records : List RecordData) → amount policy figure records ≡ amount policy other records
amounts_same policy figure other counted also key records =
    let mine = has_sort policy figure counted in
    let its = has_sort policy other also in
    let rule : figure.rule ≡ other.rule = ap (λ (k : PeakKey). k.rule) key in
    let side : figure.side ≡ other.side = ap (λ (k : PeakKey). k.side) key in
    let his : option_and_then (sort_under policy figure.account other.side) (rule_in policy.rules other.rule) ≡ Some mine.0 =
    (λ i. option_and_then (sort_under policy figure.account (sym side i)) (rule_in policy.rules (sym rule i))) ∙ mine.1 in
    let whose_same : option_and_then (λ (r : FileRule). whose r.kind figure.account) (rule_in policy.rules other.rule) ≡ option_and_then (λ (r : FileRule). whose r.kind other.account) (rule_in policy.rules other.rule) =
    (λ i. option_and_then (λ (r : FileRule). whose r.kind figure.account) (rule_in policy.rules (sym rule i))) ∙ ap (λ (k : PeakKey). k.whose) key in
    let same : mine.0 ≡ its.0 = same_found policy other.side figure.account other.account (rule_in policy.rules other.rule) whose_same mine.0 its.0 his its.1 in
    amount_is policy figure mine.0 mine.1 records ∙ ap (λ (s : Sort). total_of policy s records) same ∙ sym (amount_is policy other its.0 its.1 records)

-- ---- whose figures count an order, or a gain

-- the accounts that a sort counts
abbrev among_of : Sort → AccountName → Bool
among_of (Shares among) = among
among_of (Value among) = among
among_of (Net among side) = among

-- and the side
abbrev side_in : Sort → Option StockSide
side_in (Shares among) = None
side_in (Value among) = None
side_in (Net among side) = Some side

sort_side : (kind : RuleKind) (side : Option StockSide) (among : Count → AccountName → Bool) (s : Sort) → sort_by kind side among ≡ Some s → side ≡ side_in s
sort_side (RuleKind.Exposure ExposureLimit.GrossShares limit count) None among s h = ap side_in (same_Some _ _ h)
sort_side (RuleKind.Exposure ExposureLimit.GrossShares limit count) (Some side) among s h = cc
sort_side (RuleKind.Exposure ExposureLimit.GrossValue limit count) None among s h = ap side_in (same_Some _ _ h)
sort_side (RuleKind.Exposure ExposureLimit.GrossValue limit count) (Some side) among s h = cc
sort_side (RuleKind.Exposure ExposureLimit.NetShares limit count) None among s h = cc
sort_side (RuleKind.Exposure ExposureLimit.NetShares limit count) (Some side) among s h = ap side_in (same_Some _ _ h)
sort_side (RuleKind.Rate rate count) side among s h = cc
sort_side (RuleKind.Repeat repeat count) side among s h = cc
sort_side (RuleKind.Listed kind stocks) side among s h = cc
sort_side (RuleKind.Plain kind) side among s h = cc
sort_side (RuleKind.Order kind limit) side among s h = cc

-- what is so of an account that a rule of this kind counts with another
record IsWith (kind : RuleKind) (scope : Scope) (side : Option StockSide) (x y : AccountName) : Type 0 where
  alike : whose kind x ≡ whose kind y
  covered : covers scope x ≡ true → covers scope y ≡ true
  sort : Sort
  has_sort : sort_by kind side (λ (c : Count). counts_account c scope y) ≡ Some sort

by_itself : (kind : RuleKind) (scope : Scope) (side : Option StockSide) (x y : AccountName) → same_account x y ≡ true → (s : Sort) → sort_by kind side (λ (c : Count). counts_account c scope x) ≡ Some s → IsWith kind scope side x y
by_itself kind scope side x y same s h =
    let it : x ≡ y = account_is x y same in
    record {
      alike = ap (whose kind) it;
      covered = λ c. ap (covers scope) (sym it) ∙ c;
      sort = s;
      has_sort = ap (λ (a : AccountName). sort_by kind side (λ (c : Count). counts_account c scope a)) (sym it) ∙ h;
    }

is_with : (kind : RuleKind) (scope : Scope) (side : Option StockSide) (x y : AccountName) (s : Sort) → sort_by kind side (λ (c : Count). counts_account c scope x) ≡ Some s → among_of s y ≡ true → IsWith kind scope side x y
is_with (RuleKind.Exposure ExposureLimit.GrossShares limit Count.Each) scope None x y s h k = by_itself (RuleKind.Exposure ExposureLimit.GrossShares limit Count.Each) scope None x y (ap (λ (t : Sort). among_of t y) (same_Some _ _ h) ∙ k) s h
is_with (RuleKind.Exposure ExposureLimit.GrossShares limit Count.Together) scope None x y s h k =
    let inside : covers scope y ≡ true = ap (λ (t : Sort). among_of t y) (same_Some _ _ h) ∙ k in
    record { alike = refl; covered = λ _. inside; sort = Shares (counts_account Count.Together scope y); has_sort = refl }
is_with (RuleKind.Exposure ExposureLimit.GrossShares limit count) scope (Some side) x y s h k = cc
is_with (RuleKind.Exposure ExposureLimit.GrossValue limit Count.Each) scope None x y s h k = by_itself (RuleKind.Exposure ExposureLimit.GrossValue limit Count.Each) scope None x y (ap (λ (t : Sort). among_of t y) (same_Some _ _ h) ∙ k) s h
is_with (RuleKind.Exposure ExposureLimit.GrossValue limit Count.Together) scope None x y s h k =
    let inside : covers scope y ≡ true = ap (λ (t : Sort). among_of t y) (same_Some _ _ h) ∙ k in
    record { alike = refl; covered = λ _. inside; sort = Value (counts_account Count.Together scope y); has_sort = refl }
is_with (RuleKind.Exposure ExposureLimit.GrossValue limit count) scope (Some side) x y s h k = cc
is_with (RuleKind.Exposure ExposureLimit.NetShares limit count) scope None x y s h k = cc
is_with (RuleKind.Exposure ExposureLimit.NetShares limit Count.Each) scope (Some side) x y s h k = by_itself (RuleKind.Exposure ExposureLimit.NetShares limit Count.Each) scope (Some side) x y (ap (λ (t : Sort). among_of t y) (same_Some _ _ h) ∙ k) s h
is_with (RuleKind.Exposure ExposureLimit.NetShares limit Count.Together) scope (Some side) x y s h k =
    let inside : covers scope y ≡ true = ap (λ (t : Sort). among_of t y) (same_Some _ _ h) ∙ k in
    record { alike = refl; covered = λ _. inside; sort = Net (counts_account Count.Together scope y) side; has_sort = refl }
is_with (RuleKind.Rate rate count) scope side x y s h k = cc
is_with (RuleKind.Repeat repeat count) scope side x y s h k = cc
is_with (RuleKind.Listed kind stocks) scope side x y s h k = cc
is_with (RuleKind.Plain kind) scope side x y s h k = cc
is_with (RuleKind.Order kind limit) scope side x y s h k = cc

-- a figure that counts an account of the policy is that account's
joined : (policy : PolicyData) (figure : Figure) (s : Sort) (y : AccountName) → sort_of policy figure ≡ Some s → among_of s y ≡ true → is_some (account_named policy y) ≡ true
    → IsOfAccount policy y (side_in s) figure
joined policy figure s y is counted known = at (rule_in policy.rules figure.rule) refl is
  where
    at : (found : Option FileRule) → rule_in policy.rules figure.rule ≡ found → option_and_then (sort_under policy figure.account figure.side) found ≡ Some s → IsOfAccount policy y (side_in s) figure
    at None e h = cc
    at (Some rule) e h = by (is_for policy figure.account rule) refl h
      where
        by : (b : Bool) → is_for policy figure.account rule ≡ b → cond b (sort_by rule.kind figure.side (counted_with rule figure.account)) None ≡ Some s → IsOfAccount policy y (side_in s) figure
        by false f h = cc
        by true f h =
            let parts : (is_some (account_named policy figure.account) ≡ true) × (covers rule.scope figure.account ≡ true) = and_parts (is_some (account_named policy figure.account)) (covers rule.scope figure.account) f in
            let side : figure.side ≡ side_in s = sort_side rule.kind figure.side (counted_with rule figure.account) s h in
            let alike : IsWith rule.kind rule.scope figure.side figure.account y = is_with rule.kind rule.scope figure.side figure.account y s h counted in
            let for_it : is_for policy y rule ≡ true = λ i. known i && alike.covered parts.1 i in
            let its : option_and_then (sort_under policy y figure.side) (rule_in policy.rules figure.rule) ≡ Some alike.sort =
            ap (option_and_then (sort_under policy y figure.side)) e ∙ ap (λ (b : Bool). cond b (sort_by rule.kind figure.side (counted_with rule y)) None) for_it ∙ alike.has_sort in
            let other : Option StockSide → Figure = λ x. record { rule = figure.rule; account = y; side = x } in
            let here : IsSame policy figure (other figure.side) = record {
              is_counted = is_some_always policy (other figure.side) [] ∙ ap is_some its;
              same_key = λ i. record { rule = figure.rule; whose = whose_same e alike.alike i; side = figure.side };
            } in
            subst (λ (x : Option StockSide). IsSame policy figure (other x)) side here
          where
            whose_same : rule_in policy.rules figure.rule ≡ Some rule → whose rule.kind figure.account ≡ whose rule.kind y
                → option_and_then (λ (r : FileRule). whose r.kind figure.account) (rule_in policy.rules figure.rule) ≡ option_and_then (λ (r : FileRule). whose r.kind y) (rule_in policy.rules figure.rule)
            whose_same e same =
                ap (option_and_then (λ (r : FileRule). whose r.kind figure.account)) e ∙ same ∙ sym (ap (option_and_then (λ (r : FileRule). whose r.kind y)) e)

-- an order on a side of a stock: whose it is, and which side
stands_there : (among : AccountName → Bool) (side : StockSide) (o : LiveOrder) → on_side among side o.account o.terms ≡ true → (among o.account ≡ true) × (stock_side_of o ≡ side)
stands_there among side o h =
    let first = and_parts (among o.account && same_stock o.terms.stock side.stock) (is_on side.buys o.terms.side) h in
    let theirs = and_parts (among o.account) (same_stock o.terms.stock side.stock) first.0 in
    (theirs.0, λ i. record { stock = stock_is o.terms.stock side.stock theirs.1 i; buys = buys_is side.buys first.1 i })
  where
    buys_is : (b : Bool) → is_on b o.terms.side ≡ true → is_buy o.terms.side ≡ b
    buys_is true k = k
    buys_is false k = not-true (is_buy o.terms.side) k

-- a figure that counts the order is one of its account
pub counts_it : (policy : PolicyData) (figure : Figure) (s : Sort) (o : LiveOrder) → sort_of policy figure ≡ Some s → is_some (account_named policy o.account) ≡ true → counts_order s o ≡ true
    → IsOfAccount policy o.account None figure ⊎ IsOfAccount policy o.account (Some (stock_side_of o)) figure
counts_it policy figure (Shares among) o is known counted = inl (joined policy figure (Shares among) o.account is counted known)
counts_it policy figure (Value among) o is known counted = inl (joined policy figure (Value among) o.account is counted known)
counts_it policy figure (Net among side) o is known counted =
    let there : (among o.account ≡ true) × (stock_side_of o ≡ side) = stands_there among side o counted in
    inr (subst (λ (x : StockSide). IsOfAccount policy o.account (Some x) figure) (sym there.1) (joined policy figure (Net among side) o.account is there.0 known))

-- and one that counts the gain of an account is one of it
pub counts_its_gain : (policy : PolicyData) (figure : Figure) (s : Sort) (account : AccountName) → sort_of policy figure ≡ Some s → is_some (account_named policy account) ≡ true → counts_gain s account ≡ true
    → IsOfAccount policy account None figure
counts_its_gain policy figure (Shares among) account is known counted = cc
counts_its_gain policy figure (Value among) account is known counted = joined policy figure (Value among) account is counted known
counts_its_gain policy figure (Net among side) account is known counted = cc
