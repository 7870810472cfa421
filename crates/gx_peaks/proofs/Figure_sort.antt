-- Each figure is of one of three sorts, of some accounts.
use Rattle.gx_policy.specs.{declared.{kinds.{ExposureLimit.ExposureLimit}, policy.{Count.Count, FileRule.FileRule, PolicyData.PolicyData, RuleKind.RuleKind}}, People.{account_named, covers, rule_in}}
use Rattle.std.proofs.Common.{◌≡◌, ℕ, ◌+ℤ◌, pos, Bool, true, false, cond, List, [], refl, sym, ap, ◌∙◌}
use Rattle.std.specs.{Option.option_map_or, Prelude.{Option, Some, None, ◌&&◌, is_some, option_and_then, option_map, unwrap_or}}
use Rattle.gx_units.specs.declared.names.AccountName.{AccountName}
use Rattle.gx_history.specs.{declared.{facts.StockSide.StockSide, «record».RecordData.RecordData}, Executions.executions, Figures.{net_done, side_live}, Live.live}
use Rattle.gx_laws.specs.Exposure.{gross_shares, gross_value}
use Rattle.gx_records.specs.State.{counted_with, gross_of, gross_of_rule, is_for, net_of, net_of_rule}
use Rattle.gx_peaks.specs.{declared.figure.Figure.Figure, Figures.{above_zero, amount, counts, fits, is_counted, used_of, used_on}}

-- gross shares, gross value, or net shares on a side of a stock
pub data Sort : Type 0 where
  Shares : (AccountName → Bool) → Sort
  Value : (AccountName → Bool) → Sort
  Net : (AccountName → Bool) → StockSide → Sort

-- what it comes to
abbrev pub total_of : PolicyData → Sort → List RecordData → ℕ
total_of policy (Shares among) records = gross_shares policy records among
total_of policy (Value among) records = gross_value policy records among
total_of policy (Net among side) records = above_zero (net_done (executions policy records) among side +ℤ pos (side_live (live policy records) among side))

-- of a rule of this kind, over these accounts
abbrev pub sort_by : RuleKind → Option StockSide → (Count → AccountName → Bool) → Option Sort
sort_by (RuleKind.Exposure ExposureLimit.GrossShares limit count) None among = Some (Shares (among count))
sort_by (RuleKind.Exposure ExposureLimit.GrossValue limit count) None among = Some (Value (among count))
sort_by (RuleKind.Exposure ExposureLimit.NetShares limit count) (Some side) among = Some (Net (among count) side)
sort_by other side among = None

-- of a rule, for an account
abbrev pub sort_under : PolicyData → AccountName → Option StockSide → FileRule → Option Sort
sort_under policy account side rule = cond (is_for policy account rule) (sort_by rule.kind side (counted_with rule account)) None

-- of the figure; None where it is of no rule for the account
abbrev pub sort_of : PolicyData → Figure → Option Sort
sort_of policy figure = option_and_then (sort_under policy figure.account figure.side) (rule_in policy.rules figure.rule)

gross_is : (policy : PolicyData) (records : List RecordData) (among : Count → AccountName → Bool) (kind : RuleKind)
    → gross_of policy records among kind ≡ option_map (λ (s : Sort). total_of policy s records) (sort_by kind None among)
gross_is policy records among (RuleKind.Exposure ExposureLimit.GrossShares limit count) = refl
gross_is policy records among (RuleKind.Exposure ExposureLimit.GrossValue limit count) = refl
gross_is policy records among (RuleKind.Exposure ExposureLimit.NetShares limit count) = refl
gross_is policy records among (RuleKind.Rate rate count) = refl
gross_is policy records among (RuleKind.Repeat repeat count) = refl
gross_is policy records among (RuleKind.Listed kind stocks) = refl
gross_is policy records among (RuleKind.Plain kind) = refl
gross_is policy records among (RuleKind.Order kind limit) = refl

net_is : (policy : PolicyData) (records : List RecordData) (among : Count → AccountName → Bool) (side : StockSide) (kind : RuleKind)
    → option_map above_zero (net_of policy records among side kind) ≡ option_map (λ (s : Sort). total_of policy s records) (sort_by kind (Some side) among)
net_is policy records among side (RuleKind.Exposure ExposureLimit.GrossShares limit count) = refl
net_is policy records among side (RuleKind.Exposure ExposureLimit.GrossValue limit count) = refl
net_is policy records among side (RuleKind.Exposure ExposureLimit.NetShares limit count) = refl
net_is policy records among side (RuleKind.Rate rate count) = refl
net_is policy records among side (RuleKind.Repeat repeat count) = refl
net_is policy records among side (RuleKind.Listed kind stocks) = refl
net_is policy records among side (RuleKind.Plain kind) = refl
net_is policy records among side (RuleKind.Order kind limit) = refl

-- what the figure comes to, by its sort
pub used_is : (policy : PolicyData) (figure : Figure) (records : List RecordData) → used_of policy figure records ≡ option_map (λ (s : Sort). total_of policy s records) (sort_of policy figure)
used_is policy figure records = on figure.side
  where
    gross : (rule : FileRule) (b : Bool)
        → cond b (gross_of policy records (counted_with rule figure.account) rule.kind) None ≡ option_map (λ (s : Sort). total_of policy s records) (cond b (sort_by rule.kind None (counted_with rule figure.account)) None)
    gross rule true = gross_is policy records (counted_with rule figure.account) rule.kind
    gross rule false = refl

    net : (side : StockSide) (rule : FileRule) (b : Bool)
        → option_map above_zero (cond b (net_of policy records (counted_with rule figure.account) side rule.kind) None)
        ≡ option_map (λ (s : Sort). total_of policy s records) (cond b (sort_by rule.kind (Some side) (counted_with rule figure.account)) None)
    net side rule true = net_is policy records (counted_with rule figure.account) side rule.kind
    net side rule false = refl

    gross_found : (found : Option FileRule)
        → option_and_then (gross_of_rule policy records figure.account) found ≡ option_map (λ (s : Sort). total_of policy s records) (option_and_then (sort_under policy figure.account None) found)
    gross_found None = refl
    gross_found (Some rule) = gross rule (is_for policy figure.account rule)

    net_found : (side : StockSide) (found : Option FileRule)
        → option_map above_zero (option_and_then (net_of_rule policy records figure.account side) found)
        ≡ option_map (λ (s : Sort). total_of policy s records) (option_and_then (sort_under policy figure.account (Some side)) found)
    net_found side None = refl
    net_found side (Some rule) = net side rule (is_for policy figure.account rule)

    on : (side : Option StockSide)
        → used_on policy figure side records ≡ option_map (λ (s : Sort). total_of policy s records) (option_and_then (sort_under policy figure.account side) (rule_in policy.rules figure.rule))
    on None = gross_found (rule_in policy.rules figure.rule)
    on (Some side) = net_found side (rule_in policy.rules figure.rule)

counted_map : (policy : PolicyData) (records : List RecordData) (found : Option Sort) → is_some (option_map (λ (s : Sort). total_of policy s records) found) ≡ is_some found
counted_map policy records None = refl
counted_map policy records (Some s) = refl

-- whether it is of a rule for the account is told by the policy alone
pub is_some_always : (policy : PolicyData) (figure : Figure) (records : List RecordData) → is_some (used_of policy figure records) ≡ is_some (sort_of policy figure)
is_some_always policy figure records = ap is_some (used_is policy figure records) ∙ counted_map policy records (sort_of policy figure)

-- the figure of a sort
pub amount_is : (policy : PolicyData) (figure : Figure) (s : Sort) → sort_of policy figure ≡ Some s → (records : List RecordData) → amount policy figure records ≡ total_of policy s records
amount_is policy figure s is records =
    ap (λ (o : Option ℕ). unwrap_or o 0) (used_is policy figure records) ∙ ap (λ (found : Option Sort). unwrap_or (option_map (λ (s : Sort). total_of policy s records) found) 0) is

-- a figure that is counted has a sort
pub has_sort : (policy : PolicyData) (figure : Figure) → is_counted policy figure ≡ true → (s : Sort) × (sort_of policy figure ≡ Some s)
has_sort policy figure counted = by (sort_of policy figure) (sym (is_some_always policy figure []) ∙ counted)
  where
    by : (found : Option Sort) → is_some found ≡ true → (s : Sort) × (found ≡ Some s)
    by None h = cc
    by (Some s) h = (s, refl)

fits_kind : (kind : RuleKind) (side : Option StockSide) (among : Count → AccountName → Bool) → fits kind side ≡ is_some (sort_by kind side among)
fits_kind (RuleKind.Exposure ExposureLimit.GrossShares limit count) None among = refl
fits_kind (RuleKind.Exposure ExposureLimit.GrossShares limit count) (Some side) among = refl
fits_kind (RuleKind.Exposure ExposureLimit.GrossValue limit count) None among = refl
fits_kind (RuleKind.Exposure ExposureLimit.GrossValue limit count) (Some side) among = refl
fits_kind (RuleKind.Exposure ExposureLimit.NetShares limit count) None among = refl
fits_kind (RuleKind.Exposure ExposureLimit.NetShares limit count) (Some side) among = refl
fits_kind (RuleKind.Rate rate count) side among = refl
fits_kind (RuleKind.Repeat repeat count) side among = refl
fits_kind (RuleKind.Listed kind stocks) side among = refl
fits_kind (RuleKind.Plain kind) side among = refl
fits_kind (RuleKind.Order kind limit) side among = refl

-- whether the figure is counted, by its rule
pub counted_is : (policy : PolicyData) (figure : Figure)
    → is_counted policy figure ≡ option_map_or (λ (rule : FileRule). is_some (account_named policy figure.account) && counts rule figure.account figure.side) (rule_in policy.rules figure.rule) false
counted_is policy figure = is_some_always policy figure [] ∙ at (rule_in policy.rules figure.rule)
  where
    by : (rule : FileRule) (known inside : Bool)
        → is_some (cond (known && inside) (sort_by rule.kind figure.side (counted_with rule figure.account)) None) ≡ (known && (inside && fits rule.kind figure.side))
    by rule true true = sym (fits_kind rule.kind figure.side (counted_with rule figure.account))
    by rule true false = refl
    by rule false inside = refl

    at : (found : Option FileRule)
        → is_some (option_and_then (sort_under policy figure.account figure.side) found)
        ≡ option_map_or (λ (rule : FileRule). is_some (account_named policy figure.account) && counts rule figure.account figure.side) found false
    at None = refl
    at (Some rule) = by rule (is_some (account_named policy figure.account)) (covers rule.scope figure.account)
