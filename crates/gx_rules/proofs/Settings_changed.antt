-- What changed settings leave as it was.
use Rattle.gx_policy.specs.{Kinds.{limit_of, stocks_of, with_limit, with_stocks}, declared.policy.{FileRule.FileRule, RuleKind.RuleKind}, People.rule_in}
use Rattle.std.proofs.{Common.{◌≡◌, ℕ, Bool, true, false, cond, not, ◌||◌, List, [], ◌∷◌, ◌++◌, map, refl, sym, ap, ◌∙◌, Option, Some, None, is_some}, lemmas.{Cmp.nat_list_eq_equiv, List.Folds.list_any-append}, Math.Bool.or-false}
use Rattle.std.specs.Option.{option_and_then, option_map_or}
use Rattle.gx_units.specs.{Names.{same_rule, same_stock}, declared.names.{RuleId.RuleId, Symbol.Symbol}}
use Rattle.gx_history.specs.{Asking.knows_stocks, InForce.{with_stock, change_rule, lists_stock, without_stock}}
use Rattle.gx_rules.specs.{Laws.{names_of, scopes_of}, Settings.{limit_in, lists_in, with_stock_restricted, with_stock_unrestricted, with_limit_of}}

-- the rules of other names
module _ (name : RuleId) (change : RuleKind → RuleKind) where
  pub others_stay : (other : RuleId) (rules : List FileRule) → same_rule name other ≡ false → rule_in (map (change_rule name change) rules) other ≡ rule_in rules other
  others_stay other [] apart = refl
  others_stay other (r ∷ rules) apart = by (same_rule r.name other) refl (others_stay other rules apart)
    where
      here : same_rule r.name other ≡ true → same_rule r.name name ≡ false
      here same = nat_list_eq_equiv.congr r.name.bytes other.bytes name.bytes same ∙ (nat_list_eq_equiv.symm other.bytes name.bytes ∙ apart)

      by : (b : Bool) → same_rule r.name other ≡ b → rule_in (map (change_rule name change) rules) other ≡ rule_in rules other
          → cond b (Some (change_rule name change r)) (rule_in (map (change_rule name change) rules) other) ≡ cond b (Some r) (rule_in rules other)
      by true same deeper = ap (λ b. Some (record { name = r.name; scope = r.scope; kind = cond b (change r.kind) r.kind })) (here same)
      by false same deeper = deeper

  pub names_stay : (rules : List FileRule) → names_of (map (change_rule name change) rules) ≡ names_of rules
  names_stay [] = refl
  names_stay (r ∷ rules) = ap (λ names. r.name ∷ names) (names_stay rules)

  pub scopes_stay : (rules : List FileRule) → scopes_of (map (change_rule name change) rules) ≡ scopes_of rules
  scopes_stay [] = refl
  scopes_stay (r ∷ rules) = ap (λ scopes. r.scope ∷ scopes) (scopes_stay rules)

limit_put : (value : ℕ) (kind : RuleKind) → is_some (limit_of kind) ≡ true → limit_of (with_limit value kind) ≡ Some value
limit_put value (RuleKind.Listed kind stocks) some = cc
limit_put value (RuleKind.Plain kind) some = cc
limit_put value (RuleKind.Order kind limit) some = refl
limit_put value (RuleKind.Exposure kind limit count) some = refl
limit_put value (RuleKind.Rate rate count) some = cc
limit_put value (RuleKind.Repeat repeat count) some = cc

-- the limit that was set
pub limit_set : (name : RuleId) (value : ℕ) (rules : List FileRule) → is_some (limit_in rules name) ≡ true → limit_in (with_limit_of name value rules) name ≡ Some value
limit_set name value [] some = cc
limit_set name value (r ∷ rules) some = by (same_rule r.name name) some (limit_set name value rules)
  where
    kind_then : Bool → RuleKind
    kind_then b = cond b (with_limit value r.kind) r.kind

    by : (b : Bool) → is_some (option_and_then (λ (r : FileRule). limit_of r.kind) (cond b (Some r) (rule_in rules name))) ≡ true
        → (is_some (limit_in rules name) ≡ true → limit_in (with_limit_of name value rules) name ≡ Some value)
        → option_and_then (λ (r : FileRule). limit_of r.kind) (cond b (Some (record { name = r.name; scope = r.scope; kind = kind_then b })) (rule_in (with_limit_of name value rules) name)) ≡ Some value
    by true some deeper = limit_put value r.kind some
    by false some deeper = deeper some

-- whether the stock is on the kind's list, once that is changed
abbrev listed_then : (List Symbol → List Symbol) → Symbol → RuleKind → Bool
listed_then change stock kind = option_map_or (λ stocks. lists_stock (change stocks) stock) (stocks_of kind) false

listed_put : (change : List Symbol → List Symbol) (stock : Symbol) (kind : RuleKind)
    → option_map_or (λ stocks. lists_stock stocks stock) (stocks_of (with_stocks change kind)) false ≡ listed_then change stock kind
listed_put change stock (RuleKind.Listed kind stocks) = refl
listed_put change stock (RuleKind.Plain kind) = refl
listed_put change stock (RuleKind.Order kind limit) = refl
listed_put change stock (RuleKind.Exposure kind limit count) = refl
listed_put change stock (RuleKind.Rate rate count) = refl
listed_put change stock (RuleKind.Repeat repeat count) = refl

-- a changed list is the list of the rule, changed
listed_changed : (name : RuleId) (change : List Symbol → List Symbol) (stock : Symbol) (rules : List FileRule)
    → lists_in (map (change_rule name (with_stocks change)) rules) name stock ≡ option_map_or (λ (r : FileRule). listed_then change stock r.kind) (rule_in rules name) false
listed_changed name change stock [] = refl
listed_changed name change stock (r ∷ rules) = by (same_rule r.name name) (listed_changed name change stock rules)
  where
    kind_then : Bool → RuleKind
    kind_then b = cond b (with_stocks change r.kind) r.kind

    by : (b : Bool) → lists_in (map (change_rule name (with_stocks change)) rules) name stock ≡ option_map_or (λ (r : FileRule). listed_then change stock r.kind) (rule_in rules name) false
        → option_map_or (λ (r : FileRule). option_map_or (λ stocks. lists_stock stocks stock) (stocks_of r.kind) false) (cond b (Some (record { name = r.name; scope = r.scope; kind = kind_then b })) (rule_in (map (change_rule name (with_stocks change)) rules) name)) false
        ≡ option_map_or (λ (r : FileRule). listed_then change stock r.kind) (cond b (Some r) (rule_in rules name)) false
    by true deeper = listed_put change stock r.kind
    by false deeper = deeper

-- where each list holds the stock as before, or always, or never, so does the rule's
same_kind : (change : List Symbol → List Symbol) (stock : Symbol) → ((stocks : List Symbol) → lists_stock (change stocks) stock ≡ lists_stock stocks stock)
    → (stocks : Option (List Symbol)) → option_map_or (λ stocks. lists_stock (change stocks) stock) stocks false ≡ option_map_or (λ stocks. lists_stock stocks stock) stocks false
same_kind change stock same None = refl
same_kind change stock same (Some stocks) = same stocks

same_listed : (name : RuleId) (change : List Symbol → List Symbol) (stock : Symbol) (rules : List FileRule) → ((stocks : List Symbol) → lists_stock (change stocks) stock ≡ lists_stock stocks stock)
    → lists_in (map (change_rule name (with_stocks change)) rules) name stock ≡ lists_in rules name stock
same_listed name change stock rules same = listed_changed name change stock rules ∙ by (rule_in rules name)
  where
    by : (found : Option FileRule) → option_map_or (λ (r : FileRule). listed_then change stock r.kind) found false ≡ option_map_or (λ (r : FileRule). option_map_or (λ stocks. lists_stock stocks stock) (stocks_of r.kind) false) found false
    by None = refl
    by (Some r) = same_kind change stock same (stocks_of r.kind)

none_listed : (name : RuleId) (change : List Symbol → List Symbol) (stock : Symbol) (rules : List FileRule) → ((stocks : List Symbol) → lists_stock (change stocks) stock ≡ false)
    → lists_in (map (change_rule name (with_stocks change)) rules) name stock ≡ false
none_listed name change stock rules none = listed_changed name change stock rules ∙ by (rule_in rules name)
  where
    in_list : (stocks : Option (List Symbol)) → option_map_or (λ stocks. lists_stock (change stocks) stock) stocks false ≡ false
    in_list None = refl
    in_list (Some stocks) = none stocks

    by : (found : Option FileRule) → option_map_or (λ (r : FileRule). listed_then change stock r.kind) found false ≡ false
    by None = refl
    by (Some r) = in_list (stocks_of r.kind)

always_listed : (name : RuleId) (change : List Symbol → List Symbol) (stock : Symbol) (rules : List FileRule) → ((stocks : List Symbol) → lists_stock (change stocks) stock ≡ true)
    → knows_stocks (rule_in rules name) ≡ true → lists_in (map (change_rule name (with_stocks change)) rules) name stock ≡ true
always_listed name change stock rules all known = listed_changed name change stock rules ∙ by (rule_in rules name) known
  where
    in_list : (stocks : Option (List Symbol)) → is_some stocks ≡ true → option_map_or (λ stocks. lists_stock (change stocks) stock) stocks false ≡ true
    in_list None some = cc
    in_list (Some stocks) some = all stocks

    by : (found : Option FileRule) → knows_stocks found ≡ true → option_map_or (λ (r : FileRule). listed_then change stock r.kind) found false ≡ true
    by None some = cc
    by (Some r) some = in_list (stocks_of r.kind) some

last_listed : (stocks : List Symbol) (stock other : Symbol) → lists_stock (stocks ++ stock ∷ []) other ≡ (lists_stock stocks other || same_stock stock other)
last_listed stocks stock other =
    list_any-append (λ s. same_stock s other) stocks (stock ∷ []) ∙ ap (λ b. lists_stock stocks other || b) (or-false (same_stock stock other))

added_is_listed : (stock : Symbol) (stocks : List Symbol) → lists_stock (with_stock stock stocks) stock ≡ true
added_is_listed stock stocks = by (lists_stock stocks stock) refl
  where
    by : (b : Bool) → lists_stock stocks stock ≡ b → lists_stock (cond b stocks (stocks ++ stock ∷ [])) stock ≡ true
    by true h = h
    by false h = last_listed stocks stock stock ∙ ap (λ b. b || same_stock stock stock) h ∙ nat_list_eq_equiv.refl stock.bytes

others_after_adding : (stock other : Symbol) → same_stock stock other ≡ false → (stocks : List Symbol) → lists_stock (with_stock stock stocks) other ≡ lists_stock stocks other
others_after_adding stock other apart stocks = by (lists_stock stocks stock)
  where
    by : (b : Bool) → lists_stock (cond b stocks (stocks ++ stock ∷ [])) other ≡ lists_stock stocks other
    by true = refl
    by false = last_listed stocks stock other ∙ ap (λ b. lists_stock stocks other || b) apart ∙ or-false (lists_stock stocks other)

removed_is_not_listed : (stock : Symbol) (stocks : List Symbol) → lists_stock (without_stock stock stocks) stock ≡ false
removed_is_not_listed stock [] = refl
removed_is_not_listed stock (s ∷ stocks) = by (same_stock s stock) refl (removed_is_not_listed stock stocks)
  where
    by : (b : Bool) → same_stock s stock ≡ b → lists_stock (without_stock stock stocks) stock ≡ false → lists_stock (cond (not b) (s ∷ without_stock stock stocks) (without_stock stock stocks)) stock ≡ false
    by true h deeper = deeper
    by false h deeper = (λ i. h i || deeper i)

others_after_removing : (stock other : Symbol) → same_stock stock other ≡ false → (stocks : List Symbol) → lists_stock (without_stock stock stocks) other ≡ lists_stock stocks other
others_after_removing stock other apart [] = refl
others_after_removing stock other apart (s ∷ stocks) = by (same_stock s stock) refl (others_after_removing stock other apart stocks)
  where
    by : (b : Bool) → same_stock s stock ≡ b → lists_stock (without_stock stock stocks) other ≡ lists_stock stocks other
        → lists_stock (cond (not b) (s ∷ without_stock stock stocks) (without_stock stock stocks)) other ≡ lists_stock (s ∷ stocks) other
    by true h deeper = deeper ∙ ap (λ b. b || lists_stock stocks other) (sym (nat_list_eq_equiv.congr s.bytes stock.bytes other.bytes h ∙ apart))
    by false h deeper = ap (λ b. same_stock s other || b) deeper

pub restricted_listed : (name : RuleId) (stock : Symbol) (rules : List FileRule) → knows_stocks (rule_in rules name) ≡ true → lists_in (with_stock_restricted name stock rules) name stock ≡ true
restricted_listed name stock rules known = always_listed name (with_stock stock) stock rules (added_is_listed stock) known

pub unrestricted_not_listed : (name : RuleId) (stock : Symbol) (rules : List FileRule) → lists_in (with_stock_unrestricted name stock rules) name stock ≡ false
unrestricted_not_listed name stock rules = none_listed name (without_stock stock) stock rules (removed_is_not_listed stock)

pub kept_by_restrict : (name : RuleId) (stock other : Symbol) (rules : List FileRule) → same_stock stock other ≡ false → lists_in (with_stock_restricted name stock rules) name other ≡ lists_in rules name other
kept_by_restrict name stock other rules apart = same_listed name (with_stock stock) other rules (others_after_adding stock other apart)

pub kept_by_unrestrict : (name : RuleId) (stock other : Symbol) (rules : List FileRule) → same_stock stock other ≡ false → lists_in (with_stock_unrestricted name stock rules) name other ≡ lists_in rules name other
kept_by_unrestrict name stock other rules apart = same_listed name (without_stock stock) other rules (others_after_removing stock other apart)
