-- The figures that a record moves are among those that are listed.
use Rattle.std.proofs.{Common.{◌≡◌, ℕ, Bool, true, false, cond, inl, inr, List, [], ◌∷◌, ◌++◌, map, refl, sym, ap, subst, ◌∙◌}, lemmas.{List.Concat.flat_map-cons, Bool.and_parts}}
use Rattle.std.specs.{Prelude.{Option, Some, ◌&&◌, ◌==◌, is_some}, List.{AllByRecursion, filter}, Map.lookup, Option.option_map_or}
use Rattle.gx_units.specs.{Names.same_rule, declared.names.{AccountName.AccountName, RuleId.RuleId}}
use Rattle.gx_units.proofs.Names_equal.{rule_is, rule_is_itself}
use Rattle.gx_policy.specs.{declared.policy.{FileRule.FileRule, PolicyData.PolicyData}, People.{account_named, rule_in}}
use Rattle.gx_history.specs.declared.{facts.StockSide.StockSide, «record».RecordData.RecordData}
use Rattle.gx_peaks.specs.{declared.{figure.Figure.Figure, key.PeakKey.PeakKey}, Figures.counts, Keys.key_of, Noting.{IsOfAccount, IsSame}}
use Rattle.gx_peaks.proofs.Figure_sort.{counted_is}
use Rattle.gx_warnings.specs.{declared.{mark.Mark.Mark, warning.Warning.Warning}, Keeping.IsEntry, Marks.{mark_of, same_mark}, Moving.{figure_under, figures_among, figures_under, set_figure}}
use Rattle.gx_warnings.proofs.Warnings_call.{Covers, mark_is}

pub covers_left : (policy : PolicyData) (f : Figure) (gs hs : List Figure) → Covers policy gs f → Covers policy (gs ++ hs) f
covers_left policy f [] hs h = absurd h
covers_left policy f (g ∷ gs) hs (inl same) = inl same
covers_left policy f (g ∷ gs) hs (inr h) = inr (covers_left policy f gs hs h)

pub covers_right : (policy : PolicyData) (f : Figure) (gs hs : List Figure) → Covers policy hs f → Covers policy (gs ++ hs) f
covers_right policy f [] hs h = h
covers_right policy f (g ∷ gs) hs h = inr (covers_right policy f gs hs h)

-- a figure of the account, on this side of a stock or on none
module _ (policy : PolicyData) (account : AccountName) (side : Option StockSide) (f : Figure) (same : IsOfAccount policy account side f) where
  abbrev its : RuleId → Figure
  its name = record { rule = name; account = account; side = side }

  among : (rules : List FileRule) → option_map_or (λ (rule : FileRule). is_some (account_named policy account) && counts rule account side) (rule_in rules f.rule) false ≡ true
      → Covers policy (figures_among account side rules) f
  among [] h = cc
  among (rule ∷ rules) h = by (same_rule rule.name f.rule) refl h (among rules)
    where
      rest : List FileRule
      rest = filter (λ (rule : FileRule). counts rule account side) rules

      kept : (c : Bool) → Covers policy (map (figure_under account side) (filter (λ (rule : FileRule). counts rule account side) rules)) f
          → Covers policy (map (figure_under account side) (cond c (rule ∷ filter (λ (rule : FileRule). counts rule account side) rules) (filter (λ (rule : FileRule). counts rule account side) rules))) f
      kept true h = inr h
      kept false h = h

      first : (c : Bool) → c ≡ true → same_rule rule.name f.rule ≡ true
          → Covers policy (map (figure_under account side) (cond c (rule ∷ filter (λ (rule : FileRule). counts rule account side) rules) (filter (λ (rule : FileRule). counts rule account side) rules))) f
      first false h e = cc
      first true h e = inl (subst (λ (name : RuleId). IsSame policy f (its name)) (sym (rule_is rule.name f.rule e)) same)

      by : (b : Bool) → same_rule rule.name f.rule ≡ b
          → option_map_or (λ (rule : FileRule). is_some (account_named policy account) && counts rule account side) (cond b (Some rule) (rule_in rules f.rule)) false ≡ true
          → (option_map_or (λ (rule : FileRule). is_some (account_named policy account) && counts rule account side) (rule_in rules f.rule) false ≡ true → Covers policy (figures_among account side rules) f)
          → Covers policy (figures_among account side (rule ∷ rules)) f
      by true e k later = first (counts rule account side) (and_parts (is_some (account_named policy account)) (counts rule account side) k).1 e
      by false e k later = kept (counts rule account side) (later k)

  pub account_covers : Covers policy (figures_among account side policy.rules) f
  account_covers = among policy.rules (sym (counted_is policy (its f.rule)) ∙ same.is_counted)

-- a figure of the rule whose first use is kept
module _ (policy : PolicyData) (shares : List ℕ) (records : List RecordData) (rule : RuleId) (f : Figure) (named : same_rule rule f.rule ≡ true) where
  pub setting_covers : (entries : List (Mark × Warning)) (w : Warning) → AllByRecursion (IsEntry policy shares records) entries → lookup (same_mark (mark_of policy f 0)) entries ≡ Some w
      → Covers policy (figures_under rule entries) f
  setting_covers [] w each h = cc
  setting_covers (e ∷ entries) w each h =
      subst (λ (gs : List Figure). Covers policy gs f) (sym (flat_map-cons (set_figure rule) e entries)) (by (same_mark (mark_of policy f 0) e.0) refl h (setting_covers entries w each.1))
    where
      here : (b : Bool) → b ≡ true → IsSame policy f e.1.figure → Covers policy (cond b (e.1.figure ∷ []) [] ++ figures_under rule entries) f
      here true k same = inl same
      here false k same = cc

      by : (b : Bool) → same_mark (mark_of policy f 0) e.0 ≡ b → cond b (Some e.1) (lookup (same_mark (mark_of policy f 0)) entries) ≡ Some w
          → (lookup (same_mark (mark_of policy f 0)) entries ≡ Some w → Covers policy (figures_under rule entries) f) → Covers policy (set_figure rule e ++ figures_under rule entries) f
      by false k found later = covers_right policy f (set_figure rule e) (figures_under rule entries) (later found)
      by true k found later =
          let mark : mark_of policy f 0 ≡ e.0 = mark_is (mark_of policy f 0) e.0 k in
          let key : key_of policy f ≡ key_of policy e.1.figure = ap (λ (m : Mark). m.key) (mark ∙ each.0.has_mark) in
          let name : e.1.figure.rule ≡ rule = sym (ap (λ (k : PeakKey). k.rule) key) ∙ sym (rule_is rule f.rule named) in
          let zero : (e.0.share == 0) ≡ true = ap (λ (m : Mark). m.share == 0) (sym mark) in
          let of : same_rule e.1.figure.rule rule ≡ true = ap (λ (n : RuleId). same_rule n rule) name ∙ rule_is_itself rule in
          here (e.0.share == 0 && same_rule e.1.figure.rule rule) (λ i. zero i && of i) (record { is_counted = each.0.is_warning.is_counted; same_key = key })
