-- How stocks and rules are put one by one under names that differ.
use Rattle.std.proofs.{Common.{◌≡◌, ◌+◌, ℕ, ◌<◌, Bool, true, false, cond, not, ◌||◌, List, [], ◌∷◌, ◌++◌, length, get_or, take, refl, sym, ap, ◌∙◌}, lemmas.{List.take_more, Cmp.nat_list_eq_equiv}}
use Rattle.std.specs.List.{list_any, AllByRecursion}
use Rattle.indexmap.specs.{IndexMap.insert_entry, IndexSet.{insert_key, remove_key}}
use Rattle.gx_units.specs.{Names.{same_rule, same_stock}, declared.names.{RuleId.RuleId, Symbol.Symbol}}
use Rattle.gx_units.proofs.Test_known.{left_false, right_false}
use Rattle.gx_policy.specs.{declared.policy.FileRule.FileRule, Lists.are_distinct, Soundness.rules_differ}
use Rattle.gx_history.specs.InForce.{with_stock, lists_stock, without_stock}
use Rattle.gx_laws.proofs.Entries_table.{none_before}
use Rattle.gx_rules.specs.{declared.book_rule.BookRule.BookRule, Books.{rule_named, rules_of_entries}}

same_stock_symm : (a b : Symbol) → same_stock a b ≡ same_stock b a
same_stock_symm a b = nat_list_eq_equiv.symm a.bytes b.bytes

-- the next of the stocks goes last
pub next_stock : (stocks keys : List Symbol) (i : ℕ) (x d : Symbol) → are_distinct same_stock stocks ≡ true → i < length stocks → keys ≡ take i stocks → x ≡ get_or stocks i d
    → insert_key same_stock keys x ≡ take (i + 1) stocks
next_stock stocks keys i x d distinct within so_far is =
    (λ j. insert_key same_stock (so_far j) (is j))
    ∙ ap (λ b. cond b (take i stocks) (take i stocks ++ get_or stocks i d ∷ [])) (none_before same_stock same_stock_symm stocks i d distinct within)
    ∙ sym (take_more stocks i d within)

-- the set asks whether the stock is like one of its own
pub lists_by_key : (stocks : List Symbol) (stock : Symbol) → list_any (same_stock stock) stocks ≡ lists_stock stocks stock
lists_by_key [] stock = refl
lists_by_key (s ∷ stocks) stock = λ i. same_stock_symm stock s i || lists_by_key stocks stock i

pub insert_is_adding : (stocks : List Symbol) (stock : Symbol) → insert_key same_stock stocks stock ≡ with_stock stock stocks
insert_is_adding stocks stock = ap (λ b. cond b stocks (stocks ++ stock ∷ [])) (lists_by_key stocks stock)

none_removed : (stock : Symbol) (stocks : List Symbol) → AllByRecursion (λ s. same_stock stock s ≡ false) stocks → stocks ≡ without_stock stock stocks
none_removed stock [] apart = refl
none_removed stock (s ∷ stocks) apart =
    ap (λ l. s ∷ l) (none_removed stock stocks apart.1) ∙ ap (λ b. cond (not b) (s ∷ without_stock stock stocks) (without_stock stock stocks)) (sym (same_stock_symm s stock ∙ apart.0))

absent : (stock : Symbol) (stocks : List Symbol) → list_any (same_stock stock) stocks ≡ false → AllByRecursion (λ s. same_stock stock s ≡ false) stocks
absent stock [] none = tt
absent stock (s ∷ stocks) none = (left_false (same_stock stock s) (list_any (same_stock stock) stocks) none, absent stock stocks (right_false (same_stock stock s) (list_any (same_stock stock) stocks) none))

-- where none like the stock is left, the first that was like it was the only one
pub remove_is_removing : (stocks : List Symbol) (stock : Symbol) → list_any (same_stock stock) (remove_key (same_stock stock) stocks) ≡ false
    → remove_key (same_stock stock) stocks ≡ without_stock stock stocks
remove_is_removing [] stock none = refl
remove_is_removing (s ∷ stocks) stock none = by (same_stock stock s) refl none (remove_is_removing stocks stock)
  where
    by : (b : Bool) → same_stock stock s ≡ b → list_any (same_stock stock) (cond b stocks (s ∷ remove_key (same_stock stock) stocks)) ≡ false
        → (list_any (same_stock stock) (remove_key (same_stock stock) stocks) ≡ false → remove_key (same_stock stock) stocks ≡ without_stock stock stocks)
        → cond b stocks (s ∷ remove_key (same_stock stock) stocks) ≡ without_stock stock (s ∷ stocks)
    by true h none deeper =
        none_removed stock stocks (absent stock stocks none)
        ∙ ap (λ b. cond (not b) (s ∷ without_stock stock stocks) (without_stock stock stocks)) (sym (same_stock_symm s stock ∙ h))
    by false h none deeper =
        ap (λ l. s ∷ l) (deeper (right_false (same_stock stock s) (list_any (same_stock stock) (remove_key (same_stock stock) stocks)) none))
        ∙ ap (λ b. cond (not b) (s ∷ without_stock stock stocks) (without_stock stock stocks)) (sym (same_stock_symm s stock ∙ h))

kept_last : (es : List (RuleId × BookRule)) (name : RuleId) (rule : BookRule) → list_any (λ (r : FileRule). same_rule name r.name) (rules_of_entries es) ≡ false
    → rules_of_entries (insert_entry same_rule es name rule) ≡ rules_of_entries es ++ rule_named name rule ∷ []
kept_last [] name rule none = refl
kept_last (e ∷ es) name rule none =
    let others = list_any (λ (r : FileRule). same_rule name r.name) (rules_of_entries es) in
    ap (λ b. rules_of_entries (cond b ((e.0, rule) ∷ es) (e ∷ insert_entry same_rule es name rule))) (left_false (same_rule name e.0) others none)
    ∙ ap (λ l. rule_named e.0 e.1 ∷ l) (kept_last es name rule (right_false (same_rule name e.0) others none))

-- the next of the rules goes last
pub next_rule : (rules : List FileRule) (es : List (RuleId × BookRule)) (i : ℕ) (r d : FileRule) (rule : BookRule)
    → rules_differ rules ≡ true → i < length rules → rules_of_entries es ≡ take i rules → rule_named r.name rule ≡ r → r ≡ get_or rules i d
    → rules_of_entries (insert_entry same_rule es r.name rule) ≡ take (i + 1) rules
next_rule rules es i r d rule differ within so_far is at =
    let same : FileRule → FileRule → Bool = λ (a b : FileRule). same_rule a.name b.name in
    let none = none_before same (λ a b. nat_list_eq_equiv.symm a.name.bytes b.name.bytes) rules i d differ within in
    kept_last es r.name rule ((λ j. list_any (same (at j)) (so_far j)) ∙ none)
    ∙ (λ j. so_far j ++ (is ∙ at) j ∷ [])
    ∙ sym (take_more rules i d within)
