-- Where a rule stands among the entries, and what a change of it there does to the rules.
use Rattle.std.proofs.{Common.{◌≡◌, ◌+◌, ℕ, zero, suc, ◌<◌, Bool, true, false, cond, not, List, [], ◌∷◌, map, length, slice_get, position, refl, sym, ap, ◌∙◌, Some, Option, is_some, option_map, arith}, lemmas.{Cmp.nat_list_eq_equiv, Map.Keys.{IsDistinct-head, IsDistinct-tail}}}
use Rattle.std.specs.{List.{position_or_len, IsDistinct, AllByRecursion}, Map.{keys_of, values_of, lookup}}
use Rattle.indexmap.specs.IndexMap.{set_value_at}
use Rattle.indexmap.proofs.MapLemmas.{Found-position}
use Rattle.gx_units.specs.{Names.same_rule, declared.names.RuleId.RuleId}
use Rattle.gx_units.proofs.Names_equal.{rule_is}
use Rattle.gx_policy.specs.{declared.policy.RuleKind.RuleKind, People.rule_in}
use Rattle.gx_history.specs.InForce.{change_rule}
use Rattle.gx_rules.specs.{declared.book_rule.BookRule.BookRule, Books.{book_kind, rule_named, rules_of_entries}}

pub same_rule_symm : (a b : RuleId) → same_rule a b ≡ same_rule b a
same_rule_symm a b = nat_list_eq_equiv.symm a.bytes b.bytes

-- the first entry whose key passes is the i-th
abbrev FirstAt : (RuleId → Bool) → List (RuleId × BookRule) → ℕ → Type 0
FirstAt t [] i = ⊥
FirstAt t (e ∷ es) zero = t e.0 ≡ true
FirstAt t (e ∷ es) (suc i) = (t e.0 ≡ false) × FirstAt t es i

first_at : (t : RuleId → Bool) (es : List (RuleId × BookRule)) (i : ℕ) → position_or_len t (keys_of es) ≡ i → i < length es → FirstAt t es i
first_at t [] i e w = absurd (omega (arith, w))
first_at t (x ∷ xs) i e w = by (t x.0) refl i e w (first_at t xs)
  where
    by : (b : Bool) → t x.0 ≡ b → (i : ℕ) → cond (not b) (1 + position_or_len t (keys_of xs)) 0 ≡ i → i < length (x ∷ xs)
        → ((i : ℕ) → position_or_len t (keys_of xs) ≡ i → i < length xs → FirstAt t xs i) → FirstAt t (x ∷ xs) i
    by true h zero e w deeper = h
    by true h (suc i) e w deeper = absurd (omega (arith, e))
    by false h zero e w deeper = absurd (omega (arith, e))
    by false h (suc i) e w deeper = (h, deeper i (omega (arith, e)) (omega (arith, w)))

module _ (name : RuleId) (change : RuleKind → RuleKind) where
  other_stays : (key : RuleId) (rule : BookRule) → same_rule name key ≡ false → change_rule name change (rule_named key rule) ≡ rule_named key rule
  other_stays key rule apart =
      ap (λ b. record { name = key; scope = rule.scope; kind = cond b (change (book_kind rule)) (book_kind rule) }) (same_rule_symm key name ∙ apart)

  others_stay : (es : List (RuleId × BookRule)) → AllByRecursion (λ key. same_rule name key ≡ false) (keys_of es) → map (change_rule name change) (rules_of_entries es) ≡ rules_of_entries es
  others_stay [] apart = refl
  others_stay (e ∷ es) apart = λ i. other_stays e.0 e.1 apart.0 i ∷ others_stay es apart.1 i

  apart_from : (key : RuleId) (keys : List RuleId) → same_rule name key ≡ true → AllByRecursion (λ other. same_rule key other ≡ false) keys → AllByRecursion (λ other. same_rule name other ≡ false) keys
  apart_from key [] same apart = tt
  apart_from key (k ∷ keys) same apart = (nat_list_eq_equiv.congr name.bytes key.bytes k.bytes same ∙ apart.0, apart_from key keys same apart.1)

  changed_there : (key : RuleId) (v w : BookRule) → same_rule name key ≡ true → book_kind w ≡ change (book_kind v) → w.scope ≡ v.scope
      → rule_named key w ≡ change_rule name change (rule_named key v)
  changed_there key v w same kind scope =
      (λ i. record { name = key; scope = scope i; kind = kind i })
      ∙ ap (λ b. record { name = key; scope = v.scope; kind = cond b (change (book_kind v)) (book_kind v) }) (sym (same_rule_symm key name ∙ same))

  changed_first : (es : List (RuleId × BookRule)) (i : ℕ) (v w : BookRule) → IsDistinct same_rule (keys_of es) → FirstAt (same_rule name) es i
      → slice_get (values_of es) i ≡ Some v → book_kind w ≡ change (book_kind v) → w.scope ≡ v.scope
      → rules_of_entries (set_value_at es i w) ≡ map (change_rule name change) (rules_of_entries es)
  changed_first [] i v w distinct first at kind scope = absurd first
  changed_first (e ∷ es) zero v w distinct first at kind scope =
      let same : e.1 ≡ v = cc in
      let head : rule_named e.0 w ≡ change_rule name change (rule_named e.0 e.1) = changed_there e.0 e.1 w first (kind ∙ ap (λ r. change (book_kind r)) (sym same)) (scope ∙ ap (λ (r : BookRule). r.scope) (sym same)) in
      let tail = others_stay es (apart_from e.0 (keys_of es) first (IsDistinct-head same_rule e.0 (keys_of es) distinct)) in
      λ i. head i ∷ sym tail i
  changed_first (e ∷ es) (suc i) v w distinct first at kind scope =
      let head = other_stays e.0 e.1 first.0 in
      let tail = changed_first es i v w (IsDistinct-tail same_rule e.0 (keys_of es) distinct) first.1 at kind scope in
      λ i. sym head i ∷ tail i

  -- the rule of this name changes, where its entry is given a value with the changed kind
  pub changed_at : (es : List (RuleId × BookRule)) (i : ℕ) (v w : BookRule) → IsDistinct same_rule (keys_of es) → position (same_rule name) (keys_of es) ≡ Some i
      → slice_get (values_of es) i ≡ Some v → book_kind w ≡ change (book_kind v) → w.scope ≡ v.scope
      → rules_of_entries (set_value_at es i w) ≡ map (change_rule name change) (rules_of_entries es)
  changed_at es i v w distinct place at kind scope =
      let found = Found-position (same_rule name) es i place in
      changed_first es i v w distinct (first_at (same_rule name) es i found.or_len found.within) at kind scope

  absent : (es : List (RuleId × BookRule)) → is_some (lookup (same_rule name) es) ≡ false → AllByRecursion (λ key. same_rule name key ≡ false) (keys_of es)
  absent [] none = tt
  absent (e ∷ es) none = by (same_rule name e.0) refl none (absent es)
    where
      by : (b : Bool) → same_rule name e.0 ≡ b → is_some (cond b (Some e.1) (lookup (same_rule name) es)) ≡ false
          → (is_some (lookup (same_rule name) es) ≡ false → AllByRecursion (λ key. same_rule name key ≡ false) (keys_of es)) → AllByRecursion (λ key. same_rule name key ≡ false) (keys_of (e ∷ es))
      by true h none deeper = cc
      by false h none deeper = (h, deeper none)

  -- the rules stay, where none has this name
  pub changed_nowhere : (es : List (RuleId × BookRule)) → is_some (lookup (same_rule name) es) ≡ false → rules_of_entries es ≡ map (change_rule name change) (rules_of_entries es)
  changed_nowhere es none = sym (others_stay es (absent es none))

-- the rules stay, where an entry is given a value with the same kind
pub same_at : (es : List (RuleId × BookRule)) (i : ℕ) (v w : BookRule) → slice_get (values_of es) i ≡ Some v → book_kind w ≡ book_kind v → w.scope ≡ v.scope
    → rules_of_entries (set_value_at es i w) ≡ rules_of_entries es
same_at [] i v w at kind scope = refl
same_at (e ∷ es) zero v w at kind scope =
    let same : e.1 ≡ v = cc in
    (λ i. record { name = e.0; scope = scope i; kind = kind i } ∷ rules_of_entries es) ∙ ap (λ r. rule_named e.0 r ∷ rules_of_entries es) (sym same)
same_at (e ∷ es) (suc i) v w at kind scope = ap (λ rules. rule_named e.0 e.1 ∷ rules) (same_at es i v w at kind scope)

-- the rule of this name is what its entry says
pub rule_found : (es : List (RuleId × BookRule)) (name : RuleId) (o : Option BookRule) → o ≡ lookup (same_rule name) es
    → option_map (rule_named name) o ≡ rule_in (rules_of_entries es) name
rule_found es name o at = ap (option_map (rule_named name)) at ∙ of_entries es
  where
    of_entries : (es : List (RuleId × BookRule)) → option_map (rule_named name) (lookup (same_rule name) es) ≡ rule_in (rules_of_entries es) name
    of_entries [] = refl
    of_entries (e ∷ es) =
        by (same_rule name e.0) refl (of_entries es)
        ∙ ap (λ b. cond b (Some (rule_named e.0 e.1)) (rule_in (rules_of_entries es) name)) (same_rule_symm name e.0)
      where
        by : (b : Bool) → same_rule name e.0 ≡ b → option_map (rule_named name) (lookup (same_rule name) es) ≡ rule_in (rules_of_entries es) name
            → option_map (rule_named name) (cond b (Some e.1) (lookup (same_rule name) es)) ≡ cond b (Some (rule_named e.0 e.1)) (rule_in (rules_of_entries es) name)
        by true same others = ap (λ (key : RuleId). Some (rule_named key e.1)) (rule_is name e.0 same)
        by false apart others = others
