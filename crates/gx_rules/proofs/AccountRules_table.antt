-- The rules that an account is under, asked in the place of all.
use Rattle.std.proofs.{Common.{◌≡◌, ℕ, zero, suc, ◌+◌, ◌<◌, Bool, true, false, cond, ◌&&◌, List, [], ◌∷◌, ◌++◌, map, length, get_or, take, slice_get, refl, sym, ap, ◌∙◌, arith}, lemmas.{List.take_more, Cmp.nat_list_eq_equiv}}
use Rattle.std.specs.{Prelude.{Option, Some, None, find, option_map, option_and_then}, Option.option_map_or, List.list_any, Map.{keys_of, values_of, lookup}}
use Rattle.indexmap.specs.IndexMap.{insert_entry, set_value_at}
use Rattle.gx_units.specs.{Names.same_account, declared.names.{AccountName.AccountName, RuleId.RuleId}}
use Rattle.gx_history.specs.{declared.{facts.{Facts.Facts, ProposedOrder.ProposedOrder, RuleFigures.RuleFigures}, «record».Request.Request}, Rules.{rules_with_figures, figured_from, first_file_rule, kind_forbids, of_proposed, proposed_order, rule_forbids}}
use Rattle.gx_policy.specs.{declared.{policy.{Account.Account, FileRule.FileRule}, rule_name.RuleName.{TheVariants.File, RuleName}}, People.covers, Soundness.accounts_differ}
use Rattle.gx_laws.proofs.Entries_table.{none_before}
use Rattle.gx_rules.specs.{declared.book_rule.BookRule.BookRule, Books.{book_kind, rule_named, rules_of_entries}, Places.{places_covering, covering_from, forbids_at, named_at, places_of}}
use Rattle.gx_units.proofs.{Test_known.{and_false, left_false, right_false}, Names_equal.account_is}

-- the place of one more rule
pub covering-more : (account : AccountName) (place : ℕ) (rules : List FileRule) (i : ℕ) (d : FileRule) → i < length rules
    → covering_from account place (take (i + 1) rules)
    ≡ cond (covers (get_or rules i d).scope account) (covering_from account place (take i rules) ++ (place + i) ∷ []) (covering_from account place (take i rules))
covering-more account place [] i d within = absurd (omega (arith, within))
covering-more account place (rule ∷ rules) zero d within = here (covers rule.scope account)
  where
    at : place ≡ place + 0
    at = omega arith

    here : (b : Bool) → cond b (place ∷ []) [] ≡ cond b ([] ++ (place + 0) ∷ []) []
    here true = ap (λ n. n ∷ []) at
    here false = refl
covering-more account place (rule ∷ rules) (suc i) d within =
    (λ j. covering_from account place (take (next j) (rule ∷ rules)))
    ∙ by (covers rule.scope account) (covering-more account (suc place) rules i d (omega (arith, within)))
    ∙ (λ j. cond (covers (get_or rules i d).scope account) (covering_from account place (rule ∷ take i rules) ++ later j ∷ []) (covering_from account place (rule ∷ take i rules)))
  where
    next : suc i + 1 ≡ suc (i + 1)
    next = omega arith

    later : suc place + i ≡ place + suc i
    later = omega arith

    inner : (b : Bool) (xs : List ℕ) (n : ℕ) → place ∷ cond b (xs ++ n ∷ []) xs ≡ cond b (place ∷ (xs ++ n ∷ [])) (place ∷ xs)
    inner true xs n = refl
    inner false xs n = refl

    by : (b : Bool) → covering_from account (suc place) (take (i + 1) rules)
        ≡ cond (covers (get_or rules i d).scope account) (covering_from account (suc place) (take i rules) ++ (suc place + i) ∷ []) (covering_from account (suc place) (take i rules))
        → cond b (place ∷ covering_from account (suc place) (take (i + 1) rules)) (covering_from account (suc place) (take (i + 1) rules))
        ≡ cond (covers (get_or rules i d).scope account)
        (cond b (place ∷ covering_from account (suc place) (take i rules)) (covering_from account (suc place) (take i rules)) ++ (suc place + i) ∷ [])
        (cond b (place ∷ covering_from account (suc place) (take i rules)) (covering_from account (suc place) (take i rules)))
    by true deeper = ap (λ l. place ∷ l) deeper ∙ inner (covers (get_or rules i d).scope account) (covering_from account (suc place) (take i rules)) (suc place + i)
    by false deeper = deeper

-- the next of the rules
pub next_place : (account : AccountName) (rules : List FileRule) (places : List ℕ) (i : ℕ) (rule d : FileRule) (inside : Bool) → i < length rules → places ≡ places_covering (take i rules) account
    → inside ≡ covers rule.scope account → rule ≡ get_or rules i d → cond inside (places ++ i ∷ []) places ≡ places_covering (take (i + 1) rules) account
next_place account rules places i rule d inside within so_far asked is =
    (λ j. cond ((asked ∙ ap (λ (r : FileRule). covers r.scope account) is) j) (so_far j ++ zero_more j ∷ []) (so_far j))
    ∙ sym (covering-more account 0 rules i d within)
  where
    zero_more : i ≡ 0 + i
    zero_more = omega arith

-- a rule whose scope stays is as it was to its accounts
pub covering-kept : (account : AccountName) (place : ℕ) (es : List (RuleId × BookRule)) (i : ℕ) (v w : BookRule) → slice_get (values_of es) i ≡ Some v → w.scope ≡ v.scope
    → covering_from account place (rules_of_entries (set_value_at es i w)) ≡ covering_from account place (rules_of_entries es)
covering-kept account place [] i v w at scope = refl
covering-kept account place (e ∷ es) zero v w at scope =
    let same : e.1 ≡ v = cc in
    ap (λ s. cond (covers s account) (place ∷ covering_from account (suc place) (rules_of_entries es)) (covering_from account (suc place) (rules_of_entries es)))
    (scope ∙ ap (λ (r : BookRule). r.scope) (sym same))
covering-kept account place (e ∷ es) (suc i) v w at scope =
    ap (λ l. cond (covers e.1.scope account) (place ∷ l) l) (covering-kept account (suc place) es i v w at scope)

-- a table stays right, where a rule's scope stays
pub table_kept : (table : List (AccountName × List ℕ)) (es : List (RuleId × BookRule)) (i : ℕ) (v w : BookRule) → slice_get (values_of es) i ≡ Some v → w.scope ≡ v.scope
    → values_of table ≡ map (places_covering (rules_of_entries es)) (keys_of table) → values_of table ≡ map (places_covering (rules_of_entries (set_value_at es i w))) (keys_of table)
table_kept table es i v w at scope are = are ∙ (λ j. map (λ (account : AccountName). sym (covering-kept account 0 es i v w at scope) j) (keys_of table))

place_last : (rules : List FileRule) (before : List Account) (a : Account) → list_any (λ (b : Account). same_account a.name b.name) before ≡ false
    → insert_entry same_account (places_of rules before) a.name (places_covering rules a.name) ≡ places_of rules (before ++ a ∷ [])
place_last rules [] a none = refl
place_last rules (b ∷ before) a none =
    let others = list_any (λ (b : Account). same_account a.name b.name) before in
    ap (λ t. cond t ((b.name, places_covering rules a.name) ∷ places_of rules before) ((b.name, places_covering rules b.name) ∷ insert_entry same_account (places_of rules before) a.name (places_covering rules a.name)))
    (left_false (same_account a.name b.name) others none)
    ∙ ap (λ l. (b.name, places_covering rules b.name) ∷ l) (place_last rules before a (right_false (same_account a.name b.name) others none))

-- the next of the accounts goes last
pub next_account : (rules : List FileRule) (accounts : List Account) (table : List (AccountName × List ℕ)) (i : ℕ) (a d : Account) (places : List ℕ)
    → accounts_differ accounts ≡ true → i < length accounts → table ≡ places_of rules (take i accounts) → places ≡ places_covering rules a.name → a ≡ get_or accounts i d
    → insert_entry same_account table a.name places ≡ places_of rules (take (i + 1) accounts)
next_account rules accounts table i a d places differ within so_far are is =
    let same : Account → Account → Bool = λ (a b : Account). same_account a.name b.name in
    let none : list_any (same a) (take i accounts) ≡ false =
    ap (λ (x : Account). list_any (same x) (take i accounts)) is ∙ none_before same (λ a b. nat_list_eq_equiv.symm a.name.bytes b.name.bytes) accounts i d differ within
    in
    (λ j. insert_entry same_account (so_far j) a.name (are j))
    ∙ place_last rules (take i accounts) a none
    ∙ ap (places_of rules) (ap (λ x. take i accounts ++ x ∷ []) is ∙ sym (take_more accounts i d within))

-- a new table has the places of each account
all_placed : (rules : List FileRule) (accounts : List Account) → values_of (places_of rules accounts) ≡ map (places_covering rules) (keys_of (places_of rules accounts))
all_placed rules [] = refl
all_placed rules (a ∷ accounts) = ap (λ l. places_covering rules a.name ∷ l) (all_placed rules accounts)

-- a new table is that of the rules as they are kept
pub table_made : (rules kept : List FileRule) (accounts : List Account) (table : List (AccountName × List ℕ)) → table ≡ places_of rules accounts → rules ≡ kept
    → values_of table ≡ map (places_covering kept) (keys_of table)
table_made rules kept accounts table is same = ap values_of is ∙ all_placed rules accounts ∙ (λ i. map (places_covering (same i)) (keys_of (sym is i)))

-- what is found under an account are the places of its rules
pub placed : (f : AccountName → List ℕ) (account : AccountName) (places : List ℕ) (table : List (AccountName × List ℕ)) → values_of table ≡ map f (keys_of table)
    → lookup (same_account account) table ≡ Some places → places ≡ f account
placed f account places [] are found = cc
placed f account places (e ∷ table) are found = by (same_account account e.0) refl found (placed f account places table cc)
  where
    here : e.1 ≡ f e.0
    here = cc

    by : (b : Bool) → same_account account e.0 ≡ b → cond b (Some e.1) (lookup (same_account account) table) ≡ Some places
        → (lookup (same_account account) table ≡ Some places → places ≡ f account) → places ≡ f account
    by true same found deeper =
        let is : e.1 ≡ places = cc in
        sym is ∙ here ∙ ap f (sym (account_is account e.0 same))
    by false same found deeper = deeper found

-- no account is asked for, or no order
pub none_asked : (told : ℕ → RuleFigures) (place : ℕ) (rules : List FileRule) (given : Facts) (q : Request)
    → ((rule : FileRule) (figures : RuleFigures) → rule_forbids given q rule figures ≡ false) → first_file_rule (figured_from told place rules) given q ≡ None
none_asked told place [] given q none = refl
none_asked told place (rule ∷ rules) given q none =
    ap (λ b. option_map (λ (r : FileRule × RuleFigures). File r.0.name) (cond b (Some (rule, told place)) (find (λ (r : FileRule × RuleFigures). rule_forbids given q r.0 r.1) (figured_from told (suc place) rules))))
    (none rule (told place))
    ∙ none_asked told (suc place) rules given q none

pub no_account : (told : ℕ → RuleFigures) (rules : List FileRule) (given : Facts) (q : Request) → given.account ≡ None → None ≡ first_file_rule (rules_with_figures told rules) given q
no_account told rules given q none =
    sym (none_asked told 0 rules given q (λ rule figures. ap (λ o. option_map_or (covers rule.scope) o false && of_proposed given q (kind_forbids rule.kind figures)) none))

pub no_order : (told : ℕ → RuleFigures) (rules : List FileRule) (given : Facts) (q : Request) → proposed_order given q ≡ None → None ≡ first_file_rule (rules_with_figures told rules) given q
no_order told rules given q none =
    sym (none_asked told 0 rules given q (λ rule figures.
    ap (λ o. option_map_or (covers rule.scope) given.account false && option_map_or (kind_forbids rule.kind figures) o false) none
    ∙ and_false (option_map_or (covers rule.scope) given.account false)))

module _ (told : ℕ → RuleFigures) (all : List (RuleId × BookRule)) (given : Facts) (q : Request) (account : AccountName) (w : ProposedOrder)
    (his : given.account ≡ Some account) (asks : proposed_order given q ≡ Some w) where
  abbrev first_at : List ℕ → Option RuleName
  first_at places = option_and_then (named_at all) (find (forbids_at told all w) places)

  one : (rule : FileRule) (figures : RuleFigures) → rule_forbids given q rule figures ≡ (covers rule.scope account && kind_forbids rule.kind figures w)
  one rule figures = λ i. option_map_or (covers rule.scope) (his i) false && option_map_or (kind_forbids rule.kind figures) (asks i) false

  abbrev behind : ℕ → List (RuleId × BookRule) → Option RuleName
  behind place es = first_file_rule (figured_from told place (rules_of_entries es)) given q

  first_from : (place : ℕ) (es : List (RuleId × BookRule)) → ((k : ℕ) → slice_get all (place + k) ≡ slice_get es k)
      → behind place es ≡ first_at (covering_from account place (rules_of_entries es))
  first_from place [] at = refl
  first_from place (e ∷ es) at =
      by_told (rule_forbids given q rule (told place))
      ∙ ap (λ b. cond b (Some (File e.0)) (behind (suc place) es)) (one rule (told place))
      ∙ by (covers rule.scope account) (first_from (suc place) es (λ k. ap (slice_get all) (later k) ∙ at (suc k)))
    where
      rule : FileRule
      rule = rule_named e.0 e.1

      here : slice_get all place ≡ Some e
      here = ap (slice_get all) (omega arith) ∙ at 0

      later : (k : ℕ) → suc place + k ≡ place + suc k
      later k = omega arith

      by_told : (b : Bool) → option_map (λ (r : FileRule × RuleFigures). File r.0.name)
          (cond b (Some (rule, told place)) (find (λ (r : FileRule × RuleFigures). rule_forbids given q r.0 r.1) (figured_from told (suc place) (rules_of_entries es))))
          ≡ cond b (Some (File e.0)) (behind (suc place) es)
      by_told true = refl
      by_told false = refl

      at_it : (b : Bool) (rest : List ℕ) → kind_forbids rule.kind (told place) w ≡ b
          → cond b (Some (File e.0)) (first_at rest) ≡ option_and_then (named_at all) (cond b (Some place) (find (forbids_at told all w) rest))
      at_it true rest is = ap (option_map (λ (r : RuleId × BookRule). File r.0)) (sym here)
      at_it false rest is = refl

      asked : forbids_at told all w place ≡ kind_forbids rule.kind (told place) w
      asked = ap (λ o. option_map_or (λ (r : RuleId × BookRule). kind_forbids (book_kind r.1) (told place) w) o false) here

      by : (b : Bool) → behind (suc place) es ≡ first_at (covering_from account (suc place) (rules_of_entries es))
          → cond (b && kind_forbids rule.kind (told place) w) (Some (File e.0)) (behind (suc place) es)
          ≡ first_at (cond b (place ∷ covering_from account (suc place) (rules_of_entries es)) (covering_from account (suc place) (rules_of_entries es)))
      by true deeper =
          let rest : List ℕ = covering_from account (suc place) (rules_of_entries es) in
          ap (cond (kind_forbids rule.kind (told place) w) (Some (File e.0))) deeper
          ∙ at_it (kind_forbids rule.kind (told place) w) rest refl
          ∙ ap (λ b. option_and_then (named_at all) (cond b (Some place) (find (forbids_at told all w) rest))) (sym asked)
      by false deeper = deeper

  -- the rules that the account is under are all that can forbid its orders
  pub first_of_his : (places : List ℕ) → places ≡ places_covering (rules_of_entries all) account → first_at places ≡ first_file_rule (rules_with_figures told (rules_of_entries all)) given q
  first_of_his places are = ap first_at are ∙ sym (first_from 0 all (λ k. ap (slice_get all) (omega arith)))
