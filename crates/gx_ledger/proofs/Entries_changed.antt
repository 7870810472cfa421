-- Entries of tables, one of them changed.
use Rattle.std.proofs.{Common.{◌≡◌, ℕ, ◌+◌, ◌<◌, Bool, true, false, cond, ◌||◌, List, [], ◌∷◌, ◌++◌, map, length, get_or, take, refl, sym, ap, ◌∙◌, subst}, lemmas.{List.{map-append, take_more}, Option.same_Some}}
use Rattle.std.specs.{Prelude.{Some, None}, List.{list_any, AllByRecursion, IsDistinct}, Map.{keys_of, lookup, set_value}, Cmp.Lexicographic.nat_list_eq_equiv}
use Rattle.indexmap.specs.{IndexMap.insert_entry, IndexSet.insert_key}
use Rattle.gx_laws.proofs.Entries_table.{none_before}
use Rattle.gx_units.specs.{Names.{same_account, same_stock}, declared.names.{AccountName.AccountName, Symbol.Symbol}}
use Rattle.gx_units.proofs.{Names_equal.stock_is, Test_known.{left_false, right_false}}
use Rattle.gx_policy.specs.{declared.policy.{Account.Account, Stock.Stock}, Soundness.{accounts_differ, stocks_differ}}
use Rattle.gx_ledger.specs.{Accounts.account_names, Keeping.prices_with, declared.sides.StockSums.StockSums}

module _ {K V : Type 0} (eq : K → K → Bool) (is : (a b : K) → eq a b ≡ true → a ≡ b) (n : K) (change : V → V) where
  -- the value of the key, changed
  abbrev pub changed : List (K × V) → List (K × V)
  changed es = map (λ (e : K × V). (e.0, cond (eq n e.0) (change e.1) e.1)) es

  kept : (es : List (K × V)) → AllByRecursion (λ k. eq n k ≡ false) (keys_of es) → es ≡ changed es
  kept [] apart = refl
  kept (e ∷ es) apart = λ i. (e.0, sym (ap (λ b. cond b (change e.1) e.1) apart.0) i) ∷ kept es apart.1 i

  apart_from : (es : List (K × V)) → lookup (eq n) es ≡ None → AllByRecursion (λ k. eq n k ≡ false) (keys_of es)
  apart_from [] none = tt
  apart_from (e ∷ es) none = by (eq n e.0) refl none (apart_from es)
    where
      by : (b : Bool) → eq n e.0 ≡ b → cond b (Some e.1) (lookup (eq n) es) ≡ None → (lookup (eq n) es ≡ None → AllByRecursion (λ k. eq n k ≡ false) (keys_of es))
          → AllByRecursion (λ k. eq n k ≡ false) (keys_of (e ∷ es))
      by true h none deeper = cc
      by false h none deeper = (h, deeper none)

  pub absent : (es : List (K × V)) → lookup (eq n) es ≡ None → es ≡ changed es
  absent es none = kept es (apart_from es none)

  pub written : (es : List (K × V)) (before : V) → IsDistinct eq (keys_of es) → lookup (eq n) es ≡ Some before → set_value (eq n) es (change before) ≡ changed es
  unfolding IsDistinct
  written [] before distinct found = refl
  written (e ∷ es) before distinct found = by (eq n e.0) refl found (λ later. written es before distinct.1 later)
    where
      by : (b : Bool) → eq n e.0 ≡ b → cond b (Some e.1) (lookup (eq n) es) ≡ Some before
          → (lookup (eq n) es ≡ Some before → set_value (eq n) es (change before) ≡ changed es)
          → cond b ((e.0, change before) ∷ es) (e ∷ set_value (eq n) es (change before)) ≡ changed (e ∷ es)
      by true h found deeper =
          let same : e.1 ≡ before = same_Some _ _ found in
          let others : AllByRecursion (λ k. eq n k ≡ false) (keys_of es) = subst (λ m. AllByRecursion (λ k. eq m k ≡ false) (keys_of es)) (sym (is n e.0 h)) distinct.0 in
          (λ i. (e.0, change (sym same i)) ∷ kept es others i)
          ∙ (λ i. (e.0, sym (ap (λ b. cond b (change e.1) e.1) h) i) ∷ changed es)
      by false h found deeper =
          (λ i. (e.0, sym (ap (λ b. cond b (change e.1) e.1) h) i) ∷ deeper found i)

pub price_set : (stock : Symbol) (price : ℕ) (es : List (Symbol × ℕ)) (before : ℕ) → IsDistinct same_stock (keys_of es) → lookup (same_stock stock) es ≡ Some before
    → set_value (same_stock stock) es price ≡ prices_with stock price es
price_set stock price es before distinct found = written same_stock stock_is stock (λ last. price) es before distinct found

pub no_price_set : (stock : Symbol) (price : ℕ) (es : List (Symbol × ℕ)) → lookup (same_stock stock) es ≡ None → es ≡ prices_with stock price es
no_price_set stock price es none = absent same_stock stock_is stock (λ last. price) es none

-- the sums of one stock written
pub sums_set : (stock : Symbol) (change : StockSums → StockSums) (es : List (Symbol × StockSums)) (before : StockSums) → IsDistinct same_stock (keys_of es) → lookup (same_stock stock) es ≡ Some before
    → set_value (same_stock stock) es (change before) ≡ map (λ (e : Symbol × StockSums). (e.0, cond (same_stock stock e.0) (change e.1) e.1)) es
sums_set stock change es before distinct found = written same_stock stock_is stock change es before distinct found

pub no_sums_set : (stock : Symbol) (change : StockSums → StockSums) (es : List (Symbol × StockSums)) → lookup (same_stock stock) es ≡ None
    → es ≡ map (λ (e : Symbol × StockSums). (e.0, cond (same_stock stock e.0) (change e.1) e.1)) es
no_sums_set stock change es none = absent same_stock stock_is stock change es none

module _ {V : Type 0} (value : Stock → V) where
  -- each stock with its value
  abbrev pub valued : List Stock → List (Symbol × V)
  valued stocks = map (λ (s : Stock). (s.name, value s)) stocks

  value_last : (before : List Stock) (s : Stock) → list_any (λ (b : Stock). same_stock s.name b.name) before ≡ false
      → insert_entry same_stock (valued before) s.name (value s) ≡ valued before ++ (s.name, value s) ∷ []
  value_last [] s none = refl
  value_last (b ∷ before) s none =
      let others = list_any (λ (b : Stock). same_stock s.name b.name) before in
      ap (λ t. cond t ((b.name, value s) ∷ valued before) ((b.name, value b) ∷ insert_entry same_stock (valued before) s.name (value s))) (left_false (same_stock s.name b.name) others none)
      ∙ ap (λ l. (b.name, value b) ∷ l) (value_last before s (right_false (same_stock s.name b.name) others none))

  map_last : (before : List Stock) (s : Stock) → valued before ++ (s.name, value s) ∷ [] ≡ valued (before ++ s ∷ [])
  map_last [] s = refl
  map_last (b ∷ before) s = ap (λ l. (b.name, value b) ∷ l) (map_last before s)

  -- the next of the stocks goes last
  pub next_value : (stocks : List Stock) (es : List (Symbol × V)) (i : ℕ) (s d : Stock) → stocks_differ stocks ≡ true → i < length stocks → es ≡ valued (take i stocks)
      → s ≡ get_or stocks i d → insert_entry same_stock es s.name (value s) ≡ valued (take (i + 1) stocks)
  next_value stocks es i s d differ within so_far is =
      let same : Stock → Stock → Bool = λ (a b : Stock). same_stock a.name b.name in
      let none : list_any (same s) (take i stocks) ≡ false = ap (λ (x : Stock). list_any (same x) (take i stocks)) is ∙ none_before same (λ a b. nat_list_eq_equiv.symm a.name.bytes b.name.bytes) stocks i d differ within in
      ap (λ l. insert_entry same_stock l s.name (value s)) so_far
      ∙ value_last (take i stocks) s none
      ∙ map_last (take i stocks) s
      ∙ ap valued (ap (λ x. take i stocks ++ x ∷ []) is ∙ sym (take_more stocks i d within))

name_last : (before : List Account) (a : Account) → list_any (λ (b : Account). same_account a.name b.name) before ≡ false
    → insert_key same_account (account_names before) a.name ≡ account_names (before ++ a ∷ [])
name_last before a none =
    ap (λ b. cond b (account_names before) (account_names before ++ a.name ∷ [])) (none_named before none) ∙ sym (map-append (λ (b : Account). b.name) before (a ∷ []))
  where
    none_named : (before : List Account) → list_any (λ (b : Account). same_account a.name b.name) before ≡ false → list_any (same_account a.name) (account_names before) ≡ false
    none_named [] none = refl
    none_named (b ∷ before) none =
        ap (λ t. t || list_any (same_account a.name) (account_names before)) (left_false (same_account a.name b.name) (list_any (λ (c : Account). same_account a.name c.name) before) none)
        ∙ none_named before (right_false (same_account a.name b.name) (list_any (λ (c : Account). same_account a.name c.name) before) none)

-- the next of the accounts goes last
pub next_name : (accounts : List Account) (names : List AccountName) (i : ℕ) (a d : Account) → accounts_differ accounts ≡ true → i < length accounts → names ≡ account_names (take i accounts)
    → a ≡ get_or accounts i d → insert_key same_account names a.name ≡ account_names (take (i + 1) accounts)
next_name accounts names i a d differ within so_far is =
    let same : Account → Account → Bool = λ (a b : Account). same_account a.name b.name in
    let none : list_any (same a) (take i accounts) ≡ false = ap (λ (x : Account). list_any (same x) (take i accounts)) is ∙ none_before same (λ a b. nat_list_eq_equiv.symm a.name.bytes b.name.bytes) accounts i d differ within in
    ap (λ l. insert_key same_account l a.name) so_far
    ∙ name_last (take i accounts) a none
    ∙ ap account_names (ap (λ x. take i accounts ++ x ∷ []) is ∙ sym (take_more accounts i d within))
