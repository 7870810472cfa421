-- Names of accounts and stocks that were read are in the policy, each once.
use Rattle.std.proofs.{Common.{◌≡◌, Bool, true, List, [], ◌∷◌, Option, Some, None, Result, Ok, refl, inl, inr, codes}, lemmas.Bool.{cases_Bool, and_parts, false≢true}}
use Rattle.std.specs.{Option.{is_some, ok_or, option_map_or}, List.{find, list_all, list_any}}
use Rattle.toml.specs.Data.{Data, Items, no_items, item, Members, get_member, as_array}
use Rattle.gx_units.specs.{Names.{same_account, same_stock}, declared.names.{AccountName.AccountName, Symbol.Symbol}}
use Rattle.gx_policy.specs.{Lists.are_distinct, declared.policy.{PolicyData.PolicyData, Account.Account, Stock.Stock, Scope.Scope}, Soundness.{are_accounts, are_stocks, is_scope}, People.{account_named, stock_named}}
use Rattle.gx_policyvalues.specs.{declared.fault.FaultKind.{FaultKind, TheVariants.{BadValue, UnknownName}}, Field.{◌>>=◌, each_item}}
use Rattle.gx_policyfile.specs.Known.{is_account, is_stock, account_name, stock_name, with_account, with_stock, with_known_account, with_known_stock, listed_accounts, listed_stocks, known_account, known_accounts, known_stocks, scope}
use Rattle.gx_policyfile.proofs.{Step_parts.{bind_ok, passed, by_ok, and_both}, Place_entries.{all_push, distinct_push}}

pub find_some : {X : Type 0} (p : X → Bool) (xs : List X) → list_any p xs ≡ true → is_some (find p xs) ≡ true
find_some p [] h = absurd (false≢true h)
find_some p (x ∷ xs) h =
    elim (cases_Bool (p x)) [
      | inl is ↦ rw is
      | inr other ↦ rw other (find_some p xs (rw other at h))
    ]

pub optional_ok : {X : Type 0} (P : X → Type 0) (meant : Data → Result X FaultKind) (absent x : X) (o : Option Data) → P absent → ((value : Data) (y : X) → meant value ≡ Ok y → P y) → option_map_or meant o (Ok absent) ≡ Ok x → P x
optional_ok P meant absent x None a f h = by_ok P absent x h a
optional_ok P meant absent x (Some value) a f h = f value x h

-- what each step keeps
each_kept : {A X : Type 0} (P : X → Type 0) (meant : Data → Result A FaultKind) (with_one : X → A → X) → ((x : X) (a : A) → P x → P (with_one x a))
    → (sofar : X) (items : Items) (x : X) → P sofar → each_item meant with_one sofar items ≡ Ok x → P x
each_kept P meant with_one keeps sofar no_items x d h = by_ok P sofar x h d
each_kept P meant with_one keeps sofar (item value items) x d h =
    let (a, is, rest) = bind_ok (meant value) _ x h in
    each_kept P meant with_one keeps (with_one sofar a) items x (keeps sofar a d) rest

account_added : (p : PolicyData) (names : List AccountName) (name : AccountName) → is_account p.accounts name ≡ true → are_accounts p names ≡ true → are_accounts p (with_account names name) ≡ true
unfolding with_account
account_added p names name known h =
    let (all, apart) = and_parts (list_all (λ n. is_some (account_named p n)) names) (are_distinct same_account names) h in
    elim (cases_Bool (list_any (λ n. same_account n name) names)) [
      | inl is ↦ rw is h
      | inr other ↦ rw other (and_both _ _
          (all_push (λ n. is_some (account_named p n)) names name all (find_some (λ (a : Account). same_account a.name name) p.accounts known))
          (distinct_push same_account names name apart other))
    ]

account_kept : (p : PolicyData) (found : List AccountName × Bool) (name : AccountName) → are_accounts p found.0 ≡ true → are_accounts p (with_known_account p.accounts found name).0 ≡ true
account_kept p found name h =
    elim (cases_Bool (is_account p.accounts name)) [
      | inl is ↦ rw is (account_added p found.0 name is h)
      | inr other ↦ rw other h
    ]

stock_added : (p : PolicyData) (names : List Symbol) (name : Symbol) → is_stock p.stocks name ≡ true → are_stocks p names ≡ true → are_stocks p (with_stock names name) ≡ true
unfolding with_stock
stock_added p names name known h =
    let (all, apart) = and_parts (list_all (λ n. is_some (stock_named p n)) names) (are_distinct same_stock names) h in
    elim (cases_Bool (list_any (λ n. same_stock n name) names)) [
      | inl is ↦ rw is h
      | inr other ↦ rw other (and_both _ _
          (all_push (λ n. is_some (stock_named p n)) names name all (find_some (λ (s : Stock). same_stock s.name name) p.stocks known))
          (distinct_push same_stock names name apart other))
    ]

stock_kept : (p : PolicyData) (found : List Symbol × Bool) (name : Symbol) → are_stocks p found.0 ≡ true → are_stocks p (with_known_stock p.stocks found name).0 ≡ true
stock_kept p found name h =
    elim (cases_Bool (is_stock p.stocks name)) [
      | inl is ↦ rw is (stock_added p found.0 name is h)
      | inr other ↦ rw other h
    ]

pub known_account_ok : (accounts : List Account) (value : Data) (name : AccountName) → known_account accounts value ≡ Ok name → is_account accounts name ≡ true
unfolding known_account
known_account_ok accounts value name h =
    let (found, is, rest) = bind_ok (account_name value) _ name h in
    let (known, same) = passed (is_account accounts found) _ UnknownName name rest in
    by_ok (λ n. is_account accounts n ≡ true) found name same known

pub accounts_sound : (p : PolicyData) (value : Data) (names : List AccountName) → known_accounts p.accounts value ≡ Ok names → are_accounts p names ≡ true
unfolding known_accounts
accounts_sound p value names h =
    let (items, items_are, h1) = bind_ok (ok_or (as_array value) BadValue) (listed_accounts p.accounts) names h in
    let (found, found_are, h2) = bind_ok (each_item account_name (with_known_account p.accounts) ([], true) items) _ names h1 in
    let (known, same) = passed found.1 (Ok found.0) UnknownName names h2 in
    by_ok (λ ns. are_accounts p ns ≡ true) found.0 names same
    (each_kept (λ (f : List AccountName × Bool). are_accounts p f.0 ≡ true) account_name (with_known_account p.accounts) (account_kept p) ([], true) items found refl found_are)

pub stocks_sound : (p : PolicyData) (value : Data) (names : List Symbol) → known_stocks p.stocks value ≡ Ok names → are_stocks p names ≡ true
unfolding known_stocks
stocks_sound p value names h =
    let (items, items_are, h1) = bind_ok (ok_or (as_array value) BadValue) (listed_stocks p.stocks) names h in
    let (found, found_are, h2) = bind_ok (each_item stock_name (with_known_stock p.stocks) ([], true) items) _ names h1 in
    let (known, same) = passed found.1 (Ok found.0) UnknownName names h2 in
    by_ok (λ ns. are_stocks p ns ≡ true) found.0 names same
    (each_kept (λ (f : List Symbol × Bool). are_stocks p f.0 ≡ true) stock_name (with_known_stock p.stocks) (stock_kept p) ([], true) items found refl found_are)

only_sound : (p : PolicyData) (value : Data) (s : Scope) → (known_accounts p.accounts value >>= λ names. Ok (Scope.Only names)) ≡ Ok s → is_scope p s ≡ true
only_sound p value s h =
    let (names, are, same) = bind_ok (known_accounts p.accounts value) _ s h in
    by_ok (λ s. is_scope p s ≡ true) (Scope.Only names) s same (accounts_sound p value names are)

pub scope_sound : (p : PolicyData) (entry : Members) (s : Scope) → scope p.accounts entry ≡ Ok s → is_scope p s ≡ true
unfolding scope
scope_sound p entry s h =
    optional_ok (λ s. is_scope p s ≡ true) _ Scope.All s (get_member (codes "accounts") entry) refl (only_sound p) h
