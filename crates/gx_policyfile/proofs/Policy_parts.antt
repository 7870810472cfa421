-- The parts of a policy that was read.
use Rattle.std.proofs.{Common.{◌≡◌, ℕ, true, List, [], ◌∷◌, ◌++◌, codes, Option, Some, None, Result, Ok, Err, IsOk, refl, sym, ap, ◌∙◌, subst, append-nil, append_assoc}, lemmas.Bool.false≢true}
use Rattle.std.specs.Option.{ok_or, option_and_then, option_map_or}
use Rattle.toml.specs.Data.{Data, Items, no_items, item, Members, get_member, as_array, as_table}
use Rattle.gx_policy.specs.declared.policy.PolicyData.{PolicyData}
use Rattle.gx_policyvalues.specs.{declared.fault.{FaultKind.{FaultKind, TheVariants.{UnknownKey, BadValue}}, Letters.TheVariants.Visible}, Field.{has_only, only_keys, field_at, each_item}, Tables.{table, tables, tables_at}}
use Rattle.gx_policyfile.specs.{Version.{version_number, version, top_keys, lifters}, Policies.{accounts, stocks, users, rules, policy}, Reads.{with_table, tables_in, entries_at}}
use Rattle.gx_policyfile.proofs.Step_parts.{bind_ok, passed, by_ok}

pub some_of : {X : Type 0} (o : Option X) (e : FaultKind) (x : X) → ok_or o e ≡ Ok x → o ≡ Some x
some_of (Some y) e x h = cc
some_of None e x h = absurd (cc)

pub only_ok : (keys : List (List ℕ)) (entry : Members) (u : Unit) → only_keys keys entry ≡ Ok u → has_only keys entry ≡ true
only_ok keys entry u h = (passed (has_only keys entry) (Ok tt) UnknownKey u h).0

-- the tables that were read are those of the array
tables_read : (found : List Members) (items : Items) (entries : List Members) → each_item table (λ found entry. found ++ entry ∷ []) found items ≡ Ok entries → entries ≡ found ++ tables_in items
tables_read found no_items entries h = let e : found ≡ entries = cc in sym e ∙ sym (append-nil found)
tables_read found (item value items) entries h =
    let (entry, is, rest) = bind_ok (table value) _ entries h in
    tables_read (found ++ entry ∷ []) items entries rest
    ∙ append_assoc found (entry ∷ []) (tables_in items)
    ∙ ap (λ o. found ++ with_table o (tables_in items)) (sym (some_of (as_table value) BadValue entry is))

entries_read : (o : Option Data) (entries : List Members) → option_map_or tables o (Ok []) ≡ Ok entries → option_map_or tables_in (option_and_then as_array o) [] ≡ entries
entries_read None entries h = cc
entries_read (Some value) entries h =
    let (items, is, rest) = bind_ok (ok_or (as_array value) BadValue) _ entries h in
    rw (some_of (as_array value) BadValue items is) (sym (tables_read [] items entries rest))

-- the parts of a policy that was read
pub record WasRead (top : Members) (p : PolicyData) : Type 0 where
  pub keys : has_only (top_keys (version top)) top ≡ true
  pub is_numbered : IsOk (version_number top)
  pub session : field_at (codes "session") Visible 10 top ≡ Ok p.session.bytes
  pub lifting : lifters (version top) top ≡ Ok p.lifters
  pub of_accounts : accounts (entries_at (codes "account") top) ≡ Ok p.accounts
  pub of_stocks : stocks (entries_at (codes "stock") top) ≡ Ok p.stocks
  pub of_users : users p.accounts (entries_at (codes "user") top) ≡ Ok p.users
  pub of_rules : rules (version top) p.accounts p.stocks (entries_at (codes "rule") top) ≡ Ok p.rules

at_entries : {X : Type 0} (key : List ℕ) (top : Members) (entries : List Members) (meant : List Members → Result X FaultKind) (x : X) → tables_at key top ≡ Ok entries → meant entries ≡ Ok x → meant (entries_at key top) ≡ Ok x
at_entries key top entries meant x is h = subst (λ e. meant e ≡ Ok x) (sym (entries_read (get_member key top) entries is)) h

pub was_read : (top : Members) (p : PolicyData) → policy top ≡ Ok p → WasRead top p
unfolding policy
was_read top p h =
    let (known, known_is, h1) = bind_ok (only_keys (top_keys (version top)) top) _ p h in
    let (numbered, numbered_is, h2) = bind_ok (version_number top) _ p h1 in
    let (session, session_is, h3a) = bind_ok (field_at (codes "session") Visible 10 top) _ p h2 in
    let (lifting, lifting_is, h3) = bind_ok (lifters (version top) top) _ p h3a in
    let (account_tables, account_tables_is, h4) = bind_ok (tables_at (codes "account") top) _ p h3 in
    let (stock_tables, stock_tables_is, h5) = bind_ok (tables_at (codes "stock") top) _ p h4 in
    let (user_tables, user_tables_is, h6) = bind_ok (tables_at (codes "user") top) _ p h5 in
    let (rule_tables, rule_tables_is, h7) = bind_ok (tables_at (codes "rule") top) _ p h6 in
    let (xs, xs_is, h8) = bind_ok (accounts account_tables) _ p h7 in
    let (ss, ss_is, h9) = bind_ok (stocks stock_tables) _ p h8 in
    let (us, us_is, h10) = bind_ok (users xs user_tables) _ p h9 in
    let (rs, rs_is, h11) = bind_ok (rules (version top) xs ss rule_tables) _ p h10 in
    let q : PolicyData = record { session = record { bytes = session }; lifters = lifting; accounts = xs; stocks = ss; users = us; rules = rs } in
    by_ok (WasRead top) q p h11 (record {
      keys = only_ok (top_keys (version top)) top known known_is;
      is_numbered = rw numbered_is;
      session = session_is;
      lifting = lifting_is;
      of_accounts = at_entries (codes "account") top account_tables accounts xs account_tables_is xs_is;
      of_stocks = at_entries (codes "stock") top stock_tables stocks ss stock_tables_is ss_is;
      of_users = at_entries (codes "user") top user_tables (users xs) us user_tables_is us_is;
      of_rules = at_entries (codes "rule") top rule_tables (rules (version top) xs ss) rs rule_tables_is rs_is;
    })

pub ok_of : {X : Type 0} (r : Result X FaultKind) → IsOk r → (x : X) × (r ≡ Ok x)
ok_of (Ok x) h = (x, refl)
ok_of (Err e) h = absurd (false≢true h)

-- a policy that was read has a version_number
pub numbered : (top : Members) → IsOk (policy top) → IsOk (version_number top)
numbered top h =
    let (p, is) = ok_of (policy top) h in
    (was_read top p is).is_numbered
