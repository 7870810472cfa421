-- The row of an account, once something is done by an account.
use Rattle.std.proofs.Common.{◌≡◌, Bool, true, false, cond, List, [], ◌∷◌, refl, ap, sym, ◌∙◌}
use Rattle.std.specs.{Prelude.{Option, Some, fold, unwrap_or}, Map.lookup}
use Rattle.gx_units.specs.{Names.same_account, declared.names.AccountName.AccountName}
use Rattle.gx_units.proofs.Names_equal.{account_is}
use Rattle.gx_overview.proofs.Accounts_next.{inserted}
use Rattle.gx_activity.specs.{declared.{activity.ActivityRow.ActivityRow, deeds.Deed.Deed}, Activity.idle, Noting.{entries_after, entries_done, row_done, row_in, row_with}}
use Rattle.gx_activity.proofs.Counts_next.{done_in}

abbrev Entries : Type 0
Entries = List (AccountName × ActivityRow)

-- the row of its account still
keeps : (account : AccountName) (deed : Deed) (row : ActivityRow) → (row_done account deed row).account ≡ row.account
keeps account deed row = by (same_account row.account account) deed
  where
    by : (b : Bool) (d : Deed) → (cond b (row_with d row) row).account ≡ row.account
    by false d = refl
    by true (Deed.Granted q) = refl
    by true (Deed.Denied q) = refl
    by true Deed.Filled = refl
    by true Deed.Rested = refl
    by true Deed.Expired = refl

-- one thing more
row_then : (name account : AccountName) (deed : Deed) (entries : Entries) (row : ActivityRow) → row.account ≡ name → row_in entries name ≡ row
    → row_in (entries_done account deed entries) name ≡ row_done account deed row
row_then name account deed entries row its is =
    ap (λ (found : Option ActivityRow). unwrap_or found (idle name)) (inserted name account (row_with deed (row_in entries account)) entries)
    ∙ by (same_account name account) refl
    ∙ ap (λ (a : AccountName). cond (same_account a account) (row_with deed row) row) (sym its)
  where
    by : (b : Bool) → same_account name account ≡ b
        → unwrap_or (cond b (Some (row_with deed (row_in entries account))) (lookup (same_account name) entries)) (idle name) ≡ cond b (row_with deed row) row
    by true at = ap (row_with deed) (ap (row_in entries) (sym (account_is name account at)) ∙ is)
    by false at = is

-- and many
pub row_after : (name : AccountName) (entries : Entries) (row : ActivityRow) (done : List (AccountName × Deed)) → row.account ≡ name → row_in entries name ≡ row
    → row_in (fold entries_after entries done) name ≡ done_in row done
row_after name entries row [] its is = is
row_after name entries row (d ∷ done) its is =
    row_after name (entries_after entries d) (row_done d.0 d.1 row) done (keeps d.0 d.1 row ∙ its) (row_then name d.0 d.1 entries row its is)
