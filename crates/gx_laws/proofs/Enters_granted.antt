-- A granted Enter is a trader's, and asks for some shares.
use Rattle.std.proofs.{Common.{◌≡◌, ℕ, suc, zero, true, false, List, refl, ◌∙◌, ap, sym, arith}, lemmas.Bool.{lt-ltb, not-false}}
use Rattle.std.specs.Prelude.{Option, Some, None, ◌==◌, nat_lt, nat_le, option_and_then}
use Rattle.gx_units.specs.declared.names.AccountName.{AccountName}
use Rattle.gx_units.proofs.Test_known.{left_false}
use Rattle.gx_ouch.specs.declared.inbound.EnterOrder.{EnterOrder}
use Rattle.gx_policy.specs.{declared.{policy.{PolicyData.PolicyData, Role.Role}, rule_name.RuleName.TheVariants.{G2, P5}}, People.{account_of_role, role_in, is_trader}}
use Rattle.gx_history.specs.{declared.{facts.Facts.Facts, «record».{Asked.Asked, RecordData.RecordData, Request.Request, Step.Step, Verdict.Verdict}}, Asking.{facts, fits_role}, Rules.forbids, Verdicts.{next, facts_now}}
use Rattle.gx_laws.proofs.Requests_judged.{is_no_bar}

abbrev pub HasAccount : Option Role → Type 0
HasAccount role = (account : AccountName) × (option_and_then account_of_role role ≡ Some account)

trades_for : (role : Option Role) → is_trader role ≡ true → HasAccount role
trades_for None h = cc
trades_for (Some (Role.Trader account)) h = (account, refl)
trades_for (Some (Role.Officer powers scope)) h = cc
trades_for (Some (Role.Reader names)) h = cc

positive : (n : ℕ) → (n == 0) ≡ false → nat_lt 0 n ≡ true
positive zero h = cc
positive (suc n) h = lt-ltb 0 (suc n) (omega arith)

-- the role is a trader's
role_fits : (policy : PolicyData) (history : List RecordData) (a : Asked) → forbids G2 (facts_now policy history a) a.request ≡ false → fits_role (role_in policy.users a.user) a.request ≡ true
unfolding facts
role_fits policy history a h = not-false (fits_role (role_in policy.users a.user) a.request) h

-- some shares are asked for
some_asked : (given : Facts) (m : EnterOrder) → forbids P5 given (Request.Enter m) ≡ false → nat_lt 0 m.shares ≡ true
some_asked given m h = positive m.shares (left_false (m.shares == 0) (nat_le 1000000 m.shares) h)

pub entered_has_account : (policy : PolicyData) (history : List RecordData) (a : Asked) (r : RecordData) (m : EnterOrder)
    → next policy history (Step.Asked a) ≡ Some r → r.verdict ≡ Verdict.Granted → a.request ≡ Request.Enter m → HasAccount (role_in policy.users a.user)
entered_has_account policy history a r m e granted enters =
    trades_for (role_in policy.users a.user) (sym (ap (fits_role (role_in policy.users a.user)) enters) ∙ role_fits policy history a (is_no_bar policy history a r e granted G2))

pub entered_has_shares : (policy : PolicyData) (history : List RecordData) (a : Asked) (r : RecordData) (m : EnterOrder)
    → next policy history (Step.Asked a) ≡ Some r → r.verdict ≡ Verdict.Granted → a.request ≡ Request.Enter m → nat_lt 0 m.shares ≡ true
entered_has_shares policy history a r m e granted enters =
    some_asked (facts_now policy history a) m (sym (ap (forbids P5 (facts_now policy history a)) enters) ∙ is_no_bar policy history a r e granted P5)
