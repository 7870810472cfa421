-- When a user is put out.
use Rattle.std.specs.Prelude.{◌≡◌, ◌≤◌, ℕ, ◌+◌, Bool, true, false, ◌&&◌, min, nat_le, Option, Some, None, if◌then◌else◌}
use Rattle.gx_policy.specs.declared.rule_name.RuleName.{RuleName}
use Rattle.gx_history.specs.declared.record.Verdict.{Verdict}
use Rattle.gx_door.specs.declared.caller.Caller.{Caller}
use Rattle.gx_serve.specs.declared.conduct.Exclusion.{Exclusion}

-- who a user is, and how many of his last requests were denied in silence
pub record ConductData : Type 0 where
  pub caller : Caller
  pub silent : ℕ

-- nobody is told of a denial by this rule
abbrev pub is_silent_rule : RuleName → Bool
is_silent_rule RuleName.G1 = true
is_silent_rule RuleName.G2 = true
is_silent_rule RuleName.G3 = true
is_silent_rule other = false

-- how many they are behind one more request, which was decided so; no more than 1,000 are counted
abbrev pub silent_after : ℕ → Verdict → ℕ
silent_after silent (Verdict.Denied rule) = if is_silent_rule rule then min (silent + 1) 1000 else 0
silent_after silent other = 0

abbrev pub is_trader_here : Caller → Bool
is_trader_here Caller.Trader = true
is_trader_here Caller.Staff = false
is_trader_here Caller.Stranger = false

-- 1,000 of them put a user out, and so do, of traders, all records but the last 65,536
abbrev pub exclusion_of : ConductData → ℕ → Option Exclusion
exclusion_of conduct length =
    if nat_le 1000 conduct.silent then Some Exclusion.Silent
    else if is_trader_here conduct.caller && nat_le 16711680 length then Some Exclusion.Kept
    else None

-- whether a user is put out, and why, as it was found behind so many records or more
pub record WasJudged (conduct : ConductData) (count : ℕ) (why : Option Exclusion) : Type 0 where
  pub length : ℕ
  pub later : count ≤ length
  pub judged : exclusion_of conduct length ≡ why
