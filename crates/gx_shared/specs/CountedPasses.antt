-- What contracts see of a pass and its part of a ledger.
use Rattle.std.specs.Prelude.{ℕ, if◌then◌else◌}
use Rattle.gx_units.specs.{Spelling.folded_user, declared.names.UserName.UserName}
use Rattle.gx_policy.specs.{People.{is_officer, role_in}, declared.policy.PolicyData.PolicyData}
use Rattle.gx_pass.specs.declared.view.LineView.{LineView}
use Rattle.gx_shared.specs.declared.priority_lock.Priority.{Priority, TheVariants.{Urgent, Ordinary}}

-- what was met, how many records were added, and how its holder waits for the gate
pub record CountedPassData : Type 0 where
  pub held : LineView
  pub added : ℕ
  pub priority : Priority

-- who logs in so: an officer goes first
abbrev pub priority_of : PolicyData → UserName → Priority
priority_of policy user = if is_officer (role_in policy.users (folded_user user)) then Urgent else Ordinary
