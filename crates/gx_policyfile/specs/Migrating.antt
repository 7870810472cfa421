-- When two policy files say the same, and a policy without its users.
use Rattle.std.specs.Prelude.{◌≡◌, ℕ, List, [], Result, Ok, Err}
use Rattle.toml.specs.Data.{Members, get_member}
use Rattle.gx_policy.specs.declared.policy.PolicyData.{PolicyData}
use Rattle.gx_policyvalues.specs.declared.fault.FaultKind.{FaultKind}
use Rattle.gx_policyfile.specs.Version.{version, lifters}

-- under this key both have the same value, or none
abbrev pub say_the_same : List ℕ → Members → Members → Type 0
say_the_same key one other = get_member key one ≡ get_member key other

-- as many officers have to lift, or both are refused alike
abbrev pub lift_alike : Members → Members → Type 0
lift_alike one other = lifters (version one) one ≡ lifters (version other) other

-- the policy without its users, where there is one
abbrev pub without_users : Result PolicyData FaultKind → Result PolicyData FaultKind
without_users (Ok policy) = Ok (record policy { users = [] })
without_users (Err fault) = Err fault
