-- The version of a policy file, and what hangs on it.
use Rattle.std.specs.Prelude.{ℕ, List, [], ◌∷◌, ◌==◌, codes, Result, Ok, Err, if◌then◌else◌}
use Rattle.toml.specs.Data.{Members}
use Rattle.gx_policy.specs.declared.policy.Lifters.{Lifters}
use Rattle.gx_policyvalues.specs.{declared.fault.FaultKind.FaultKind, Field.{◌>>=◌, number_at}}
use Rattle.gx_policyfile.specs.declared.version.FileVersion.{FileVersion, TheVariants.{One, Two}}

-- the version_number that the file gives itself
abbrev pub version_number : Members → Result ℕ FaultKind
version_number top = number_at (codes "version") 1 2 top

-- the first version where it is there, and else the second
abbrev pub first_or_second : {X : Type 0} → Result X FaultKind → FileVersion
first_or_second (Ok one) = One
first_or_second (Err e) = Two

-- The version by which a file is judged: 1 where its `version` is the integer 1, and 2 where that is anything else or absent.
unfoldable pub version : Members → FileVersion
version top = first_or_second (number_at (codes "version") 1 1 top)

-- the keys at the top of a file of this version
abbrev pub top_keys : FileVersion → List (List ℕ)
top_keys One = codes "version" ∷ codes "session" ∷ codes "account" ∷ codes "stock" ∷ codes "user" ∷ codes "rule" ∷ []
top_keys Two = codes "version" ∷ codes "session" ∷ codes "lifters" ∷ codes "account" ∷ codes "stock" ∷ codes "user" ∷ codes "rule" ∷ []

-- 1 for one officer and 2 for two
abbrev pub lifters_of : ℕ → Lifters
lifters_of n = if n == 1 then Lifters.One else Lifters.Two

-- how many officers have to lift: one in version 1, and in version 2 what the key `lifters` says
abbrev pub lifters : FileVersion → Members → Result Lifters FaultKind
lifters One top = Ok Lifters.One
lifters Two top = number_at (codes "lifters") 1 2 top >>= λ n. Ok (lifters_of n)
