-- Where a matching step leaves no record, nothing is matched.
use Rattle.std.proofs.{Common.{◌≡◌, ℕ, Option, Some, None, refl, sym}, lemmas.Option.none-some}
use Rattle.std.specs.Prelude.{option_map}
use Rattle.gx_history.specs.{Matching.matching, Verdicts.{next, step_verdict}}
use Rattle.gx_access_gate.specs.{Gates.GateData, Matches.{matching_of, next_match}}

none_mapped : {X Y : Type 0} (f : X → Y) (o : Option X) → option_map f o ≡ None → o ≡ None
none_mapped f None e = refl
none_mapped f (Some x) e = absurd (none-some (f x) (sym e))

pub none_is_next : (gate : GateData) (handed : ℕ) → next_match gate handed ≡ None → matching_of gate ≡ None
unfolding next step_verdict
none_is_next gate handed none = none_mapped _ (matching gate.policy gate.records) none
