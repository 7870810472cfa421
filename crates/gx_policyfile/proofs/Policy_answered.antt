-- What was answered, where a policy is meant.
use Rattle.std.proofs.{Common.{◌≡◌, ◌≢◌, false, Result, Ok, Err, IsOk, refl, sym, subst, IfOk, IfErr}, lemmas.Bool.false≢true}
use Rattle.gx_policyvalues.specs.{declared.fault.{FaultKind.{FaultKind, TheVariants.{NotToml, MissingKey, UnknownKey, BadValue, UnknownName, DuplicateName, TooMany, OutOfMemory}}, PolicyFault.PolicyFault}, Field.{seen_result, is_memory}}

pub not_memory : (kind : FaultKind) → kind ≢ OutOfMemory → is_memory kind ≡ false
not_memory OutOfMemory h = absurd (h refl)
not_memory NotToml h = refl
not_memory MissingKey h = refl
not_memory UnknownKey h = refl
not_memory BadValue h = refl
not_memory UnknownName h = refl
not_memory DuplicateName h = refl
not_memory TooMany h = refl

pub read_value : {X : Type 0} (r : Result X PolicyFault) (meant : Result X FaultKind) (x : X) → meant ≡ Ok x → IfOk r (λ y. meant ≡ Ok y) → IfOk r (λ y. y ≡ x)
read_value (Ok y) meant x is h = let e : Ok y ≡ meant = sym h in cc
read_value (Err e) meant x is h = tt

only_memory : {X : Type 0} (kind : FaultKind) (meant : Result X FaultKind) (x : X) → meant ≡ Ok x → (kind ≢ OutOfMemory → meant ≡ Err kind) → kind ≡ OutOfMemory
only_memory OutOfMemory meant x is h = refl
only_memory NotToml meant x is h = let k = h (λ e. cc) in cc
only_memory MissingKey meant x is h = let k = h (λ e. cc) in cc
only_memory UnknownKey meant x is h = let k = h (λ e. cc) in cc
only_memory BadValue meant x is h = let k = h (λ e. cc) in cc
only_memory UnknownName meant x is h = let k = h (λ e. cc) in cc
only_memory DuplicateName meant x is h = let k = h (λ e. cc) in cc
only_memory TooMany meant x is h = let k = h (λ e. cc) in cc

pub read_memory : {X : Type 0} (r : Result X PolicyFault) (meant : Result X FaultKind) (x : X) → meant ≡ Ok x → IfErr r (λ e. e.kind ≢ OutOfMemory → meant ≡ Err e.kind) → IfErr r (λ e. e.kind ≡ OutOfMemory)
read_memory (Ok y) meant x is h = tt
read_memory (Err e) meant x is h = only_memory e.kind meant x is h

-- what is meant is no fault, so none was answered
pub never_refused : {X Y : Type 0} (r : Result X PolicyFault) (view : X → Y) (P : PolicyFault → Type 0) {meant : Result Y FaultKind} → seen_result view r ≡ meant → IsOk meant → IfErr r P
never_refused (Ok x) view P is h = tt
never_refused (Err e) view P {meant} is h = let bad : Err e.kind ≡ meant = is in absurd (false≢true (subst IsOk (sym bad) h))
