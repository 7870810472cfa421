-- The parts of a step that succeeded.
use Rattle.std.proofs.Common.{◌≡◌, Bool, true, false, ◌&&◌, cond, Result, Ok, Err, refl, subst}
use Rattle.gx_policyvalues.specs.{declared.fault.FaultKind.FaultKind, Field.◌>>=◌}

-- the parts of a step that succeeded
pub bind_ok : {A B : Type 0} (r : Result A FaultKind) (f : A → Result B FaultKind) (y : B) → (r >>= f) ≡ Ok y → (x : A) × (r ≡ Ok x) × (f x ≡ Ok y)
bind_ok (Ok x) f y h = (x, refl, h)
bind_ok (Err e) f y h = absurd (cc)

-- a test that had to pass
pub passed : {A : Type 0} (b : Bool) (r : Result A FaultKind) (e : FaultKind) (y : A) → cond b r (Err e) ≡ Ok y → (b ≡ true) × (r ≡ Ok y)
passed true r e y h = (refl, h)
passed false r e y h = absurd (cc)

-- a test that had to fail
pub failed : {A : Type 0} (b : Bool) (r : Result A FaultKind) (e : FaultKind) (y : A) → cond b (Err e) r ≡ Ok y → (b ≡ false) × (r ≡ Ok y)
failed true r e y h = absurd (cc)
failed false r e y h = (refl, h)

pub and_both : (a b : Bool) → a ≡ true → b ≡ true → (a && b) ≡ true
and_both a b p q = rw (p, q)

abbrev pub fine : {X : Type 0} → X → Result X FaultKind
fine x = Ok x

pub by_ok : {X : Type 0} (P : X → Type 0) (x y : X) → fine x ≡ Ok y → P x → P y
by_ok P x y h p = let e : x ≡ y = cc in subst P e p
