-- What holds of an answer that is Ok or an error.
use Rattle.std.proofs.Common.{◌≡◌, sym, subst}
use Rattle.std.specs.Prelude.{IfErr, OnErr, OnOk, Result, Ok, Err}

-- what holds anyway holds at an error
pub on_err : {T E : Type 0} (r : Result T E) (P : Type 0) → P → OnErr r P
on_err (Ok x) P p = tt
on_err (Err e) P p = p

-- what holds of the error that an answer was made of
pub on_fault : {T E : Type 0} (r : Result T E) (made told : E) (P : E → Type 0) → r ≡ Err made → made ≡ told → P told → IfErr r P
on_fault r made told P is same p = subst (λ q. IfErr q P) (sym is) (subst P (sym same) p)

-- what holds of every error
pub on_any : {T E : Type 0} (r : Result T E) (P : E → Type 0) → ((e : E) → P e) → IfErr r P
on_any (Ok x) P p = tt
on_any (Err e) P p = p e

pub if_err : {T E : Type 0} (r : Result T E) (P Q : E → Type 0) → ((e : E) → P e → Q e) → IfErr r P → IfErr r Q
if_err (Ok x) P Q f p = tt
if_err (Err e) P Q f p = f e p

pub on_ok : {T E : Type 0} (r : Result T E) (P Q : Type 0) → (P → Q) → OnOk r P → OnOk r Q
on_ok (Ok x) P Q f p = f p
on_ok (Err e) P Q f p = tt

-- what follows where it went well
pub ok_then : {V E : Type 0} {P Q : Type 0} (r : Result V E) → (P → Q) → OnOk r P → OnOk r Q
ok_then (Ok v) f h = f h
ok_then (Err e) f h = tt
