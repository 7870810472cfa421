-- What a test is beside one whose answer is known.
use Rattle.std.proofs.Common.{◌≡◌, ℕ, Bool, true, false, cond, refl, ◌&&◌, ◌||◌}
use Rattle.std.specs.Prelude.{IsTrue}

pub is_true : (b : Bool) → IsTrue b → b ≡ true
is_true true h = refl
is_true false h = cc

pub and_true : (b : Bool) → (b && true) ≡ b
and_true true = refl
and_true false = refl

pub and_false : (b : Bool) → (b && false) ≡ false
and_false true = refl
and_false false = refl

pub or_true : (b : Bool) → (b || true) ≡ true
or_true true = refl
or_true false = refl

pub or_false : (b : Bool) → (b || false) ≡ b
or_false true = refl
or_false false = refl

pub or_not : (b c : Bool) → c ≡ false → (b || c) ≡ b
or_not true c e = refl
or_not false c e = e

pub left_false : (a b : Bool) → (a || b) ≡ false → a ≡ false
left_false true b h = h
left_false false b h = refl

pub right_false : (a b : Bool) → (a || b) ≡ false → b ≡ false
right_false true b h = cc
right_false false b h = h

-- nothing, whatever the test says
pub nothing_either_way : (b : Bool) → cond {A = ℕ} b 0 0 ≡ 0
nothing_either_way true = refl
nothing_either_way false = refl
