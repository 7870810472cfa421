-- A folded text has no letter in lower case.
use Rattle.std.proofs.{Common.{◌≡◌, ℕ, ◌-◌, Bool, true, false, ◌&&◌, cond, not, nat_lt, List, [], ◌∷◌, refl, ap, ◌∙◌, arith}, lemmas.Bool.Decides.nat_tests}
use Rattle.std.specs.{Char.to_ascii_uppercase, Str.str_to_ascii_uppercase}
use Rattle.gx_units.specs.Names.{is_lower_case, has_no_lower_case}

raised_by : (low high : Bool) (c : ℕ) → nat_lt c 97 ≡ low → nat_lt c 123 ≡ high → not (is_lower_case (cond low c (cond high (c - 32) c))) ≡ true
raised_by true high c l h = grind (arith, nat_tests)
raised_by false true c l h = grind (arith, nat_tests)
raised_by false false c l h = grind (arith, nat_tests)

raised : (c : ℕ) → not (is_lower_case (to_ascii_uppercase c)) ≡ true
raised c = raised_by (nat_lt c 97) (nat_lt c 123) c refl refl

pub folded_has_no_lower_case : (bytes : List ℕ) → has_no_lower_case (str_to_ascii_uppercase bytes) ≡ true
folded_has_no_lower_case [] = refl
folded_has_no_lower_case (c ∷ cs) = ap (λ b. b && has_no_lower_case (str_to_ascii_uppercase cs)) (raised c) ∙ folded_has_no_lower_case cs
