use Rattle.std.proofs.{Common.{◌≡◌, ℕ, ◌^◌, Bool, true, false, cond, ltb, take, get_or, Option, Some, None, IfNone, IfSome, refl, ap, sym, ◌∙◌, arith}, lemmas.{Bool.{ltb-false, le-ltb}, List.Sums.fold_more}}
use Rattle.gx_soup.specs.Login.{in_64_bits, spelled_number, with_digit}
use Rattle.gx_soup.proofs.fields.spelled_value.Goals as goal

-- what 64 bits do not hold, they do not hold with one digit more
stays : (n c : ℕ) (b : Bool) → ltb n (2 ^ 64) ≡ b → (next : Option ℕ) → IfSome (cond b (Some n) None) (λ m. next ≡ in_64_bits (with_digit m c)) → IfNone (cond b (Some n) None) (next ≡ None)
    → next ≡ in_64_bits (with_digit n c)
stays n c true e next s z = s
stays n c false e next s z =
    let past = ltb-false n (2 ^ 64) e in
    z ∙ ap (λ t. cond t (Some (with_digit n c)) None) (sym (le-ltb (with_digit n c) (2 ^ 64) (omega (arith, past))))

pub loop-digit-preserved : goal.loop-digit-preserved
loop-digit-preserved c =
    let digits = c.args.digits.now in
    let before = spelled_number (take c.loop-digit.digit-index digits) in
    let digit = get_or digits c.loop-digit.digit-index 0 in
    stays before digit (ltb before (2 ^ 64)) refl _
    (rw (sym c.loop-digit.invariant) c.next_value-number.ensures.some)
    (rw (sym c.loop-digit.invariant) c.next_value-number.ensures.none)
    ∙ ap in_64_bits (sym (fold_more with_digit 0 digits c.loop-digit.digit-index 0 c.loop-digit-test.true))
