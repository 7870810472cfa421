-- Bytes that are all compared: nothing differs exactly where they are the same.
use Rattle.std.proofs.{Common.{◌≡◌, ℕ, ◌/◌, ◌%◌, ◌^◌, Bool, true, false, ◌&&◌, ◌==◌, List, [], ◌∷◌, length, bit_or, bit_xor, refl, sym, ap, ◌∙◌, arith}, lemmas.{Bool.{and_from, and_parts, eqb-true, eqb-false, eq-eqb, false_from_ne_true}, Nat.{le_or_l, le_or_r}, Nat.Bits.{same_from_bits, bit_at_xor, bit_at-zero, bit_at-lt}}}
use Rattle.std.specs.{Prelude.{fold, zip, bytes_eq}, Int.Bits.xor_self}

same_from_xor : (a b : ℕ) → bit_xor a b ≡ 0 → a ≡ b
same_from_xor a b none =
    same_from_bits a b (λ i. omega (arith, sym (bit_at_xor a b i) ∙ ap (λ n. n / 2 ^ i % 2) none ∙ bit_at-zero i, bit_at-lt a i, bit_at-lt b i))

-- with what differs between two bytes more, nothing differs where nothing did and they are the same
no_more : (seen x y : ℕ) → (bit_or seen (bit_xor x y) == 0) ≡ (seen == 0 && x == y)
no_more seen x y = by (bit_or seen (bit_xor x y) == 0) refl
  where
    by : (b : Bool) → (bit_or seen (bit_xor x y) == 0) ≡ b → b ≡ (seen == 0 && x == y)
    by true h =
        let none : bit_or seen (bit_xor x y) ≡ 0 = eqb-true (bit_or seen (bit_xor x y)) 0 h in
        let left : seen ≡ 0 = omega (arith, none, le_or_l seen (bit_xor x y)) in
        let right : bit_xor x y ≡ 0 = omega (arith, none, le_or_r seen (bit_xor x y)) in
        sym (and_from (seen == 0) (x == y) (eq-eqb seen 0 left) (eq-eqb x y (same_from_xor x y right)))
    by false h = sym (false_from_ne_true (seen == 0 && x == y) (λ same.
        let parts = and_parts (seen == 0) (x == y) same in
        eqb-false (bit_or seen (bit_xor x y)) 0 h
        (ap (λ n. bit_or n (bit_xor x y)) (eqb-true seen 0 parts.0) ∙ ap (λ n. bit_or 0 (bit_xor x n)) (sym (eqb-true x y parts.1)) ∙ ap (bit_or 0) (xor_self x))))

-- what differs in the pairs, over what differed before them
none_differ : (seen : ℕ) (xs ys : List ℕ) → length xs ≡ length ys
    → (fold (λ (seen : ℕ) (p : ℕ × ℕ). bit_or seen (bit_xor p.0 p.1)) seen (zip xs ys) == 0) ≡ (seen == 0 && bytes_eq xs ys)
none_differ seen [] [] long = by (seen == 0)
  where
    by : (b : Bool) → b ≡ (b && true)
    by true = refl
    by false = refl
none_differ seen [] (y ∷ ys) long = absurd (omega (arith, long))
none_differ seen (x ∷ xs) [] long = absurd (omega (arith, long))
none_differ seen (x ∷ xs) (y ∷ ys) long =
    none_differ (bit_or seen (bit_xor x y)) xs ys (omega (arith, long)) ∙ ap (λ b. b && bytes_eq xs ys) (no_more seen x y) ∙ by (seen == 0) (x == y) (bytes_eq xs ys)
  where
    by : (a b c : Bool) → ((a && b) && c) ≡ (a && (b && c))
    by true b c = refl
    by false b c = refl

pub none_differs : (xs ys : List ℕ) → length xs ≡ length ys
    → (fold (λ (seen : ℕ) (p : ℕ × ℕ). bit_or seen (bit_xor p.0 p.1)) 0 (zip xs ys) == 0) ≡ bytes_eq xs ys
none_differs xs ys long = none_differ 0 xs ys long
