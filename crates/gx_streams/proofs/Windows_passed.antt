-- Reports that pass by a window.
use Rattle.std.proofs.{Common.{◌≡◌, ℕ, zero, suc, ◌+◌, ◌-◌, min, List, [], ◌∷◌, ◌++◌, length, take, drop, refl, ◌∙◌, sym, ap, arith, append_assoc}, lemmas.List.{length-append, length-take}}
use Rattle.gx_history.specs.declared.report.Report.{Report}
use Rattle.gx_streams.specs.Windows.{Taken, taken_after}

drop_split : {X : Type 0} (s : ℕ) (xs ys : List X) → drop s (xs ++ ys) ≡ drop s xs ++ drop (s - length xs) ys
drop_split zero xs ys = ap (λ n. xs ++ drop n ys) (let e : 0 ≡ 0 - length xs = omega arith in e)
drop_split (suc s) [] ys = ap (λ n. drop n ys) (let e : suc s ≡ suc s - 0 = omega arith in e)
drop_split (suc s) (x ∷ xs) ys = drop_split s xs ys ∙ ap (λ n. drop s xs ++ drop n ys) (let e : s - length xs ≡ suc s - suc (length xs) = omega arith in e)

take_split : {X : Type 0} (s : ℕ) (xs ys : List X) → take s (xs ++ ys) ≡ take s xs ++ take (s - length xs) ys
take_split zero xs ys = ap (λ n. take n ys) (let e : 0 ≡ 0 - length xs = omega arith in e)
take_split (suc s) [] ys = ap (λ n. take n ys) (let e : suc s ≡ suc s - 0 = omega arith in e)
take_split (suc s) (x ∷ xs) ys = ap (λ rest. x ∷ rest) (take_split s xs ys ∙ ap (λ n. take s xs ++ take n ys) (let e : s - length xs ≡ suc s - suc (length xs) = omega arith in e))

room : (most t n a k : ℕ) → n ≡ most - t → k ≡ t + min n a → n - a ≡ most - k
room most t n a k p q = grind (arith, p, q)

abbrev pub state : ℕ → ℕ → List Report → Taken
state skip most taken = record { skip = skip; most = most; taken = taken }

-- what passes in two parts
pub after_both : (xs ys : List Report) (w : Taken) → taken_after ys (taken_after xs w) ≡ taken_after (xs ++ ys) w
after_both xs ys w =
    let free = w.most - length w.taken in
    let front = drop w.skip xs in
    let back = drop (w.skip - length xs) ys in
    let fits : free - length front ≡ w.most - length (w.taken ++ take free front) =
    room w.most (length w.taken) free (length front) _ refl (length-append w.taken (take free front) ∙ ap (λ n. length w.taken + n) (length-take free front)) in
    let counts : w.skip - length (xs ++ ys) ≡ w.skip - length xs - length ys = let e = length-append xs ys in omega (arith, e) in
    sym (
    ap (λ n. state n w.most (w.taken ++ take free (drop w.skip (xs ++ ys)))) counts
    ∙ ap (λ l. state (w.skip - length xs - length ys) w.most (w.taken ++ l)) (ap (take free) (drop_split w.skip xs ys) ∙ take_split free front back ∙ ap (λ n. take free front ++ take n back) fits)
    ∙ ap (state (w.skip - length xs - length ys) w.most) (sym (append_assoc w.taken (take free front) (take (w.most - length (w.taken ++ take free front)) back)))
    )
