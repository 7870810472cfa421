-- The latest moments, from the newest back.
use Rattle.std.proofs.{Common.{◌≡◌, ℕ, ◌-◌, ◌<◌, ◌≤◌, zero, suc, Bool, true, false, List, [], ◌∷◌, length, get_or, refl, sym, ◌∙◌, subst, arith}, lemmas.{Bool.{ltb-false, ltb-true}, List.Sums.suffix_len_is}}
use Rattle.std.specs.Prelude.{nat_lt}
use Rattle.gx_ledger.specs.Running.{is_recent, is_recent_at, recent_in}

-- a moment that is there
pub moment_there : (moments : List ℕ) (index window moment : ℕ) → index < length moments → is_recent_at moments index window moment ≡ is_recent window moment (get_or moments index 0)
moment_there [] index window moment within = absurd (omega (arith, within))
moment_there (m ∷ moments) zero window moment within = refl
moment_there (m ∷ moments) (suc index) window moment within = moment_there moments index window moment (omega (arith, within))

-- from this place on, all are recent
abbrev pub AreRecentFrom : List ℕ → ℕ → ℕ → ℕ → Type 0
AreRecentFrom moments window moment left = (k : ℕ) → left ≤ k → k < length moments → is_recent window moment (get_or moments k 0) ≡ true

-- one more
pub one_more_recent : (moments : List ℕ) (window moment left : ℕ) → 0 < left → left ≤ length moments → is_recent_at moments (left - 1) window moment ≡ true
    → AreRecentFrom moments window moment left → AreRecentFrom moments window moment (left - 1)
one_more_recent moments window moment left some within here passed k from to = by (nat_lt k left) refl
  where
    by : (b : Bool) → nat_lt k left ≡ b → is_recent window moment (get_or moments k 0) ≡ true
    by true h =
        let below : k < left = ltb-true k left h in
        let is : left - 1 ≡ k = omega (arith, from, below, some) in
        sym (moment_there moments k window moment to) ∙ subst (λ (n : ℕ). is_recent_at moments n window moment ≡ true) is here
    by false h = passed k (ltb-false k left h) to

-- and the one before is not
pub recent_from : (moments : List ℕ) (window moment left : ℕ) → left ≤ length moments → AreRecentFrom moments window moment left
    → (0 < left → is_recent_at moments (left - 1) window moment ≡ false) → length moments - left ≡ recent_in moments window moment
recent_from moments window moment left within passed stops =
    sym (suffix_len_is (is_recent window moment) moments left 0 within passed
    (λ some. sym (moment_there moments (left - 1) window moment (omega (arith, some, within))) ∙ stops some))
