-- Moments that rise: the recent ones are the last.
use Rattle.std.proofs.{Common.{◌≡◌, ℕ, ◌+◌, ◌-◌, ◌<◌, ◌≤◌, zero, suc, Bool, true, false, true≢false, List, [], ◌∷◌, ◌++◌, length, get_or, refl, sym, ap, subst, ◌∙◌, arith}, lemmas.{Bool.{le-leb, leb-false, leb-true, lt-leb, lt-ltb, ltb-true}, List.{Sums.suffix_len-le-length, Sorted.{IsNonDecreasingBy-drop, IsNonDecreasingBy-push}}, Option.slice_get-get_or}}
use Rattle.std.specs.{Option.option_map_or, Prelude.nat_le, List.Sorted.IsNonDecreasing}
use Rattle.circular_buffer.specs.Buffer.{keep_last}
use Rattle.gx_ledger.specs.Running.{comes_last, is_recent, is_recent_at, recent_in}
use Rattle.gx_ledger.proofs.Moments_latest.{AreRecentFrom, moment_there, one_more_recent, recent_from}

-- from a recent one on, all are recent
pub recent_onwards : (moments : List ℕ) (window moment middle : ℕ) → IsNonDecreasing moments → middle < length moments → is_recent_at moments middle window moment ≡ true → AreRecentFrom moments window moment middle
recent_onwards moments window moment middle rise within recent k from to =
    let near : moment - get_or moments middle 0 < window = ltb-true (moment - get_or moments middle 0) window (sym (moment_there moments middle window moment within) ∙ recent) in
    let later : get_or moments middle 0 ≤ get_or moments k 0 = rise middle k 0 from to in
    lt-ltb (moment - get_or moments k 0) window (omega (arith, near, later))

-- the last one is no later
no_later : (moments : List ℕ) (moment d : ℕ) → comes_last moments moment ≡ true → 0 < length moments → get_or moments (length moments - 1) d ≤ moment
no_later moments moment d last some =
    let there = slice_get-get_or moments (length moments - 1) d (omega (arith, some)) in
    leb-true (get_or moments (length moments - 1) d) moment (sym (ap (λ o. option_map_or (λ last. nat_le last moment) o true) there) ∙ last)

-- one that comes last leaves them rising
pub still_rise : (room : ℕ) (moments : List ℕ) (moment : ℕ) → IsNonDecreasing moments → comes_last moments moment ≡ true → IsNonDecreasing (keep_last room (moments ++ moment ∷ []))
still_rise room moments moment rise last =
    IsNonDecreasingBy-drop (λ m. m) (length (moments ++ moment ∷ []) - room) (moments ++ moment ∷ [])
    (IsNonDecreasingBy-push (λ m. m) moments moment rise (λ d some. no_later moments moment d last some))

module _ (moments : List ℕ) (window moment : ℕ) where
  before_next : (n : ℕ) (b : Bool) → is_recent_at moments n window moment ≡ b → is_recent_at moments (suc n - 1) window moment ≡ b
  before_next n b here = let same : n ≡ suc n - 1 = omega arith in subst (λ (k : ℕ). is_recent_at moments k window moment ≡ b) same here

  from_next : (n : ℕ) → n < length moments → is_recent_at moments n window moment ≡ true → AreRecentFrom moments window moment (suc n) → AreRecentFrom moments window moment n
  from_next n within here passed =
      let same : suc n - 1 ≡ n = omega arith in
      subst (AreRecentFrom moments window moment) same (one_more_recent moments window moment (suc n) (omega arith) (omega (arith, within)) (before_next n true here) passed)

  -- where all are recent from a place on, there are at least as many
  at_least : (left : ℕ) → left ≤ length moments → AreRecentFrom moments window moment left → length moments - left ≤ recent_in moments window moment
  at_least zero within passed = omega (arith, recent_from moments window moment 0 within passed (λ none. absurd (omega (arith, none))))
  at_least (suc n) within passed =
      by (λ here. at_least n (omega (arith, within)) (from_next n (omega (arith, within)) here passed)) (is_recent_at moments n window moment) refl
    where
      by : (is_recent_at moments n window moment ≡ true → length moments - n ≤ recent_in moments window moment)
          → (b : Bool) → is_recent_at moments n window moment ≡ b → length moments - suc n ≤ recent_in moments window moment
      by earlier true here = omega (arith, earlier here)
      by earlier false here = omega (arith, recent_from moments window moment (suc n) within passed (λ some. before_next n false here))

  -- where one is not recent, only later ones count
  at_most : (i left : ℕ) → i < left → left ≤ length moments → is_recent_at moments i window moment ≡ false → AreRecentFrom moments window moment left → recent_in moments window moment + i < length moments
  at_most i zero below within not passed = absurd (omega (arith, below))
  at_most i (suc n) below within not passed =
      by (λ below_n here. at_most i n below_n (omega (arith, within)) not (from_next n (omega (arith, within)) here passed)) (is_recent_at moments n window moment) refl
    where
      apart : is_recent_at moments n window moment ≡ true → i ≡ n → ⊥
      apart here same = true≢false (sym here ∙ subst (λ (k : ℕ). is_recent_at moments k window moment ≡ false) same not)

      by : (i < n → is_recent_at moments n window moment ≡ true → recent_in moments window moment + i < length moments)
          → (b : Bool) → is_recent_at moments n window moment ≡ b → recent_in moments window moment + i < length moments
      by earlier true here = earlier (omega (arith, below, apart here)) here
      by earlier false here = omega (arith, below, within, recent_from moments window moment (suc n) within passed (λ some. before_next n false here))

  -- so many of the last are recent where the first of these is
  pub enough_recent : (limit : ℕ) → IsNonDecreasing moments → 0 < limit → limit ≤ length moments → is_recent_at moments (length moments - limit) window moment ≡ nat_le limit (recent_in moments window moment)
  enough_recent limit rise some within = by (is_recent_at moments (length moments - limit) window moment) refl
    where
      by : (b : Bool) → is_recent_at moments (length moments - limit) window moment ≡ b → b ≡ nat_le limit (recent_in moments window moment)
      by true here =
          sym
          (le-leb limit (recent_in moments window moment)
          (omega (arith, within, at_least (length moments - limit) (omega arith) (recent_onwards moments window moment (length moments - limit) rise (omega (arith, some, within)) here))))
      by false here =
          sym
          (lt-leb limit (recent_in moments window moment)
          (omega (arith, within, at_most (length moments - limit) (length moments) (omega (arith, some, within)) (omega arith) here (λ k from to. absurd (omega (arith, from, to))))))

  -- there are no more than all
  pub never_more : (limit : ℕ) → nat_le limit (length moments) ≡ false → nat_le limit (length moments) ≡ nat_le limit (recent_in moments window moment)
  never_more limit few =
      few ∙ sym (lt-leb limit (recent_in moments window moment) (omega (arith, leb-false limit (length moments) few, suffix_len-le-length (is_recent window moment) moments)))
