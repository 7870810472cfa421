-- Counting Enters that are alike.
use Rattle.std.proofs.{Common.{◌≡◌, ℕ, ◌+◌, Bool, true, false, ◌&&◌, ◌||◌, cond, List, [], ◌∷◌, refl, ap, ◌∙◌, true≢false, arith}, lemmas.List.Sums.sum_by-cons}
use Rattle.std.specs.{Option.option_map_or, Prelude.{◌==◌, count_by}, List.list_any}
use Rattle.gx_units.specs.Names.{same_stock}
use Rattle.gx_history.specs.declared.record.Request.{Request}
use Rattle.gx_ledger.specs.{declared.group.RepeatKey.RepeatKey, Running.{are_alike, are_sized_alike, asked_as, count_alike}}

-- the request is such an Enter
abbrev pub is_like : Request → RepeatKey → Bool
is_like (Request.Enter m) e = e.side == m.side && e.shares == m.shares && same_stock e.stock m.stock && e.price == m.price
is_like other e = false

-- the Enters that are such as the request is
abbrev pub alike_in : List RepeatKey → Request → ℕ
alike_in enters q = count_by (is_like q) enters

size_fails : (side shares stock price : Bool) → (price && shares) ≡ false → (side && shares && stock && price) ≡ false
size_fails false shares stock price fails = refl
size_fails true false stock price fails = refl
size_fails true true false price fails = refl
size_fails true true true false fails = refl
size_fails true true true true fails = fails

-- where none has the price and the size, none is alike
pub none_alike : (asked : RepeatKey) (es : List RepeatKey) → list_any (are_sized_alike asked) es ≡ false → count_by (are_alike asked) es ≡ 0
none_alike asked [] none = refl
none_alike asked (e ∷ es) none = by (are_sized_alike asked e) refl none (none_alike asked es)
  where
    by : (b : Bool) → are_sized_alike asked e ≡ b → (b || list_any (are_sized_alike asked) es) ≡ false
        → (list_any (are_sized_alike asked) es ≡ false → count_by (are_alike asked) es ≡ 0) → count_by (are_alike asked) (e ∷ es) ≡ 0
    by true is some deeper = absurd (true≢false some)
    by false is others deeper =
        let not_it : are_alike asked e ≡ false = size_fails (e.side == asked.side) (e.shares == asked.shares) (same_stock e.stock asked.stock) (e.price == asked.price) is in
        let more = sum_by-cons (λ (e : RepeatKey). cond (are_alike asked e) 1 0) e es ∙ ap (λ b. cond b 1 0 + count_by (are_alike asked) es) not_it in
        let rest = deeper others in
        omega (arith, more, rest)

-- what passes no Enter counts none
none_passes : (es : List RepeatKey) → count_by (λ (e : RepeatKey). false) es ≡ 0
none_passes [] = refl
none_passes (e ∷ es) = let more = sum_by-cons (λ (e : RepeatKey). 0) e es in let rest = none_passes es in omega (arith, more, rest)

-- an Enter is like those with which it has all in common, and no other request is
pub asked_alike : (es : List RepeatKey) (q : Request) → alike_in es q ≡ option_map_or (count_alike es) (asked_as q) 0
asked_alike es (Request.Enter m) = refl
asked_alike es (Request.Replace m) = none_passes es
asked_alike es (Request.Cancel m) = none_passes es
asked_alike es (Request.Login m) = none_passes es
asked_alike es Request.Logout = none_passes es
asked_alike es (Request.Unreadable m) = none_passes es
asked_alike es (Request.Command m) = none_passes es
