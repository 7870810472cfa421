-- The accounts that some reader is told of.
use Rattle.std.proofs.{Common.{◌≡◌, ℕ, zero, suc, ◌+◌, ◌/◌, ◌%◌, ◌^◌, ◌==◌, ◌<◌, ◌⊎◌, inl, inr, nat_lt, max, Bool, true, false, cond, List, [], ◌∷◌, ◌++◌, map, length, length-append, refl, ◌∙◌, sym, ap, subst, bit_or, if◌then◌else◌, arith, eqb-true, eq-eqb}, lemmas.{Bool.{and_from, and_parts}, Nat.Bits.bit_at_or, Option.same_Some}}
use Rattle.std.specs.{Prelude.{None, Some, slice_get}, List.{flat_map}, Map.{lookup, set_value, values_of}}
use Rattle.indexmap.specs.IndexMap.{set_value_at}
use Rattle.gx_units.specs.{Names.same_user, declared.names.UserName.UserName}
use Rattle.gx_policy.specs.{People.is_reader, declared.policy.User.User}
use Rattle.gx_history.specs.{Masks.has_account}
use Rattle.gx_streams.specs.{declared.{fill.{FillRole.FillRole, ReportedFill.ReportedFill}, span.Span.Span}, Fills.{fill_copies, fill_copy, copy_report, fill_side}, Spans.{AreWithin, IsWithin, ReaderSpans, with_copies_counted, no_spans, spans_for}}

-- no reader is told of an account at first
pub within_first : (users : List User) → AreWithin 0 (flat_map spans_for users)
within_first [] = tt
within_first (u ∷ users) =
    elim (is_reader (Some u.role)) as (λ b. AreWithin 0 ((if b then no_spans u.name ∷ [] else []) ++ flat_map spans_for users))
    [ true ↦ ((λ place has. has), within_first users) | false ↦ within_first users ]

one_of_left : (x y z : ℕ) → z ≡ max x y → x ≡ 1 → y < 2 → z ≡ 1
one_of_left x y z is one small = omega arith

one_of_right : (x y z : ℕ) → z ≡ max x y → y ≡ 1 → x < 2 → z ≡ 1
one_of_right x y z is one small = omega arith

-- the accounts of two masks together are those of the first, and of the other
pub within_left : (a b : ℕ) → IsWithin (bit_or a b) a
within_left a b place has =
    let parts = and_parts (nat_lt place 64) (a / 2 ^ place % 2 == 1) has in
    and_from (nat_lt place 64) (bit_or a b / 2 ^ place % 2 == 1) parts.0
    (eq-eqb _ _ (one_of_left (a / 2 ^ place % 2) (b / 2 ^ place % 2) _ (bit_at_or a b place) (eqb-true _ _ parts.1) (omega arith)))

pub within_right : (a b : ℕ) → IsWithin (bit_or a b) b
within_right a b place has =
    let parts = and_parts (nat_lt place 64) (b / 2 ^ place % 2 == 1) has in
    and_from (nat_lt place 64) (bit_or a b / 2 ^ place % 2 == 1) parts.0
    (eq-eqb _ _ (one_of_right (a / 2 ^ place % 2) (b / 2 ^ place % 2) _ (bit_at_or a b place) (eqb-true _ _ parts.1) (omega arith)))

-- they stay within more
pub within_more : (a b : ℕ) (rs : List ReaderSpans) → AreWithin a rs → AreWithin (bit_or a b) rs
within_more a b [] all = tt
within_more a b (r ∷ rs) all = ((λ place has. within_left a b place (all.0 place has)), within_more a b rs all.1)

-- one who is written anew
pub within_set : (read : ℕ) (es : List (UserName × ReaderSpans)) (user : UserName) (now : ReaderSpans) → AreWithin read (values_of es) → IsWithin read now.current.mask
    → AreWithin read (values_of (set_value (same_user user) es now))
within_set read [] user now all his = tt
within_set read (e ∷ es) user now all his =
    elim (same_user user e.0) as (λ b. AreWithin read (values_of (cond b ((e.0, now) ∷ es) (e ∷ set_value (same_user user) es now))))
    [ true ↦ (his, all.1) | false ↦ (all.0, within_set read es user now all.1 his) ]

-- one who is written at his place, with the accounts that he has
pub within_at : (read : ℕ) (es : List (UserName × ReaderSpans)) (i : ℕ) (before now : ReaderSpans) → AreWithin read (values_of es) → slice_get (values_of es) i ≡ Some before → now.current ≡ before.current
    → AreWithin read (values_of (set_value_at es i now))
within_at read [] i before now all at same = tt
within_at read (e ∷ es) zero before now all at same =
    (subst (λ (s : Span). IsWithin read s.mask) (sym (same ∙ ap (λ (r : ReaderSpans). r.current) (sym (same_Some _ _ at)))) all.0, all.1)
within_at read (e ∷ es) (suc i) before now all at same = (all.0, within_at read es i before now all.1 at same)

-- and one that was found
pub within_found : (read : ℕ) (es : List (UserName × ReaderSpans)) (user : UserName) (r : ReaderSpans) → AreWithin read (values_of es) → Some r ≡ lookup (same_user user) es → IsWithin read r.current.mask
within_found read [] user r all is = let clash : Some r ≡ None = is in cc
within_found read (e ∷ es) user r all is = by (same_user user e.0) is (within_found read es user r all.1)
  where
    by : (b : Bool) → Some r ≡ cond b (Some e.1) (lookup (same_user user) es) → (Some r ≡ lookup (same_user user) es → IsWithin read r.current.mask) → IsWithin read r.current.mask
    by true found later = subst (λ (s : ReaderSpans). IsWithin read s.current.mask) (sym (same_Some _ _ found)) all.0
    by false found later = later found

-- whom none of a fill's accounts is told of has no copy of it
none_of_party : (read mask : ℕ) (f : ReportedFill) (party : FillRole) → IsWithin read mask → length (fill_copy read f party) ≡ 0 → length (fill_copy mask f party) ≡ 0
none_of_party read mask f party within none = by (has_account mask (fill_side f party).account_place) refl
  where
    copies : Bool → ℕ
    copies b = length (if b then copy_report f party ∷ [] else [])

    by : (b : Bool) → has_account mask (fill_side f party).account_place ≡ b → length (fill_copy mask f party) ≡ 0
    by false is = ap copies is
    by true is = let clash : 1 ≡ 0 = ap copies (sym (within (fill_side f party).account_place is)) ∙ none in omega (arith, clash)

none_of : (read mask : ℕ) (f : ReportedFill) → IsWithin read mask → length (fill_copies read f) ≡ 0 → length (fill_copies mask f) ≡ 0
none_of read mask f within none =
    let parts = length-append (fill_copy read f FillRole.Taker) (fill_copy read f FillRole.Maker) in
    length-append (fill_copy mask f FillRole.Taker) (fill_copy mask f FillRole.Maker)
    ∙ omega (arith, parts, none, none_of_party read mask f FillRole.Taker within (omega (arith, parts, none)), none_of_party read mask f FillRole.Maker within (omega (arith, parts, none)))

-- a fill of accounts that no reader is told of is counted for none
pub none_counted : (read : ℕ) (f : ReportedFill) (rs : List ReaderSpans) → AreWithin read rs → length (fill_copies read f) ≡ 0 → map (with_copies_counted f) rs ≡ rs
none_counted read f [] all none = refl
none_counted read f (r ∷ rs) all none =
    let with_count : ℕ → ReaderSpans = λ n. record { user = r.user; earlier = r.earlier; current = r.current; count = n } in
    let same : r.count + length (fill_copies r.current.mask f) ≡ r.count = omega (arith, none_of read r.current.mask f all.0 none) in
    ap (λ (s : ReaderSpans). s ∷ map (with_copies_counted f) rs) (ap with_count same)
    ∙ ap (λ l. r ∷ l) (none_counted read f rs all.1 none)

-- a reader who is written with another mask, or as he was, under his name
pub within_written : (read mask : ℕ) (es : List (UserName × ReaderSpans)) (user : UserName) (before now : ReaderSpans) → AreWithin read (values_of es) → Some before ≡ lookup (same_user user) es
    → (now.current.mask ≡ mask) ⊎ (now.current.mask ≡ before.current.mask)
    → AreWithin (bit_or read mask) (values_of (set_value (same_user user) es now))
within_written read mask es user before now all found (inl is) =
    within_set (bit_or read mask) es user now (within_more read mask (values_of es) all) (subst (IsWithin (bit_or read mask)) (sym is) (within_right read mask))
within_written read mask es user before now all found (inr is) =
    within_set (bit_or read mask) es user now (within_more read mask (values_of es) all)
    (subst (IsWithin (bit_or read mask)) (sym is) (λ place has. within_left read mask place (within_found read es user before all found place has)))
