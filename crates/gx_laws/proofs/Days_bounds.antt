-- In every legal history orders and fills are few and small, and moments do not fall from grant to grant.
use Rattle.std.proofs.{Common.{◌≡◌, ℕ, ◌+◌, ◌≤◌, true, List, [], ◌∷◌, ◌++◌, ap, sym, length, arith, inl, inr, ◌⊎◌, refl}, Math.Path.subst, lemmas.List.{append-nil, length-append}}
use Rattle.std.specs.List.{AllByRecursion}
use Rattle.gx_units.proofs.Lists_hold.{all_both}
use Rattle.gx_policy.specs.declared.policy.PolicyData.{PolicyData}
use Rattle.gx_history.specs.{declared.record.{Fill.Fill, RecordData.RecordData, Request.Request, Step.Step, Verdict.Verdict}, Executions.{Execution, executions, sides_in}, Figures.{Positions, positions}, Live.live, Orders.{Order, orders}, Requests.is_order, Verdicts.{day_limit, Follows, IsGrantedKillOrLogout, IsKillOrLogout, IsLegal}, World.{turn_by, world}}
use Rattle.gx_laws.proofs.{Orders_added.{AddsNone, AddsOne, what_is_added}, Requests_judged.legal_keeps, Orders_next.{executions_next, executions_none, orders_next, orders_none}, Streams_next.{legal_next, legal_none}, Orders_numbered.next_number, Turns_allowed.{numbers_apart, records_may_come}, Positions_next.{live_none, positions_go_on}, Moments_ordered.granted_last, SmallDays_next.{AreFew, HasRoom, IsSmall, IsSmallSide, few_then, fill_small, live_then, never_fall_next}, Sums_turn.sides_are}
use Rattle.gx_laws.specs.{PositionLaws.{granted_after, turn_after}, Sound.{IsNoLater, MayChange, MayFillHeld, NeverFall}}

-- at most as many orders as records, twice as many sides of fills, and both as few as a day has
pub record IsSized (policy : PolicyData) (history : List RecordData) : Type 0 where
  pub few_orders : AreFew (orders policy history) (length history) day_limit
  pub few_sides : AreFew (executions policy history) (length history + length history) (day_limit + day_limit)
  pub never_fall : NeverFall (orders policy history)
  pub small_live : AllByRecursion IsSmall (live policy history)
  pub small_sides : AllByRecursion IsSmallSide (executions policy history)

none_sized : (policy : PolicyData) → IsSized policy []
none_sized policy = record {
  few_orders = subst (λ (os : List Order). AreFew os 0 day_limit) (sym (orders_none policy)) (omega arith, omega arith);
  few_sides = subst (λ (es : List Execution). AreFew es (0 + 0) (day_limit + day_limit)) (sym (executions_none policy)) (omega arith, omega arith);
  never_fall = subst NeverFall (sym (orders_none policy)) tt;
  small_live = subst (AllByRecursion IsSmall) (sym (live_none policy)) tt;
  small_sides = subst (AllByRecursion IsSmallSide) (sym (executions_none policy)) tt;
}

module _ (policy : PolicyData) (history : List RecordData) (r : RecordData) (legal : IsLegal policy history) (follows : Follows policy (history, r)) (sized : IsSized policy history) where
  -- the day has room for a record that is no Kill and no Logout
  room : (IsGrantedKillOrLogout r.verdict r.step → ⊥) → length history + 1 ≤ day_limit
  room never = by follows.fits_day.fits
    where
      by : (r.number ≤ day_limit) ⊎ IsGrantedKillOrLogout r.verdict r.step → length history + 1 ≤ day_limit
      by (inl h) = subst (λ (n : ℕ). n ≤ day_limit) (next_number r follows) h
      by (inr kills) = absurd (never kills)

  grants_no_kill : AddsOne policy history r → IsGrantedKillOrLogout r.verdict r.step → ⊥
  grants_no_kill one kills =
      of_request one.a.request one.is_for_order
      (subst (λ (s : Step). IsGrantedKillOrLogout Verdict.Granted s) one.asks (subst (λ (v : Verdict). IsGrantedKillOrLogout v r.step) one.grants kills))
    where
      of_request : (q : Request) → is_order q ≡ true → IsKillOrLogout q → ⊥
      of_request (Request.Enter m) is k = k
      of_request (Request.Replace m) is k = k
      of_request (Request.Cancel m) is k = k
      of_request (Request.Login m) is k = k
      of_request (Request.Unreadable m) is k = k
      of_request Request.Logout is k = cc
      of_request (Request.Command c) is k = cc

  added : AddsNone policy history r ⊎ AddsOne policy history r
  added = what_is_added r follows

  room_for_orders : HasRoom (granted_after policy history r) (length history) day_limit 1
  room_for_orders = by added
    where
      by : AddsNone policy history r ⊎ AddsOne policy history r → HasRoom (granted_after policy history r) (length history) day_limit 1
      by (inl none) = inl none.adds
      by (inr one) = let single = ap length one.adds in inr (omega (arith, single), room (grants_no_kill one))

  falls_never : NeverFall (orders policy history ++ granted_after policy history r)
  falls_never = by added
    where
      by : AddsNone policy history r ⊎ AddsOne policy history r → NeverFall (orders policy history ++ granted_after policy history r)
      by (inl none) = subst (λ (more : List Order). NeverFall (orders policy history ++ more)) (sym none.adds) (subst NeverFall (sym (append-nil (orders policy history))) sized.never_fall)
      by (inr one) =
          let last : AllByRecursion (λ (o : Order). AllByRecursion (IsNoLater o) (orders policy history)) (one.o ∷ []) =
          subst (AllByRecursion (λ (o : Order). AllByRecursion (IsNoLater o) (orders policy history))) one.adds (granted_last r.step r legal follows.is_next) in
          subst (λ (more : List Order). NeverFall (orders policy history ++ more)) (sym one.adds) (never_fall_next (orders policy history) one.o sized.never_fall last.0)

  may : MayChange policy (positions policy history) (turn_after policy history r) (granted_after policy history r)
  may = records_may_come policy history r.step r legal follows.is_next

  -- two sides of a fill at most, both small
  abbrev AreTwo : List Execution → Type 0
  AreTwo more = HasRoom more (length history + length history) (day_limit + day_limit) 2 × AllByRecursion IsSmallSide more

  sides_made : AreTwo (sides_in (orders policy history) r.verdict)
  sides_made = by r.verdict refl
    where
      of_fill : (f : Fill) → r.verdict ≡ Verdict.Filled f → MayFillHeld (positions policy history) f → AreTwo (sides_in (orders policy history) (Verdict.Filled f))
      of_fill f e fills =
          let is = fill_small (positions policy history) f fills sized.small_live in
          let space = room (λ kills. subst (λ (v : Verdict). IsGrantedKillOrLogout v r.step) e kills) in
          subst AreTwo (sym (sides_are (positions policy history) f fills)) (inr (omega arith, omega (arith, space)), (is, (is, tt)))

      by : (v : Verdict) → r.verdict ≡ v → AreTwo (sides_in (orders policy history) v)
      by Verdict.Granted e = (inl refl, tt)
      by (Verdict.Denied rule) e = (inl refl, tt)
      by (Verdict.Rested number) e = (inl refl, tt)
      by (Verdict.Expired number) e = (inl refl, tt)
      by (Verdict.Filled f) e =
          of_fill f e (subst (λ (v : Verdict). MayChange policy (positions policy history) (turn_by policy (world policy history) r v r.step) (granted_after policy history r)) e may)

  one_more_sized : IsSized policy (history ++ r ∷ [])
  one_more_sized =
      let held : Positions = positions policy history in
      let size : length (history ++ r ∷ []) ≡ length history + 1 = length-append history (r ∷ []) in
      let few = few_then (orders policy history) (granted_after policy history r) (length history) day_limit 1 sized.few_orders room_for_orders in
      let sides = few_then (executions policy history) (sides_in (orders policy history) r.verdict) (length history + length history) (day_limit + day_limit) 2 sized.few_sides sides_made.0 in
      let granted_then = ap length (orders_next policy history r) in
      let made_then = ap length (executions_next policy history r) in
      record {
        few_orders = (omega (arith, few.0, granted_then, size), omega (arith, few.1, granted_then));
        few_sides = (omega (arith, sides.0, made_then, size), omega (arith, sides.1, made_then));
        never_fall = subst NeverFall (sym (orders_next policy history r)) falls_never;
        small_live =
            subst (AllByRecursion IsSmall) (sym (ap (λ (p : Positions). p.live) (positions_go_on policy history r.step r legal follows.is_next)))
            (live_then policy held (turn_after policy history r) (granted_after policy history r) (numbers_apart legal) may sized.small_live);
        small_sides = subst (AllByRecursion IsSmallSide) (sym (executions_next policy history r)) (all_both IsSmallSide (executions policy history) (sides_in (orders policy history) r.verdict) sized.small_sides sides_made.1);
      }

abbrev IsLegalAndSized : PolicyData → List RecordData → Type 0
IsLegalAndSized policy history = IsLegal policy history × IsSized policy history

-- so in every legal history
pub legal_is_sized : {policy : PolicyData} {history : List RecordData} → IsLegal policy history → IsSized policy history
legal_is_sized {policy} legal =
    (legal_keeps (IsLegalAndSized policy) (legal_none policy, none_sized policy)
    (λ (h : List RecordData) (r : RecordData) both follows. (legal_next r both.0 follows, one_more_sized policy h r both.0 follows both.1)) legal).1
