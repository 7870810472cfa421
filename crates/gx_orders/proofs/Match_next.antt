-- What the record of a matching step does to the orders that are kept.
use Rattle.std.proofs.{Common.{◌≡◌, ℕ, ◌+◌, ◌-◌, ◌<◌, ◌≤◌, Bool, true, false, not, cond, List, [], ◌∷◌, map, refl, ◌∙◌, sym, ap, subst, arith, if◌then◌else◌, min}, Math.Nat.{min-le_left, min-le_right}, lemmas.{Bool.{le-ltb, ltb-false, eqb-true, eq-eqb, ne_eqb, lt-ltb, both_ways}, Option.same_Some}}
use Rattle.std.specs.{Prelude.{Option, Some, ◌||◌, ◌==◌, is_some, IfSome}, List.AllByRecursion}
use Rattle.gx_units.proofs.Lists_hold.{found_is}
use Rattle.gx_history.specs.{declared.{live_order.LiveOrder.LiveOrder, «record».{Fill.Fill, RecordData.RecordData}}, Verdicts.IsLegal, Book.is_buy, LiveOrders.shares_open, MayMove.MayFill, Live.live, World.world}
use Rattle.gx_policy.specs.declared.policy.PolicyData.{PolicyData}
use Rattle.gx_laws.proofs.{Orders_ended.live_have_open, LiveOrders_numbered.{does_not_rest, first_lives}, LiveOrders_known.{RestsThere, all_resting}, Runs_orderly.legal_is_orderly}
use Rattle.gx_orders.specs.{LiveOrders.{HasOpen, with_done, filled_at, has_number, is_open, open_ones, live_numbered, IsOpen}, Laws.CanFill}

-- a fill

abbrev both_sides : Fill → LiveOrder → LiveOrder
both_sides f o = if o.number == f.taker || o.number == f.maker then with_done f.shares o else o

-- what is not open is not open with more executed
shut_more : (o : LiveOrder) (n : ℕ) → is_open o ≡ false → is_open (with_done n o) ≡ false
shut_more o n h = let gone : o.total ≤ o.done = ltb-false o.done o.total h in le-ltb (o.done + n) o.total (omega arith)

-- one side after the other
pub in_turn : (f : Fill) → (f.taker ≡ f.maker → ⊥) → (live : List LiveOrder) → open_ones (map (both_sides f) live) ≡ filled_at f.maker f.shares (filled_at f.taker f.shares live)
in_turn f differ [] = refl
in_turn f differ (o ∷ os) = at (o.number == f.taker) (o.number == f.maker) refl refl (in_turn f differ os)
  where
    g : LiveOrder → LiveOrder
    g x = with_done f.shares x

    inner : List LiveOrder
    inner = filled_at f.taker f.shares os

    these : List LiveOrder
    these = open_ones (map (both_sides f) os)

    those : List LiveOrder
    those = filled_at f.maker f.shares inner

    kept_on : (x : LiveOrder) (w b : Bool) → has_number f.maker x ≡ b
        → filled_at f.maker f.shares (cond w (x ∷ inner) inner)
        ≡ cond w (cond (is_open (if b then g x else x)) ((if b then g x else x) ∷ those) those) those
    kept_on x true b k = ap (λ (c : Bool). cond (is_open (if c then g x else x)) ((if c then g x else x) ∷ those) those) k
    kept_on x false b k = refl

    once : (x : LiveOrder) (w : Bool) → these ≡ those → cond w (x ∷ these) these ≡ cond w (cond w (x ∷ those) those) those
    once x true later = ap (λ (rest : List LiveOrder). x ∷ rest) later
    once x false later = later

    still : (x : LiveOrder) (w v : Bool) → (w ≡ false → v ≡ false) → these ≡ those → cond v (x ∷ these) these ≡ cond w (cond v (x ∷ those) those) those
    still x true v shuts later = ap (λ (rest : List LiveOrder). cond v (x ∷ rest) rest) later
    still x false v shuts later = ap (λ (b : Bool). cond b (x ∷ these) these) (shuts refl) ∙ later

    at : (t m : Bool) → (o.number == f.taker) ≡ t → (o.number == f.maker) ≡ m → these ≡ those
        → cond (is_open (if t || m then g o else o)) ((if t || m then g o else o) ∷ these) these
        ≡ filled_at f.maker f.shares (cond (is_open (if t then g o else o)) ((if t then g o else o) ∷ inner) inner)
    at true true e k later = absurd (differ (sym (eqb-true o.number f.taker e) ∙ eqb-true o.number f.maker k))
    at true false e k later = once (g o) (is_open (g o)) later ∙ sym (kept_on (g o) (is_open (g o)) false k)
    at false true e k later = still (g o) (is_open o) (is_open (g o)) (shut_more o f.shares) later ∙ sym (kept_on o (is_open o) true k)
    at false false e k later = still o (is_open o) (is_open o) (λ h. h) later ∙ sym (kept_on o (is_open o) false k)

-- an open order is found under its number once another has changed
found_beside : (n m shares : ℕ) (live : List LiveOrder) (o : LiveOrder) → (m == n) ≡ false → is_open o ≡ true → live_numbered live n ≡ Some o → live_numbered (filled_at m shares live) n ≡ Some o
found_beside n m shares [] o other opens found = cc
found_beside n m shares (p ∷ ps) o other opens found = at (p.number == n) (p.number == m) refl refl found (found_beside n m shares ps o other opens)
  where
    rest : List LiveOrder
    rest = filled_at m shares ps

    passed : (x : LiveOrder) (b : Bool) → has_number n x ≡ false → live_numbered (cond b (x ∷ rest) rest) n ≡ live_numbered rest n
    passed x true e = ap (λ (b : Bool). cond b (Some x) (live_numbered rest n)) e
    passed x false e = refl

    at : (this that : Bool) → has_number n p ≡ this → has_number m p ≡ that → cond this (Some p) (live_numbered ps n) ≡ Some o → (live_numbered ps n ≡ Some o → live_numbered rest n ≡ Some o)
        → live_numbered (cond (is_open (if that then with_done shares p else p)) ((if that then with_done shares p else p) ∷ rest) rest) n ≡ Some o
    at true true e k is later = absurd (both_ways _ other (eq-eqb m n (sym (eqb-true p.number m k) ∙ eqb-true p.number n e)))
    at true false e k is later =
        let it : p ≡ o = same_Some _ _ is in
        ap (λ (b : Bool). live_numbered (cond b (p ∷ rest) rest) n) (ap is_open it ∙ opens)
        ∙ ap (λ (b : Bool). cond b (Some p) (live_numbered rest n)) e
        ∙ is
    at false true e k is later = passed (with_done shares p) (is_open (with_done shares p)) e ∙ later is
    at false false e k is later = passed p (is_open p) e ∙ later is

room_of : (shares total done : ℕ) → shares ≤ total - done → done < total → done + shares ≤ total
room_of shares total done a b = omega arith

pub fills_fit : {policy : PolicyData} {history : List RecordData} (r : RecordData) (f : Fill) → IsLegal policy history → MayFill (world policy history) r f → CanFill (live policy history) f
fills_fit {policy} {history} r f legal may = fit may
  where
    now : List LiveOrder
    now = live policy history

    fit : MayFill (world policy history) r f → CanFill now f
    fit is =
        let taker : LiveOrder = is.taker in
        let maker : LiveOrder = is.maker in
        let best : RestsThere policy history taker.terms.stock (not (is_buy taker.terms.side)) maker =
        (subst (AllByRecursion (RestsThere policy history taker.terms.stock (not (is_buy taker.terms.side)))) is.is_best (all_resting taker.terms.stock (not (is_buy taker.terms.side)) (legal_is_orderly legal))).0 in
        let taker_is : f.taker ≡ taker.number = ap (λ (x : Fill). x.taker) is.is_theirs in
        let maker_is : f.maker ≡ maker.number = ap (λ (x : Fill). x.maker) is.is_theirs in
        let taker_there : live_numbered now f.taker ≡ Some taker = ap (live_numbered now) taker_is ∙ (first_lives taker is.waiting legal is.comes_first).0.found in
        let maker_there : live_numbered now f.maker ≡ Some maker = ap (live_numbered now) maker_is ∙ best.known.is_found in
        let opens : (n : ℕ) (o : LiveOrder) → live_numbered now n ≡ Some o → IsOpen o = λ n o found. found_is IsOpen (has_number n) now o (live_have_open policy history) found in
        let they_differ : (f.taker == f.maker) ≡ false = ne_eqb f.taker f.maker (λ same. does_not_rest taker is.waiting legal is.comes_first maker best.known.is_found best.rests (sym maker_is ∙ sym same ∙ taker_is)) in
        let room : (o : LiveOrder) → f.shares ≤ shares_open o → IsOpen o → HasOpen f.shares o = λ o few some. room_of f.shares o.total o.done few some in
        let few : f.shares ≡ min (shares_open taker) (shares_open maker) = ap (λ (x : Fill). x.shares) is.is_theirs in
        record {
          sides_differ = they_differ;
          taker_lives = ap is_some taker_there;
          maker_lives = ap is_some maker_there;
          taker_has_them = subst (λ (found : Option LiveOrder). IfSome found (HasOpen f.shares)) (sym taker_there)
              (room taker (subst (λ (n : ℕ). n ≤ shares_open taker) (sym few) (min-le_left (shares_open taker) (shares_open maker))) (opens f.taker taker taker_there));
          maker_has_them = subst (λ (found : Option LiveOrder). IfSome found (HasOpen f.shares)) (sym (found_beside f.maker f.taker f.shares now maker they_differ (lt-ltb maker.done maker.total (opens f.maker maker maker_there)) maker_there))
              (room maker (subst (λ (n : ℕ). n ≤ shares_open maker) (sym few) (min-le_right (shares_open taker) (shares_open maker))) (opens f.maker maker maker_there));
        }
