-- No book is crossed: an invariant of the sides, by what each record does.
use Rattle.std.proofs.{Common.{◌≡◌, ℕ, ◌<◌, ◌≤◌, Bool, true, false, not, List, [], ◌∷◌, ◌++◌, refl, ◌∙◌, ap, sym, cond, arith}, Math.Path.subst, lemmas.Bool.{leb-false, ltb-false, lt-leb, and_parts, not-true}}
use Rattle.std.specs.{Prelude.{Option, Some, None, ◌&&◌, nat_le}, Option.option_map_or, List.{AllByRecursion, filter_map}}
use Rattle.gx_units.specs.{declared.names.Symbol.Symbol, Names.same_stock}
use Rattle.gx_units.proofs.{Names_equal.stock_is, Lists_hold.{all_weaker, all_and, all_found_of}}
use Rattle.gx_ouch.specs.declared.outbound.OrderTerms.{OrderTerms}
use Rattle.gx_policy.specs.{declared.policy.PolicyData.PolicyData, Lists.{IsInOrder, inserted_behind}}
use Rattle.gx_history.specs.{declared.{live_order.LiveOrder.LiveOrder, «record».{RecordData.RecordData, Step.Step, Verdict.Verdict}}, Book.{is_buy, rested_of}, Live.{ahead, is_buy_order, is_there, side, live_numbered, live}, Matched.AreUncrossed, Matching.{crosses, meets_none}, MayMove.{MayRest, opposite}, Requests.is_judged, Turns.{Turn, becomes, side_after}, Verdicts.{IsLegal, next}, World.{turn_by, world}}
use Rattle.gx_laws.proofs.{Requests_judged.{asked_is_judged, legal_keeps}, Streams_next.{legal_next, legal_none}, LiveOrders_known.{RestsThere, all_placed, all_resting, first_waiting}, Matches_allowed.may_match, PriceOrder_best.resting_ordered, Runs_orderly.{IsOrderly, legal_is_orderly}, BookSides_next.{becomes_same, goes, other_turn, side_next}}

-- no buy crosses a sell
abbrev Apart : List LiveOrder → List LiveOrder → Type 0
Apart buys sells = AllByRecursion (λ (b : LiveOrder). AllByRecursion (λ (s : LiveOrder). crosses b s ≡ false) sells) buys

abbrev cross : OrderTerms → OrderTerms → Bool
cross t u = elim (is_buy t.side) [ true ↦ nat_le u.price t.price | false ↦ nat_le t.price u.price ]

cross_alike : (b s c t : LiveOrder) → c.terms ≡ b.terms → t.terms ≡ s.terms → crosses c t ≡ crosses b s
cross_alike b s c t e f = ap (λ (x : OrderTerms). cross x t.terms) e ∙ ap (cross b.terms) f

-- whatever goes on, goes on apart
turned_apart : (turn : Turn) (buys sells : List LiveOrder) → Apart buys sells → Apart (filter_map (becomes turn) buys) (filter_map (becomes turn) sells)
turned_apart turn buys sells h =
    all_found_of (λ (b : LiveOrder). AllByRecursion (λ (s : LiveOrder). crosses b s ≡ false) sells) (λ (c : LiveOrder). AllByRecursion (λ (t : LiveOrder). crosses c t ≡ false) (filter_map (becomes turn) sells)) (becomes turn)
    (λ b c all e. all_found_of (λ (s : LiveOrder). crosses b s ≡ false) (λ (t : LiveOrder). crosses c t ≡ false) (becomes turn)
    (λ s t k f. cross_alike b s c t (becomes_same turn b c e).1 (becomes_same turn s t f).1 ∙ k) sells all) buys h

-- who does not meet the best meets none of those behind it
meets_no_other : (o : LiveOrder) (there : List LiveOrder) → IsInOrder (ahead (not (is_buy_order o))) there → meets_none o there ≡ true → AllByRecursion (λ (s : LiveOrder). crosses o s ≡ false) there
meets_no_other o [] h k = tt
meets_no_other o (best ∷ others) h k = (not-true (crosses o best) k, all_weaker _ (λ (s : LiveOrder). crosses o s ≡ false) (λ s behind. at (is_buy_order o) s behind (not-true (crosses o best) k)) others h.0)
  where
    at : (b : Bool) (s : LiveOrder) → ahead (not b) s best ≡ false → elim b [ true ↦ nat_le best.terms.price o.terms.price | false ↦ nat_le o.terms.price best.terms.price ] ≡ false
        → elim b [ true ↦ nat_le s.terms.price o.terms.price | false ↦ nat_le o.terms.price s.terms.price ] ≡ false
    at true s behind none =
        let x : best.terms.price ≤ s.terms.price = ltb-false s.terms.price best.terms.price behind in
        let y : o.terms.price < best.terms.price = leb-false best.terms.price o.terms.price none in
        lt-leb s.terms.price o.terms.price (omega arith)
    at false s behind none =
        let x : s.terms.price ≤ best.terms.price = ltb-false best.terms.price s.terms.price behind in
        let y : best.terms.price < o.terms.price = leb-false o.terms.price best.terms.price none in
        lt-leb o.terms.price s.terms.price (omega arith)

-- an order is placed on its side, and on no other
abbrev placed_on : Bool → Bool → LiveOrder → List LiveOrder → List LiveOrder
placed_on goes buy o found = cond goes (inserted_behind (ahead buy) found (record o { waits = false })) found

side_rests : {policy : PolicyData} {history : List RecordData} (step : Step) (r : RecordData) (number : ℕ) (stock : Symbol) (buy : Bool) → IsLegal policy history → next policy history step ≡ Some r
    → r.verdict ≡ Verdict.Rested number
    → (may : MayRest (world policy history) r number) → side policy (history ++ r ∷ []) stock buy ≡ placed_on (is_there stock buy may.first) buy may.first (side policy history stock buy)
side_rests {policy} {history} step r number stock buy legal left rests may =
    side_next policy history step r stock buy legal left
    ∙ ap (λ (v : Verdict). side_after (turn_by policy (world policy history) r v r.step) (live policy history) stock buy (side policy history stock buy)) rests
    ∙ ap (λ (x : Option LiveOrder). option_map_or (λ (o : LiveOrder). placed_on (is_there stock buy o) buy o (side policy history stock buy)) x (side policy history stock buy))
    (ap (live_numbered (live policy history)) may.has_number ∙ (first_waiting may.first may.waiting (legal_is_orderly legal) may.comes_first).known.is_found)

one_placed : (P : LiveOrder → Type 0) (buy : Bool) (found : List LiveOrder) (o : LiveOrder) → AllByRecursion P found → P o → AllByRecursion P (inserted_behind (ahead buy) found o)
one_placed P buy found o h k = all_placed P (ahead buy) found (o ∷ []) h (k, tt)

placed_apart : {policy : PolicyData} {history : List RecordData} (stock : Symbol) (o : LiveOrder) → IsOrderly policy history → meets_none o (opposite (world policy history) o) ≡ true
    → Apart (side policy history stock true) (side policy history stock false)
    → Apart (placed_on (is_there stock true o) true o (side policy history stock true)) (placed_on (is_there stock false o) false o (side policy history stock false))
placed_apart {policy} {history} stock o orderly none h = at (same_stock o.terms.stock stock) (is_buy_order o) refl refl
  where
    meets : (b : Bool) → same_stock o.terms.stock stock ≡ true → is_buy_order o ≡ b → AllByRecursion (λ (s : LiveOrder). crosses o s ≡ false) (side policy history stock (not b))
    meets b same buys =
        subst (λ (x : Symbol). AllByRecursion (λ (s : LiveOrder). crosses o s ≡ false) (side policy history x (not b))) (stock_is o.terms.stock stock same)
        (subst (λ (x : Bool). AllByRecursion (λ (s : LiveOrder). crosses o s ≡ false) (side policy history o.terms.stock (not x))) buys
        (meets_no_other o (opposite (world policy history) o) (resting_ordered policy history o.terms.stock (not (is_buy_order o))) none))

    -- a buy crosses a sell as the sell crosses it
    turned_round : (b : LiveOrder) → is_buy_order o ≡ false → is_there stock true b ≡ true → crosses o b ≡ false → crosses b (record o { waits = false }) ≡ false
    turned_round b sells there none =
        ap (λ (x : Bool). elim x [ true ↦ nat_le o.terms.price b.terms.price | false ↦ nat_le b.terms.price o.terms.price ]) (and_parts (same_stock b.terms.stock stock) (is_buy_order b) there).1
        ∙ ap (λ (x : Bool). elim x [ true ↦ nat_le b.terms.price o.terms.price | false ↦ nat_le o.terms.price b.terms.price ]) (sym sells) ∙ none

    at : (s b : Bool) → same_stock o.terms.stock stock ≡ s → is_buy_order o ≡ b → Apart (placed_on (s && b) true o (side policy history stock true)) (placed_on (s && not b) false o (side policy history stock false))
    at true true same buys = one_placed (λ (b : LiveOrder). AllByRecursion (λ (s : LiveOrder). crosses b s ≡ false) (side policy history stock false)) true (side policy history stock true) (record o { waits = false }) h (meets true same buys)
    at true false same sells =
        all_weaker (λ (b : LiveOrder). (AllByRecursion (λ (s : LiveOrder). crosses b s ≡ false) (side policy history stock false) × RestsThere policy history stock true b) × (crosses o b ≡ false))
        (λ (b : LiveOrder). AllByRecursion (λ (s : LiveOrder). crosses b s ≡ false) (inserted_behind (ahead false) (side policy history stock false) (record o { waits = false })))
        (λ b k. one_placed (λ (s : LiveOrder). crosses b s ≡ false) false (side policy history stock false) (record o { waits = false }) k.0.0 (turned_round b sells k.0.1.there k.1)) (side policy history stock true)
        (all_and (λ (b : LiveOrder). AllByRecursion (λ (s : LiveOrder). crosses b s ≡ false) (side policy history stock false) × RestsThere policy history stock true b) (λ (b : LiveOrder). crosses o b ≡ false) (side policy history stock true)
        (all_and (λ (b : LiveOrder). AllByRecursion (λ (s : LiveOrder). crosses b s ≡ false) (side policy history stock false)) (RestsThere policy history stock true) (side policy history stock true) h (all_resting stock true orderly)) (meets false same sells))
    at false b same buys = h

abbrev AreApartAt : PolicyData → List RecordData → Symbol → Type 0
AreApartAt policy history stock = Apart (side policy history stock true) (side policy history stock false)

-- so with one more record
one_more : {policy : PolicyData} {history : List RecordData} (step : Step) (r : RecordData) (stock : Symbol) → IsLegal policy history → next policy history step ≡ Some r
    → Apart (side policy history stock true) (side policy history stock false) → Apart (side policy (history ++ r ∷ []) stock true) (side policy (history ++ r ∷ []) stock false)
one_more {policy} {history} step r stock legal left h = by step r.verdict left refl
  where
    sides : (f : Bool → List LiveOrder) → ((buy : Bool) → side policy (history ++ r ∷ []) stock buy ≡ f buy) → Apart (f true) (f false) → AreApartAt policy (history ++ r ∷ []) stock
    sides f e k = subst (λ (buys : List LiveOrder). Apart buys (side policy (history ++ r ∷ []) stock false)) (sym (e true)) (subst (λ (sells : List LiveOrder). Apart (f true) sells) (sym (e false)) k)

    kept : (v : Verdict) → r.verdict ≡ v → rested_of v ≡ None → AreApartAt policy (history ++ r ∷ []) stock
    kept v e none =
        let turn : Turn = turn_by policy (world policy history) r v r.step in
        sides (λ buy. filter_map (becomes turn) (side policy history stock buy))
        (λ buy. side_next policy history step r stock buy legal left
        ∙ ap (λ (x : Verdict). side_after (turn_by policy (world policy history) r x r.step) (live policy history) stock buy (side policy history stock buy)) e
        ∙ sym (other_turn turn (live policy history) stock buy (side policy history stock buy) (goes policy (world policy history) r v r.step none)))
        (turned_apart turn (side policy history stock true) (side policy history stock false) h)

    by : (s : Step) (v : Verdict) → next policy history s ≡ Some r → r.verdict ≡ v → AreApartAt policy (history ++ r ∷ []) stock
    by (Step.Asked a) (Verdict.Rested number) left e = let judged : false ≡ true = ap is_judged (sym e) ∙ asked_is_judged policy history a r left in cc
    by (Step.Matching handed) (Verdict.Rested number) left e =
        let orderly : IsOrderly policy history = legal_is_orderly legal in
        let may : MayRest (world policy history) r number = may_match policy history handed r (Verdict.Rested number) left e in
        sides (λ buy. placed_on (is_there stock buy may.first) buy may.first (side policy history stock buy)) (λ buy. side_rests (Step.Matching handed) r number stock buy legal left e may)
        (placed_apart stock may.first orderly may.meets_nothing h)
    by s Verdict.Granted left e = kept Verdict.Granted e refl
    by s (Verdict.Denied rule) left e = kept (Verdict.Denied rule) e refl
    by s (Verdict.Filled f) left e = kept (Verdict.Filled f) e refl
    by s (Verdict.Expired number) left e = kept (Verdict.Expired number) e refl

none_rest : (policy : PolicyData) (stock : Symbol) (buy : Bool) → side policy [] stock buy ≡ []
unfolding side
none_rest policy stock buy = refl

pub never_crossed : (policy : PolicyData) (history : List RecordData) → IsLegal policy history → AreUncrossed policy history
never_crossed policy history legal stock =
    (legal_keeps (λ (h : List RecordData). IsLegal policy h × Apart (side policy h stock true) (side policy h stock false))
    (legal_none policy, subst (λ (buys : List LiveOrder). Apart buys (side policy [] stock false)) (sym (none_rest policy stock true)) tt)
    (λ h r kept follows. (legal_next r kept.0 follows, one_more r.step r stock kept.0 follows.is_next kept.1)) legal).1
