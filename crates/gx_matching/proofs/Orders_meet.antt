-- What is kept meets as the records say.
use Rattle.std.proofs.Common.{◌≡◌, ℕ, Bool, true, false, not, List, [], ◌∷◌, refl, ◌∙◌, ap, sym, map}
use Rattle.std.specs.{Prelude.{Option, Some, nat_le, option_map, slice_get, if◌then◌else◌}}
use Rattle.gx_policy.specs.declared.policy.PolicyData.{PolicyData}
use Rattle.gx_history.specs.{declared.{live_order.LiveOrder.LiveOrder, «record».{RecordData.RecordData, Step.Step, Verdict.Verdict}}, Book.is_buy, Matching.{first_outcome, matching, outcome, unmatched_outcome}, MayMove.opposite, Live.{is_buy_order, waiting}, Verdicts.{IsLegal, next, step_verdict}, World.world}
use Rattle.gx_book.specs.Resting.{RestingData, resting_of}
use Rattle.gx_orders.specs.InForce.{orders_in_force}
use Rattle.gx_matching.specs.{BookInForce.book_in_force, Laws.{NextIsMet, NextRecordIsMet}, Meeting.{best_against, fill_of, match_record, outcome_against, next_outcome}}
use Rattle.gx_matching.proofs.Book_sides.{resting_found}
use Rattle.gx_orders.proofs.Orders_found.{comes_first, first_is}
use Rattle.gx_laws.proofs.{LiveOrders_numbered.first_lives}

-- the best that is kept is the best that rests
best_is : {policy : PolicyData} {history : List RecordData} (first : LiveOrder) (others : List LiveOrder) → IsLegal policy history → waiting policy history ≡ first ∷ others
    → best_against (book_in_force policy history) first ≡ slice_get (map resting_of (opposite (world policy history) first)) 0
best_is {policy} {history} first others legal e =
    ap (λ (rs : List RestingData). slice_get rs 0) (resting_found policy history first.terms.stock (not (is_buy first.terms.side)) (first_lives first others legal e).0.listed)

-- the best alone tells what becomes of an order
best_tells : (o : LiveOrder) (found : List LiveOrder) → outcome_against o (slice_get (map resting_of found) 0) ≡ outcome o found
best_tells o [] = refl
best_tells o (best ∷ behind) = by (is_buy_order o)
  where
    fill : Verdict
    fill = Verdict.Filled (fill_of o (resting_of best))

    chosen : Bool → Verdict
    chosen b = elim b [ true ↦ fill | false ↦ unmatched_outcome o ]

    crossed : Bool → Bool
    crossed b = elim b [ true ↦ nat_le best.terms.price o.terms.price | false ↦ nat_le o.terms.price best.terms.price ]

    at : (b : Bool) → (if b then fill else unmatched_outcome o) ≡ chosen b
    at true = refl
    at false = refl

    by : (b : Bool) → (if (if b then nat_le best.terms.price o.terms.price else nat_le o.terms.price best.terms.price) then fill else unmatched_outcome o) ≡ chosen (crossed b)
    by true = at (nat_le best.terms.price o.terms.price)
    by false = at (nat_le o.terms.price best.terms.price)

-- so the first that waits is matched with that
next_is_of_first : {policy : PolicyData} {history : List RecordData} (first : LiveOrder) (others : List LiveOrder) → IsLegal policy history → waiting policy history ≡ first ∷ others
    → next_outcome (orders_in_force policy history) (book_in_force policy history) ≡ Some (outcome first (opposite (world policy history) first))
next_is_of_first {policy} {history} first others legal e =
    ap (option_map (λ (o : LiveOrder). outcome_against o (best_against (book_in_force policy history) o))) (comes_first policy history first others e)
    ∙ ap (λ (best : Option RestingData). Some (outcome_against first best)) (best_is first others legal e)
    ∙ ap (λ (v : Verdict). Some v) (best_tells first (opposite (world policy history) first))

-- the record of a matching step is the next execution's
next_is : (policy : PolicyData) (history : List RecordData) (handed : ℕ) → next policy history (Step.Matching handed) ≡ option_map (match_record history handed) (matching policy history)
unfolding next step_verdict
next_is policy history handed = refl

pub matching_is_met : NextIsMet
unfolding matching
matching_is_met policy history legal = by (waiting policy history) refl
  where
    by : (found : List LiveOrder) → waiting policy history ≡ found → next_outcome (orders_in_force policy history) (book_in_force policy history) ≡ first_outcome policy history found
    by [] e = ap (option_map (λ (o : LiveOrder). outcome_against o (best_against (book_in_force policy history) o))) (first_is policy history ∙ ap (λ (os : List LiveOrder). slice_get os 0) e)
    by (first ∷ others) e = next_is_of_first first others legal e

pub next_record_is_met : NextRecordIsMet
next_record_is_met policy history handed legal = next_is policy history handed ∙ ap (option_map (match_record history handed)) (sym (matching_is_met policy history legal))
