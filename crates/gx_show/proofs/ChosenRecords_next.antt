-- What one more record adds to the chosen ones.
use Rattle.std.proofs.{Common.{◌≡◌, ℕ, Bool, true, false, List, [], ◌∷◌, ◌++◌, refl, ◌∙◌, ap, sym, cond, ◌+◌, ◌<◌, length, get_or, take}, lemmas.List.Elements.filter_map-append}
use Rattle.std.specs.{Prelude.{Option, option_to_list}, List.{cons_option, filter_map}}
use Rattle.gx_policy.specs.{declared.policy.PolicyData.PolicyData, Lists.{each_with_earlier, where_true}}
use Rattle.gx_history.specs.declared.record.RecordData.{RecordData}
use Rattle.gx_laws.proofs.Lists_next.{each_after_next}
use Rattle.gx_show.specs.{declared.{choice.Choice.Choice, known_order.KnownOrder.KnownOrder}, Choosing.{records_chosen, is_asked_for, is_chosen}, Known.{known_orders, order_made}}
use Rattle.gx_show.proofs.KnownOrders_next.{known_next}
use Rattle.gx_audit_bytes.proofs.Records_next.{one_on}

pub chosen_none : (policy : PolicyData) (choice : Choice) → records_chosen policy choice [] ≡ []
unfolding records_chosen
chosen_none policy choice = refl

pub chosen_next : (policy : PolicyData) (choice : Choice) (history : List RecordData) (r : RecordData)
    → records_chosen policy choice (history ++ r ∷ []) ≡ records_chosen policy choice history ++ cond (is_chosen policy choice history r) (r ∷ []) []
unfolding records_chosen
chosen_next policy choice history r =
    ap (filter_map shown) (each_after_next [] history r)
    ∙ filter_map-append shown (each_with_earlier history) ((history, r) ∷ [])
    ∙ ap (λ (more : List RecordData). filter_map shown (each_with_earlier history) ++ more) (by (is_chosen policy choice history r))
  where
    shown : List RecordData × RecordData → Option RecordData
    shown entry = where_true (is_chosen policy choice entry.0 entry.1) entry.1

    by : (b : Bool) → cons_option (where_true b r) [] ≡ cond b (r ∷ []) []
    by true = refl
    by false = refl

pub known_more : (policy : PolicyData) (records : List RecordData) (i : ℕ) (r other : RecordData) (before after : List KnownOrder) → i < length records → r ≡ get_or records i other
    → before ≡ known_orders policy (take i records) → after ≡ before ++ option_to_list (order_made policy before r) → after ≡ known_orders policy (take (i + 1) records)
known_more policy records i r other before after within at was is =
    is
    ∙ ap (λ (known : List KnownOrder). known ++ option_to_list (order_made policy known r)) was
    ∙ sym (known_next policy (take i records) r)
    ∙ ap (known_orders policy) (sym (one_on records i r other within at))

pub chosen_more : (policy : PolicyData) (choice : Choice) (records : List RecordData) (i : ℕ) (r other : RecordData) (known : List KnownOrder) (wanted : Bool) (before after : List RecordData)
    → i < length records → r ≡ get_or records i other → known ≡ known_orders policy (take i records)
    → before ≡ records_chosen policy choice (take i records) → wanted ≡ is_asked_for policy choice known r → after ≡ before ++ cond wanted (r ∷ []) []
    → after ≡ records_chosen policy choice (take (i + 1) records)
chosen_more policy choice records i r other known wanted before after within at are found asked is =
    is
    ∙ ap (λ (b : Bool). before ++ cond b (r ∷ []) []) (asked ∙ ap (λ (now : List KnownOrder). is_asked_for policy choice now r) are)
    ∙ ap (λ (rs : List RecordData). rs ++ cond (is_chosen policy choice (take i records) r) (r ∷ []) []) found
    ∙ sym (chosen_next policy choice (take i records) r)
    ∙ ap (records_chosen policy choice) (sym (one_on records i r other within at))
