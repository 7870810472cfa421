-- Records that grant no order of some accounts raise nothing that they have in all.
use Rattle.std.proofs.{Common.{◌≡◌, ℕ, ◌+◌, ◌≤◌, Bool, List, [], ◌∷◌, ◌++◌, length, drop, sym, ap, ◌∙◌, arith, append_assoc}, Math.{Path.subst, Seq.drop-append_seam}, lemmas.List.{append-nil, length-append, Elements.filter-append}}
use Rattle.std.specs.List.{filter, AllByRecursion}
use Rattle.gx_units.specs.declared.names.AccountName.{AccountName}
use Rattle.gx_units.proofs.Lists_hold.{all_parted}
use Rattle.gx_policy.specs.{declared.policy.PolicyData.PolicyData, Lists.{each_after, each_with_earlier}}
use Rattle.gx_history.specs.{declared.record.RecordData.RecordData, Executions.{Execution, executions, sides}, Figures.{Positions, done_of_chosen, of_accounts, positions}, Orders.{Order, orders, orders_added}, Verdicts.{Follows, IsLegal}}
use Rattle.gx_ouch.specs.declared.outbound.OrderTerms.{OrderTerms}
use Rattle.gx_laws.proofs.{Figures_next.done_more, Orders_next.{executions_next, orders_next}, Streams_next.legal_next, Exposure_turn.{AddsNone, AreWorth, adds_none, gained-append, no_more_shares, no_more_value, shares_held, value_held}, Executions_worth.executions_are_worth}
use Rattle.gx_laws.specs.{PositionLaws.{PositionsAreSound, PositionsGoOn, RecordsMayCome, granted_after, turn_after}, Exposure.{executions_after, gains_of_sells, gross_value, is_such, shares_of_chosen}}

-- what is known of positions
pub record GoOn : Type 0 where
  pub go_on : PositionsGoOn
  pub may_come : RecordsMayCome
  pub are_sound : PositionsAreSound

pub each_after-append : {X : Type 0} (earlier xs ys : List X) → each_after earlier (xs ++ ys) ≡ each_after earlier xs ++ each_after (earlier ++ xs) ys
each_after-append {X} earlier [] ys = ap (λ (before : List X). each_after before ys) (sym (append-nil earlier))
each_after-append {X} earlier (x ∷ xs) ys =
    ap (λ (rest : List (List X × X)). (earlier, x) ∷ rest)
    (each_after-append (earlier ++ x ∷ []) xs ys ∙ ap (λ (before : List X). each_after (earlier ++ x ∷ []) xs ++ each_after before ys) (append_assoc earlier (x ∷ []) xs))

-- a legal history's records follow a legal history
pub legal_in_parts : {policy : PolicyData} (earlier later : List RecordData) → IsLegal policy (earlier ++ later) → IsLegal policy earlier × AllByRecursion (Follows policy) (each_after earlier later)
legal_in_parts {policy} earlier later legal =
    let parts = all_parted (Follows policy) (each_with_earlier earlier) (each_after earlier later)
    (subst (λ (steps : List (List RecordData × RecordData)). AllByRecursion (Follows policy) steps) (each_after-append [] earlier later) legal.follows) in
    (record { follows = parts.0 }, parts.1)

-- what each later record keeps
kept_after : {policy : PolicyData} (Keeps : List RecordData → Type 0) → ((history : List RecordData) (r : RecordData) → IsLegal policy history → Follows policy (history, r) → Keeps history → Keeps (history ++ r ∷ []))
    → (earlier later : List RecordData) → IsLegal policy earlier → Keeps earlier → AllByRecursion (Follows policy) (each_after earlier later) → Keeps (earlier ++ later)
kept_after Keeps step earlier [] legal kept h = subst Keeps (sym (append-nil earlier)) kept
kept_after Keeps step earlier (r ∷ later) legal kept h =
    subst Keeps (append_assoc earlier (r ∷ []) later)
    (kept_after Keeps step (earlier ++ r ∷ []) later (legal_next r legal h.0) (step earlier r legal h.0 kept) h.1)

-- so it holds of the whole legal history
pub kept_to_the_end : {policy : PolicyData} (Keeps : List RecordData → Type 0) → ((history : List RecordData) (r : RecordData) → IsLegal policy history → Follows policy (history, r) → Keeps history → Keeps (history ++ r ∷ []))
    → (earlier later : List RecordData) → IsLegal policy (earlier ++ later) → Keeps earlier → Keeps (earlier ++ later)
kept_to_the_end Keeps step earlier later legal kept =
    let parts = legal_in_parts earlier later legal in
    kept_after Keeps step earlier later parts.0 kept parts.1

-- how many orders that are chosen were granted
abbrev pub granted_to : PolicyData → (AccountName → OrderTerms → Bool) → List RecordData → ℕ
granted_to policy chosen history = length (filter (is_such chosen) (orders policy history))

grants_grow : (policy : PolicyData) (chosen : AccountName → OrderTerms → Bool) (history : List RecordData) (r : RecordData) → granted_to policy chosen history ≤ granted_to policy chosen (history ++ r ∷ [])
grants_grow policy chosen history r =
    let added : List Order = orders_added policy (orders policy history) r in
    let more = ap (λ (os : List Order). length (filter (is_such chosen) os)) (orders_next policy history r)
    ∙ ap length (filter-append (is_such chosen) (orders policy history) added)
    ∙ length-append (filter (is_such chosen) (orders policy history)) (filter (is_such chosen) added) in
    omega (arith, more)

-- these come first among all
abbrev IsFront : List Execution → List Execution → Type 0
IsFront made all = (more : List Execution) × (all ≡ made ++ more)

module _ (laws : GoOn) (policy : PolicyData) (chosen : AccountName → OrderTerms → Bool) where
  none_added : (history : List RecordData) (r : RecordData) → IsLegal policy history → Follows policy (history, r) → granted_to policy chosen (history ++ r ∷ []) ≤ granted_to policy chosen history
      → AddsNone chosen (turn_after policy history r)
  none_added history r legal follows few =
      let grow = grants_grow policy chosen history r in
      let same : granted_to policy chosen (history ++ r ∷ []) ≡ granted_to policy chosen history = omega (arith, few, grow) in
      adds_none policy (positions policy history) (granted_after policy history r) (laws.are_sound policy history legal).numbers_differ chosen
      (sym (ap (λ (os : List Order). length (filter (is_such chosen) os)) (orders_next policy history r)) ∙ same)
      (turn_after policy history r) (laws.may_come policy history r.step r legal follows.is_next)

  -- what each later record that grants none keeps is kept where no order is granted after these
  while_none : (earlier : List RecordData) (Keeps : List RecordData → Type 0)
      → ((history : List RecordData) (r : RecordData) → IsLegal policy history → Follows policy (history, r) → granted_to policy chosen (history ++ r ∷ []) ≤ granted_to policy chosen history → Keeps history → Keeps (history ++ r ∷ []))
      → (later : List RecordData) → IsLegal policy (earlier ++ later) → granted_to policy chosen (earlier ++ later) ≤ granted_to policy chosen earlier → Keeps earlier → Keeps (earlier ++ later)
  while_none earlier Keeps step later legal few kept = (kept_to_the_end Grown one_more earlier later legal (omega arith, λ _. kept)).1 few
    where
      Grown : List RecordData → Type 0
      Grown history = (granted_to policy chosen earlier ≤ granted_to policy chosen history) × (granted_to policy chosen history ≤ granted_to policy chosen earlier → Keeps history)

      one_more : (history : List RecordData) (r : RecordData) → IsLegal policy history → Follows policy (history, r) → Grown history → Grown (history ++ r ∷ [])
      one_more history r legal follows so_far =
          let grow = grants_grow policy chosen history r in
          let before = so_far.0 in (
            omega (arith, grow, before),
            λ few. step history r legal follows (omega (arith, few, before)) (so_far.1 (omega (arith, few, grow))),
          )

  -- no order is granted after these, so no more shares
  pub no_more_shares_after : (earlier later : List RecordData) → IsLegal policy (earlier ++ later) → granted_to policy chosen (earlier ++ later) ≤ granted_to policy chosen earlier
      → shares_of_chosen policy (earlier ++ later) chosen ≤ shares_of_chosen policy earlier chosen
  no_more_shares_after earlier later legal few =
      while_none earlier (λ history. shares_of_chosen policy history chosen ≤ shares_of_chosen policy earlier chosen) one_more later legal few (omega arith)
    where
      one_more : (history : List RecordData) (r : RecordData) → IsLegal policy history → Follows policy (history, r) → granted_to policy chosen (history ++ r ∷ []) ≤ granted_to policy chosen history
          → shares_of_chosen policy history chosen ≤ shares_of_chosen policy earlier chosen → shares_of_chosen policy (history ++ r ∷ []) chosen ≤ shares_of_chosen policy earlier chosen
      one_more history r legal follows few so_far =
          let fall = no_more_shares policy (positions policy history) (granted_after policy history r) (laws.are_sound policy history legal).numbers_differ chosen (turn_after policy history r)
          (laws.may_come policy history r.step r legal follows.is_next) (none_added history r legal follows few) in
          let after = ap (λ (p : Positions). shares_held p chosen) (laws.go_on policy history r.step r legal follows.is_next) in
          omega (arith, fall, after, so_far)

  executions_stay : (earlier later : List RecordData) → IsLegal policy (earlier ++ later) → IsFront (executions policy earlier) (executions policy (earlier ++ later))
  executions_stay earlier later legal =
      kept_to_the_end (λ (h : List RecordData). IsFront (executions policy earlier) (executions policy h))
      (λ h r _ _ front. (
        front.0 ++ sides policy h r.verdict,
        executions_next policy h r ∙ ap (λ (es : List Execution). es ++ sides policy h r.verdict) front.1 ∙ append_assoc (executions policy earlier) front.0 (sides policy h r.verdict),
      ))
      earlier later legal ([], sym (append-nil (executions policy earlier)))

  -- and what was executed stays so
  pub done_stays : (earlier later : List RecordData) → IsLegal policy (earlier ++ later) → done_of_chosen (executions policy earlier) chosen ≤ done_of_chosen (executions policy (earlier ++ later)) chosen
  done_stays earlier later legal =
      let front = executions_stay earlier later legal in
      let parts = ap (λ (es : List Execution). done_of_chosen es chosen) front.1 ∙ done_more (executions policy earlier) front.0 chosen in
      omega (arith, parts)

module _ (laws : GoOn) (policy : PolicyData) (among : AccountName → Bool) where
  -- what is held is worth no more than it was, but for the gain
  abbrev IsWorthNoMore : List RecordData → List RecordData → Type 0
  IsWorthNoMore earlier history = gross_value policy history among + gains_of_sells (executions policy earlier) among ≤ gross_value policy earlier among + gains_of_sells (executions policy history) among

  value_after : (earlier later : List RecordData) → IsLegal policy (earlier ++ later) → granted_to policy (of_accounts among) (earlier ++ later) ≤ granted_to policy (of_accounts among) earlier → IsWorthNoMore earlier (earlier ++ later)
  value_after earlier later legal few = while_none laws policy (of_accounts among) earlier (IsWorthNoMore earlier) one_more later legal few (omega arith)
    where
      one_more : (history : List RecordData) (r : RecordData) → IsLegal policy history → Follows policy (history, r) → granted_to policy (of_accounts among) (history ++ r ∷ []) ≤ granted_to policy (of_accounts among) history
          → IsWorthNoMore earlier history → IsWorthNoMore earlier (history ++ r ∷ [])
      one_more history r legal follows few so_far =
          let goes = laws.go_on policy history r.step r legal follows.is_next in
          let made = ap (λ (p : Positions). p.executions) goes in
          let worth : AreWorth (executions policy (history ++ r ∷ [])) = executions_are_worth (legal_next r legal follows) in
          let fall = no_more_value policy (positions policy history) (granted_after policy history r) (laws.are_sound policy history legal).numbers_differ among (turn_after policy history r)
          (laws.may_come policy history r.step r legal follows.is_next) (none_added laws policy (of_accounts among) history r legal follows few) (subst AreWorth made worth) in
          let after = ap (λ (p : Positions). value_held p among) goes in
          let same = ap (λ (es : List Execution). gains_of_sells es among) made in
          omega (arith, fall, after, same, so_far)

  -- no order is granted after these, so no more value, but for what sells gained since
  pub no_more_value_after : (earlier later : List RecordData) → IsLegal policy (earlier ++ later) → granted_to policy (of_accounts among) (earlier ++ later) ≤ granted_to policy (of_accounts among) earlier
      → gross_value policy (earlier ++ later) among ≤ gross_value policy earlier among + gains_of_sells (executions_after policy earlier (earlier ++ later)) among
  no_more_value_after earlier later legal few =
      let front = executions_stay laws policy (of_accounts among) earlier later legal in
      let rest : executions_after policy earlier (earlier ++ later) ≡ front.0 =
      ap (λ (es : List Execution). drop (length (executions policy earlier)) es) front.1 ∙ drop-append_seam (executions policy earlier) front.0 in
      let parts = ap (λ (es : List Execution). gains_of_sells es among) front.1 ∙ gained-append (executions policy earlier) front.0 among in
      let of_rest = ap (λ (es : List Execution). gains_of_sells es among) rest in
      let whole = value_after earlier later legal few in
      omega (arith, whole, parts, of_rest)
