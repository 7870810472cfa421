-- A Kill ends the rest of a sweep: until a Lift no matching step fills an order of the account.
use Rattle.std.proofs.{Common.{◌≡◌, ℕ, true, false, List, [], ◌∷◌, ◌++◌, refl, ◌∙◌, ap, sym, append_assoc}, Math.Path.subst, lemmas.List.append-nil}
use Rattle.std.specs.{Prelude.{Some, ◌==◌}, List.{AllByRecursion, filter_map}}
use Rattle.gx_units.specs.{declared.names.AccountName.AccountName, Names.same_account}
use Rattle.gx_units.proofs.Lists_hold.{all_both, all_found_of, found_is}
use Rattle.gx_policy.specs.declared.policy.PolicyData.{PolicyData}
use Rattle.gx_history.specs.{declared.{live_order.LiveOrder.LiveOrder, «record».{Fill.Fill, RecordData.RecordData, Step.Step, Verdict.Verdict}}, Executions.{Execution, executions, sides}, InForce.is_killed, Live.live, Settling.{most_matches, settled_records, FillsNoneOf}, Turns.{Turn, becomes}, Verdicts.{next, IsLegal}}
use Rattle.gx_history.specs.Turns as turns
use Rattle.gx_laws.proofs.{Orders_next.executions_next, Fills_executed.{IsFill, is_fill, sides_are}, KilledAccounts_empty.{IsOthers, killed_have_no_live}, LiveOrders_known.IsKnown, LiveOrders_next.by_match, Matches_allowed.may_match, Runs_orderly.{IsOrderly, legal_is_orderly}, Matches_end.{match_is_orderly, settled_keeps}, BookSides_next.becomes_same}

-- no live order is of the account
abbrev AreOthers : PolicyData → List RecordData → AccountName → Type 0
AreOthers policy history account = AllByRecursion (IsOthers account) (live policy history)

abbrev AreOfOthers : AccountName → List Execution → Type 0
AreOfOthers account es = AllByRecursion (λ (e : Execution). same_account account e.order.account ≡ false) es

-- nor one of those that go on
others_still : (turn : Turn) (account : AccountName) (os : List LiveOrder) → AllByRecursion (IsOthers account) os → AllByRecursion (IsOthers account) (filter_map (becomes turn) os ++ [])
others_still turn account os h =
    all_both (IsOthers account) (filter_map (becomes turn) os) []
    (all_found_of (IsOthers account) (IsOthers account) (becomes turn) (λ o x others e. ap (same_account account) (becomes_same turn o x e).3 ∙ others) os h) tt

-- the order of a side is of another account
is_of_another : {policy : PolicyData} {history : List RecordData} (account : AccountName) (o : LiveOrder) → AreOthers policy history account → (known : IsKnown policy history o) → same_account account known.of.order.account ≡ false
is_of_another {policy} {history} account o others known =
    ap (λ (x : LiveOrder). same_account account x.account) known.of.is_it
    ∙ found_is (IsOthers account) (λ (x : LiveOrder). x.number == o.number) (live policy history) o others known.is_found

-- a matching step adds none of the account, and fills none
match_leaves_alone : {policy : PolicyData} {history : List RecordData} (handed : ℕ) (r : RecordData) (account : AccountName) → IsOrderly policy history → AreOthers policy history account
    → next policy history (Step.Matching handed) ≡ Some r → AreOthers policy (history ++ r ∷ []) account × AreOfOthers account (sides policy history r.verdict)
match_leaves_alone {policy} {history} handed r account orderly others left = by r.verdict refl
  where
    then : (turn : Turn) → live policy (history ++ r ∷ []) ≡ filter_map (becomes turn) (live policy history) ++ [] → AreOthers policy (history ++ r ∷ []) account
    then turn e = subst (AllByRecursion (IsOthers account)) (sym e) (others_still turn account (live policy history) others)

    none : (v : Verdict) → r.verdict ≡ v → sides policy history v ≡ [] → AreOfOthers account (sides policy history r.verdict)
    none v e h = subst (AreOfOthers account) (sym (ap (sides policy history) e ∙ h)) tt

    both : (f : Fill) → IsFill policy history r f → AreOfOthers account (sides policy history r.verdict)
    both f is =
        subst (AreOfOthers account) (sym (sides_are r f is))
        (is_of_another account is.may.taker others is.taker_waits.known, (is_of_another account is.may.maker others is.maker_rests.known, tt))

    by : (v : Verdict) → r.verdict ≡ v → AreOthers policy (history ++ r ∷ []) account × AreOfOthers account (sides policy history r.verdict)
    by Verdict.Granted e = absurd (may_match policy history handed r Verdict.Granted left e)
    by (Verdict.Denied rule) e = absurd (may_match policy history handed r (Verdict.Denied rule) left e)
    by (Verdict.Filled f) e = (then (turns.Fills f) (by_match handed r orderly left (Verdict.Filled f) e), both f (is_fill handed r f orderly left e))
    by (Verdict.Rested n) e = (then (turns.Rests n) (by_match handed r orderly left (Verdict.Rested n) e), none (Verdict.Rested n) e refl)
    by (Verdict.Expired n) e = (then (turns.Ends n) (by_match handed r orderly left (Verdict.Expired n) e), none (Verdict.Expired n) e refl)

abbrev GoesOnWithout : PolicyData → List RecordData → AccountName → List RecordData → Type 0
GoesOnWithout policy history account h = IsOrderly policy h × AreOthers policy h account × FillsNoneOf policy history h account

one_more : (policy : PolicyData) (history : List RecordData) (account : AccountName) (moment : ℕ) (h : List RecordData) (r : RecordData) → GoesOnWithout policy history account h
    → next policy h (Step.Matching moment) ≡ Some r → GoesOnWithout policy history account (h ++ r ∷ [])
one_more policy history account moment h r kept left =
    let alone : AreOthers policy (h ++ r ∷ []) account × AreOfOthers account (sides policy h r.verdict) = match_leaves_alone moment r account kept.0 kept.1 left in (
      match_is_orderly moment r kept.0 left,
      alone.0,
      record {
        more = kept.2.more ++ sides policy h r.verdict;
        executions_more =
            executions_next policy h r ∙ ap (λ (es : List Execution). es ++ sides policy h r.verdict) kept.2.executions_more
            ∙ append_assoc (executions policy history) kept.2.more (sides policy h r.verdict);
        are_of_others = all_both (λ (e : Execution). same_account account e.order.account ≡ false) kept.2.more (sides policy h r.verdict) kept.2.are_of_others alone.1;
      },
    )

-- so no matching steps, however many, fill an order of a killed account
pub killed_are_not_filled : (policy : PolicyData) (history : List RecordData) (account : AccountName) (moment : ℕ) → IsLegal policy history → is_killed policy history account ≡ true
    → FillsNoneOf policy history (settled_records policy history moment) account
unfolding settled_records
killed_are_not_filled policy history account moment legal killed =
    (settled_keeps policy moment (GoesOnWithout policy history account) (one_more policy history account moment) (most_matches policy history) history
    (legal_is_orderly legal, killed_have_no_live legal account killed, record { more = []; executions_more = sym (append-nil (executions policy history)); are_of_others = tt })).2
