-- Under its own policy a day is made again as it is.
use Rattle.std.proofs.{Common.{◌≡◌, ℕ, zero, suc, ◌+◌, ◌-◌, Bool, true, false, ◌==◌, cond, ◌&&◌, List, [], ◌∷◌, ◌++◌, length, length-append, refl, ap, sym, ◌∙◌, subst, arith, inl, inr, ◌⊎◌}, lemmas.{Bool.{eq-eqb}, Slice.Eq.bytes_eq-Decides}}
use Rattle.std.specs.{Prelude.{Option, Some, None, option_map, option_to_list, unwrap_or}, Option.option_map_or, List.slice_get}
use Rattle.gx_policy.specs.{declared.policy.PolicyData.PolicyData, RuleNames.rule_id}
use Rattle.gx_history.specs.{declared.{live_order.LiveOrder.LiveOrder, «record».{RecordData.RecordData, Verdict.Verdict}}, Live.waiting, Verdicts.{Follows, after_step, next}}
use Rattle.gx_laws.proofs.{Requests_judged.legal_keeps, Orders_numbered.next_number, Runs_legal.idle_where_none_waits, Matches_end.settled_idle}
use Rattle.gx_whatif.specs.{declared.change.VerdictChange.VerdictChange, Redone.{Redone, redone_with, is_at_rest, is_none, settled_where, redone_under, with_more}, Differing.{change_of, change_where, verdict_changes, in_day, same_verdict, source_of, verdict_behind}, Laws.NothingDiffersUnderItsOwn}
use Rattle.gx_whatif.proofs.OtherDay_next.{changes_next, under_next}

-- each number is that of its own record
abbrev AreOwn : List ℕ → Type 0
AreOwn sources = (number : ℕ) → source_of sources number ≡ number

-- one place more
one_place : (sources : List ℕ) (n k : ℕ) → (slice_get (sources ++ n ∷ []) k ≡ slice_get sources k) ⊎ ((k ≡ length sources) × (slice_get (sources ++ n ∷ []) k ≡ Some n))
one_place [] n zero = inr (refl, refl)
one_place [] n (suc k) = inl refl
one_place (x ∷ sources) n zero = inl refl
one_place (x ∷ sources) n (suc k) = at (one_place sources n k)
  where
    at : (slice_get (sources ++ n ∷ []) k ≡ slice_get sources k) ⊎ ((k ≡ length sources) × (slice_get (sources ++ n ∷ []) k ≡ Some n))
        → (slice_get (sources ++ n ∷ []) k ≡ slice_get sources k) ⊎ ((suc k ≡ suc (length sources)) × (slice_get (sources ++ n ∷ []) k ≡ Some n))
    at (inl same) = inl same
    at (inr last) = inr (ap (λ (m : ℕ). suc m) last.0, last.1)

one_own : (sources : List ℕ) (n : ℕ) → n ≡ length sources → AreOwn sources → AreOwn (sources ++ n ∷ [])
one_own sources n is own k = at (one_place sources n k)
  where
    at : (slice_get (sources ++ n ∷ []) k ≡ slice_get sources k) ⊎ ((k ≡ length sources) × (slice_get (sources ++ n ∷ []) k ≡ Some n)) → source_of (sources ++ n ∷ []) k ≡ k
    at (inl same) = ap (λ (found : Option ℕ). unwrap_or found k) same ∙ own k
    at (inr last) = ap (λ (found : Option ℕ). unwrap_or found k) last.1 ∙ is ∙ sym last.0

as_it_is : (sources : List ℕ) → AreOwn sources → (v : Verdict) → in_day sources v ≡ v
as_it_is sources own Verdict.Granted = refl
as_it_is sources own (Verdict.Denied rule) = refl
as_it_is sources own (Verdict.Filled f) = λ i. Verdict.Filled (record { taker = own f.taker i; maker = own f.maker i; shares = f.shares; price = f.price })
as_it_is sources own (Verdict.Rested number) = ap (λ (n : ℕ). Verdict.Rested n) (own number)
as_it_is sources own (Verdict.Expired number) = ap (λ (n : ℕ). Verdict.Expired n) (own number)

all_four : (a b c d : Bool) → a ≡ true → b ≡ true → c ≡ true → d ≡ true → (a && b && c && d) ≡ true
all_four true true true true ha hb hc hd = refl
all_four false b c d ha hb hc hd = cc
all_four true false c d ha hb hc hd = cc
all_four true true false d ha hb hc hd = cc
all_four true true true false ha hb hc hd = cc

same_as_itself : (v : Verdict) → same_verdict v v ≡ true
same_as_itself Verdict.Granted = refl
same_as_itself (Verdict.Denied rule) = (bytes_eq-Decides (rule_id rule).bytes (rule_id rule).bytes).1 refl
same_as_itself (Verdict.Filled f) =
    all_four (f.taker == f.taker) (f.maker == f.maker) (f.shares == f.shares) (f.price == f.price) (eq-eqb f.taker f.taker refl) (eq-eqb f.maker f.maker refl) (eq-eqb f.shares f.shares refl)
    (eq-eqb f.price f.price refl)
same_as_itself (Verdict.Rested number) = eq-eqb number number refl
same_as_itself (Verdict.Expired number) = eq-eqb number number refl

no_change : (r : RecordData) (told : Option Verdict) → told ≡ Some r.verdict → change_where r told ≡ None
no_change r told is =
    ap (change_where r) is ∙ ap (λ (b : Bool). cond b None (Some (change_with r))) (same_as_itself r.verdict)
  where
    change_with : RecordData → VerdictChange
    change_with x = record { number = x.number; user = Rattle.gx_whatif.specs.Differing.asker x.step; recorded = x.verdict; told = Some x.verdict }

-- where the day is at rest nothing is left to settle
settles : (policy : PolicyData) (records : List RecordData) (moment : ℕ) → settled_where (is_at_rest policy records) policy records moment ≡ records
settles policy records moment = at (is_at_rest policy records) refl
  where
    none : (os : List LiveOrder) → is_none os ≡ true → os ≡ []
    none [] h = refl
    none (o ∷ os) h = cc

    at : (b : Bool) → is_at_rest policy records ≡ b → settled_where b policy records moment ≡ records
    at true e = settled_idle policy records moment ((idle_where_none_waits policy records moment).1 (none (waiting policy records) e))
    at false e = refl

-- so far the day is itself
record IsItself (policy : PolicyData) (records : List RecordData) : Type 0 where
  same_day : (redone_under policy policy records).records ≡ records
  own : AreOwn (redone_under policy policy records).sources
  counted : length (redone_under policy policy records).sources ≡ length records + 1
  none : verdict_changes policy policy records ≡ []

own_at_first : AreOwn (0 ∷ [])
own_at_first zero = refl
own_at_first (suc k) = refl

at_first : (policy : PolicyData) → IsItself policy []
unfolding redone_under
at_first policy = record { same_day = refl; own = own_at_first; counted = refl; none = refl }

one_further : (policy : PolicyData) (h : List RecordData) (r : RecordData) → IsItself policy h → Follows policy (h, r) → IsItself policy (h ++ r ∷ [])
one_further policy h r so follows =
    let day : Redone = redone_under policy policy h in
    let left : next policy day.records r.step ≡ Some r = ap (λ (rs : List RecordData). next policy rs r.step) so.same_day ∙ follows.is_next in
    let stepped : after_step policy day.records r.step ≡ h ++ r ∷ [] =
    ap (λ (rs : List RecordData). after_step policy rs r.step) so.same_day ∙ ap (λ (found : Option RecordData). option_map_or (λ (x : RecordData). h ++ x ∷ []) found h) follows.is_next in
    let made : settled_where (is_at_rest policy (h ++ r ∷ [])) policy (after_step policy day.records r.step) r.moment ≡ h ++ r ∷ [] =
    ap (λ (rs : List RecordData). settled_where (is_at_rest policy (h ++ r ∷ [])) policy rs r.moment) stepped ∙ settles policy (h ++ r ∷ []) r.moment in
    let count : length (h ++ r ∷ []) + 1 - length day.sources ≡ 1 = omega (arith, length-append h (r ∷ []), so.counted) in
    let whole : redone_under policy policy (h ++ r ∷ []) ≡ record { records = h ++ r ∷ []; sources = day.sources ++ r.number ∷ [] } =
    under_next policy policy h r
    ∙ ap (redone_with r.number day) made
    ∙ ap (λ (n : ℕ). record { records = h ++ r ∷ []; sources = with_more n r.number day.sources }) count in
    let number : r.number ≡ length day.sources = next_number r follows ∙ sym so.counted in
    let told : verdict_behind policy day r.step ≡ Some r.verdict =
    ap (option_map (λ (x : RecordData). in_day day.sources x.verdict)) left ∙ ap (λ (v : Verdict). Some v) (as_it_is day.sources so.own r.verdict) in
    record {
      same_day = ap (λ (d : Redone). d.records) whole;
      own = subst (λ (d : Redone). AreOwn d.sources) (sym whole) (one_own day.sources r.number number so.own);
      counted = ap (λ (d : Redone). length d.sources) whole ∙ omega (arith, length-append day.sources (r.number ∷ []), length-append h (r ∷ []), so.counted);
      none =
          changes_next policy policy h r
          ∙ ap (λ (list : List VerdictChange). list ++ option_to_list (change_of policy policy h r)) so.none
          ∙ ap option_to_list (no_change r (verdict_behind policy day r.step) told);
    }

pub nothing_differs : NothingDiffersUnderItsOwn
nothing_differs policy records legal =
    let so : IsItself policy records = legal_keeps (IsItself policy) (at_first policy) (one_further policy) legal in
    record { same_day = so.same_day; no_change = so.none }
