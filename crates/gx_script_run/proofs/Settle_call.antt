-- What `match` and `settle` do, step by step.
use Rattle.std.proofs.{Common.{◌≡◌, ℕ, suc, ◌+◌, ◌-◌, ◌<◌, ◌≤◌, ◌⊎◌, inl, inr, max, arith, Bool, true, false, cond, List, [], ◌∷◌, ◌++◌, length, take, drop, refl, sym, ap, ◌∙◌, append_assoc, append-nil, subst, length-append, le-leb}, Math.Seq.{drop-append_seam, take-nil}, lemmas.Bool.{leb-true, leb-false, lt-leb, or_parts}}
use Rattle.std.specs.Prelude.{Option, None, Some, is_none, nat_le, option_map}
use Rattle.gx_policy.specs.declared.policy.PolicyData.{PolicyData}
use Rattle.gx_history.specs.{declared.record.{RecordData.RecordData, Verdict.Verdict}, Matching.matching, Settling.{AddsMatches, settled_records}, Verdicts.{IsLegal, day_limit, next, step_verdict}}
use Rattle.gx_laws.proofs.{Runs_orderly.legal_is_orderly, Matches_end.{settled_adds, settled_idle, settled_step}}
use Rattle.gx_matching.specs.Meeting.{match_record}
use Rattle.gx_access_gate.specs.{Gates.GateData, Matches.{matching_of, next_match}}
use Rattle.gx_script_text.specs.Printing.{idle_line, outcome_line, refused_line}
use Rattle.gx_script_run.specs.{Leaving.IsHalf, Scripting.{Printed, is_full, settling_line, makes_none, match_by, match_of, most_records, record_lines, settle_of}}
use Rattle.gx_devices.specs.Stopping.{AreFirst}
use Rattle.gx_devices.proofs.Run_stopped.{first_same}
use Rattle.gx_script_run.proofs.{Records_next.{GoesOn, here, further, match_on, settle_on, take_front}, Lines_cut.either}

-- a match in a gate that is not full
pub match_is : (gate : GateData) (moment : ℕ) (r : RecordData) → next_match gate moment ≡ Some r → is_full gate ≡ false
    → match_of gate moment ≡ record { gate = record { policy = gate.policy; records = gate.records ++ r ∷ [] }; text = outcome_line r.number r.verdict }
unfolding match_of
match_is gate moment r left room =
    ap (match_by gate) left
    ∙ ap (λ b. cond b (record { gate = gate; text = refused_line }) (record { gate = record { policy = gate.policy; records = gate.records ++ r ∷ [] }; text = outcome_line r.number r.verdict })) room

-- where no order waits
pub idle_match : (gate : GateData) (moment : ℕ) → next_match gate moment ≡ None → match_of gate moment ≡ record { gate = gate; text = idle_line }
unfolding match_of
idle_match gate moment none = ap (match_by gate) none

-- where one waits and the day is full
refused_match : (gate : GateData) (moment : ℕ) (r : RecordData) → next_match gate moment ≡ Some r → is_full gate ≡ true → match_of gate moment ≡ record { gate = gate; text = refused_line }
unfolding match_of
refused_match gate moment r left full =
    ap (match_by gate) left
    ∙ ap (λ b. cond b (record { gate = gate; text = refused_line }) (record { gate = record { policy = gate.policy; records = gate.records ++ r ∷ [] }; text = outcome_line r.number r.verdict })) full

-- what is not idle has a record to come
waits_for_one : (gate : GateData) (moment : ℕ) → (matching_of gate ≡ None → ⊥) → (r : RecordData) × (next_match gate moment ≡ Some r)
unfolding next step_verdict
waits_for_one gate moment waits = by (matching gate.policy gate.records) refl
  where
    by : (found : Option Verdict) → matching gate.policy gate.records ≡ found → (r : RecordData) × (next_match gate moment ≡ Some r)
    by None e = absurd (waits e)
    by (Some v) e = (_, ap (option_map (match_record gate.records moment)) e)

-- where the day is full, and something is to come
pub refused_is : (gate : GateData) (moment : ℕ) → (matching_of gate ≡ None → ⊥) → day_limit ≤ length gate.records → match_of gate moment ≡ record { gate = gate; text = refused_line }
refused_is gate moment waits full =
    let one : (r : RecordData) × (next_match gate moment ≡ Some r) = waits_for_one gate moment waits in
    refused_match gate moment one.0 one.1 (le-leb day_limit (length gate.records) full)

-- what settling leaves and prints, with room for so many of the records that are to come
settled_in : PolicyData → (records : List RecordData) (room : ℕ) (more : List RecordData) → Printed
settled_in policy records room more = record {
  gate = record { policy = policy; records = records ++ take room more };
  text = record_lines (take room more) ++ settling_line (nat_le (length more) room);
}

same_test : (a b : Bool) → (a ≡ true → b ≡ true) → (b ≡ true → a ≡ true) → a ≡ b
same_test true b h k = sym (h refl)
same_test false true h k = k refl
same_test false false h k = refl

fits : (n limit k : ℕ) → nat_le (n + k) (max n limit) ≡ nat_le k (limit - n)
fits n limit k = same_test _ _ (λ h. le-leb k (limit - n) (omega (arith, leb-true (n + k) (max n limit) h))) (λ h. le-leb (n + k) (max n limit) (omega (arith, leb-true k (limit - n) h)))

fits_too : (k room : ℕ) → nat_le (suc k) (suc room) ≡ nat_le k room
fits_too k room = same_test _ _ (λ h. le-leb k room (omega (arith, leb-true (suc k) (suc room) h))) (λ h. le-leb (suc k) (suc room) (omega (arith, leb-true k room h)))

settle_by : (gate : GateData) (moment : ℕ) (more : List RecordData) → settled_records gate.policy gate.records moment ≡ gate.records ++ more
    → settle_of gate moment ≡ settled_in gate.policy gate.records (day_limit - length gate.records) more
unfolding settle_of settled_in
settle_by gate moment more all =
    ap (λ (rs : List RecordData). told (take (most_records gate) rs) (drop n (take (most_records gate) rs)) (nat_le (length rs) (most_records gate))) all
    ∙ ap (λ (rs : List RecordData). told rs (drop n rs) (nat_le (length (gate.records ++ more)) (most_records gate))) made
    ∙ ap (λ (rs : List RecordData). told (gate.records ++ take (day_limit - n) more) rs (nat_le (length (gate.records ++ more)) (most_records gate))) (drop-append_seam gate.records (take (day_limit - n) more))
    ∙ ap (told (gate.records ++ take (day_limit - n) more) (take (day_limit - n) more)) (ap (λ k. nat_le k (most_records gate)) (length-append gate.records more) ∙ fits n day_limit (length more))
  where
    n : ℕ
    n = length gate.records

    told : List RecordData → List RecordData → Bool → Printed
    told records news all_fit = record { gate = record { policy = gate.policy; records = records }; text = record_lines news ++ settling_line all_fit }

    made : take (most_records gate) (gate.records ++ more) ≡ gate.records ++ take (day_limit - n) more
    made = take_front gate.records more (most_records gate) (omega arith) ∙ ap (λ k. gate.records ++ take k more) (omega arith)

-- no record is to come, or there is room for none
settled_none : (policy : PolicyData) (records : List RecordData) (room : ℕ) (more : List RecordData) (fit : Bool) → nat_le (length more) room ≡ fit → take room more ≡ []
    → settled_in policy records room more ≡ record { gate = record { policy = policy; records = records }; text = settling_line fit }
unfolding settled_in
settled_none policy records room more fit is none =
    ap (λ b. printed (records ++ take room more) (record_lines (take room more) ++ settling_line b)) is
    ∙ ap (λ (rs : List RecordData). printed (records ++ rs) (record_lines rs ++ settling_line fit)) none
    ∙ ap (λ (rs : List RecordData). printed rs (settling_line fit)) (append-nil records)
  where
    printed : List RecordData → List ℕ → Printed
    printed rs text = record { gate = record { policy = policy; records = rs }; text = text }

-- where no order waits, settling is that
pub settle_idle : (gate : GateData) (moment : ℕ) → next_match gate moment ≡ None → settle_of gate moment ≡ match_of gate moment
settle_idle gate moment none =
    settle_by gate moment [] (settled_idle gate.policy gate.records moment none ∙ sym (append-nil gate.records))
    ∙ settled_none gate.policy gate.records (day_limit - length gate.records) [] true (le-leb 0 _ (omega arith)) (take-nil _)
    ∙ sym (idle_match gate moment none)

-- where one waits: the record of the next matching step comes first, and others behind it
settled_next : (gate : GateData) (moment : ℕ) (r : RecordData) → IsLegal gate.policy gate.records → next_match gate moment ≡ Some r
    → let after = gate.records ++ r ∷ [] in (more : List RecordData) × (settled_records gate.policy after moment ≡ after ++ more) × (settled_records gate.policy gate.records moment ≡ gate.records ++ r ∷ more)
settled_next gate moment r legal left =
    let adds : AddsMatches (gate.records ++ r ∷ []) (settled_records gate.policy (gate.records ++ r ∷ []) moment) moment = settled_adds gate.policy (gate.records ++ r ∷ []) moment in (
      adds.more,
      adds.goes_on,
      settled_step moment r (legal_is_orderly legal) left ∙ adds.goes_on ∙ append_assoc gate.records (r ∷ []) adds.more,
    )

-- and the day is full
pub settle_refused : (gate : GateData) (moment : ℕ) (r : RecordData) → IsLegal gate.policy gate.records → next_match gate moment ≡ Some r → is_full gate ≡ true
    → settle_of gate moment ≡ match_of gate moment
settle_refused gate moment r legal left full =
    let news = settled_next gate moment r legal left in
    let none : day_limit - length gate.records ≡ 0 = omega (arith, leb-true day_limit (length gate.records) full) in
    settle_by gate moment (r ∷ news.0) news.2
    ∙ ap (λ room. settled_in gate.policy gate.records room (r ∷ news.0)) none
    ∙ settled_none gate.policy gate.records 0 (r ∷ news.0) false (lt-leb _ 0 (omega arith)) refl
    ∙ sym (refused_match gate moment r left full)

-- or it has room for it
settle_one : (gate : GateData) (moment : ℕ) (r : RecordData) → IsLegal gate.policy gate.records → next_match gate moment ≡ Some r → length gate.records < day_limit
    → let after : GateData = record { policy = gate.policy; records = gate.records ++ r ∷ [] } in
    settle_of gate moment ≡ record { gate = (settle_of after moment).gate; text = outcome_line r.number r.verdict ++ (settle_of after moment).text }
unfolding settled_in
settle_one gate moment r legal left room =
    let after : GateData = record { policy = gate.policy; records = gate.records ++ r ∷ [] } in
    let news = settled_next gate moment r legal left in
    let more = day_limit - length after.records in
    let one : day_limit - length gate.records ≡ suc more = omega (arith, room, length-append gate.records (r ∷ [])) in
    settle_by gate moment (r ∷ news.0) news.2
    ∙ ap (λ k. settled_in gate.policy gate.records k (r ∷ news.0)) one
    ∙ ap (λ b. printed (gate.records ++ r ∷ take more news.0) ((outcome_line r.number r.verdict ++ record_lines (take more news.0)) ++ settling_line b)) (fits_too (length news.0) more)
    ∙ ap (λ (rs : List RecordData). printed rs ((outcome_line r.number r.verdict ++ record_lines (take more news.0)) ++ settling_line (nat_le (length news.0) more))) (sym (append_assoc gate.records (r ∷ []) (take more news.0)))
    ∙ ap (printed (after.records ++ take more news.0)) (append_assoc (outcome_line r.number r.verdict) (record_lines (take more news.0)) (settling_line (nat_le (length news.0) more)))
    ∙ ap (λ (p : Printed). record { gate = p.gate; text = outcome_line r.number r.verdict ++ p.text }) (sym (settle_by after moment news.0 news.1))
  where
    printed : List RecordData → List ℕ → Printed
    printed records text = record { gate = record { policy = gate.policy; records = records }; text = text }

-- where no step is made, settling is a matching step
settle_last : (gate : GateData) (moment : ℕ) → IsLegal gate.policy gate.records → makes_none gate moment ≡ true → settle_of gate moment ≡ match_of gate moment
settle_last gate moment legal none = by (next_match gate moment) refl
  where
    by : (found : Option RecordData) → next_match gate moment ≡ found → settle_of gate moment ≡ match_of gate moment
    by None e = settle_idle gate moment e
    by (Some r) e = settle_refused gate moment r legal e (either (is_none (next_match gate moment)) (is_full gate) none (ap is_none e))

-- else its line comes first
settle_first : (gate : GateData) (moment : ℕ) → IsLegal gate.policy gate.records → makes_none gate moment ≡ false
    → let made : Printed = match_of gate moment in
    settle_of gate moment ≡ record { gate = (settle_of made.gate moment).gate; text = made.text ++ (settle_of made.gate moment).text }
settle_first gate moment legal some = by (next_match gate moment) refl
  where
    at : Printed → Printed
    at made = record { gate = (settle_of made.gate moment).gate; text = made.text ++ (settle_of made.gate moment).text }

    not_full : is_full gate ≡ false
    not_full = (or_parts (is_none (next_match gate moment)) (is_full gate) some).1

    by : (found : Option RecordData) → next_match gate moment ≡ found → settle_of gate moment ≡ at (match_of gate moment)
    by None e = let clash : true ≡ false = sym (ap is_none e) ∙ (or_parts (is_none (next_match gate moment)) (is_full gate) some).0 in cc
    by (Some r) e =
        settle_one gate moment r legal e (leb-false day_limit (length gate.records) not_full)
        ∙ ap at (sym (match_is gate moment r e not_full))

-- a matching step whose line was not told
pub match_half : (gate after : GateData) (moment : ℕ) → (after ≡ gate) ⊎ (after ≡ (match_of gate moment).gate) → IsHalf gate (Some (match_of gate moment)) after
match_half gate after moment (inl same) = inl same
match_half gate after moment (inr made) =
    let goes = subst (GoesOn gate) (sym made) (match_on gate moment) in
    inr (record {
      printed = match_of gate moment;
      is_its = refl;
      policy_kept = goes.policy_kept;
      made = goes.records;
      left = first_same after.records (match_of gate moment).gate.records (ap (λ (g : GateData). g.records) made);
    })

-- some of the matching steps were made, this was printed of them, and the others lead on to the same
pub record Settles (before : GateData) (moment : ℕ) (text : List ℕ) (now : GateData) : Type 0 where
  pub comes_to : settle_of before moment ≡ record { gate = (settle_of now moment).gate; text = text ++ (settle_of now moment).text }
  pub goes_on : GoesOn before now

pub settles_first : (gate : GateData) (moment : ℕ) (text : List ℕ) → text ≡ [] → Settles gate moment text gate
settles_first gate moment text none = record {
  comes_to = ap (λ (told : List ℕ). record { gate = (settle_of gate moment).gate; text = told ++ (settle_of gate moment).text }) (sym none);
  goes_on = here gate;
}

matched_further : (before now after : GateData) (moment : ℕ) → GoesOn before now → after ≡ (match_of now moment).gate → GoesOn before after
matched_further before now after moment h made = further before now after h (subst (GoesOn now) (sym made) (match_on now moment))

-- one more
pub settles_more : (before now after : GateData) (moment : ℕ) (text longer : List ℕ) → Settles before moment text now → IsLegal now.policy now.records → makes_none now moment ≡ false
    → after ≡ (match_of now moment).gate → longer ≡ text ++ (match_of now moment).text → Settles before moment longer after
settles_more before now after moment text longer s legal some made lines =
    record {
      comes_to =
          s.comes_to ∙ ap (behind text) (settle_first now moment legal some)
          ∙ ap (λ (told : List ℕ). at (match_of now moment).gate told) (sym (append_assoc text (match_of now moment).text (settle_of (match_of now moment).gate moment).text))
          ∙ ap (λ (g : GateData). at g ((text ++ (match_of now moment).text) ++ (settle_of g moment).text)) (sym made)
          ∙ ap (λ (told : List ℕ). at after (told ++ (settle_of after moment).text)) (sym lines);
      goes_on = matched_further before now after moment s.goes_on made;
    }
  where
    behind : List ℕ → Printed → Printed
    behind told p = record { gate = p.gate; text = told ++ p.text }

    at : GateData → List ℕ → Printed
    at g told = record { gate = (settle_of g moment).gate; text = told }

-- the last one
pub settles_last : (before now after : GateData) (moment : ℕ) (text longer : List ℕ) → Settles before moment text now → IsLegal now.policy now.records → makes_none now moment ≡ true
    → after ≡ (match_of now moment).gate → longer ≡ text ++ (match_of now moment).text → settle_of before moment ≡ record { gate = after; text = longer }
settles_last before now after moment text longer s legal none made lines =
    s.comes_to ∙ ap (behind text) (settle_last now moment legal none)
    ∙ ap (λ (g : GateData). printed g (text ++ (match_of now moment).text)) (sym made)
    ∙ ap (printed after) (sym lines)
  where
    behind : List ℕ → Printed → Printed
    behind told p = record { gate = p.gate; text = told ++ p.text }

    printed : GateData → List ℕ → Printed
    printed g told = record { gate = g; text = told }

-- one whose line was not told
pub settles_half : (before now after : GateData) (moment : ℕ) (text : List ℕ) → Settles before moment text now → IsLegal now.policy now.records
    → (after ≡ now) ⊎ (after ≡ (match_of now moment).gate) → IsHalf before (Some (settle_of before moment)) after
settles_half before now after moment text s legal how =
    let goes = so_far how in
    inr (record {
      printed = settle_of before moment;
      is_its = refl;
      policy_kept = goes.policy_kept;
      made = goes.records;
      left = subst (λ (p : Printed). AreFirst after.records p.gate.records) (sym s.comes_to) (left how);
    })
  where
    so_far : (after ≡ now) ⊎ (after ≡ (match_of now moment).gate) → GoesOn before after
    so_far (inl same) = subst (GoesOn before) (sym same) s.goes_on
    so_far (inr made) = matched_further before now after moment s.goes_on made

    from_match : (b : Bool) → makes_none now moment ≡ b → AreFirst (match_of now moment).gate.records (settle_of now moment).gate.records
    from_match true none = first_same _ _ (ap (λ (p : Printed). p.gate.records) (sym (settle_last now moment legal none)))
    from_match false some =
        let made = (match_of now moment).gate in
        subst (λ (p : Printed). AreFirst made.records p.gate.records) (sym (settle_first now moment legal some)) (settle_on made moment).records

    left : (after ≡ now) ⊎ (after ≡ (match_of now moment).gate) → AreFirst after.records (settle_of now moment).gate.records
    left (inl same) = subst (λ (g : GateData). AreFirst g.records (settle_of now moment).gate.records) (sym same) (settle_on now moment).records
    left (inr made) = subst (λ (g : GateData). AreFirst g.records (settle_of now moment).gate.records) (sym made) (from_match (makes_none now moment) refl)
