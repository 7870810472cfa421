-- Each line puts its records behind those that are there, under the same policy.
use Rattle.std.proofs.{Common.{◌≡◌, ℕ, ◌+◌, ◌-◌, ◌≤◌, Bool, true, false, cond, is_some, List, [], ◌∷◌, ◌++◌, length, take, max, Option, Some, None, refl, ap, ◌∙◌, arith}, Math.Seq.take-append-add}
use Rattle.std.specs.Option.{option_map_or}
use Rattle.gx_history.specs.{declared.record.{Asked.Asked, RecordData.RecordData}, Verdicts.{next, verdict}}
use Rattle.gx_history.specs.declared.record.Step.TheVariants as steps
use Rattle.gx_policy.specs.People.{user_in}
use Rattle.gx_laws.proofs.Matches_end.{settled_adds}
use Rattle.gx_devices.specs.Stopping.{AreFirst}
use Rattle.gx_devices.proofs.Run_stopped.{first_same, first_then}
use Rattle.gx_access_gate.specs.{Gates.GateData, Asking.{request_on_line_1, gate_after_step}, Matches.next_match}
use Rattle.gx_script_text.specs.{declared.line.ScriptLine.{ScriptLine, TheVariants.{Skipped, Step, Match, Settle, Stream}}, Printing.{outcome_line, refused_line}, ScriptLines.script_line, Words.◌>>=◌}
use Rattle.gx_script_run.specs.Scripting.{Printed, is_full, refuses, request_of_step, step_of, match_by, match_of, most_records, settle_of, effect_of, line_effect}

pub record GoesOn (before now : GateData) : Type 0 where
  pub policy_kept : now.policy ≡ before.policy
  pub records : AreFirst before.records now.records

pub here : (gate : GateData) → GoesOn gate gate
here gate = record { policy_kept = refl; records = first_same gate.records gate.records refl }

pub further : (a b c : GateData) → GoesOn a b → GoesOn b c → GoesOn a c
further a b c h k = record { policy_kept = k.policy_kept ∙ h.policy_kept; records = first_then a.records b.records c.records h.records k.records }

pub take_front : {X : Type 0} (xs ys : List X) (n : ℕ) → length xs ≤ n → take n (xs ++ ys) ≡ xs ++ take (n - length xs) ys
take_front xs ys n h = ap (λ (k : ℕ). take k (xs ++ ys)) (omega (arith, h)) ∙ take-append-add xs ys (n - length xs)

step_on : (gate : GateData) (a : Asked) → GoesOn gate (gate_after_step gate a)
step_on gate a = record { policy_kept = refl; records = at (next gate.policy gate.records (steps.Asked a)) }
  where
    at : (found : Option RecordData) → AreFirst gate.records (option_map_or (λ (r : RecordData). gate.records ++ r ∷ []) found gate.records)
    at None = first_same gate.records gate.records refl
    at (Some r) = record { others = r ∷ []; whole = refl }

-- what a line does goes on, if it does anything
abbrev pub EffectGoesOn : GateData → Option Printed → Type 0
EffectGoesOn gate None = Unit {0}
EffectGoesOn gate (Some done) = GoesOn gate done.gate

matched_on : (gate : GateData) (found : Option RecordData) → GoesOn gate (match_by gate found).gate
matched_on gate None = here gate
matched_on gate (Some r) = at (is_full gate)
  where
    at : (b : Bool) → GoesOn gate (cond {A = Printed} b (record { gate = gate; text = refused_line }) (record { gate = record { policy = gate.policy; records = gate.records ++ r ∷ [] }; text = outcome_line r.number r.verdict })).gate
    at true = here gate
    at false = record { policy_kept = refl; records = record { others = r ∷ []; whole = refl } }

pub match_on : (gate : GateData) (moment : ℕ) → GoesOn gate (match_of gate moment).gate
unfolding match_of
match_on gate moment = matched_on gate (next_match gate moment)

pub settle_on : (gate : GateData) (moment : ℕ) → GoesOn gate (settle_of gate moment).gate
unfolding settle_of
settle_on gate moment =
    let adds = settled_adds gate.policy gate.records moment in
    record {
      policy_kept = refl;
      records = record {
        others = take (most_records gate - length gate.records) adds.more;
        whole = ap (take (most_records gate)) adds.goes_on ∙ take_front gate.records adds.more (most_records gate) (enough (length gate.records) _);
      };
    }
  where
    enough : (n m : ℕ) → n ≤ max n m
    enough n m = omega arith

made_on : (gate : GateData) (a : Asked) → GoesOn gate (step_of gate a).gate
unfolding step_of
made_on gate a = at (refuses gate a)
  where
    at : (b : Bool) → GoesOn gate (cond {A = Printed} b (record { gate = gate; text = refused_line }) (record { gate = gate_after_step gate a; text = outcome_line (length gate.records + 1) (verdict gate.policy gate.records a) })).gate
    at true = here gate
    at false = step_on gate a

effect_on : (gate : GateData) (line : ScriptLine) → EffectGoesOn gate (effect_of gate line)
unfolding effect_of
effect_on gate Skipped = here gate
effect_on gate (Step moment user step) = made_on gate (request_on_line_1 user (request_of_step gate user step) moment)
effect_on gate (Match moment) = match_on gate moment
effect_on gate (Settle moment) = settle_on gate moment
effect_on gate (Stream user) = at (is_some (user_in gate.policy.users user)) _
  where
    at : (b : Bool) (text : List ℕ) → EffectGoesOn gate (cond b (Some (record { gate = gate; text = text })) None)
    at true text = here gate
    at false text = tt

pub line_effect_on : (gate : GateData) (line : List ℕ) → EffectGoesOn gate (line_effect gate line)
unfolding line_effect
line_effect_on gate line = at (script_line line)
  where
    at : (found : Option ScriptLine) → EffectGoesOn gate (found >>= effect_of gate)
    at None = tt
    at (Some l) = effect_on gate l
