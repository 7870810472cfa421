-- The log of one more record.
use Rattle.std.proofs.{Common.{◌≡◌, ℕ, ◌-◌, List, [], ◌∷◌, ◌++◌, length, drop, sym, ap, subst, ◌∙◌, arith}, lemmas.{Grind.flat_map-append, List.{drop_at, length-append}}}
use Rattle.std.specs.Prelude.{flat_map}
use Rattle.gx_policy.specs.{Lists.each_after, declared.policy.PolicyData.PolicyData}
use Rattle.gx_history.specs.declared.record.RecordData.{RecordData}
use Rattle.gx_text.specs.declared.form.Form.{Form}
use Rattle.gx_events.specs.{Known.{known_of}, Lines.{lines_of_record, lines_behind, log_of}}
use Rattle.gx_laws.proofs.Lists_next.{each_after_next}
use Rattle.gx_monitor.specs.{declared.day_log.DayLog.DayLog, Logs.IsLogOf}

pub empty_log : (day : DayLog) (policy : PolicyData) → day.text.items ≡ [] → day.log.known ≡ known_of policy [] → IsLogOf policy [] day
empty_log day policy empty known = record { known = known; text = empty }

-- the last record, alone
last_alone : (earlier : List RecordData) (r : RecordData) → drop (length (earlier ++ r ∷ []) - 1) (earlier ++ r ∷ []) ≡ r ∷ []
last_alone earlier r =
    let many = length-append earlier (r ∷ []) in
    drop_at earlier (r ∷ []) (length (earlier ++ r ∷ []) - 1) (omega (arith, many))

one_more : (form : Form) (policy : PolicyData) (earlier : List RecordData) (r : RecordData) → log_of form policy (earlier ++ r ∷ []) ≡ log_of form policy earlier ++ lines_behind form policy earlier (r ∷ [])
one_more form policy earlier r =
    ap (flat_map (λ (e : List RecordData × RecordData). lines_of_record form policy e.0 e.1)) (each_after_next [] earlier r)
    ∙ flat_map-append (λ (e : List RecordData × RecordData). lines_of_record form policy e.0 e.1) (each_after [] earlier) ((earlier, r) ∷ [])

-- once the lines of the last record stand behind the others
pub log_goes_on : {policy : PolicyData} (records : List RecordData) {earlier : List RecordData} (r : RecordData) (before after : DayLog) (told : List RecordData) (lines : List ℕ) → records ≡ earlier ++ r ∷ []
    → IsLogOf policy earlier before → told ≡ drop (length records - 1) records → lines ≡ lines_behind before.log.form policy earlier told → after.log.known ≡ known_of policy (earlier ++ told)
    → after.log.form ≡ before.log.form → after.text.items ≡ before.text.items ++ lines → IsLogOf policy records after
log_goes_on {policy} records {earlier} r before after told lines is so_far last says knows form puts =
    let one : told ≡ r ∷ [] = last ∙ ap (λ (h : List RecordData). drop (length h - 1) h) is ∙ last_alone earlier r in
    subst (λ (h : List RecordData). IsLogOf policy h after) (sym is)
    (record {
      known = knows ∙ ap (λ (more : List RecordData). known_of policy (earlier ++ more)) one;
      text =
          puts
          ∙ (λ i. so_far.text i ++ (says ∙ ap (lines_behind before.log.form policy earlier) one) i)
          ∙ sym (one_more before.log.form policy earlier r)
          ∙ ap (λ (f : Form). log_of f policy (earlier ++ r ∷ [])) (sym form);
    })
