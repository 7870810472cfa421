-- Lines of records behind others.
use Rattle.std.proofs.{Common.{◌≡◌, ℕ, ◌+◌, ◌<◌, List, [], ◌∷◌, ◌++◌, length, take, get_or, ◌∙◌, ap, sym, append_assoc}, lemmas.List.{append-nil, take_more, Concat.flat_map-append}}
use Rattle.std.specs.Prelude.{flat_map}
use Rattle.gx_policy.specs.{declared.policy.PolicyData.PolicyData, Lists.each_after}
use Rattle.gx_history.specs.{declared.record.RecordData.RecordData, InForce.rules_in_force}
use Rattle.gx_text.specs.declared.form.Form.{Form}
use Rattle.gx_events.specs.{Known.{Known, known_next, known_of}, Laws.{LimitsAreInForce, LogsGoOn}, Lines.{lines_of_record, lines_behind, record_lines}}
use Rattle.gx_events.proofs.{Known_next.known_more, Limits_next.limit_is_in}
use Rattle.gx_laws.proofs.Exposure_later.{each_after-append}

lines_both : (form : Form) (policy : PolicyData) (before xs ys : List RecordData)
    → lines_behind form policy before (xs ++ ys) ≡ lines_behind form policy before xs ++ lines_behind form policy (before ++ xs) ys
lines_both form policy before xs ys =
    ap (flat_map (λ (e : List RecordData × RecordData). lines_of_record form policy e.0 e.1)) (each_after-append before xs ys)
    ∙ flat_map-append (λ (e : List RecordData × RecordData). lines_of_record form policy e.0 e.1) (each_after before xs) (each_after (before ++ xs) ys)

pub logs_go_on : LogsGoOn
logs_go_on form policy records more = lines_both form policy [] records more

pub limits_are_in_force : LimitsAreInForce
unfolding known_of
limits_are_in_force policy records rule = limit_is_in (rules_in_force policy records) rule

-- what is known after one more of the records
pub known_further : (policy : PolicyData) (before records : List RecordData) (i : ℕ) (d : RecordData) (known after : Known) → i < length records
    → known ≡ known_of policy (before ++ take i records) → after ≡ known_next known (get_or records i d)
    → after ≡ known_of policy (before ++ take (i + 1) records)
known_further policy before records i d known after within now next =
    next
    ∙ ap (λ (k : Known). known_next k (get_or records i d)) now
    ∙ sym (known_more policy (before ++ take i records) (get_or records i d))
    ∙ ap (known_of policy) (append_assoc before (take i records) (get_or records i d ∷ []))
    ∙ ap (λ (front : List RecordData). known_of policy (before ++ front)) (sym (take_more records i d within))

-- the lines of one more of the records
pub lines_further : (form : Form) (policy : PolicyData) (before records : List RecordData) (i : ℕ) (d : RecordData) (known : Known) (text after : List ℕ) → i < length records
    → known ≡ known_of policy (before ++ take i records) → text ≡ lines_behind form policy before (take i records)
    → after ≡ text ++ record_lines form known (get_or records i d)
    → after ≡ lines_behind form policy before (take (i + 1) records)
lines_further form policy before records i d known text after within now so_far next =
    next
    ∙ ap (λ (k : Known). text ++ record_lines form k (get_or records i d)) now
    ∙ ap (λ (front : List ℕ). front ++ lines_of_record form policy (before ++ take i records) (get_or records i d)) so_far
    ∙ ap (λ (line : List ℕ). lines_behind form policy before (take i records) ++ line) (sym (append-nil (lines_of_record form policy (before ++ take i records) (get_or records i d))))
    ∙ sym (lines_both form policy before (take i records) (get_or records i d ∷ []))
    ∙ ap (lines_behind form policy before) (sym (take_more records i d within))
