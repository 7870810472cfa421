-- What is known once the lines of more records were given.
use Rattle.std.proofs.{Common.{◌≡◌, ℕ, ◌+◌, ◌-◌, ◌≤◌, List, ◌++◌, ◌<◌, length, take, drop, min, sym, ap, ◌∙◌, arith, take-add}, lemmas.List.{length-take, length-drop, drop-take}}
use Rattle.gx_policy.specs.{Lists.slice, declared.policy.PolicyData.PolicyData}
use Rattle.gx_journal.proofs.Journal_next as rolling
use Rattle.gx_history.specs.declared.record.RecordData.{RecordData}
use Rattle.gx_pass.specs.declared.view.LineView.{LineView}
use Rattle.gx_text.specs.declared.form.Form.{Form}
use Rattle.gx_events.specs.{Known.{known_of, Known}, Lines.closing_line}
use Rattle.gx_logging.specs.Logging.{IsLogging}

-- the next records are there
pub next_within : (records piece : List RecordData) (done : ℕ) → piece ≡ take (length piece) (drop done records) → done ≤ length records → done + length piece ≤ length records
next_within records piece done next within =
    let size : length piece ≡ min (length piece) (length records - done) = ap length next ∙ length-take (length piece) (drop done records) ∙ ap (min (length piece)) (length-drop done records) in
    omega (arith, size, within)

-- they stand behind those whose lines were given
pub next_behind : (records piece : List RecordData) (done : ℕ) → piece ≡ take (length piece) (drop done records) → take (done + length piece) records ≡ take done records ++ piece
next_behind records piece done next =
    take-add done (length piece) records ∙ ap (λ (rs : List RecordData). take done records ++ rs) (sym next)

pub gives : (policy : PolicyData) (met : LineView) (done : ℕ) (form form' : Form) (known known' : Known) (piece : List RecordData)
    → IsLogging policy (record { met = met; done = done; form = form; known = known })
    → piece ≡ take (length piece) (drop done met.front)
    → known' ≡ known_of policy (take done met.front ++ piece)
    → IsLogging policy (record { met = met; done = done + length piece; form = form'; known = known' })
gives policy met done form form' known known' piece logging next knows = record {
  within = next_within met.front piece done next logging.within;
  knows = knows ∙ ap (known_of policy) (sym (next_behind met.front piece done next));
}

pub is_one : (records piece : List RecordData) (done most told : ℕ) → piece ≡ slice records (done + 1) most → 0 < most → done < told → told ≤ length records → 0 < length piece
is_one records piece done most told is some left later = omega (arith, rolling.piece_size records piece done most is, some, left, later)

pub are_few : (records piece : List RecordData) (done most : ℕ) → piece ≡ slice records (done + 1) most → length piece ≤ most
are_few records piece done most is = omega (arith, rolling.piece_size records piece done most is)

-- they are those between
pub between : (records piece : List RecordData) (done : ℕ) → piece ≡ take (length piece) (drop done records) → piece ≡ drop done (take (done + length piece) records)
between records piece done next = next ∙ sym (drop-take done (length piece) records)

-- what is left to be told is of the records whose lines were given
pub closes : (policy : PolicyData) (form : Form) (known : Known) (records : List RecordData) (text : List ℕ) → known ≡ known_of policy records → text ≡ closing_line form known
    → text ≡ closing_line form (known_of policy records)
closes policy form known records text knows is = is ∙ ap (closing_line form) knows
