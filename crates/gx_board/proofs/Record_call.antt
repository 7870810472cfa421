-- What a record's verdict and request say of it, by themselves.
use Rattle.std.proofs.{Common.{◌≡◌, ℕ, Bool, true, false, ◌||◌, max, refl, sym, ap, ◌∙◌}, lemmas.Bool.or_parts}
use Rattle.std.specs.Prelude.{Option, Some, None, option_and_then, option_map}
use Rattle.circular_buffer.specs.Buffer.{Buffer}
use Rattle.gx_history.specs.{declared.record.{Asked.Asked, RecordData.RecordData, Step.Step, Verdict.Verdict, VerdictKind.VerdictKind}, Requests.{asked_of, is_granted, kind_of}}
use Rattle.gx_pass.specs.Views.{line_in}
use Rattle.gx_overview.specs.{Commands.{is_grant, is_officers}, Accounts.one_more}
use Rattle.gx_board.specs.{declared.{counts.Counts.Counts, summary.Summary.Summary}, Counting.{counts_with, counted_by, denies, fills, is_denial, is_meeting, line_asked_on}, Summaries.{IsNoted, pushed_if}}
use Rattle.gx_board.proofs.Denied_next.{none_counted}

-- the verdict of a record, and its request
abbrev pub kind_in : Option RecordData → Option VerdictKind
kind_in found = option_map (λ (r : RecordData). kind_of r.verdict) found

abbrev pub asked_in : Option RecordData → Option Asked
asked_in found = option_and_then (λ (r : RecordData). asked_of r.step) found

grants_by : (v : Verdict) → is_grant (Some (kind_of v)) ≡ is_granted v
grants_by Verdict.Granted = refl
grants_by (Verdict.Denied rule) = refl
grants_by (Verdict.Filled f) = refl
grants_by (Verdict.Rested order) = refl
grants_by (Verdict.Expired order) = refl

module _ (number moment : ℕ) (step : Step) where
  abbrev with_verdict : Verdict → RecordData
  with_verdict v = record { number = number; moment = moment; step = step; verdict = v }

  pub denies_by : (v : Verdict) → is_denial (Some (kind_of v)) ≡ denies (with_verdict v)
  denies_by Verdict.Granted = refl
  denies_by (Verdict.Denied rule) = refl
  denies_by (Verdict.Filled f) = refl
  denies_by (Verdict.Rested order) = refl
  denies_by (Verdict.Expired order) = refl

  pub fills_by : (v : Verdict) → is_meeting (Some (kind_of v)) ≡ fills (with_verdict v)
  fills_by Verdict.Granted = refl
  fills_by (Verdict.Denied rule) = refl
  fills_by (Verdict.Filled f) = refl
  fills_by (Verdict.Rested order) = refl
  fills_by (Verdict.Expired order) = refl

line_by : (s : Step) (number moment : ℕ) (v : Verdict) → line_asked_on (asked_of s) ≡ line_in (record { number = number; moment = moment; step = s; verdict = v })
line_by (Step.Asked a) number moment v = refl
line_by (Step.Matching handed) number moment v = refl

by_parts : (r : RecordData) (c : Counts) → counted_by (kind_in (Some r)) (asked_in (Some r)) c ≡ counts_with r c
by_parts r c = λ i. record {
  records = (counts_with r c).records;
  granted = one_more (grants_by r.verdict i) c.granted;
  denied = one_more (denies_by r.number r.moment r.step r.verdict i) c.denied;
  fills = one_more (fills_by r.number r.moment r.step r.verdict i) c.fills;
  highest_line = max c.highest_line (line_by r.step r.number r.moment r.verdict i);
}

not_pushed : (b : Bool) (r : RecordData) (ring : Buffer RecordData) → b ≡ false → ring ≡ pushed_if b r ring
not_pushed true r ring none = cc
not_pushed false r ring none = refl

-- of a record that neither denies nor is a command only the numbers are kept
pub numbers_noted : (found : Option RecordData) (kind : Option VerdictKind) (asks : Option Asked) (counts : Counts) (old new : Summary)
    → kind ≡ kind_in found → asks ≡ asked_in found → counts ≡ counted_by kind asks old.counts → (is_denial kind || is_officers asks) ≡ false
    → new ≡ record old { counts = counts } → IsNoted found old new
numbers_noted None kind asks counts old new of_kind of_asked counted_is kept_not is = tt
numbers_noted (Some r) kind asks counts old new of_kind of_asked counted_is kept_not is = record {
  counts = ap (λ (s : Summary). s.counts) is ∙ counted_is ∙ (λ i. counted_by (of_kind i) (of_asked i) old.counts) ∙ by_parts r old.counts;
  denied = ap (λ (s : Summary). s.denied.items) is ∙ sym (none_counted r old.denied.items none);
  last_denied = ap (λ (s : Summary). s.last_denied) is ∙ not_pushed (denies r) r old.last_denied none;
  last_commands = ap (λ (s : Summary). s.last_commands) is ∙ not_pushed (is_officers (asked_of r.step)) r old.last_commands (ap is_officers (sym of_asked) ∙ both.1);
  commands_kept = ap (λ (s : Summary). s.commands.items) is;
}
  where
    both : (is_denial kind ≡ false) × (is_officers asks ≡ false)
    both = or_parts (is_denial kind) (is_officers asks) kept_not

    none : denies r ≡ false
    none = sym (denies_by r.number r.moment r.step r.verdict) ∙ ap is_denial (sym of_kind) ∙ both.0
