-- A rule is read from its name as itself, and a verdict from its parts.
use Rattle.std.proofs.Common.{◌≡◌, ℕ, Bool, true, false, ◌||◌, ◌&&◌, not, ◌++◌, refl, sym, ap, ◌∙◌}
use Rattle.std.specs.Prelude.{Option, Some, None, IsTrue, codes, cond, bytes_eq, unwrap_or}
use Rattle.gx_units.specs.declared.names.RuleId.{RuleId}
use Rattle.gx_units.proofs.Lists_found.{nothing_such}
use Rattle.gx_policy.specs.{RuleNames.{NameFits, rule_id, rules_before, rules_behind, is_built_in}, declared.rule_name.RuleName.{RuleName, TheVariants.{L1, L2, L3, G1, G2, G3, I1, I2, I3, P1, P2, P3, P4, P5, P6, P7, P8, P9, P10, P11, P12, Q1, Q2, Q3, Q4, File}}}
use Rattle.gx_history.specs.{Showing.{is_showable, is_verdict_of, is_rule_shown, answers}, declared.record.{RecordData.RecordData, Request.Request, Step.Step, Verdict.Verdict, Fill.Fill}}
use Rattle.gx_audit_bytes.specs.Reading.{rule_of_bytes, verdict_of_bytes, VerdictIsRead, shows_rule}
use Rattle.gx_policy.proofs.Name_whole.{take_whole}

none_of : {X : Type 0} (passes : Bool) (x : X) (rest : Option X) (any : Bool) → (passes || any) ≡ false → (any ≡ false → rest ≡ None) → cond passes (Some x) rest ≡ None
none_of true x rest any h below = cc
none_of false x rest any h below = below h

not_built_in : (built_in blank : Bool) → IsTrue (not built_in && not blank) → built_in ≡ false
not_built_in true blank h = cc
not_built_in false blank h = refl

-- a rule of the file
file_read : (name : RuleId) → is_built_in name ≡ false → rule_of_bytes name.bytes ≡ File name
unfolding rule_of_bytes
file_read name other =
    ap (λ (found : Option RuleName). unwrap_or found (File (record { bytes = name.bytes })))
    (nothing_such (λ (rule : RuleName). bytes_eq (rule_id rule).bytes name.bytes) (rules_before ++ rules_behind) other)

-- a rule is read from its name
rule_read : (rule : RuleName) → NameFits rule → IsTrue (is_rule_shown rule) → rule_of_bytes (rule_id rule).bytes ≡ rule
unfolding rule_of_bytes rules_before rules_behind
rule_read L1 fits shown = refl
rule_read L2 fits shown = refl
rule_read L3 fits shown = refl
rule_read G1 fits shown = refl
rule_read G2 fits shown = refl
rule_read G3 fits shown = refl
rule_read I1 fits shown = refl
rule_read I2 fits shown = refl
rule_read I3 fits shown = refl
rule_read P1 fits shown = refl
rule_read P2 fits shown = refl
rule_read P3 fits shown = refl
rule_read P4 fits shown = refl
rule_read P5 fits shown = refl
rule_read P6 fits shown = refl
rule_read P7 fits shown = refl
rule_read P8 fits shown = refl
rule_read P9 fits shown = refl
rule_read P10 fits shown = refl
rule_read P11 fits shown = refl
rule_read P12 fits shown = refl
rule_read Q1 fits shown = refl
rule_read Q2 fits shown = refl
rule_read Q3 fits shown = refl
rule_read Q4 fits shown = refl
rule_read (File name) fits shown =
    ap rule_of_bytes (take_whole name.bytes (codes "        ") fits) ∙ file_read name (not_built_in (is_built_in name) _ shown)

-- two that can be shown are one where their names are
pub one_rule : (shown made : RuleName) → NameFits shown → NameFits made → IsTrue (is_rule_shown shown) → IsTrue (is_rule_shown made) → (rule_id shown).bytes ≡ (rule_id made).bytes
    → shown ≡ made
one_rule shown made fits made_fits is_shown is_made named = sym (rule_read shown fits is_shown) ∙ ap rule_of_bytes named ∙ rule_read made made_fits is_made

pub one_fill : (shown made : Fill) → shown.taker ≡ made.taker → shown.maker ≡ made.maker → shown.shares ≡ made.shares → shown.price ≡ made.price → shown ≡ made
one_fill shown made taker maker shares price = λ i. record { taker = taker i; maker = maker i; shares = shares i; price = price i }

-- a denial, by its rule
pub denial_read : (rule : RuleName) → NameFits rule → IsTrue (is_rule_shown rule) → VerdictIsRead (Verdict.Denied rule)
unfolding verdict_of_bytes
denial_read rule fits shown = ap (λ (r : RuleName). Some (Verdict.Denied r)) (rule_read rule fits shown)

pub grant_read : VerdictIsRead Verdict.Granted
unfolding verdict_of_bytes
grant_read = refl

pub fill_read : (fill : Fill) → VerdictIsRead (Verdict.Filled fill)
unfolding verdict_of_bytes
fill_read fill = refl

pub rest_read : (order : ℕ) → VerdictIsRead (Verdict.Rested order)
unfolding verdict_of_bytes
rest_read order = refl

pub expiry_read : (order : ℕ) → VerdictIsRead (Verdict.Expired order)
unfolding verdict_of_bytes
expiry_read order = refl

-- what can be shown names a rule that can be
second : (a b : Bool) → IsTrue (a && b) → IsTrue b
second true b h = h
second false b h = cc

denied_by : (q : Request) (v : Verdict) → IsTrue (answers q v) → IsTrue (shows_rule v)
denied_by q Verdict.Granted h = refl
denied_by q (Verdict.Denied rule) h = h
denied_by q (Verdict.Filled fill) h = refl
denied_by q (Verdict.Rested order) h = refl
denied_by q (Verdict.Expired order) h = refl

named_by : (s : Step) (v : Verdict) → IsTrue (is_verdict_of s v) → IsTrue (shows_rule v)
named_by (Step.Asked a) v h = denied_by a.request v (second _ (answers a.request v) h)
named_by (Step.Matching handed) Verdict.Granted h = refl
named_by (Step.Matching handed) (Verdict.Denied rule) h = cc
named_by (Step.Matching handed) (Verdict.Filled fill) h = refl
named_by (Step.Matching handed) (Verdict.Rested order) h = refl
named_by (Step.Matching handed) (Verdict.Expired order) h = refl

pub shown_names_rule : (r : RecordData) → IsTrue (is_showable r) → IsTrue (shows_rule r.verdict)
shown_names_rule r h = named_by r.step r.verdict (second _ (is_verdict_of r.step r.verdict) h)
