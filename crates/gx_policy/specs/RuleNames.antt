-- The names of the rules.
use Rattle.std.specs.{Prelude.{◌≡◌, ℕ, Bool, true, false, List, [], ◌∷◌, ◌++◌, take, codes, length}, List.list_any}
use Rattle.gx_units.specs.{Names.same_rule, declared.names.RuleId.RuleId}
use Rattle.gx_policy.specs.declared.rule_name.RuleName.{RuleName, TheVariants.{L1, L2, L3, G1, G2, G3, I1, I2, I3, P1, P2, P3, P4, P5, P6, P7, P8, P9, P10, P11, P12, Q1, Q2, Q3, Q4, File}}

-- the built-in rules that stand before the file's
unfoldable pub rules_before : List RuleName
rules_before = L1 ∷ L2 ∷ L3 ∷ G1 ∷ G2 ∷ G3 ∷ I1 ∷ I2 ∷ I3 ∷ P1 ∷ P2 ∷ P3 ∷ P4 ∷ P5 ∷ P6 ∷ P7 ∷ P8 ∷ P9 ∷ P10 ∷ P11 ∷ P12 ∷ []

-- the rules of commands, which stand behind the file's
unfoldable pub rules_behind : List RuleName
rules_behind = Q1 ∷ Q2 ∷ Q3 ∷ Q4 ∷ []

-- the rules whose denials are answered, and use the token
abbrev pub is_answered_rule : RuleName → Bool
is_answered_rule P1 = true
is_answered_rule P2 = true
is_answered_rule P3 = true
is_answered_rule P4 = true
is_answered_rule P5 = true
is_answered_rule P6 = true
is_answered_rule P7 = true
is_answered_rule P8 = true
is_answered_rule P9 = true
is_answered_rule P10 = true
is_answered_rule P11 = true
is_answered_rule P12 = true
is_answered_rule (File rule) = true
is_answered_rule other = false

-- the name as the audit and the policy file write it, without its spaces
abbrev pub written_rule : RuleName → List ℕ
written_rule L1 = codes "L1"
written_rule L2 = codes "L2"
written_rule L3 = codes "L3"
written_rule G1 = codes "G1"
written_rule G2 = codes "G2"
written_rule G3 = codes "G3"
written_rule I1 = codes "I1"
written_rule I2 = codes "I2"
written_rule I3 = codes "I3"
written_rule P1 = codes "P1"
written_rule P2 = codes "P2"
written_rule P3 = codes "P3"
written_rule P4 = codes "P4"
written_rule P5 = codes "P5"
written_rule P6 = codes "P6"
written_rule P7 = codes "P7"
written_rule P8 = codes "P8"
written_rule P9 = codes "P9"
written_rule P10 = codes "P10"
written_rule P11 = codes "P11"
written_rule P12 = codes "P12"
written_rule Q1 = codes "Q1"
written_rule Q2 = codes "Q2"
written_rule Q3 = codes "Q3"
written_rule Q4 = codes "Q4"
written_rule (File rule) = rule.bytes

-- the name with its spaces
abbrev pub rule_id : RuleName → RuleId
rule_id name = record { bytes = take 8 (written_rule name ++ codes "        ") }

-- a name that no rule of the file may have
abbrev pub is_built_in : RuleId → Bool
is_built_in name = list_any (λ rule. same_rule (rule_id rule) name) (rules_before ++ rules_behind)

-- the name of a rule of the file is of eight bytes
abbrev pub NameFits : RuleName → Type 0
NameFits (File name) = length name.bytes ≡ 8
NameFits other = Unit {0}
