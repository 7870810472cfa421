-- Rules that were read are sound.
use Rattle.gx_policy.specs.{declared.{kinds.KindName.KindName, policy.{PolicyData.PolicyData, FileRule.FileRule, RuleKind.RuleKind}}, RuleNames.is_built_in, Soundness.{is_name_letter, is_spelled, greatest, are_stocks, is_kind_sound, is_rule_sound}}
use Rattle.std.proofs.{Common.{◌≡◌, ℕ, true, not, ◌&&◌, nat_le, List, codes, Ok, refl, ap}, lemmas.Bool.and_parts}
use Rattle.toml.specs.Data.{Data, Members}
use Rattle.gx_units.specs.declared.names.{Symbol.Symbol, RuleId.RuleId}
use Rattle.gx_policyvalues.specs.{declared.fault.{FaultKind.TheVariants.BadValue, Letters.TheVariants.Plain}, Field.{◌>>=◌, value_at, number_at, field, choice_at, only_keys}}
use Rattle.gx_policyfile.specs.{declared.version.FileVersion.FileVersion, Known.{known_stocks, scope}, Rules.{kinds_of_version, keys_of_rule, rule_name, limit, count, stocks_of_entry, kind, rule}}
use Rattle.gx_policyfile.proofs.{Step_parts.{bind_ok, failed, by_ok, and_both}, Values_spelled.{field_spelled, number_ok}, Names_sound.{stocks_sound, scope_sound}}

listed_sound : (p : PolicyData) (entry : Members) (names : List Symbol) → stocks_of_entry p.stocks entry ≡ Ok names → are_stocks p names ≡ true
listed_sound p entry names h =
    let (value, value_is, known) = bind_ok (value_at (codes "stocks") entry) (known_stocks p.stocks) names h in
    stocks_sound p value names known

limit_ok : (entry : Members) (n : ℕ) → limit entry ≡ Ok n → nat_le n greatest ≡ true
limit_ok entry n h = (and_parts (nat_le 0 n) (nat_le n greatest) (number_ok (codes "limit") entry 0 greatest n h)).1

kind_sound : (p : PolicyData) (word : KindName) (entry : Members) (k : RuleKind) → kind p.stocks word entry ≡ Ok k → is_kind_sound p k ≡ true
unfolding kind
kind_sound p (KindName.Listed why) entry k h =
    let (names, are, same) = bind_ok (stocks_of_entry p.stocks entry) _ k h in
    by_ok (λ k. is_kind_sound p k ≡ true) (RuleKind.Listed why names) k same (listed_sound p entry names are)
kind_sound p (KindName.Plain what) entry k h = by_ok (λ k. is_kind_sound p k ≡ true) (RuleKind.Plain what) k h refl
kind_sound p (KindName.Order what) entry k h =
    let (most, is, same) = bind_ok (limit entry) _ k h in
    by_ok (λ k. is_kind_sound p k ≡ true) (RuleKind.Order what most) k same (limit_ok entry most is)
kind_sound p (KindName.Exposure what) entry k h =
    let (most, is, h1) = bind_ok (limit entry) _ k h in
    let (each, each_is, same) = bind_ok (count entry) _ k h1 in
    by_ok (λ k. is_kind_sound p k ≡ true) (RuleKind.Exposure what most each) k same (limit_ok entry most is)
kind_sound p KindName.Rate entry k h =
    let (most, is, h1) = bind_ok (number_at (codes "limit") 1 4096 entry) _ k h in
    let (window, window_is, h2) = bind_ok (number_at (codes "window") 1 greatest entry) _ k h1 in
    let (each, each_is, same) = bind_ok (count entry) _ k h2 in
    by_ok (λ k. is_kind_sound p k ≡ true) (RuleKind.Rate (record { limit = most; window = window }) each) k same
    (and_both _ _ (number_ok (codes "limit") entry 1 4096 most is) (number_ok (codes "window") entry 1 greatest window window_is))
kind_sound p KindName.Repeat entry k h =
    let (most, is, h1) = bind_ok (number_at (codes "limit") 1 4096 entry) _ k h in
    let (span, span_is, h2) = bind_ok (number_at (codes "span") most 4096 entry) _ k h1 in
    let (each, each_is, same) = bind_ok (count entry) _ k h2 in
    by_ok (λ k. is_kind_sound p k ≡ true) (RuleKind.Repeat (record { limit = most; span = span }) each) k same
    (and_both _ _ (number_ok (codes "limit") entry 1 4096 most is) (number_ok (codes "span") entry most 4096 span span_is))

rule_name_ok : (value : Data) (name : RuleId) → rule_name value ≡ Ok name → (is_spelled is_name_letter name.bytes && not (is_built_in name)) ≡ true
unfolding rule_name
rule_name_ok value name h =
    let (bytes, is, tested) = bind_ok (field Plain 8 value) _ name h in
    let (free, same) = failed (is_built_in (record { bytes = bytes })) _ BadValue name tested in
    by_ok (λ n. (is_spelled is_name_letter n.bytes && not (is_built_in n)) ≡ true) (record { bytes = bytes }) name same
    (and_both _ _ (field_spelled value Plain 8 bytes refl is) (ap not free))

pub rule_sound : (version : FileVersion) (p : PolicyData) (entry : Members) (r : FileRule) → rule version p.accounts p.stocks entry ≡ Ok r → is_rule_sound p r ≡ true
unfolding rule
rule_sound version p entry r h =
    let (known, known_is, h1) = bind_ok (only_keys (keys_of_rule version entry) entry) _ r h in
    let (name, name_is, h2) = bind_ok (value_at (codes "name") entry >>= rule_name) _ r h1 in
    let (value, value_is, named) = bind_ok (value_at (codes "name") entry) rule_name name name_is in
    let (word, word_is, h3) = bind_ok (choice_at (codes "kind") (kinds_of_version version) entry) _ r h2 in
    let (of_kind, kind_is, h4) = bind_ok (kind p.stocks word entry) _ r h3 in
    let (for_accounts, for_is, same) = bind_ok (scope p.accounts entry) _ r h4 in
    by_ok (λ r. is_rule_sound p r ≡ true) _ r same
    (and_both _ _
    (and_both _ _ (rule_name_ok value name named) (kind_sound p word entry of_kind kind_is))
    (scope_sound p entry for_accounts for_is))
