-- No rule forbids the Logout of a user who is on his line.
use Rattle.std.proofs.{Common.{◌≡◌, ℕ, Bool, true, false, List, [], ◌∷◌, ◌++◌, map, Option, Some, refl, ap, ◌∙◌, eq-eqb}, lemmas.List.Folds.list_any-append}
use Rattle.std.specs.{Prelude.{not, ◌&&◌, ◌||◌}, List.list_any, Option.option_map_or}
use Rattle.gx_units.specs.declared.names.UserName.{UserName}
use Rattle.gx_history.specs.{declared.{facts.{Facts.Facts, RuleFigures.RuleFigures}, «record».{Asked.Asked, RecordData.RecordData, Request.Request, Verdict.Verdict}}, Asking.{facts, is_on_line}, InForce.line_of, Rules.{Rule, BuiltIn, OfFile, applies, written_order}, Verdicts.{facts_now, rules_now, verdict}}
use Rattle.gx_policy.specs.{declared.policy.{FileRule.FileRule, PolicyData.PolicyData}, People.covers, RuleNames.{rules_before, rules_behind}}
use Rattle.gx_laws.proofs.Requests_judged.{granted_where_none}

passes : (b : Bool) {c : Bool} → c ≡ false → ((b && false) || c) ≡ false
passes true h = h
passes false h = h

module _ (given : Facts) (on : given.is_on_this_line ≡ true) (fits : given.role_fits ≡ true) where
  none_before : list_any (applies given Request.Logout) (map BuiltIn rules_before) ≡ false
  unfolding rules_before
  none_before = ap (λ b. not b || (not given.role_fits || false)) on ∙ ap (λ b. not b || false) fits

  none_behind : list_any (applies given Request.Logout) (map BuiltIn rules_behind) ≡ false
  unfolding rules_behind
  none_behind = refl

  none_of_file : (rules : List (FileRule × RuleFigures)) → list_any (applies given Request.Logout) (map OfFile rules) ≡ false
  none_of_file [] = refl
  none_of_file (r ∷ rules) = passes (option_map_or (covers r.0.scope) given.account false) (none_of_file rules)

  none_forbids : (rules : List (FileRule × RuleFigures)) → list_any (applies given Request.Logout) (written_order rules) ≡ false
  unfolding written_order
  none_forbids rules =
      let p : Rule → Bool = applies given Request.Logout in
      list_any-append p (map BuiltIn rules_before ++ map OfFile rules) (map BuiltIn rules_behind)
      ∙ ap (λ b. b || list_any p (map BuiltIn rules_behind)) (list_any-append p (map BuiltIn rules_before) (map OfFile rules))
      ∙ ap (λ b. (b || list_any p (map OfFile rules)) || list_any p (map BuiltIn rules_behind)) none_before
      ∙ ap (λ b. b || list_any p (map BuiltIn rules_behind)) (none_of_file rules)
      ∙ none_behind

pub logouts_are_granted : (policy : PolicyData) (history : List RecordData) (line : ℕ) (user : UserName) (moment : ℕ) → line_of history user ≡ Some line
    → verdict policy history (record { line = line; user = user; request = Request.Logout; handed = moment }) ≡ Verdict.Granted
unfolding facts
logouts_are_granted policy history line user moment on =
    let a : Asked = record { line = line; user = user; request = Request.Logout; handed = moment } in
    (granted_where_none policy history a).1
    (none_forbids (facts_now policy history a) (ap (λ (l : Option ℕ). is_on_line l line) on ∙ eq-eqb line line refl) refl (rules_now policy history a))
