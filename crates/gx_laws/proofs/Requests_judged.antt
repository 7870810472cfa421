-- What a granted, and what a denied record says of the rules; and what every legal history keeps.
use Rattle.std.proofs.{Common.{◌≡◌, ℕ, ◌+◌, length, Bool, true, false, List, [], ◌∷◌, ◌++◌, refl, ◌∙◌, ap, sym, map, append_assoc}, Math.Path.subst, lemmas.{List.{Folds.list_any-append, append-nil}, Option.same_Some}}
use Rattle.std.specs.{Prelude.{Option, Some, None, ◌||◌, ◌↔◌}, List.{list_any, AllByRecursion}}
use Rattle.gx_units.proofs.{Lists_hold.none_pass, Test_known.{left_false, right_false}}
use Rattle.gx_policy.specs.{declared.{policy.{FileRule.FileRule, PolicyData.PolicyData}, rule_name.RuleName.{RuleName, TheVariants.{L1, L2, L3, G1, G2, G3, I1, I2, I3, P1, P2, P3, P4, P5, P6, P7, P8, P9, P10, P11, P12, Q1, Q2, Q3, Q4, File}}}, Lists.each_after, RuleNames.{rules_before, rules_behind}}
use Rattle.gx_history.specs.{declared.{facts.{Facts.Facts, RuleFigures.RuleFigures}, «record».{Asked.Asked, RecordData.RecordData, Request.Request, Step.Step, Verdict.Verdict}}, Requests.is_judged, Rules.{Rule, BuiltIn, OfFile, applies, forbids, rule_forbids, first_forbidding, written_order, IsFirstForbidding}, Verdicts.{next, step_verdict, verdict, verdict_by, facts_now, rules_now, moment_of, Follows, IsLegal}}
use Rattle.gx_laws.proofs.Rules_first.{none_forbids, is_first_forbidding, none_named, first_is_named}

-- the verdict of a record that a request leaves
pub verdict_left : (policy : PolicyData) (history : List RecordData) (a : Asked) (r : RecordData) → next policy history (Step.Asked a) ≡ Some r
    → verdict_by (first_forbidding (rules_now policy history a) (facts_now policy history a) a.request) ≡ r.verdict
unfolding next step_verdict verdict
verdict_left policy history a r e = ap (λ (x : RecordData). x.verdict) (same_Some _ _ e)

found_nothing : (found : Option RuleName) → verdict_by found ≡ Verdict.Granted → found ≡ None
found_nothing None h = refl
found_nothing (Some rule) h = cc

pub found_that : (found : Option RuleName) (name : RuleName) → verdict_by found ≡ Verdict.Denied name → found ≡ Some name
found_that None name h = cc
found_that (Some rule) name h = cc

-- granted exactly where no rule forbids
pub granted_exactly : (policy : PolicyData) (history : List RecordData) (a : Asked) (r : RecordData) → next policy history (Step.Asked a) ≡ Some r
    → (r.verdict ≡ Verdict.Granted) ↔ (first_forbidding (rules_now policy history a) (facts_now policy history a) a.request ≡ None)
granted_exactly policy history a r e =
    let left : verdict_by (first_forbidding (rules_now policy history a) (facts_now policy history a) a.request) ≡ r.verdict = verdict_left policy history a r e in
    (λ h. found_nothing (first_forbidding (rules_now policy history a) (facts_now policy history a) a.request) (left ∙ h), λ h. sym left ∙ ap verdict_by h)

judged_by : (found : Option RuleName) → is_judged (verdict_by found) ≡ true
judged_by None = refl
judged_by (Some rule) = refl

-- what is asked is granted or denied
pub asked_is_judged : (policy : PolicyData) (history : List RecordData) (a : Asked) (r : RecordData) → next policy history (Step.Asked a) ≡ Some r → is_judged r.verdict ≡ true
asked_is_judged policy history a r e =
    ap is_judged (sym (verdict_left policy history a r e)) ∙ judged_by (first_forbidding (rules_now policy history a) (facts_now policy history a) a.request)

abbrev left : (number moment : ℕ) → Asked → Verdict → RecordData
left number moment a v = record { number = number; moment = moment; step = Step.Asked a; verdict = v }

-- the record that a request leaves, by its parts
pub next_in_parts : (policy : PolicyData) (history : List RecordData) (a : Asked) (number moment : ℕ) (v : Verdict)
    → number ≡ length history + 1 → moment ≡ moment_of history (Step.Asked a) → v ≡ verdict policy history a
    → next policy history (Step.Asked a) ≡ Some (left number moment a v)
unfolding next step_verdict
next_in_parts policy history a number moment v number_is moment_is verdict_is =
    ap (λ (n : ℕ). Some (left n (moment_of history (Step.Asked a)) a (verdict policy history a))) (sym number_is)
    ∙ ap (λ (m : ℕ). Some (left number m a (verdict policy history a))) (sym moment_is)
    ∙ ap (λ (w : Verdict). Some (left number moment a w)) (sym verdict_is)

-- a granted request is forbidden by no rule
pub granted_passes : (policy : PolicyData) (history : List RecordData) (a : Asked) (r : RecordData)
    → next policy history (Step.Asked a) ≡ Some r → r.verdict ≡ Verdict.Granted
    → list_any (applies (facts_now policy history a) a.request) (written_order (rules_now policy history a)) ≡ false
granted_passes policy history a r e granted =
    none_forbids (rules_now policy history a) (facts_now policy history a) a.request
    (found_nothing (first_forbidding (rules_now policy history a) (facts_now policy history a) a.request) (verdict_left policy history a r e ∙ granted))

-- a denial names the first rule that forbids
pub denied_names_first : (policy : PolicyData) (history : List RecordData) (a : Asked) (r : RecordData) (name : RuleName)
    → next policy history (Step.Asked a) ≡ Some r → r.verdict ≡ Verdict.Denied name
    → IsFirstForbidding (rules_now policy history a) (facts_now policy history a) a.request name
denied_names_first policy history a r name e denied =
    is_first_forbidding (rules_now policy history a) (facts_now policy history a) a.request name
    (found_that (first_forbidding (rules_now policy history a) (facts_now policy history a) a.request) name (verdict_left policy history a r e ∙ denied))

built_in_any : (names : List RuleName) (given : Facts) (q : Request) → list_any (applies given q) (map BuiltIn names) ≡ list_any (λ name. forbids name given q) names
built_in_any [] given q = refl
built_in_any (n ∷ names) given q = ap (λ b. forbids n given q || b) (built_in_any names given q)

of_file_any : (rules : List (FileRule × RuleFigures)) (given : Facts) (q : Request)
    → list_any (applies given q) (map OfFile rules) ≡ list_any (λ (r : FileRule × RuleFigures). rule_forbids given q r.0 r.1) rules
of_file_any [] given q = refl
of_file_any (r ∷ rules) given q = ap (λ b. rule_forbids given q r.0 r.1 || b) (of_file_any rules given q)

in_parts : (rules : List (FileRule × RuleFigures)) (given : Facts) (q : Request) → list_any (applies given q) (written_order rules) ≡ false
    → ((list_any (λ name. forbids name given q) rules_before || list_any (λ (r : FileRule × RuleFigures). rule_forbids given q r.0 r.1) rules) || list_any (λ name. forbids name given q) rules_behind) ≡ false
unfolding written_order
in_parts rules given q h =
    let p : Rule → Bool = applies given q in
    sym
    (list_any-append p (map BuiltIn rules_before ++ map OfFile rules) (map BuiltIn rules_behind)
    ∙ ap (λ b. b || list_any p (map BuiltIn rules_behind)) (list_any-append p (map BuiltIn rules_before) (map OfFile rules))
    ∙ ap (λ b. (b || list_any p (map OfFile rules)) || list_any p (map BuiltIn rules_behind)) (built_in_any rules_before given q)
    ∙ ap (λ b. (list_any (λ name. forbids name given q) rules_before || b) || list_any p (map BuiltIn rules_behind)) (of_file_any rules given q)
    ∙ ap (λ b. (list_any (λ name. forbids name given q) rules_before || list_any (λ (r : FileRule × RuleFigures). rule_forbids given q r.0 r.1) rules) || b) (built_in_any rules_behind given q))
    ∙ h

-- no built-in rule before the file's forbids
pub none_before : (rules : List (FileRule × RuleFigures)) (given : Facts) (q : Request) → list_any (applies given q) (written_order rules) ≡ false
    → list_any (λ name. forbids name given q) rules_before ≡ false
none_before rules given q h = left_false _ _ (left_false _ _ (in_parts rules given q h))

-- a granted request is forbidden by no built-in rule that is asked before the file's
pub granted_passes_before : (policy : PolicyData) (history : List RecordData) (a : Asked) (r : RecordData)
    → next policy history (Step.Asked a) ≡ Some r → r.verdict ≡ Verdict.Granted
    → list_any (λ name. forbids name (facts_now policy history a) a.request) rules_before ≡ false
granted_passes_before policy history a r e granted =
    none_before (rules_now policy history a) (facts_now policy history a) a.request (granted_passes policy history a r e granted)

pub none_of_file : (rules : List (FileRule × RuleFigures)) (given : Facts) (q : Request) → list_any (applies given q) (written_order rules) ≡ false
    → list_any (λ (r : FileRule × RuleFigures). rule_forbids given q r.0 r.1) rules ≡ false
none_of_file rules given q h = right_false _ _ (left_false _ _ (in_parts rules given q h))

pub none_behind : (rules : List (FileRule × RuleFigures)) (given : Facts) (q : Request) → list_any (applies given q) (written_order rules) ≡ false
    → list_any (λ name. forbids name given q) rules_behind ≡ false
none_behind rules given q h = right_false _ _ (in_parts rules given q h)

-- so no built-in rule is a bar
pub is_no_bar : (policy : PolicyData) (history : List RecordData) (a : Asked) (r : RecordData)
    → next policy history (Step.Asked a) ≡ Some r → r.verdict ≡ Verdict.Granted → (name : RuleName) → forbids name (facts_now policy history a) a.request ≡ false
unfolding rules_before rules_behind
is_no_bar policy history a r e granted =
    by (none_pass asks rules_before (granted_passes_before policy history a r e granted))
    (none_pass asks rules_behind (none_behind (rules_now policy history a) (facts_now policy history a) a.request (granted_passes policy history a r e granted)))
  where
    asks : RuleName → Bool
    asks name = forbids name (facts_now policy history a) a.request

    by : AllByRecursion (λ (name : RuleName). asks name ≡ false) rules_before → AllByRecursion (λ (name : RuleName). asks name ≡ false) rules_behind → (name : RuleName) → asks name ≡ false
    by before behind L1 = before.0
    by before behind L2 = before.1.0
    by before behind L3 = before.1.1.0
    by before behind G1 = before.1.1.1.0
    by before behind G2 = before.1.1.1.1.0
    by before behind G3 = before.1.1.1.1.1.0
    by before behind I1 = before.1.1.1.1.1.1.0
    by before behind I2 = before.1.1.1.1.1.1.1.0
    by before behind I3 = before.1.1.1.1.1.1.1.1.0
    by before behind P1 = before.1.1.1.1.1.1.1.1.1.0
    by before behind P2 = before.1.1.1.1.1.1.1.1.1.1.0
    by before behind P3 = before.1.1.1.1.1.1.1.1.1.1.1.0
    by before behind P4 = before.1.1.1.1.1.1.1.1.1.1.1.1.0
    by before behind P5 = before.1.1.1.1.1.1.1.1.1.1.1.1.1.0
    by before behind P6 = before.1.1.1.1.1.1.1.1.1.1.1.1.1.1.0
    by before behind P7 = before.1.1.1.1.1.1.1.1.1.1.1.1.1.1.1.0
    by before behind P8 = before.1.1.1.1.1.1.1.1.1.1.1.1.1.1.1.1.0
    by before behind P9 = before.1.1.1.1.1.1.1.1.1.1.1.1.1.1.1.1.1.0
    by before behind P10 = before.1.1.1.1.1.1.1.1.1.1.1.1.1.1.1.1.1.1.0
    by before behind P11 = before.1.1.1.1.1.1.1.1.1.1.1.1.1.1.1.1.1.1.1.0
    by before behind P12 = before.1.1.1.1.1.1.1.1.1.1.1.1.1.1.1.1.1.1.1.1.0
    by before behind Q1 = behind.0
    by before behind Q2 = behind.1.0
    by before behind Q3 = behind.1.1.0
    by before behind Q4 = behind.1.1.1.0
    by before behind (File name) = refl

kept_after : (policy : PolicyData) (Keeps : List RecordData → Type 0) → ((history : List RecordData) (r : RecordData) → Keeps history → Follows policy (history, r) → Keeps (history ++ r ∷ []))
    → (earlier later : List RecordData) → Keeps earlier → AllByRecursion (Follows policy) (each_after earlier later) → Keeps (earlier ++ later)
kept_after policy Keeps step earlier [] kept h = subst Keeps (sym (append-nil earlier)) kept
kept_after policy Keeps step earlier (r ∷ later) kept h =
    subst Keeps (append_assoc earlier (r ∷ []) later) (kept_after policy Keeps step (earlier ++ r ∷ []) later (step earlier r kept h.0) h.1)

-- what each record that follows keeps holds of every legal history
pub legal_keeps : {policy : PolicyData} (Keeps : List RecordData → Type 0) → Keeps []
    → ((history : List RecordData) (r : RecordData) → Keeps history → Follows policy (history, r) → Keeps (history ++ r ∷ []))
    → {history : List RecordData} → IsLegal policy history → Keeps history
legal_keeps {policy} Keeps start step {history} legal = kept_after policy Keeps step [] history start legal.follows

-- granted where no rule of the written order forbids, and nowhere else
pub granted_where_none : (policy : PolicyData) (history : List RecordData) (a : Asked)
    → verdict policy history a ≡ Verdict.Granted ↔ list_any (applies (facts_now policy history a) a.request) (written_order (rules_now policy history a)) ≡ false
unfolding verdict
granted_where_none policy history a = (
  λ h. none_forbids (rules_now policy history a) (facts_now policy history a) a.request (found_nothing (first_forbidding (rules_now policy history a) (facts_now policy history a) a.request) h),
  λ h. ap verdict_by (none_named (rules_now policy history a) (facts_now policy history a) a.request h),
)

-- denied by the first rule that forbids, and by no other
pub denied_by_first : (policy : PolicyData) (history : List RecordData) (a : Asked) (name : RuleName)
    → verdict policy history a ≡ Verdict.Denied name ↔ IsFirstForbidding (rules_now policy history a) (facts_now policy history a) a.request name
unfolding verdict
denied_by_first policy history a name = (
  λ h. is_first_forbidding (rules_now policy history a) (facts_now policy history a) a.request name (found_that (first_forbidding (rules_now policy history a) (facts_now policy history a) a.request) name h),
  λ h. ap verdict_by (first_is_named (rules_now policy history a) (facts_now policy history a) a.request name h),
)

-- the record that a request leaves
pub left_by_request : (policy : PolicyData) (history : List RecordData) (a : Asked)
    → next policy history (Step.Asked a) ≡ Some (left (length history + 1) (moment_of history (Step.Asked a)) a (verdict policy history a))
left_by_request policy history a = next_in_parts policy history a _ _ _ refl refl refl

-- and its verdict
pub verdict_of_next : (policy : PolicyData) (history : List RecordData) (a : Asked) (r : RecordData) → next policy history (Step.Asked a) ≡ Some r → r.verdict ≡ verdict policy history a
verdict_of_next policy history a r e = ap (λ (x : RecordData). x.verdict) (sym (same_Some _ _ (sym (left_by_request policy history a) ∙ e)))
