-- A token that a denial uses was not used before.
use Rattle.std.proofs.{Common.{◌≡◌, ◌+◌, Bool, true, false, cond, List, [], ◌∷◌, ◌++◌, map, length, refl, ◌∙◌, sym, ap, subst, if◌then◌else◌}, lemmas.Option.same_Some}
use Rattle.std.specs.{Prelude.{Option, Some, None, option_map, drop}, List.{find, AllByRecursion}}
use Rattle.gx_units.specs.declared.names.Token.{Token}
use Rattle.gx_history.specs.{declared.{facts.{Facts.Facts, RuleFigures.RuleFigures}, «record».{Asked.Asked, RecordData.RecordData, Request.Request, Step.Step, Verdict.Verdict}}, Orders.is_token_used, Requests.new_token, Rules.{Rule, BuiltIn, OfFile, applies, first_forbidding, forbids, name_of, written_order}, Verdicts.{facts_now, moment_of, next, rules_now, verdict}}
use Rattle.gx_policy.specs.{declared.{policy.{FileRule.FileRule, PolicyData.PolicyData}, rule_name.RuleName.{RuleName, TheVariants.{L1, L2, L3, G1, G2, G3, I1}}}, RuleNames.{is_answered_rule, rules_before, rules_behind}}
use Rattle.gx_laws.proofs.{Requests_judged.{left_by_request, verdict_left, found_that}, Moves_allowed.token_fact}
use Rattle.gx_orders.specs.{LiveOrders.is_used, InForce.orders_in_force, Changes.denied_token}
use Rattle.gx_orders.proofs.UsedTokens_next.{used_is}

-- the record that the request leaves
abbrev pub left_now : PolicyData → List RecordData → Asked → RecordData
left_now policy history a =
    record { number = length history + 1; moment = moment_of history (Step.Asked a); step = Step.Asked a; verdict = verdict policy history a }

pub is_left : (policy : PolicyData) (history : List RecordData) (a : Asked) → next policy history (Step.Asked a) ≡ Some (left_now policy history a)
is_left policy history a = left_by_request policy history a

-- the first that passes is among the first ones, where one of them passes
found_early : {X : Type 0} (Q : X → Type 0) (p : X → Bool) (early : List X) (x : X) (rest : List X) (y : X) → AllByRecursion Q early → Q x → p x ≡ true → find p (early ++ x ∷ rest) ≡ Some y → Q y
found_early Q p [] x rest y early here passes found = subst Q (same_Some _ _ (sym (ap (λ (b : Bool). cond b (Some x) (find p rest)) passes) ∙ found)) here
found_early {X} Q p (z ∷ zs) x rest y early here passes found = at (p z) found (λ later. found_early Q p zs x rest y early.1 here passes later)
  where
    at : (b : Bool) → cond b (Some z) (find p (zs ++ x ∷ rest)) ≡ Some y → (find p (zs ++ x ∷ rest) ≡ Some y → Q y) → Q y
    at true is later = subst Q (same_Some _ _ is) early.0
    at false is later = later is

abbrev IsUnanswered : Rule → Type 0
IsUnanswered rule = is_answered_rule (name_of rule) ≡ false

-- a used token denies by a rule that is not answered
used_is_unanswered : (rules : List (FileRule × RuleFigures)) (given : Facts) (q : Request) (name : RuleName) → forbids I1 given q ≡ true → first_forbidding rules given q ≡ Some name → is_answered_rule name ≡ false
unfolding first_forbidding written_order rules_before
used_is_unanswered rules given q name used found = at (find (applies given q) (written_order rules)) refl found
  where
    at : (first : Option Rule) → find (applies given q) (written_order rules) ≡ first → option_map name_of first ≡ Some name → is_answered_rule name ≡ false
    at None e k = cc
    at (Some rule) e k =
        sym (ap is_answered_rule (same_Some _ _ k))
        ∙ found_early IsUnanswered (applies given q) (BuiltIn L1 ∷ BuiltIn L2 ∷ BuiltIn L3 ∷ BuiltIn G1 ∷ BuiltIn G2 ∷ BuiltIn G3 ∷ []) (BuiltIn I1)
        (map BuiltIn (drop 7 rules_before) ++ map OfFile rules ++ map BuiltIn rules_behind) rule (refl, (refl, (refl, (refl, (refl, (refl, tt)))))) refl used e

answered_is_new : (policy : PolicyData) (history : List RecordData) (a : Asked) (rule : RuleName) (token : Token) → verdict policy history a ≡ Verdict.Denied rule
    → is_answered_rule rule ≡ true → new_token a.request ≡ Some token → is_token_used history a.user token ≡ false
answered_is_new policy history a rule token denied answered under = at (is_token_used history a.user token) refl
  where
    at : (b : Bool) → is_token_used history a.user token ≡ b → b ≡ false
    at false k = refl
    at true k =
        let un : is_answered_rule rule ≡ false =
        used_is_unanswered (rules_now policy history a) (facts_now policy history a) a.request rule (token_fact policy history a token under ∙ k)
        (found_that (first_forbidding (rules_now policy history a) (facts_now policy history a) a.request) rule
        (verdict_left policy history a (left_now policy history a) (is_left policy history a) ∙ denied)) in
        cc

-- the token that a denial uses
pub denied_is_new : (policy : PolicyData) (history : List RecordData) (a : Asked) (rule : RuleName) (token : Token) → verdict policy history a ≡ Verdict.Denied rule → denied_token rule a.request ≡ Some token
    → is_used (orders_in_force policy history).used a.user token ≡ false
denied_is_new policy history a rule token denied uses = at (is_answered_rule rule) refl uses
  where
    at : (b : Bool) → is_answered_rule rule ≡ b → (if b then new_token a.request else None) ≡ Some token → is_used (orders_in_force policy history).used a.user token ≡ false
    at true e under = used_is policy history a.user token ∙ answered_is_new policy history a rule token denied e under
    at false e under = cc
