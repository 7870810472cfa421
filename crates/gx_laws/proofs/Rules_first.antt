-- The first rule of the written order that forbids.
use Rattle.std.proofs.{Common.{◌≡◌, Bool, true, false, List, [], ◌∷◌, ◌++◌, refl, ◌∙◌, ap, sym, cond}, lemmas.Option.same_Some}
use Rattle.std.specs.{Prelude.{Option, Some, None, option_map, find, ◌||◌}, List.list_any}
use Rattle.gx_units.proofs.Lists_found.{none_such, nothing_such}
use Rattle.gx_history.specs.{declared.{«record».Request.Request, facts.{Facts.Facts, RuleFigures.RuleFigures}}, Rules.{name_of, applies, first_forbidding, written_order, Rule, IsFirstForbidding}}
use Rattle.gx_policy.specs.declared.{rule_name.RuleName.RuleName, policy.FileRule.FileRule}

-- x passes the test, and none before it does
abbrev pub IsFirstSuch : {X : Type 0} → (X → Bool) → List X → X → Type 0
IsFirstSuch {X} p xs x = (before : List X) × (after : List X) × (xs ≡ before ++ x ∷ after) × (p x ≡ true) × (list_any p before ≡ false)

first_such_at : {X : Type 0} (p : X → Bool) (y : X) (xs : List X) (x : X) → (find p xs ≡ Some x → IsFirstSuch p xs x)
    → (b : Bool) → p y ≡ b → cond b (Some y) (find p xs) ≡ Some x → IsFirstSuch p (y ∷ xs) x
first_such_at p y xs x deeper true e h =
    let same : y ≡ x = cc in
    ([], xs, ap (λ z. z ∷ xs) same, ap p (sym same) ∙ e, refl)
first_such_at p y xs x deeper false e h =
    let rest : IsFirstSuch p xs x = deeper h in
    (y ∷ rest.0, rest.1, ap (λ zs. y ∷ zs) rest.2, rest.3, ap (λ b. b || list_any p rest.0) e ∙ rest.4)

-- what was found stands first
pub first_such : {X : Type 0} (p : X → Bool) (xs : List X) (x : X) → find p xs ≡ Some x → IsFirstSuch p xs x
first_such p [] x h = cc
first_such p (y ∷ xs) x h = first_such_at p y xs x (first_such p xs x) (p y) refl h

-- the first rule that forbids is what the code's word gives
pub is_first_forbidding : (rules : List (FileRule × RuleFigures)) (given : Facts) (q : Request) (name : RuleName)
    → first_forbidding rules given q ≡ Some name → IsFirstForbidding rules given q name
unfolding first_forbidding
is_first_forbidding rules given q name h =
    of_found (find (applies given q) (written_order rules)) refl h
  where
    of_found : (found : Option Rule) → find (applies given q) (written_order rules) ≡ found → option_map name_of found ≡ Some name → IsFirstForbidding rules given q name
    of_found None e k = cc
    of_found (Some rule) e k =
        let such : IsFirstSuch (applies given q) (written_order rules) rule = first_such (applies given q) (written_order rules) rule e in
        record {
          before = such.0;
          rule = rule;
          after = such.1;
          stands = such.2;
          is_named = same_Some _ _ k;
          does_forbid = such.3;
          is_first = such.4;
        }

-- where no rule is named, none of the written order forbids
pub none_forbids : (rules : List (FileRule × RuleFigures)) (given : Facts) (q : Request)
    → first_forbidding rules given q ≡ None → list_any (applies given q) (written_order rules) ≡ false
unfolding first_forbidding
none_forbids rules given q h = none_such (applies given q) (written_order rules) (nothing_found (find (applies given q) (written_order rules)) h)
  where
    nothing_found : (found : Option Rule) → option_map name_of found ≡ None → found ≡ None
    nothing_found None k = refl
    nothing_found (Some rule) k = cc

pub none_among : {X : Type 0} (p : X → Bool) (before : List X) (x : X) (after : List X) → list_any p (before ++ x ∷ after) ≡ false → p x ≡ false
none_among p [] x after h = at (p x) h
  where
    at : (b : Bool) → (b || list_any p after) ≡ false → b ≡ false
    at true k = k
    at false k = refl
none_among p (y ∷ before) x after h = none_among p before x after (at (p y) h)
  where
    at : (b : Bool) → (b || list_any p (before ++ x ∷ after)) ≡ false → list_any p (before ++ x ∷ after) ≡ false
    at true k = cc
    at false k = k

-- where none of the written order forbids, no rule is named
pub none_named : (rules : List (FileRule × RuleFigures)) (given : Facts) (q : Request)
    → list_any (applies given q) (written_order rules) ≡ false → first_forbidding rules given q ≡ None
unfolding first_forbidding
none_named rules given q h = ap (option_map name_of) (nothing_such (applies given q) (written_order rules) h)

found_behind : {X : Type 0} (p : X → Bool) (before : List X) (x : X) (after : List X) → p x ≡ true → list_any p before ≡ false → find p (before ++ x ∷ after) ≡ Some x
found_behind p [] x after h none = ap (λ b. cond b (Some x) (find p after)) h
found_behind p (y ∷ before) x after h none = at (p y) none (found_behind p before x after h)
  where
    at : (b : Bool) → (b || list_any p before) ≡ false → (list_any p before ≡ false → find p (before ++ x ∷ after) ≡ Some x) → cond b (Some y) (find p (before ++ x ∷ after)) ≡ Some x
    at true k deeper = cc
    at false k deeper = deeper k

-- the first rule that forbids is the one named
pub first_is_named : (rules : List (FileRule × RuleFigures)) (given : Facts) (q : Request) (name : RuleName)
    → IsFirstForbidding rules given q name → first_forbidding rules given q ≡ Some name
unfolding first_forbidding
first_is_named rules given q name h =
    ap (λ (rs : List Rule). option_map name_of (find (applies given q) rs)) h.stands
    ∙ ap (option_map name_of) (found_behind (applies given q) h.before h.rule h.after h.does_forbid h.is_first)
    ∙ ap (λ (n : RuleName). Some n) h.is_named
