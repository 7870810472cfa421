-- What is found among orders once one more is there.
use Rattle.std.proofs.{Common.{◌≡◌, ℕ, Bool, true, false, List, [], ◌∷◌, ◌++◌, refl, ◌∙◌, ap, sym, cond}, lemmas.List.Folds.find-append}
use Rattle.std.specs.{Prelude.{Option, Some, None}, Option.option_or}
use Rattle.gx_history.specs.declared.live_order.UserToken.{UserToken}
use Rattle.gx_laws.proofs.Lists_next.{last_such_next}
use Rattle.gx_policy.specs.Lists.{where_true}
use Rattle.gx_show.specs.{declared.known_order.KnownOrder.KnownOrder, Known.{has_known_number, is_known_under, known_numbered}, Tables.{AreFound, FindsNumber, FindsToken}}

found_alone : (number : ℕ) (o : KnownOrder) → known_numbered (o ∷ []) number ≡ where_true (has_known_number number o) o
found_alone number o = by (has_known_number number o)
  where
    by : (b : Bool) → cond b (Some o) None ≡ where_true b o
    by true = refl
    by false = refl

-- the tables find what is to be found among the orders and one more
pub found_next : (known : List KnownOrder) (o : KnownOrder) (by_number after_number : List (ℕ × KnownOrder)) (by_token after_token : List (UserToken × KnownOrder))
    → AreFound known by_number by_token → FindsNumber o by_number after_number → FindsToken o by_token after_token → AreFound (known ++ o ∷ []) after_number after_token
found_next known o by_number after_number by_token after_token found numbers tokens = record {
  numbers = λ number.
      numbers number
      ∙ ap (λ (before : Option KnownOrder). option_or before (where_true (has_known_number number o) o)) (found.numbers number)
      ∙ ap (option_or (known_numbered known number)) (sym (found_alone number o))
      ∙ sym (find-append (has_known_number number) known (o ∷ []));
  tokens = λ user token.
      tokens user token
      ∙ ap (cond (is_known_under user token o) (Some o)) (found.tokens user token)
      ∙ sym (last_such_next (is_known_under user token) known o);
}
