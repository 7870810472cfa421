-- The status of a round is 0 exactly where each account is killed at the end.
use Rattle.std.proofs.Common.{◌≡◌, ◌↔◌, ℕ, ◌==◌, Bool, true, false, not, ◌&&◌, ◌||◌, if◌then◌else◌, List, [], ◌∷◌, IsTrue, arith, refl, sym, subst}
use Rattle.std.specs.List.{list_any, list_all}
use Rattle.gx_operator.specs.{declared.{asked.ClientRequest.ClientRequest, kills.KillOutcome.KillOutcome}, Kills.{KillRoundData, kill_outcome, place_of, came_to, is_stopped, kills_status}}

one_more : (o : KillOutcome) (all unanswered denied : Bool) → all ≡ (not unanswered && not denied)
    → (is_stopped o && all) ≡ (not (place_of o == 3 || unanswered) && not (place_of o == 2 || denied))
one_more KillOutcome.Killed all n d before = before
one_more KillOutcome.KilledAlready all n d before = before
one_more KillOutcome.Denied all true d before = refl
one_more KillOutcome.Denied all false d before = refl
one_more KillOutcome.NotAnswered all n d before = refl

all_stopped : (round : KillRoundData) (kills : List ClientRequest)
    → list_all (λ kill. is_stopped (kill_outcome round kill)) kills
    ≡ (not (list_any (came_to KillOutcome.NotAnswered round) kills) && not (list_any (came_to KillOutcome.Denied round) kills))
all_stopped round [] = refl
all_stopped round (kill ∷ kills) = one_more (kill_outcome round kill) _ _ _ (all_stopped round kills)

abbrev status_by : Bool → Bool → ℕ
status_by unanswered denied = if unanswered then 7 else (if denied then 5 else 0)

status_zero : (n d : Bool) → (status_by n d ≡ 0) ↔ IsTrue (not n && not d)
status_zero true d = grind arith
status_zero false true = grind arith
status_zero false false = (λ e. refl, λ t. refl)

pub zero_where_stopped : (round : KillRoundData) (status : ℕ) → status ≡ kills_status round
    → (status ≡ 0) ↔ IsTrue (list_all (λ kill. is_stopped (kill_outcome round kill)) round.kills)
zero_where_stopped round status is =
    let unanswered : Bool = list_any (came_to KillOutcome.NotAnswered round) round.kills in
    let denied : Bool = list_any (came_to KillOutcome.Denied round) round.kills in
    subst (λ (b : Bool). (status ≡ 0) ↔ IsTrue b) (sym (all_stopped round round.kills))
    (subst (λ (n : ℕ). (n ≡ 0) ↔ IsTrue (not unanswered && not denied)) (sym is) (status_zero unanswered denied))
