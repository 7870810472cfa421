-- Price-time order under filters.
use Rattle.std.proofs.{Common.{◌≡◌, Bool, true, false, not, List, ◌∷◌, ◌++◌, refl, ◌∙◌, ap, cond}, lemmas.List.Elements.filter-append}
use Rattle.std.specs.List.{filter}
use Rattle.gx_units.proofs.Lists_found.{filter_swap}
use Rattle.gx_policy.specs.Lists.{inserted_behind}

kept_or_not : {X : Type 0} (c : Bool) (o : X) (us bs cs ds : List X) → us ≡ cs → bs ≡ ds → us ++ cond c (o ∷ bs) bs ≡ cond c (cs ++ o ∷ ds) (us ++ bs)
kept_or_not {X} true o us bs cs ds e f = ap (λ (zs : List X). zs ++ o ∷ bs) e ∙ ap (λ (zs : List X). cs ++ o ∷ zs) f
kept_or_not false o us bs cs ds e f = refl

-- what passes the test is placed among those that pass
pub placed_filter : {X : Type 0} (better : X → X → Bool) (p : X → Bool) (xs : List X) (o : X) → filter p (inserted_behind better xs o) ≡ cond (p o) (inserted_behind better (filter p xs) o) (filter p (filter (λ x. not (better o x)) xs) ++ filter p (filter (better o) xs))
placed_filter better p xs o =
    filter-append p (filter (λ x. not (better o x)) xs) (o ∷ filter (better o) xs)
    ∙ kept_or_not (p o) o (filter p (filter (λ x. not (better o x)) xs)) (filter p (filter (better o) xs)) (filter (λ x. not (better o x)) (filter p xs)) (filter (better o) (filter p xs))
    (filter_swap p (λ x. not (better o x)) xs) (filter_swap p (better o) xs)
