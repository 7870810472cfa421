-- Which records grant a command.
use Rattle.std.proofs.Common.{◌≡◌, ℕ, zero, suc, ◌+◌, List, [], ◌∷◌, ◌++◌, take, refl, ap, ◌∙◌, arith}
use Rattle.std.specs.{Prelude.{Option, Some, None, is_some, option_and_then, option_map, option_to_list, slice_get, ◌&&◌}, List.{cons_option, filter_map}}
use Rattle.gx_units.specs.declared.names.UserName.{UserName}
use Rattle.gx_history.specs.{declared.record.{Asked.Asked, RecordData.RecordData, Request.Request, Step.Step, Verdict.Verdict}, Requests.{asked_of, kind_of}}
use Rattle.gx_overview.specs.Commands.{granted_command, is_grant, is_officers}

abbrev of_parts : (number moment : ℕ) → Step → Verdict → RecordData
of_parts number moment s v = record { number = number; moment = moment; step = s; verdict = v }

abbrev of_request : ℕ → UserName → ℕ → Request → Step
of_request line user handed q = Step.Asked (record { line = line; user = user; request = q; handed = handed })

by_request : (number moment line : ℕ) (user : UserName) (handed : ℕ) (q : Request)
    → is_some (granted_command (of_parts number moment (of_request line user handed q) Verdict.Granted)) ≡ is_officers (asked_of (of_request line user handed q))
by_request number moment line user handed (Request.Login m) = refl
by_request number moment line user handed Request.Logout = refl
by_request number moment line user handed (Request.Unreadable m) = refl
by_request number moment line user handed (Request.Enter m) = refl
by_request number moment line user handed (Request.Replace m) = refl
by_request number moment line user handed (Request.Cancel m) = refl
by_request number moment line user handed (Request.Command c) = refl

by_step : (number moment : ℕ) (s : Step) → is_some (granted_command (of_parts number moment s Verdict.Granted)) ≡ is_officers (asked_of s)
by_step number moment (Step.Asked a) = by_request number moment a.line a.user a.handed a.request
by_step number moment (Step.Matching handed) = refl

by_verdict : (number moment : ℕ) (s : Step) (v : Verdict) → is_some (granted_command (of_parts number moment s v)) ≡ (is_grant (Some (kind_of v)) && is_officers (asked_of s))
by_verdict number moment s Verdict.Granted = by_step number moment s
by_verdict number moment s (Verdict.Denied rule) = refl
by_verdict number moment s (Verdict.Filled f) = refl
by_verdict number moment s (Verdict.Rested order) = refl
by_verdict number moment s (Verdict.Expired order) = refl

-- a record grants a command where it is one that was granted
pub grants_where : (found : Option RecordData) → is_some (option_and_then granted_command found) ≡ (is_grant (option_map (λ (r : RecordData). kind_of r.verdict) found) && is_officers (option_and_then (λ (r : RecordData). asked_of r.step) found))
grants_where None = refl
grants_where (Some r) = by_verdict r.number r.moment r.step r.verdict

-- what is found in one more
pub one_more_found : {X Y : Type 0} (f : X → Option Y) (xs : List X) (i : ℕ) → filter_map f (take (i + 1) xs) ≡ filter_map f (take i xs) ++ option_to_list (option_and_then f (slice_get xs i))
one_more_found f [] zero = refl
one_more_found f [] (suc i) = ap (λ n. filter_map f (take n [])) (let e : suc i + 1 ≡ suc (i + 1) = grind arith in e)
one_more_found {X} {Y} f (x ∷ xs) zero = of_first (f x)
  where
    of_first : (found : Option Y) → cons_option found [] ≡ option_to_list found
    of_first None = refl
    of_first (Some y) = refl
one_more_found {X} {Y} f (x ∷ xs) (suc i) =
    ap (λ n. filter_map f (take n (x ∷ xs))) next ∙ behind _ _ _ (f x) (one_more_found f xs i)
  where
    next : suc i + 1 ≡ suc (i + 1)
    next = grind arith

    behind : (some more others : List Y) (found : Option Y) → some ≡ others ++ more → cons_option found some ≡ cons_option found others ++ more
    behind some more others None is = is
    behind some more others (Some y) is = ap (λ rest. y ∷ rest) is
