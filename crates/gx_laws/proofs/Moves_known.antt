-- What is known of a record by what it does.
use Rattle.std.proofs.{Common.{◌≡◌, ℕ, Bool, List, [], ◌∷◌, ◌++◌, refl, ◌∙◌, ap, sym}, Math.Path.subst}
use Rattle.std.specs.{Prelude.{Option, Some, None}, Option.option_map_or}
use Rattle.gx_units.specs.declared.names.{AccountName.AccountName, Symbol.Symbol, UserName.UserName}
use Rattle.gx_desk.specs.declared.Command.{Command}
use Rattle.gx_policy.specs.{People.account_of, declared.{policy.PolicyData.PolicyData, rule_name.RuleName.RuleName}}
use Rattle.gx_history.specs.{declared.{live_order.LiveOrder.LiveOrder, moves.Move.Move, «record».{Asked.Asked, Fill.Fill, RecordData.RecordData, Request.Request, Step.Step, Verdict.Verdict}}, Live.{live, live_under, side}, LiveOrders.replacement_order, MayMove.MayMove, Requests.asked_of, Turns.{new_order, side_after, live_after}, World.{Does, World, move_asked, move_by, stepped_by, turn_in, turn_of, world}}
use Rattle.gx_laws.proofs.{LiveOrders_next.live_next, Moves_allowed.may_move, BookSides_next.side_next, World_next.world_next}

-- it may do so
pub may_do : {policy : PolicyData} {history : List RecordData} (r : RecordData) (m : Move) → Does policy history r m → MayMove policy (world policy history) r m
may_do {policy} {history} r m d = subst (MayMove policy (world policy history) r) d.moves (may_move policy history r.step r d.legal d.is_next)

-- the world after it
pub world_does : {policy : PolicyData} {history : List RecordData} (r : RecordData) (m : Move) → Does policy history r m → world policy (history ++ r ∷ []) ≡ stepped_by policy (world policy history) r m
world_does {policy} {history} r m d = world_next policy history r.step r d.legal d.is_next ∙ ap (stepped_by policy (world policy history) r) d.moves

-- what it does to the live orders
pub turn_does : {policy : PolicyData} {history : List RecordData} (r : RecordData) (m : Move) → Does policy history r m → turn_of policy (world policy history) r ≡ turn_in m
turn_does r m d = ap turn_in d.moves

pub live_does : {policy : PolicyData} {history : List RecordData} (r : RecordData) (m : Move) → Does policy history r m
    → live policy (history ++ r ∷ []) ≡ live_after (turn_in m) (live policy history)
live_does {policy} {history} r m d = live_next policy history r.step r d.legal d.is_next ∙ ap (λ (x : Move). live_after (turn_in x) (live policy history)) d.moves

pub side_does : {policy : PolicyData} {history : List RecordData} (r : RecordData) (m : Move) (stock : Symbol) (buy : Bool) → Does policy history r m
    → side policy (history ++ r ∷ []) stock buy ≡ side_after (turn_in m) (live policy history) stock buy (side policy history stock buy)
side_does {policy} {history} r m stock buy d =
    side_next policy history r.step r stock buy d.legal d.is_next ∙ ap (λ (x : Move). side_after (turn_in x) (live policy history) stock buy (side policy history stock buy)) d.moves

-- a verdict and a step that deny so
pub record IsDenied (v : Verdict) (s : Step) (a : Asked) (rule : RuleName) : Type 0 where
  pub denied : v ≡ Verdict.Denied rule
  pub asks : s ≡ Step.Asked a

-- a verdict and a step that grant the officer this command
pub record IsCommanded (v : Verdict) (s : Step) (officer : UserName) (c : Command) : Type 0 where
  pub asked : Asked
  pub granted : v ≡ Verdict.Granted
  pub asks : s ≡ Step.Asked asked
  pub commands : asked.request ≡ Request.Command c
  pub is_his : asked.user ≡ officer

-- what is known of the verdict and the step that do so
abbrev OfMove : Verdict → Step → Move → Type 0
OfMove v s (Move.Denies a rule) = IsDenied v s a rule
OfMove v s (Move.Commands officer c) = IsCommanded v s officer c
OfMove v s (Move.Fills f) = v ≡ Verdict.Filled f
OfMove v s (Move.Rests number) = v ≡ Verdict.Rested number
OfMove v s (Move.Expires number) = v ≡ Verdict.Expired number
OfMove v s other = Unit {0}

of_request : (policy : PolicyData) (w : World) (r : RecordData) (a : Asked) (q : Request) → a.request ≡ q → OfMove Verdict.Granted (Step.Asked a) (move_asked policy w r a q)
of_request policy w r a (Request.Login m) is = tt
of_request policy w r a Request.Logout is = tt
of_request policy w r a (Request.Unreadable m) is = tt
of_request policy w r a (Request.Enter m) is = at (account_of policy a.user)
  where
    at : (found : Option AccountName) → OfMove Verdict.Granted (Step.Asked a) (option_map_or (λ (account : AccountName). Move.Adds (new_order policy r a.user account m)) found Move.Nothing)
    at None = tt
    at (Some account) = tt
of_request policy w r a (Request.Replace m) is = at (live_under w.live a.user m.existing_token)
  where
    at : (found : Option LiveOrder) → OfMove Verdict.Granted (Step.Asked a) (option_map_or (λ (old : LiveOrder). Move.Replaces old (replacement_order r m old)) found Move.Nothing)
    at None = tt
    at (Some old) = tt
of_request policy w r a (Request.Cancel m) is = at (live_under w.live a.user m.token)
  where
    at : (found : Option LiveOrder) → OfMove Verdict.Granted (Step.Asked a) (option_map_or (λ (cut : LiveOrder). Move.Sizes cut m.shares) found Move.Nothing)
    at None = tt
    at (Some cut) = tt
of_request policy w r a (Request.Command c) is = record { asked = a; granted = refl; asks = refl; commands = is; is_his = refl }

of_verdict : (policy : PolicyData) (w : World) (r : RecordData) (v : Verdict) (s : Step) → OfMove v s (move_by policy w r v s)
of_verdict policy w r Verdict.Granted (Step.Asked a) = of_request policy w r a a.request refl
of_verdict policy w r Verdict.Granted (Step.Matching handed) = tt
of_verdict policy w r (Verdict.Denied rule) (Step.Asked a) = record { denied = refl; asks = refl }
of_verdict policy w r (Verdict.Denied rule) (Step.Matching handed) = tt
of_verdict policy w r (Verdict.Filled f) s = refl
of_verdict policy w r (Verdict.Rested number) s = refl
of_verdict policy w r (Verdict.Expired number) s = refl

known_of : {policy : PolicyData} {history : List RecordData} (r : RecordData) (m : Move) → Does policy history r m → OfMove r.verdict r.step m
known_of {policy} {history} r m d = subst (OfMove r.verdict r.step) d.moves (of_verdict policy (world policy history) r r.verdict r.step)

pub denial_does : {policy : PolicyData} {history : List RecordData} (r : RecordData) (a : Asked) (rule : RuleName) → Does policy history r (Move.Denies a rule) → IsDenied r.verdict r.step a rule
denial_does r a rule d = known_of r (Move.Denies a rule) d

pub command_does : {policy : PolicyData} {history : List RecordData} (r : RecordData) (officer : UserName) (c : Command) → Does policy history r (Move.Commands officer c) → IsCommanded r.verdict r.step officer c
command_does r officer c d = known_of r (Move.Commands officer c) d

pub fill_does : {policy : PolicyData} {history : List RecordData} (r : RecordData) (f : Fill) → Does policy history r (Move.Fills f) → r.verdict ≡ Verdict.Filled f
fill_does r f d = known_of r (Move.Fills f) d

pub expiry_does : {policy : PolicyData} {history : List RecordData} (r : RecordData) (number : ℕ) → Does policy history r (Move.Expires number) → r.verdict ≡ Verdict.Expired number
expiry_does r number d = known_of r (Move.Expires number) d

-- a step that is no request is a matching step
pub matches_at : (s : Step) → asked_of s ≡ None → (handed : ℕ) × (s ≡ Step.Matching handed)
matches_at (Step.Asked a) none = cc
matches_at (Step.Matching handed) none = (handed, refl)

-- a request is not matched, and a matching step does nothing else
abbrev pub IsAskedMove : Move → Type 0
IsAskedMove Move.Nothing = ⊥
IsAskedMove (Move.Fills f) = ⊥
IsAskedMove (Move.Rests number) = ⊥
IsAskedMove (Move.Expires number) = ⊥
IsAskedMove other = Unit {0}

abbrev pub IsMatchMove : Move → Type 0
IsMatchMove (Move.Fills f) = Unit {0}
IsMatchMove (Move.Rests number) = Unit {0}
IsMatchMove (Move.Expires number) = Unit {0}
IsMatchMove other = ⊥

is_asked : (a : Asked) (s : Step) → s ≡ Step.Asked a → asked_of s ≡ None → ⊥
is_asked a s asks none = let no : Some a ≡ None = sym (ap asked_of asks) ∙ none in cc

pub asked_does : {policy : PolicyData} {history : List RecordData} (r : RecordData) (a : Asked) (m : Move) → Does policy history r m → r.step ≡ Step.Asked a → IsAskedMove m
asked_does {policy} {history} r a m d asks = by m (may_do r m d)
  where
    by : (m : Move) → MayMove policy (world policy history) r m → IsAskedMove m
    by Move.Nothing may = may
    by (Move.Denies b rule) may = tt
    by (Move.PutsOn user line) may = tt
    by (Move.Adds new) may = tt
    by (Move.Sizes cut size) may = tt
    by (Move.Replaces old new) may = tt
    by (Move.Commands officer c) may = tt
    by (Move.Fills f) may = is_asked a r.step asks may.is_match
    by (Move.Rests number) may = is_asked a r.step asks may.is_match
    by (Move.Expires number) may = is_asked a r.step asks may.is_match

pub match_does : {policy : PolicyData} {history : List RecordData} (r : RecordData) (m : Move) → Does policy history r m → asked_of r.step ≡ None → IsMatchMove m
match_does {policy} {history} r m d none =
    subst IsMatchMove d.moves
    (subst (λ (s : Step). IsMatchMove (move_by policy (world policy history) r r.verdict s)) (sym s.1)
    (by r.verdict (subst (λ (x : Step). MayMove policy (world policy history) r (move_by policy (world policy history) r r.verdict x)) s.1 (may_move policy history r.step r d.legal d.is_next))))
  where
    s : (handed : ℕ) × (r.step ≡ Step.Matching handed)
    s = matches_at r.step none

    by : (v : Verdict) → MayMove policy (world policy history) r (move_by policy (world policy history) r v (Step.Matching s.0)) → IsMatchMove (move_by policy (world policy history) r v (Step.Matching s.0))
    by Verdict.Granted never = never
    by (Verdict.Denied rule) never = never
    by (Verdict.Filled f) may = tt
    by (Verdict.Rested number) may = tt
    by (Verdict.Expired number) may = tt
