-- What one more record changes.
use Rattle.std.proofs.Common.{◌≡◌, Bool, List, [], ◌∷◌, ◌++◌, map, refl, ◌∙◌, ap, cond, ℕ}
use Rattle.std.specs.Prelude.{Option, Some, None}
use Rattle.gx_units.specs.{Names.{same_account, same_user}, declared.names.{AccountName.AccountName, UserName.UserName}}
use Rattle.gx_units.proofs.{Names_equal.{same_user_flip, same_account_flip}, Lists_found.map_same}
use Rattle.gx_desk.specs.declared.{Action.Action, Command.Command}
use Rattle.gx_policy.specs.declared.policy.{Account.Account, Lifters.Lifters, PolicyData.PolicyData, User.User}
use Rattle.gx_history.specs.{declared.{moves.Move.{Move, TheVariants.{Nothing, Denies, PutsOn, Adds, Sizes, Replaces, Commands, Fills, Rests, Expires}}, «record».RecordData.RecordData}, InForce.{kill_in_force, line_of, kill_after}, World.{World, world, world_after_command, move_of, world_after_move}}
use Rattle.gx_laws.proofs.{Kills_next.kill_in_force_none, InForce_moved.{InForce, in_force_next}, InForce_next.{is_closed_none, last_moment_next, line_of_none}}
use Rattle.gx_trading_status.specs.{StatusData.{AccountKill, TradingStatusData, UserLine, at_moment, kill_entry_after, put_on}, InForce.{day_commanded, status_in_force, status_moved, fresh_status, kill_now, line_now, off_line, without_kill}, Laws.DaysGoOn}

-- two days are the same where their parts are
same_day : (lifters : Lifters) {lines lines' : List UserLine} {kills kills' : List AccountKill} {closed closed' : Bool} {moment moment' : ℕ} → lines ≡ lines' → kills ≡ kills' → closed ≡ closed' → moment ≡ moment'
    → let one : TradingStatusData = record { lifters = lifters; lines = lines; kills = kills; closed = closed; moment = moment } in
    let other : TradingStatusData = record { lifters = lifters; lines = lines'; kills = kills'; closed = closed'; moment = moment' } in
    one ≡ other
same_day lifters l k c m = λ i. record { lifters = lifters; lines = l i; kills = k i; closed = c i; moment = m i }

-- before any record
pub day_begins : (policy : PolicyData) → status_in_force policy [] ≡ fresh_status policy
unfolding status_in_force
day_begins policy =
    same_day policy.lifters
    (map_same (line_now []) off_line (λ (u : User). ap (λ (line : Option ℕ). let l : UserLine = record { user = u.name; line = line } in l) (line_of_none u.name)) policy.users)
    (map_same (kill_now policy []) without_kill (λ (a : Account). ap (λ (kill : Option (List UserName)). let k : AccountKill = record { account = a.name; kill = kill } in k) (kill_in_force_none policy a.name)) policy.accounts)
    is_closed_none
    refl

-- the day of a world, for each of the policy's users and accounts
abbrev line_at : World → User → UserLine
line_at w u = record { user = u.name; line = w.lines u.name }

abbrev kill_at : World → Account → AccountKill
kill_at w a = record { account = a.name; kill = w.kills a.name }

abbrev day_of : PolicyData → World → TradingStatusData
day_of policy w = record { lifters = policy.lifters; lines = map (line_at w) policy.users; kills = map (kill_at w) policy.accounts; closed = w.closed; moment = w.moment }

-- an entry is changed where its name is this one, whichever is asked for first
put_at : (w : World) (user : UserName) (line : Option ℕ) (users : List User)
    → map (λ (u : User). let l : UserLine = record { user = u.name; line = cond (same_user user u.name) line (w.lines u.name) } in l) users ≡ map (put_on user line) (map (line_at w) users)
put_at w user line [] = refl
put_at w user line (u ∷ users) = λ i. (record { user = u.name; line = cond (same_user_flip user u.name i) line (w.lines u.name) }) ∷ put_at w user line users i

marked_at : (policy : PolicyData) (w : World) (account : AccountName) (mark : Option UserName) (accounts : List Account)
    → map (λ (a : Account). let k : AccountKill = record { account = a.name; kill = cond (same_account account a.name) (kill_after policy.lifters (Some mark) (w.kills a.name)) (w.kills a.name) } in k) accounts
    ≡ map (kill_entry_after policy.lifters account mark) (map (kill_at w) accounts)
marked_at policy w account mark [] = refl
marked_at policy w account mark (a ∷ accounts) = λ i. (record { account = a.name; kill = cond (same_account_flip account a.name i) (kill_after policy.lifters (Some mark) (w.kills a.name)) (w.kills a.name) }) ∷ marked_at policy w account mark accounts i

-- what a move makes of the day
day_commanded_is : (policy : PolicyData) (r : RecordData) (officer : UserName) (c : Command) (w : World) (action : Action) → day_of policy (world_after_command policy r officer c action w) ≡ day_commanded officer action (day_of policy w)
day_commanded_is policy r officer c w (Action.Kill account) = λ i. record { lifters = policy.lifters; lines = map (line_at w) policy.users; kills = marked_at policy w account None policy.accounts i; closed = w.closed; moment = w.moment }
day_commanded_is policy r officer c w (Action.Lift account) = λ i. record { lifters = policy.lifters; lines = map (line_at w) policy.users; kills = marked_at policy w account (Some officer) policy.accounts i; closed = w.closed; moment = w.moment }
day_commanded_is policy r officer c w other = refl

day_moved_is : (policy : PolicyData) (r : RecordData) (m : Move) (w : World) → day_of policy (world_after_move policy r m w) ≡ status_moved m (day_of policy w)
day_moved_is policy r Nothing w = refl
day_moved_is policy r (Denies a rule) w = refl
day_moved_is policy r (PutsOn user line) w = λ i. record { lifters = policy.lifters; lines = put_at w user line policy.users i; kills = map (kill_at w) policy.accounts; closed = w.closed; moment = w.moment }
day_moved_is policy r (Adds new) w = refl
day_moved_is policy r (Sizes cut size) w = refl
day_moved_is policy r (Replaces old new) w = refl
day_moved_is policy r (Commands officer c) w = day_commanded_is policy r officer c w c.action
day_moved_is policy r (Fills f) w = refl
day_moved_is policy r (Rests number) w = refl
day_moved_is policy r (Expires number) w = refl

-- one more record: all that is in force is moved, and so the day
lines_are : (after : List RecordData) (then : World) (users : List User) → ((user : UserName) → line_of after user ≡ then.lines user) → map (line_now after) users ≡ map (line_at then) users
lines_are after then [] h = refl
lines_are after then (u ∷ users) h = λ i. (record { user = u.name; line = h u.name i }) ∷ lines_are after then users h i

kills_are : (policy : PolicyData) (after : List RecordData) (then : World) (accounts : List Account) → ((account : AccountName) → kill_in_force policy after account ≡ then.kills account) → map (kill_now policy after) accounts ≡ map (kill_at then) accounts
kills_are policy after then [] h = refl
kills_are policy after then (a ∷ accounts) h = λ i. (record { account = a.name; kill = h a.name i }) ∷ kills_are policy after then accounts h i

pub day_next : DaysGoOn
unfolding status_in_force
day_next policy history r =
    let w : World = world policy history in
    let then : World = world_after_move policy r (move_of policy w r) w in
    let f : InForce policy (history ++ r ∷ []) then = in_force_next policy history r in
    (λ i. record { lifters = policy.lifters; lines = lines_are (history ++ r ∷ []) then policy.users f.lines i; kills = kills_are policy (history ++ r ∷ []) then policy.accounts f.kills i; closed = f.closed i; moment = last_moment_next history r i })
    ∙ ap (at_moment r.moment) (day_moved_is policy r (move_of policy w r) w)
