-- In a legal history each live order is for the account that its user trades for: an invariant of the world, by what each record does.
use Rattle.std.proofs.{Common.{List, [], ◌∙◌, ap, sym}, Math.Path.subst}
use Rattle.std.specs.{Prelude.{Some}, List.{AllByRecursion, filter_map}}
use Rattle.gx_units.specs.declared.names.{AccountName.AccountName, UserName.UserName}
use Rattle.gx_units.proofs.Lists_hold.{all_both, all_found_of}
use Rattle.gx_desk.specs.declared.{Action.Action, Command.Command}
use Rattle.gx_policy.specs.{declared.policy.PolicyData.PolicyData, People.account_of}
use Rattle.gx_history.specs.{declared.{«record».RecordData.RecordData, moves.Move.{Move, TheVariants.{Nothing, Denies, PutsOn, Adds, Sizes, Replaces, Commands, Fills, Rests, Expires}}}, Live.live, LiveOrders.is_under, MayMove.MayMove, Orders.orders, Turns.{Turn, becomes, new_in, live_after}, Verdicts.IsLegal, World.{World, world, world_after_command, move_of, world_after_move}}
use Rattle.gx_history.specs.Turns as turns
use Rattle.gx_laws.proofs.{Requests_judged.legal_keeps, Streams_next.{legal_next, legal_none}, Orders_owned.last_such_is, Moves_allowed.may_move, BookSides_next.becomes_same, World_next.world_next}
use Rattle.gx_laws.specs.EffectLaws.{IsOfItsTrader, LiveOrdersAreOfTheirTraders}

-- all live orders are
abbrev AreTheirs : PolicyData → World → Type 0
AreTheirs policy w = AllByRecursion (IsOfItsTrader policy) w.live

-- those that go on have the same users and accounts
goes_on : (policy : PolicyData) (w : World) (turn : Turn) → AreTheirs policy w → AllByRecursion (IsOfItsTrader policy) (new_in turn) → AllByRecursion (IsOfItsTrader policy) (live_after turn w.live)
goes_on policy w turn h new =
    all_both (IsOfItsTrader policy) (filter_map (becomes turn) w.live) (new_in turn)
    (all_found_of (IsOfItsTrader policy) (IsOfItsTrader policy) (becomes turn)
    (λ o x his e. let same = becomes_same turn o x e in ap (account_of policy) same.4 ∙ his ∙ ap (λ (account : AccountName). Some account) (sym same.3)) w.live h) new

by_command : (policy : PolicyData) (r : RecordData) (officer : UserName) (c : Command) (w : World) (action : Action) → AreTheirs policy w → AreTheirs policy (world_after_command policy r officer c action w)
by_command policy r officer c w (Action.Kill killed) h = goes_on policy w (turns.EndsAll (Action.Kill killed)) h tt
by_command policy r officer c w (Action.Lift lifts) h = h
by_command policy r officer c w (Action.SetLimit rule limit) h = h
by_command policy r officer c w (Action.Restrict rule stock) h = h
by_command policy r officer c w (Action.Unrestrict rule stock) h = h
by_command policy r officer c w (Action.Grant reader named) h = h
by_command policy r officer c w (Action.Revoke reader named) h = h
by_command policy r officer c w Action.CloseDay h = goes_on policy w (turns.EndsAll Action.CloseDay) h tt

by_move : (policy : PolicyData) (r : RecordData) (w : World) (m : Move) → MayMove policy w r m → AreTheirs policy w → AreTheirs policy (world_after_move policy r m w)
by_move policy r w Nothing may h = h
by_move policy r w (Denies a rule) may h = h
by_move policy r w (PutsOn user line) may h = h
by_move policy r w (Adds new) may h = goes_on policy w (turns.Adds new) h (may.is_his, tt)
by_move policy r w (Sizes cut size) may h = goes_on policy w (turns.Sizes cut.number size) h tt
by_move policy r w (Replaces old new) may h =
    goes_on policy w (turns.Replaces old.number new) h
    (ap (account_of policy) may.same_user ∙ last_such_is (IsOfItsTrader policy) (is_under old.user old.token) w.live old h may.is_named ∙ ap (λ (account : AccountName). Some account) (sym may.same_account), tt)
by_move policy r w (Commands officer c) may h = by_command policy r officer c w c.action h
by_move policy r w (Fills f) may h = goes_on policy w (turns.Fills f) h tt
by_move policy r w (Rests number) may h = goes_on policy w (turns.Rests number) h tt
by_move policy r w (Expires number) may h = goes_on policy w (turns.Ends number) h tt

none_live : (policy : PolicyData) → AreTheirs policy (world policy [])
unfolding live orders
none_live policy = tt

-- so it is in every legal history
pub live_orders_are_of_their_traders : LiveOrdersAreOfTheirTraders
live_orders_are_of_their_traders policy history legal =
    (legal_keeps (λ (h : List RecordData). IsLegal policy h × AreTheirs policy (world policy h)) (legal_none policy, none_live policy)
    (λ h r so_far follows. (
      legal_next r so_far.0 follows,
      subst (AreTheirs policy) (sym (world_next policy h r.step r so_far.0 follows.is_next))
          (by_move policy r (world policy h) (move_of policy (world policy h) r) (may_move policy h r.step r so_far.0 follows.is_next) so_far.1),
    )) legal).1
