-- The figures that a ledger gives are those of what it stands for.
use Rattle.gx_policy.specs.{declared.{kinds.{ExposureLimit.ExposureLimit}, policy.{Account.Account, Count.Count, FileRule.FileRule, PolicyData.PolicyData, RuleKind.RuleKind, Scope.Scope, Stock.Stock}}, People.{account_named, covers, stock_named}}
use Rattle.std.proofs.Common.{◌≡◌, ℕ, suc, ◌<◌, ◌^◌, pos, ◌-ℤ◌, arith, not, Bool, true, false, cond, ◌&&◌, List, [], ◌∷◌, map, refl, sym, ap, ◌∙◌, true≢false}
use Rattle.std.specs.{Prelude.{Option, Some, None, is_some, find, option_and_then, option_map, slice_get, unwrap_or}, Option.option_map_or, List.AllByRecursion, Map.lookup, Cmp.Lexicographic.nat_list_eq_equiv}
use Rattle.gx_units.specs.{Money.value, Names.{same_account, same_stock}, declared.names.{AccountName.AccountName, Symbol.Symbol}}
use Rattle.gx_ouch.specs.declared.outbound.OrderTerms.{OrderTerms}
use Rattle.gx_history.specs.{LiveOrders.shares_open, declared.{live_order.LiveOrder.LiveOrder, facts.{RuleFigures.RuleFigures, StockSide.StockSide}, «record».Request.Request}, Executions.Execution, Book.is_on, Figures.{Positions, counts_account, figures, kind_figures, net_done, no_figures, on_side, open_value, other_side, reference, side_asked, side_done, side_live, stock_asked}, Rules.{rules_with_figures, figured_from}, Verdicts.with_figures}
use Rattle.gx_laws.proofs.Sums_turn.{done_are, is_chosen, none_of, shares_of, sum_of_none}
use Rattle.gx_laws.specs.Sound.{AreSound, IsListed}
use Rattle.gx_ledger.specs.{declared.{group.Group.Group, figure_kind.FigureKind.FigureKind, sides.StockSums.StockSums, sums.Sums.Sums, tally.{Tally.Tally, FigureQuery.FigureQuery}}, Accounts.{account_names, account_place}, Keeping.{LedgerData, price_of, reference_for}, Running.{asked_as, capped_signed, net_of, no_sides, on_its_side, sides_at}, StandsFor.{GivesFigures, IsMadeIn, StandsFor, both_sides, group_of, members_of, side_sums_of, sides_of, tally_of, total_of}, Tallies.{asks_of, count_of, figures_of_group, net_sums_in, place_in, seat_for, seat_in, seats_for, tally_figures, tells_reference}, FiguresAsked.figures_at}
use Rattle.gx_ledger.proofs.{Grants_counted.{alike_is, recent_counted}, Tallies_changed.{map_twice, place-cons}, Totals_changed.done_fit}
use Rattle.gx_units.proofs.{Test_known.and_false, Names_equal.{same_account_flip, account_is, stock_is}, Lists_hold.all_weaker}

later_group : {X : Type 0} (y : X) (ys : List X) (place : Option ℕ) → option_and_then (slice_get (y ∷ ys)) (option_map suc place) ≡ option_and_then (slice_get ys) place
later_group y ys None = refl
later_group y ys (Some n) = refl

-- what stands at the place of a known account
found_at : {X : Type 0} (g : AccountName → X) (account : AccountName) (accounts : List Account) → is_some (find (λ (a : Account). same_account a.name account) accounts) ≡ true
    → option_and_then (slice_get (map g (account_names accounts))) (account_place (account_names accounts) account) ≡ Some (g account)
found_at g account [] known = absurd (true≢false (sym known))
found_at {X} g account (a ∷ accounts) known =
    ap (option_and_then (slice_get (g a.name ∷ map g (account_names accounts)))) (place-cons account a.name (account_names accounts))
    ∙ by (same_account account a.name) refl (found_at g account accounts)
  where
    by : (b : Bool) → same_account account a.name ≡ b
        → (is_some (find (λ (a : Account). same_account a.name account) accounts) ≡ true → option_and_then (slice_get (map g (account_names accounts))) (account_place (account_names accounts) account) ≡ Some (g account))
        → option_and_then (slice_get (g a.name ∷ map g (account_names accounts))) (cond b (Some 0) (option_map suc (account_place (account_names accounts) account))) ≡ Some (g account)
    by true h deeper = ap (λ name. Some (g name)) (sym (account_is account a.name h))
    by false h deeper =
        later_group (g a.name) (map g (account_names accounts)) (account_place (account_names accounts) account)
        ∙ deeper (ap (λ b. is_some (cond b (Some a) (find (λ (a : Account). same_account a.name account) accounts))) (sym (same_account_flip a.name account ∙ h)) ∙ known)

-- an account in scope alone
alone_in_scope : (scope : Scope) (account : AccountName) → covers scope account ≡ true → (other : AccountName) → (covers scope other && same_account account other) ≡ same_account account other
alone_in_scope scope account inside other = by (same_account account other) refl
  where
    by : (b : Bool) → same_account account other ≡ b → (covers scope other && b) ≡ b
    by true h = ap (λ b. b && true) (ap (covers scope) (sym (account_is account other h)) ∙ inside)
    by false h = and_false (covers scope other)

-- the group of a known account in scope
pub group_found : (policy : PolicyData) (held : Positions) (asked : FigureKind) (account : AccountName) (scope : Scope) (count : Count) → is_some (account_named policy account) ≡ true → covers scope account ≡ true
    → option_and_then (slice_get (map (λ (among : AccountName → Bool). group_of policy.stocks asked (total_of held among)) (members_of (Some count) scope (account_names policy.accounts))))
    (place_in (Some count) (account_place (account_names policy.accounts) account))
    ≡ Some (group_of policy.stocks asked (total_of held (counts_account count scope account)))
group_found policy held asked account scope Count.Together known inside = refl
group_found policy held asked account scope Count.Each known inside =
    ap (λ groups. option_and_then (slice_get groups) (account_place (account_names policy.accounts) account))
    (map_twice (λ (among : AccountName → Bool). group_of policy.stocks asked (total_of held among)) (λ (name : AccountName). λ other. covers scope other && same_account name other) (account_names policy.accounts))
    ∙ found_at (λ name. group_of policy.stocks asked (total_of held (λ other. covers scope other && same_account name other))) account policy.accounts known
    ∙ (λ i. Some (group_of policy.stocks asked (total_of held (λ other. alone_in_scope scope account inside other i))))

-- the value that is kept of a listed stock
value_kept : {V : Type 0} (value : Symbol → V) (stock : Symbol) (stocks : List Stock)
    → lookup (same_stock stock) (map (λ (s : Stock). (s.name, value s.name)) stocks) ≡ option_map (λ (s : Stock). value stock) (find (λ (s : Stock). same_stock s.name stock) stocks)
value_kept value stock [] = refl
value_kept value stock (s ∷ stocks) =
    ap (λ b. cond b (Some (value s.name)) (lookup (same_stock stock) (map (λ (s : Stock). (s.name, value s.name)) stocks))) (nat_list_eq_equiv.symm stock.bytes s.name.bytes)
    ∙ by (same_stock s.name stock) refl (value_kept value stock stocks)
  where
    by : (b : Bool) → same_stock s.name stock ≡ b
        → lookup (same_stock stock) (map (λ (s : Stock). (s.name, value s.name)) stocks) ≡ option_map (λ (s : Stock). value stock) (find (λ (s : Stock). same_stock s.name stock) stocks)
        → cond b (Some (value s.name)) (lookup (same_stock stock) (map (λ (s : Stock). (s.name, value s.name)) stocks))
        ≡ option_map (λ (s : Stock). value stock) (cond b (Some s) (find (λ (s : Stock). same_stock s.name stock) stocks))
    by true h deeper = ap (λ name. Some (value name)) (stock_is s.name stock h)
    by false h deeper = deeper

-- of any other stock there is none, as is right where the value of such a stock is this one
value_answers : {V : Type 0} (policy : PolicyData) (value : Symbol → V) (none : V) (stock : Symbol) → (is_some (stock_named policy stock) ≡ false → value stock ≡ none)
    → unwrap_or (lookup (same_stock stock) (map (λ (s : Stock). (s.name, value s.name)) policy.stocks)) none ≡ value stock
value_answers {V} policy value none stock other = ap (λ found. unwrap_or found none) (value_kept value stock policy.stocks) ∙ by (stock_named policy stock) refl
  where
    by : (found : Option Stock) → stock_named policy stock ≡ found → unwrap_or (option_map (λ (s : Stock). value stock) found) none ≡ value stock
    by None h = sym (other (ap is_some h))
    by (Some s) h = refl

module _ (policy : PolicyData) (held : Positions) (among : AccountName → Bool) (sound : AreSound policy held) (all_made : AllByRecursion (IsMadeIn policy) held.executions) where
  -- an order in a listed stock is in no other
  elsewhere : (side : StockSide) (account : AccountName) (terms : OrderTerms) → is_some (stock_named policy side.stock) ≡ false → is_some (stock_named policy terms.stock) ≡ true → on_side among side account terms ≡ false
  elsewhere side account terms other listed = by (among account) (same_stock terms.stock side.stock) refl (is_on side.buys terms.side)
    where
      by : (a b : Bool) → same_stock terms.stock side.stock ≡ b → (c : Bool) → (a && b && c) ≡ false
      by a true h c = absurd (true≢false (sym listed ∙ ap (λ name. is_some (stock_named policy name)) (stock_is terms.stock side.stock h) ∙ other))
      by true false h c = refl
      by false false h c = refl

  none_there : (stock : Symbol) (buys : Bool) → is_some (stock_named policy stock) ≡ false → side_sums_of held among stock buys ≡ record { live = 0; done = 0 }
  none_there stock buys other = λ i. record {
    live = none_of (shares_of (on_side among side)) held.live
        (all_weaker (IsListed policy) (λ (o : LiveOrder). is_chosen (on_side among side) o ≡ false) (λ o. elsewhere side o.account o.terms other) held.live sound.all_listed) i;
    done = (done_are held.executions (on_side among side)
        ∙ sum_of_none (λ (e : Execution). on_side among side e.order.account e.order.terms) (λ (e : Execution). e.fill.shares) held.executions
        (all_weaker (IsMadeIn policy) (λ (e : Execution). on_side among side e.order.account e.order.terms ≡ false) (λ e. elsewhere side e.order.account e.order.terms other) held.executions all_made)) i;
  }
    where
      side : StockSide
      side = record { stock = stock; buys = buys }

  abbrev kept_sides : List (Symbol × StockSums)
  kept_sides = sides_of (side_sums_of held among) policy.stocks

  sides_answer : (stock : Symbol) → sides_at kept_sides stock ≡ both_sides (side_sums_of held among) stock
  sides_answer stock =
      value_answers policy (both_sides (side_sums_of held among)) no_sides stock
      (λ other i. record { buys = none_there stock true other i; sells = none_there stock false other i })

  side_answers : (stock : Symbol) (buys : Bool) → on_its_side buys (sides_at kept_sides stock) ≡ side_sums_of held among stock buys
  side_answers stock buys = ap (on_its_side buys) (sides_answer stock) ∙ by buys
    where
      by : (b : Bool) → on_its_side b (both_sides (side_sums_of held among) stock) ≡ side_sums_of held among stock b
      by true = refl
      by false = refl

  -- the difference of sums that fit
  net_fits : (done other : ℕ) → done < 2 ^ 127 → other < 2 ^ 127 → net_of done other ≡ pos done -ℤ pos other
  net_fits done other few also = λ i. pos (uncapped done few i) -ℤ pos (uncapped other also i)
    where
      uncapped : (n : ℕ) → n < 2 ^ 127 → capped_signed n ≡ n
      uncapped n small = omega (arith, small)

  done_fits : (side : StockSide) → side_done held.executions among side < 2 ^ 127
  done_fits side = let most = done_fit held.executions (on_side among side) in let fit = sound.fit.done_shares in omega (arith, most, fit)

  -- what was executed on a side, less what was on the other
  pub net_answers : (side : Option StockSide) → option_map_or (λ (s : StockSide). (net_sums_in kept_sides s).done) side (pos 0) ≡ option_map_or (net_done held.executions among) side (pos 0)
  net_answers None = refl
  net_answers (Some side) =
      (λ i. net_of (side_answers side.stock side.buys i).done (side_answers side.stock (not side.buys) i).done)
      ∙ net_fits (side_done held.executions among side) (side_done held.executions among (other_side side)) (done_fits side) (done_fits (other_side side))

  -- what is open there
  pub live_answers : (side : Option StockSide) → option_map_or (λ (s : StockSide). (net_sums_in kept_sides s).live) side 0 ≡ option_map_or (side_live held.live among) side 0
  live_answers None = refl
  live_answers (Some side) = ap (λ (s : Sums). s.live) (side_answers side.stock side.buys)

-- for one request
module _ (policy : PolicyData) (held : Positions) (account : AccountName) (q : Request) (replaced : Option LiveOrder) (moment near : ℕ) (sound : AreSound policy held) (all_made : AllByRecursion (IsMadeIn policy) held.executions)
    (known : is_some (account_named policy account) ≡ true) where
  abbrev asking : FigureQuery
  asking = record {
    place = account_place (account_names policy.accounts) account;
    entered = asked_as q;
    replaced_shares = option_map_or shares_open replaced 0;
    replaced_value = option_map_or open_value replaced 0;
    side = side_asked q replaced;
    near = near;
    reference = option_map_or (reference policy held.executions) (stock_asked q replaced) 0;
    moment = moment;
  }

  module _ (scope : Scope) (inside : covers scope account ≡ true) where
    abbrev group : FigureKind → Option Count → Option Group
    group asked count =
        option_and_then (slice_get (map (λ (among : AccountName → Bool). group_of policy.stocks asked (total_of held among)) (members_of count scope (account_names policy.accounts)))) (seat_in count asking.place)

    abbrev theirs : Count → AccountName → Bool
    theirs count = counts_account count scope account

    -- what is told of a group that may be there, under a kind of rule
    abbrev told : RuleKind → Option Group → RuleFigures
    told kind g = record (option_map_or (figures_of_group asking) g no_figures) { reference = cond (tells_reference kind && is_some (seat_in (count_of kind) asking.place)) asking.reference 0 }

    kind_answers : (kind : RuleKind) → told kind (group (asks_of kind) (count_of kind)) ≡ kind_figures policy held theirs q replaced moment kind
    kind_answers (RuleKind.Listed kind stocks) = refl
    kind_answers (RuleKind.Plain kind) = refl
    kind_answers (RuleKind.Order kind limit) = refl
    kind_answers (RuleKind.Exposure ExposureLimit.GrossShares limit count) = ap (told (RuleKind.Exposure ExposureLimit.GrossShares limit count)) (group_found policy held FigureKind.Shares account scope count known inside)
    kind_answers (RuleKind.Exposure ExposureLimit.GrossValue limit count) = ap (told (RuleKind.Exposure ExposureLimit.GrossValue limit count)) (group_found policy held FigureKind.Value account scope count known inside)
    kind_answers (RuleKind.Exposure ExposureLimit.NetShares limit count) =
        ap (told (RuleKind.Exposure ExposureLimit.NetShares limit count)) (group_found policy held FigureKind.Sides account scope count known inside)
        ∙ (λ i. record no_figures {
          net_done = net_answers policy held (theirs count) sound all_made (side_asked q replaced) i;
          side_live = live_answers policy held (theirs count) sound all_made (side_asked q replaced) i;
          replaced_shares = option_map_or shares_open replaced 0;
        })
    kind_answers (RuleKind.Rate rate count) =
        ap (told (RuleKind.Rate rate count)) (group_found policy held (FigureKind.Recent rate) account scope count known inside)
        ∙ ap (λ n. record no_figures { recent = n }) (recent_counted rate.limit held.grants (theirs count) rate.window moment sound.never_fall)
    kind_answers (RuleKind.Repeat repeat count) =
        ap (told (RuleKind.Repeat repeat count)) (group_found policy held (FigureKind.Alike repeat) account scope count known inside)
        ∙ ap (λ n. record no_figures { equal_recent = n }) (alike_is repeat.span held.grants (theirs count) q)

  -- where the account's group stands
  seat_is : (scope : Scope) (count : Option Count)
      → option_and_then (λ p. unwrap_or (slice_get (seats_for scope count (account_names policy.accounts)) p) None) asking.place ≡ seat_for scope count account asking.place
  seat_is scope count =
      one asking.place
      ∙ ap (λ (found : Option (Option ℕ)). unwrap_or found None) (found_at (λ name. seat_for scope count name (account_place (account_names policy.accounts) name)) account policy.accounts known)
    where
      one : (o : Option ℕ) → option_and_then (λ p. unwrap_or (slice_get (seats_for scope count (account_names policy.accounts)) p) None) o
          ≡ unwrap_or (option_and_then (slice_get (seats_for scope count (account_names policy.accounts))) o) None
      one None = refl
      one (Some p) = refl

  none_told : (b : Bool) → cond (b && false) asking.reference 0 ≡ 0
  none_told true = refl
  none_told false = refl

  -- the figures of one rule
  rule_answers : (rule : FileRule) → tally_figures asking (tally_of policy.stocks (account_names policy.accounts) (total_of held) rule) ≡ figures policy held account q replaced moment rule
  unfolding figures
  rule_answers rule = ap told_at (seat_is rule.scope (count_of rule.kind)) ∙ by (covers rule.scope account) refl
    where
      told_at : Option ℕ → RuleFigures
      told_at seat = record (option_map_or (figures_of_group asking)
          (option_and_then (slice_get (map (λ (among : AccountName → Bool). group_of policy.stocks (asks_of rule.kind) (total_of held among)) (members_of (count_of rule.kind) rule.scope (account_names policy.accounts)))) seat) no_figures) {
            reference = cond (tells_reference rule.kind && is_some seat) asking.reference 0;
          }

      by : (b : Bool) → covers rule.scope account ≡ b → told_at (cond b (seat_in (count_of rule.kind) asking.place) None) ≡ cond b (kind_figures policy held (λ count. counts_account count rule.scope account) q replaced moment rule.kind) no_figures
      by true inside = kind_answers rule.scope inside rule.kind
      by false inside = ap (λ n. record no_figures { reference = n }) (none_told (tells_reference rule.kind))

price_answers : {policy : PolicyData} (k : LedgerData) (held : Positions) → StandsFor policy k held → (stock : Symbol) → price_of k.prices stock ≡ reference policy held.executions stock
price_answers {policy} k held stands stock = ap (λ prices. price_of prices stock) stands.prices ∙ value_answers policy (reference policy held.executions) 0 stock (stands.unlisted stock)

same_price : (f g : Symbol → ℕ) → ((stock : Symbol) → f stock ≡ g stock) → (o : Option Symbol) → option_map_or f o 0 ≡ option_map_or g o 0
same_price f g same None = refl
same_price f g same (Some stock) = same stock

-- from the second place on
shifted : (told : ℕ → RuleFigures) (place : ℕ) (rules : List FileRule) → figured_from told (suc place) rules ≡ figured_from (λ n. told (suc n)) place rules
shifted told place [] = refl
shifted told place (rule ∷ rules) = λ i. (rule, told (suc place)) ∷ shifted told (suc place) rules i

-- what is told by place is told by rule
told_by_rule : (f : Tally → RuleFigures) (t : FileRule → Tally) (g : FileRule → RuleFigures) → ((rule : FileRule) → f (t rule) ≡ g rule) → (rules : List FileRule)
    → rules_with_figures (λ place. option_map_or f (slice_get (map t rules) place) no_figures) rules ≡ with_figures g rules
told_by_rule f t g same [] = refl
told_by_rule f t g same (rule ∷ rules) =
    λ i. (rule, same rule i) ∷ (shifted (λ place. option_map_or f (slice_get (t rule ∷ map t rules) place) no_figures) 0 rules ∙ told_by_rule f t g same rules) i

-- the figures of all rules
pub figures_answer : (k : LedgerData) (account : AccountName) (q : Request) (replaced : Option LiveOrder) (moment near : ℕ)
    → GivesFigures k account q replaced moment (record {
      tallies = k.tallies;
      wanted = record {
        place = account_place k.accounts account;
        entered = asked_as q;
        replaced_shares = option_map_or shares_open replaced 0;
        replaced_value = option_map_or open_value replaced 0;
        side = side_asked q replaced;
        near = near;
        reference = reference_for k.prices q replaced;
        moment = moment;
      };
    })
figures_answer k account q replaced moment near policy held stands sound known =
    let names : List AccountName = account_names policy.accounts in
    let price : reference_for k.prices q replaced ≡ option_map_or (reference policy held.executions) (stock_asked q replaced) 0 =
    same_price (price_of k.prices) (reference policy held.executions) (price_answers k held stands) (stock_asked q replaced) in
    let tallies : k.tallies ≡ map (tally_of policy.stocks names (total_of held)) policy.rules = stands.tallies ∙ ap (λ accounts. map (tally_of policy.stocks accounts (total_of held)) policy.rules) stands.accounts in
    (λ i. rules_with_figures (figures_at (record {
      tallies = tallies i;
      wanted = record {
        place = account_place (stands.accounts i) account;
        entered = asked_as q;
        replaced_shares = option_map_or shares_open replaced 0;
        replaced_value = option_map_or open_value replaced 0;
        side = side_asked q replaced;
        near = near;
        reference = price i;
        moment = moment;
      };
    })) policy.rules)
    ∙ told_by_rule (tally_figures (asking policy held account q replaced moment near sound stands.all_made known)) (tally_of policy.stocks names (total_of held)) (figures policy held account q replaced moment)
    (rule_answers policy held account q replaced moment near sound stands.all_made known) policy.rules
