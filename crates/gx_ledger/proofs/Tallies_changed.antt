-- What a change makes of what counts, and so of all groups and rules.
use Rattle.std.proofs.{Common.{◌≡◌, ℕ, ◌+◌, ◌-◌, ◌≤◌, suc, Bool, true, false, cond, ◌&&◌, ◌||◌, not, List, [], ◌∷◌, ◌++◌, map, length, drop, refl, sym, ap, ◌∙◌, arith, ltb}, lemmas.{Bool.{Decides.nat_tests, lt-ltb, ltb-false, ltb-true, and_parts, not-true}, List.{length-append, length-drop, drop-drop, drop-append-le}}}
use Rattle.std.specs.{Prelude.{Option, Some, None, option_map}, List.{list_any, position_or_len}, Cmp.Lexicographic.nat_list_eq_equiv}
use Rattle.circular_buffer.specs.Buffer.{buffer}
use Rattle.gx_units.specs.{Money.value, Names.{same_account, same_stock}, declared.names.{AccountName.AccountName, Symbol.Symbol}}
use Rattle.gx_history.specs.{declared.live_order.LiveOrder.LiveOrder, Book.{is_buy, is_on}}
use Rattle.gx_policy.specs.{declared.policy.{Count.Count, FileRule.FileRule, PolicyData.PolicyData, Scope.Scope, Stock.Stock}, Lists.are_distinct, People.covers}
use Rattle.gx_ledger.specs.{Changes.Change, declared.{group.{RepeatKey.RepeatKey, Group.Group}, change.ChangeKind.ChangeKind, sides.StockSums.StockSums, sums.Sums.Sums, figure_kind.FigureKind.FigureKind}, Accounts.account_place, Keeping.{LedgerData, data_after, tallies_after}, Running.{changed_group, changed_sums, counted_singly, entered_as, noted_enters, noted_moments, noted_sides, with_latest}, StandsFor.{Total, group_of, members_of, ring, sides_of, tally_of}, Tallies.{asks_of, changed_in, count_of, place_in, seats_for, tally_after, tells_reference}}
use Rattle.gx_units.proofs.{Test_known.{and_false, left_false, right_false}, Names_equal.same_account_flip}

-- the change is of an order on this side of the stock
abbrev pub changes_side : Change → Symbol → Bool → Bool
changes_side change stock buys = same_stock change.order.terms.stock stock && is_on buys change.order.terms.side

-- what counts on each side of each stock, once an order of the accounts has changed
abbrev pub sides_after : Change → (Symbol → Bool → Sums) → Symbol → Bool → Sums
sides_after change sides stock buys = cond (changes_side change stock buys) (changed_sums counted_singly change.order change.kind (sides stock buys)) (sides stock buys)

-- the moments, once an order changed so
abbrev pub more_moments : ChangeKind → List ℕ → List ℕ
more_moments (ChangeKind.Accepted moment replacement) ms = ms ++ moment ∷ []
more_moments (ChangeKind.Left shares) ms = ms
more_moments (ChangeKind.Filled shares price) ms = ms

-- the Enters
abbrev pub more_enters : LiveOrder → ChangeKind → List RepeatKey → List RepeatKey
more_enters o (ChangeKind.Accepted moment replacement) es = cond replacement es (es ++ entered_as o ∷ [])
more_enters o (ChangeKind.Left shares) es = es
more_enters o (ChangeKind.Filled shares price) es = es

-- what counts of the accounts that a change is of
abbrev pub changed_total : Change → Total → Total
changed_total change t = record {
  shares = changed_sums counted_singly change.order change.kind t.shares;
  value = changed_sums value change.order change.kind t.value;
  moments = more_moments change.kind t.moments;
  enters = more_enters change.order change.kind t.enters;
  sides = sides_after change t.sides;
}

-- what counts of any accounts
abbrev pub Totals : Type 0
Totals = (AccountName → Bool) → Total

-- and what does after a change
abbrev pub totals_after : Change → Totals → Totals
totals_after change totals among = cond (among change.order.account) (changed_total change (totals among)) (totals among)

-- the ring of one more item
pub pushed_ring : {X : Type 0} (n : ℕ) (xs : List X) (x : X) → with_latest x (ring n xs) ≡ ring n (xs ++ x ∷ [])
pushed_ring n xs x =
    let past : ℕ = length xs - n in
    let fits : past ≤ length xs = omega arith in
    let front : drop past xs ++ x ∷ [] ≡ drop past (xs ++ x ∷ []) = sym (drop-append-le past xs (x ∷ []) fits) in
    let kept : length (drop past xs ++ x ∷ []) ≡ length (drop past xs) + 1 = length-append (drop past xs) (x ∷ []) in
    let few : length (drop past xs) ≡ length xs - past = length-drop past xs in
    let whole : length (xs ++ x ∷ []) ≡ length xs + 1 = length-append xs (x ∷ []) in
    let places : past + (length (drop past xs ++ x ∷ []) - n) ≡ length (xs ++ x ∷ []) - n = omega (arith, kept, few, whole) in
    ap (λ items. buffer items n)
    (ap (drop (length (drop past xs ++ x ∷ []) - n)) front
    ∙ drop-drop (length (drop past xs ++ x ∷ []) - n) past (xs ++ x ∷ [])
    ∙ ap (λ k. drop k (xs ++ x ∷ [])) places)

-- the sums of each stock follow
sides_changed : (change : Change) (sides : Symbol → Bool → Sums) (stocks : List Stock) → noted_sides change (sides_of sides stocks) ≡ sides_of (sides_after change sides) stocks
sides_changed change sides [] = refl
sides_changed change sides (s ∷ stocks) = λ i. (s.name, by (same_stock change.order.terms.stock s.name) (is_buy change.order.terms.side) i) ∷ sides_changed change sides stocks i
  where
    buys : Sums
    buys = sides s.name true

    sells : Sums
    sells = sides s.name false

    by : (b c : Bool)
        → cond {A = StockSums} b (cond c (record { buys = changed_sums counted_singly change.order change.kind buys; sells = sells }) (record { buys = buys; sells = changed_sums counted_singly change.order change.kind sells })) (record { buys = buys; sells = sells })
        ≡ record { buys = cond (b && c) (changed_sums counted_singly change.order change.kind buys) buys; sells = cond (b && not c) (changed_sums counted_singly change.order change.kind sells) sells }
    by true true = refl
    by true false = refl
    by false c = refl

-- a group follows what counts
pub group_changed : (stocks : List Stock) (change : Change) (asked : FigureKind) (t : Total) → changed_group change (group_of stocks asked t) ≡ group_of stocks asked (changed_total change t)
group_changed stocks change FigureKind.Shares t = refl
group_changed stocks change FigureKind.Value t = refl
group_changed stocks change FigureKind.Sides t = ap Group.Sides (sides_changed change t.sides stocks)
group_changed stocks change (FigureKind.Recent rate) t = ap (Group.Recent rate.window) (by change.kind)
  where
    by : (kind : ChangeKind) → noted_moments kind (ring rate.limit t.moments) ≡ ring rate.limit (more_moments kind t.moments)
    by (ChangeKind.Accepted moment replacement) = pushed_ring rate.limit t.moments moment
    by (ChangeKind.Left shares) = refl
    by (ChangeKind.Filled shares price) = refl
group_changed stocks change (FigureKind.Alike repeat) t = ap Group.Enters (by change.order change.kind)
  where
    entered : (o : LiveOrder) (b : Bool) → cond b (ring repeat.span t.enters) (with_latest (entered_as o) (ring repeat.span t.enters)) ≡ ring repeat.span (cond b t.enters (t.enters ++ entered_as o ∷ []))
    entered o true = refl
    entered o false = pushed_ring repeat.span t.enters (entered_as o)

    by : (o : LiveOrder) (kind : ChangeKind) → noted_enters o kind (ring repeat.span t.enters) ≡ ring repeat.span (more_enters o kind t.enters)
    by o (ChangeKind.Accepted moment replacement) = entered o replacement
    by o (ChangeKind.Left shares) = refl
    by o (ChangeKind.Filled shares price) = refl
group_changed stocks change FigureKind.Reference t = refl
group_changed stocks change FigureKind.Nothing t = refl

both_less : (m n : ℕ) → ltb (suc m) (suc n) ≡ ltb m n
both_less m n = by (ltb m n) refl
  where
    by : (b : Bool) → ltb m n ≡ b → ltb (suc m) (suc n) ≡ b
    by true h = let less = ltb-true m n h in lt-ltb (suc m) (suc n) (omega (arith, less))
    by false h = let most = ltb-false m n h in grind (arith, nat_tests)

-- the first place of one more name
pub place-cons : (x n : AccountName) (names : List AccountName) → account_place (n ∷ names) x ≡ cond (same_account x n) (Some 0) (option_map suc (account_place names x))
place-cons x n names =
    ap (λ m. cond (ltb (cond (not (same_account x n)) m 0) (suc (length names))) (Some (cond (not (same_account x n)) m 0)) None) one_more ∙ by (same_account x n)
  where
    one_more : 1 + position_or_len (same_account x) names ≡ suc (position_or_len (same_account x) names)
    one_more = omega arith

    later : (b : Bool) (place : ℕ) → cond b (Some (suc place)) None ≡ option_map suc (cond b (Some place) None)
    later true place = refl
    later false place = refl

    by : (b : Bool) → cond (ltb (cond (not b) (suc (position_or_len (same_account x) names)) 0) (suc (length names))) (Some (cond (not b) (suc (position_or_len (same_account x) names)) 0)) None
        ≡ cond b (Some 0) (option_map suc (account_place names x))
    by true = ap (λ b. cond b (Some 0) None) (lt-ltb 0 (suc (length names)) (omega arith))
    by false =
        ap (λ b. cond b (Some (suc (position_or_len (same_account x) names))) None) (both_less (position_or_len (same_account x) names) (length names))
        ∙ later (ltb (position_or_len (same_account x) names) (length names)) (position_or_len (same_account x) names)

-- the place of one more group
changed-cons : {X : Type 0} (place : Option ℕ) (f : X → X) (y : X) (ys : List X) → changed_in (option_map suc place) f (y ∷ ys) ≡ y ∷ changed_in place f ys
changed-cons None f y ys = refl
changed-cons (Some n) f y ys = refl

module _ (stocks : List Stock) (change : Change) (scope : Scope) (asked : FigureKind) (totals : Totals) where
  abbrev x : AccountName
  x = change.order.account

  abbrev member : AccountName → AccountName → Bool
  member name account = covers scope account && same_account name account

  abbrev before : AccountName → Group
  before name = group_of stocks asked (totals (member name))

  abbrev after : AccountName → Group
  after name = group_of stocks asked (totals_after change totals (member name))

  another : (name : AccountName) → same_account x name ≡ false → before name ≡ after name
  another name h = ap (λ b. group_of stocks asked (cond b (changed_total change (totals (member name))) (totals (member name)))) (sym (ap (λ b. covers scope x && b) (same_account_flip name x ∙ h) ∙ and_false (covers scope x)))

  itself : (name : AccountName) → covers scope x ≡ true → same_account x name ≡ true → changed_group change (before name) ≡ after name
  itself name inside h =
      group_changed stocks change asked (totals (member name))
      ∙ ap (λ b. group_of stocks asked (cond b (changed_total change (totals (member name))) (totals (member name)))) (sym ((λ i. inside i && (same_account_flip name x ∙ h) i)))

  others : (names : List AccountName) → list_any (same_account x) names ≡ false → map before names ≡ map after names
  others [] none = refl
  others (n ∷ names) none =
      λ i. another n (left_false (same_account x n) (list_any (same_account x) names) none) i ∷ others names (right_false (same_account x n) (list_any (same_account x) names) none) i

  same_others : (n : AccountName) (names : List AccountName) → same_account x n ≡ true → list_any (same_account x) names ≡ list_any (same_account n) names
  same_others n [] same = refl
  same_others n (m ∷ names) same = λ i. nat_list_eq_equiv.congr x.bytes n.bytes m.bytes same i || same_others n names same i

  -- one group for each account follows
  pub each_changed : (names : List AccountName) → are_distinct same_account names ≡ true → covers scope x ≡ true
      → changed_in (account_place names x) (changed_group change) (map before names) ≡ map after names
  each_changed [] distinct inside = refl
  each_changed (n ∷ names) distinct inside =
      ap (λ place. changed_in place (changed_group change) (before n ∷ map before names)) (place-cons x n names)
      ∙ by (same_account x n) refl (each_changed names (and_parts (not (list_any (same_account n) names)) (are_distinct same_account names) distinct).1 inside)
    where
      by : (b : Bool) → same_account x n ≡ b → changed_in (account_place names x) (changed_group change) (map before names) ≡ map after names
          → changed_in (cond b (Some 0) (option_map suc (account_place names x))) (changed_group change) (before n ∷ map before names) ≡ after n ∷ map after names
      by true h deeper = λ i. itself n inside h i ∷ others names (same_others n names h ∙ not-true _ (and_parts _ _ distinct).0) i
      by false h deeper = changed-cons (account_place names x) (changed_group change) (before n) (map before names) ∙ (λ i. another n h i ∷ deeper i)

-- groups of members that the change is not of
apart : (stocks : List Stock) (change : Change) (scope : Scope) (asked : FigureKind) (totals : Totals) (names : List AccountName) → covers scope change.order.account ≡ false
    → map (before stocks change scope asked totals) names ≡ map (after stocks change scope asked totals) names
apart stocks change scope asked totals [] outside = refl
apart stocks change scope asked totals (n ∷ names) outside =
    λ i. group_of stocks asked (cond (sym (ap (λ b. b && same_account n change.order.account) outside) i) (changed_total change (totals (member stocks change scope asked totals n))) (totals (member stocks change scope asked totals n)))
    ∷ apart stocks change scope asked totals names outside i

pub map_twice : {X Y Z : Type 0} (g : Y → Z) (f : X → Y) (xs : List X) → map g (map f xs) ≡ map (λ x. g (f x)) xs
map_twice g f [] = refl
map_twice g f (x ∷ xs) = ap (λ l. g (f x) ∷ l) (map_twice g f xs)

-- the groups of a rule follow
groups_changed : (stocks : List Stock) (change : Change) (totals : Totals) (names : List AccountName) (count : Option Count) (asked : FigureKind) (scope : Scope) → are_distinct same_account names ≡ true
    → cond (covers scope change.order.account)
    (changed_in (place_in count (account_place names change.order.account)) (changed_group change) (map (λ (among : AccountName → Bool). group_of stocks asked (totals among)) (members_of count scope names)))
    (map (λ (among : AccountName → Bool). group_of stocks asked (totals among)) (members_of count scope names))
    ≡ map (λ (among : AccountName → Bool). group_of stocks asked (totals_after change totals among)) (members_of count scope names)
groups_changed stocks change totals names None asked scope distinct = either (covers scope change.order.account)
  where
    either : (b : Bool) → cond {A = List Group} b [] [] ≡ []
    either true = refl
    either false = refl
groups_changed stocks change totals names (Some Count.Together) asked scope distinct = by (covers scope change.order.account)
  where
    by : (b : Bool) → cond b (changed_group change (group_of stocks asked (totals (covers scope))) ∷ []) (group_of stocks asked (totals (covers scope)) ∷ [])
        ≡ group_of stocks asked (cond b (changed_total change (totals (covers scope))) (totals (covers scope))) ∷ []
    by true = ap (λ g. g ∷ []) (group_changed stocks change asked (totals (covers scope)))
    by false = refl
groups_changed stocks change totals names (Some Count.Each) asked scope distinct =
    (λ i. cond (covers scope change.order.account) (changed_in (account_place names change.order.account) (changed_group change) (first i)) (first i))
    ∙ by (covers scope change.order.account) refl
    ∙ sym (map_twice (λ (among : AccountName → Bool). group_of stocks asked (totals_after change totals among)) (λ (name : AccountName). member stocks change scope asked totals name) names)
  where
    first : map (λ (among : AccountName → Bool). group_of stocks asked (totals among)) (members_of (Some Count.Each) scope names) ≡ map (before stocks change scope asked totals) names
    first = map_twice (λ (among : AccountName → Bool). group_of stocks asked (totals among)) (λ (name : AccountName). member stocks change scope asked totals name) names

    by : (b : Bool) → covers scope change.order.account ≡ b
        → cond b (changed_in (account_place names change.order.account) (changed_group change) (map (before stocks change scope asked totals) names)) (map (before stocks change scope asked totals) names)
        ≡ map (after stocks change scope asked totals) names
    by true h = each_changed stocks change scope asked totals names distinct h
    by false h = apart stocks change scope asked totals names h

-- a rule's tally follows
pub tally_changed : (stocks : List Stock) (change : Change) (totals : Totals) (names : List AccountName) → are_distinct same_account names ≡ true → (rule : FileRule)
    → tally_after change (account_place names change.order.account) (tally_of stocks names totals rule) ≡ tally_of stocks names (totals_after change totals) rule
tally_changed stocks change totals names distinct rule = λ i. record {
  scope = rule.scope;
  tells_reference = tells_reference rule.kind;
  count = count_of rule.kind;
  seats = seats_for rule.scope (count_of rule.kind) names;
  groups = groups_changed stocks change totals names (count_of rule.kind) (asks_of rule.kind) rule.scope distinct i;
}

-- all tallies follow
pub tallies_changed : (stocks : List Stock) (change : Change) (totals : Totals) (names : List AccountName) → are_distinct same_account names ≡ true → (rules : List FileRule)
    → tallies_after change (account_place names change.order.account) (map (tally_of stocks names totals) rules) ≡ map (tally_of stocks names (totals_after change totals)) rules
tallies_changed stocks change totals names distinct [] = refl
tallies_changed stocks change totals names distinct (rule ∷ rules) = λ i. tally_changed stocks change totals names distinct rule i ∷ tallies_changed stocks change totals names distinct rules i

-- what a ledger keeps follows
pub kept_follows : (policy : PolicyData) (k : LedgerData) (totals : Totals) (change : Change) → are_distinct same_account k.accounts ≡ true → k.tallies ≡ map (tally_of policy.stocks k.accounts totals) policy.rules
    → (data_after change k).tallies ≡ map (tally_of policy.stocks k.accounts (totals_after change totals)) policy.rules
kept_follows policy k totals change distinct is =
    ap (tallies_after change (account_place k.accounts change.order.account)) is ∙ tallies_changed policy.stocks change totals k.accounts distinct policy.rules
