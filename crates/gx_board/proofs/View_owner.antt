-- Nothing of another's account is in a view.
use Rattle.std.proofs.{Common.{◌≡◌, Bool, true, false, List, [], ◌∷◌, map, refl, sym, subst, if◌then◌else◌}, lemmas.{Bool.and_parts, List.Elements.{All-append, All-cons, All-map, All-nil, All-weaker}}}
use Rattle.std.specs.Prelude.{All, IsTrue, filter, flat_map, is_some}
use Rattle.gx_units.specs.declared.names.{AccountName.AccountName, RuleId.RuleId, UserName.UserName}
use Rattle.gx_policy.specs.{Kinds.{is_gross, is_net}, declared.policy.{Account.Account, FileRule.FileRule, PolicyData.PolicyData}}
use Rattle.gx_history.specs.declared.record.RecordData.{RecordData}
use Rattle.gx_overview.specs.{Rules.{gross_row, net_row}, declared.{day.UserRow.UserRow, rules.{GrossRow.GrossRow, NetRow.NetRow}}}
use Rattle.circular_buffer.specs.Buffer.{keep_last}
use Rattle.gx_board.specs.{Accounts.account_state, Counting.{commands, denies}, Summaries.most_recent, declared.{accounts.AccountState.AccountState, uses.{GrossUse.GrossUse, NetUse.NetUse}, view.BoardView.BoardView}, Laws.{IsHis, ViewsAreHis}, Sight.{is_record_shown, is_shown, is_user_shown}, Views.{gross_use, gross_uses_of, is_gross_shown, is_net_used, IsView, net_use, net_uses_by, net_uses_in, net_uses_of}}

-- what a filter keeps passes its test
passing : {X : Type 0} (p : X → Bool) (xs : List X) → All (λ x. IsTrue (p x)) (filter p xs)
passing p [] = All-nil (λ x. IsTrue (p x))
passing p (x ∷ xs) = by_test (p x) refl (passing p xs)
  where
    by_test : (b : Bool) → p x ≡ b → All (λ y. IsTrue (p y)) (filter p xs) → All (λ y. IsTrue (p y)) (if b then x ∷ filter p xs else filter p xs)
    by_test true is later = All-cons (λ y. IsTrue (p y)) x (filter p xs) is later
    by_test false is later = later

-- of all that each item gives
all_given : {X Y : Type 0} (P : Y → Type 0) (f : X → List Y) → ((x : X) → All P (f x)) → (xs : List X) → All P (flat_map f xs)
all_given P f each [] = All-nil P
all_given P f each (x ∷ xs) = All-append P (f x) (flat_map f xs) (each x) (all_given P f each xs)

-- or gives nothing
all_where : {Y : Type 0} (P : Y → Type 0) (b : Bool) (ys : List Y) → All P ys → All P (if b then ys else [])
all_where P true ys all = all
all_where P false ys all = All-nil P

-- where all of them pass the test that was made
all_tested : {Y : Type 0} (P : Y → Type 0) (b : Bool) (ys : List Y) → (b ≡ true → All P ys) → All P (if b then ys else [])
all_tested P true ys all = all refl
all_tested P false ys all = All-nil P

module _ (policy : PolicyData) (records : List RecordData) (viewer : UserName) where
  AccountIsHis : AccountState → Type 0
  AccountIsHis state = IsTrue (is_shown policy records viewer state.account)

  GrossIsHis : GrossUse → Type 0
  GrossIsHis seen = IsTrue (is_shown policy records viewer seen.row.account)

  NetIsHis : NetUse → Type 0
  NetIsHis seen = IsTrue (is_shown policy records viewer seen.account)

  gross_of_rule : (rule : FileRule) → All GrossIsHis (gross_uses_of policy records viewer rule)
  unfolding GrossIsHis
  gross_of_rule rule =
      let rows = map (gross_row policy records rule.name) policy.accounts in
      let shown = All-weaker (λ row. IsTrue (is_gross_shown policy records viewer row)) (λ (row : GrossRow). IsTrue (is_shown policy records viewer row.account))
      (λ row passes. (and_parts (is_some row.used) (is_shown policy records viewer row.account) passes).1) (filter (is_gross_shown policy records viewer) rows) (passing (is_gross_shown policy records viewer) rows) in
      all_where GrossIsHis (is_gross rule.kind) _ (All-map GrossIsHis (gross_use rule.name) _ shown)

  all_of_account : (rule : RuleId) (account : AccountName) → is_shown policy records viewer account ≡ true → (rows : List NetRow) → All NetIsHis (map (net_use rule account) rows)
  unfolding NetIsHis
  all_of_account rule account is [] = All-nil NetIsHis
  all_of_account rule account is (row ∷ rows) = All-cons NetIsHis (net_use rule account row) _ is (all_of_account rule account is rows)

  net_of_account : (rule : FileRule) (a : Account) → All NetIsHis (net_uses_in policy records viewer rule a)
  net_of_account rule a =
      all_tested NetIsHis (is_shown policy records viewer a.name) (net_uses_by policy records rule.name a.name)
      (λ is. all_of_account rule.name a.name is (filter is_net_used (map (net_row policy records rule.name a.name) policy.stocks)))

  net_of_rule : (rule : FileRule) → All NetIsHis (net_uses_of policy records viewer rule)
  net_of_rule rule = all_where NetIsHis (is_net rule.kind) _ (all_given NetIsHis (net_uses_in policy records viewer rule) (net_of_account rule) policy.accounts)

  -- a view has only such
  is_his : (v : BoardView) → IsView policy records viewer v → IsHis policy records viewer v
  unfolding AccountIsHis GrossIsHis NetIsHis
  is_his v view = record {
    accounts = subst (All AccountIsHis) (sym view.accounts) (All-map AccountIsHis (account_state policy records) _ (passing (λ (a : Account). is_shown policy records viewer a.name) policy.accounts));
    gross = subst (All GrossIsHis) (sym view.gross) (all_given GrossIsHis (gross_uses_of policy records viewer) gross_of_rule policy.rules);
    net = subst (All NetIsHis) (sym view.net) (all_given NetIsHis (net_uses_of policy records viewer) net_of_rule policy.rules);
    denials = subst (All (λ (r : RecordData). IsTrue (is_record_shown policy records viewer r))) (sym view.denials) (passing (is_record_shown policy records viewer) (keep_last most_recent (filter denies records)));
    commands = subst (All (λ (r : RecordData). IsTrue (is_record_shown policy records viewer r))) (sym view.commands) (passing (is_record_shown policy records viewer) (keep_last most_recent (filter commands records)));
    users = subst (All (λ (row : UserRow). IsTrue (is_user_shown policy records viewer row.user))) (sym view.users) (passing (λ (row : UserRow). is_user_shown policy records viewer row.user) _);
  }

pub views_are_his : ViewsAreHis
views_are_his policy records viewer v view = is_his policy records viewer v view
