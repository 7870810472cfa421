-- No row of a view names another's account.
use Rattle.std.specs.Prelude.{All, IsTrue, List}
use Rattle.gx_units.specs.declared.names.UserName.{UserName}
use Rattle.gx_policy.specs.declared.policy.PolicyData.{PolicyData}
use Rattle.gx_history.specs.declared.record.RecordData.{RecordData}
use Rattle.gx_overview.specs.declared.day.UserRow.{UserRow}
use Rattle.gx_board.specs.{declared.{accounts.AccountState.AccountState, uses.{GrossUse.GrossUse, NetUse.NetUse}, view.BoardView.BoardView}, Sight.{is_record_shown, is_shown, is_user_shown}, Views.IsView}

-- all that names an account names one that is the viewer's
pub record IsHis (policy : PolicyData) (records : List RecordData) (viewer : UserName) (v : BoardView) : Type 0 where
  pub accounts : All (λ (state : AccountState). IsTrue (is_shown policy records viewer state.account)) v.accounts.items
  pub gross : All (λ (seen : GrossUse). IsTrue (is_shown policy records viewer seen.row.account)) v.gross.items
  pub net : All (λ (seen : NetUse). IsTrue (is_shown policy records viewer seen.account)) v.net.items
  pub denials : All (λ (r : RecordData). IsTrue (is_record_shown policy records viewer r)) v.denials.items
  pub commands : All (λ (r : RecordData). IsTrue (is_record_shown policy records viewer r)) v.commands.items
  pub users : All (λ (row : UserRow). IsTrue (is_user_shown policy records viewer row.user)) v.users.items

abbrev pub ViewsAreHis : Type 0
ViewsAreHis = (policy : PolicyData) (records : List RecordData) (viewer : UserName) (v : BoardView) → IsView policy records viewer v → IsHis policy records viewer v
