use Rattle.std.proofs.Common.{◌∙◌, ap, sym}
use Rattle.std.specs.Prelude.{Option, option_and_then, option_map}
use Rattle.gx_trading_status.specs.{StatusData.kill_in, View.lifted_by, declared.status.Kill.Kill}
use Rattle.gx_trading_status.proofs.Status_table.{kill_found}
use Rattle.gx_trading_status.proofs.status.TradingStatus.kill_of.Goals as goal

pub returns-in_err-get_near : goal.returns-in_err-get_near
returns-in_err-get_near c =
    ap (option_map lifted_by) (c.from_residual.ensures ∙ ap (option_and_then (λ (kill : Option Kill). kill)) c.in_err-get_near.ensures)
    ∙ sym (kill_found c.self.inside.kills.entries c.args.account)
    ∙ ap (λ day. kill_in day c.args.account) c.self.view_is

pub returns : goal.returns
returns c =
    ap (λ (found : Option (Option Kill)). option_map lifted_by (option_and_then (λ (kill : Option Kill). kill) found)) c.in_ok-get_near.ensures
    ∙ sym (kill_found c.self.inside.kills.entries c.args.account)
    ∙ ap (λ day. kill_in day c.args.account) c.self.view_is
