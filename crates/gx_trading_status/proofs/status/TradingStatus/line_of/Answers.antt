use Rattle.std.proofs.Common.{◌∙◌, ap, sym, ℕ}
use Rattle.std.specs.Prelude.{Option, option_and_then}
use Rattle.gx_trading_status.specs.StatusData.{line_in}
use Rattle.gx_trading_status.proofs.Status_table.{line_found}
use Rattle.gx_trading_status.proofs.status.TradingStatus.line_of.Goals as goal

pub returns-in_err-get_near : goal.returns-in_err-get_near
returns-in_err-get_near c =
    c.from_residual.ensures
    ∙ ap (option_and_then (λ (line : Option ℕ). line)) c.in_err-get_near.ensures
    ∙ sym (line_found c.self.inside.lines.entries c.args.user)
    ∙ ap (λ day. line_in day c.args.user) c.self.view_is

pub returns : goal.returns
returns c =
    ap (option_and_then (λ (line : Option ℕ). line)) c.in_ok-get_near.ensures
    ∙ sym (line_found c.self.inside.lines.entries c.args.user)
    ∙ ap (λ day. line_in day c.args.user) c.self.view_is
