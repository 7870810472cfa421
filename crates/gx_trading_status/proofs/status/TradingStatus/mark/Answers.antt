use Rattle.std.proofs.Common.{List, ◌∙◌, ap}
use Rattle.gx_trading_status.specs.{StatusData.{AccountKill, TradingStatusData, with_mark}, View.{kills_of, lines_of}}
use Rattle.gx_trading_status.proofs.Status_table.{kill_unknown, kill_written}
use Rattle.gx_trading_status.proofs.status.TradingStatus.mark.Goals as goal

-- no account has this name
pub returns-in_default : goal.returns-in_default
returns-in_default c =
    let inside = c.self.inside in
    let with_these : List AccountKill → TradingStatusData = λ kills. record { lifters = inside.lifters; lines = lines_of inside.lines.entries; kills = kills; closed = inside.closed; moment = inside.moment } in
    ap (λ kills. with_these (kills_of kills.entries)) c.get_mut.follows.holds-at-none
    ∙ ap with_these (kill_unknown inside.lifters c.args.account c.args.mark inside.kills.entries c.in_default.ensures.value)
    ∙ ap (with_mark c.args.account c.args.mark) c.self.view_is

-- the Kill is written in place
pub returns : goal.returns
returns c =
    let inside = c.self.inside in
    let with_these : List AccountKill → TradingStatusData = λ kills. record { lifters = inside.lifters; lines = lines_of inside.lines.entries; kills = kills; closed = inside.closed; moment = inside.moment } in
    ap (λ entries. with_these (kills_of entries)) (c.get_mut.follows.holds c.marked.result).0
    ∙ ap with_these (kill_written inside.lifters c.args.account c.args.mark _ c.marked.result inside.kills.entries c.in-Some.ensures.unique c.in-Some.ensures.value c.marked.ensures)
    ∙ ap (with_mark c.args.account c.args.mark) c.self.view_is
