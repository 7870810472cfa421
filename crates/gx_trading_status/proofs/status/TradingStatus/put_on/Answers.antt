use Rattle.std.proofs.Common.{List, ◌∙◌, ap}
use Rattle.gx_trading_status.specs.{StatusData.{TradingStatusData, UserLine, with_user_line}, View.{kills_of, lines_of}}
use Rattle.gx_trading_status.proofs.Status_table.{line_unknown, line_written}
use Rattle.gx_trading_status.proofs.status.TradingStatus.put_on.Goals as goal

-- nobody has this name
pub returns-in_default : goal.returns-in_default
returns-in_default c =
    let inside = c.self.inside in
    let with_these : List UserLine → TradingStatusData = λ lines. record { lifters = inside.lifters; lines = lines; kills = kills_of inside.kills.entries; closed = inside.closed; moment = inside.moment } in
    ap (λ lines. with_these (lines_of lines.entries)) c.get_mut.follows.holds-at-none
    ∙ ap with_these (line_unknown c.args.user c.args.line inside.lines.entries c.in_default.ensures.value)
    ∙ ap (with_user_line c.args.user c.args.line) c.self.view_is

-- the line is written in place
pub returns : goal.returns
returns c =
    let inside = c.self.inside in
    let with_these : List UserLine → TradingStatusData = λ lines. record { lifters = inside.lifters; lines = lines; kills = kills_of inside.kills.entries; closed = inside.closed; moment = inside.moment } in
    ap (λ entries. with_these (lines_of entries)) (c.get_mut.follows.holds c.args.line).0
    ∙ ap with_these (line_written c.args.user c.args.line inside.lines.entries c.in-Some.ensures.unique)
    ∙ ap (with_user_line c.args.user c.args.line) c.self.view_is
