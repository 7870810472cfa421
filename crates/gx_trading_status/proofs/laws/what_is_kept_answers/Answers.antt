use Rattle.gx_trading_status.proofs.Status_answers.{ends_are_kept, kills_are_kept, lines_are_kept, moments_are_kept}
use Rattle.gx_trading_status.proofs.laws.what_is_kept_answers.Goals as goal

pub returns : goal.returns
returns c = record { lines = lines_are_kept; kills = kills_are_kept; end = ends_are_kept; moment = moments_are_kept }
