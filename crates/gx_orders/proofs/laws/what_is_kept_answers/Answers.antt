use Rattle.gx_orders.proofs.{UsedTokens_next.used_is, Orders_stay.{accounts_are_theirs, none_at_first}}
use Rattle.gx_orders.proofs.laws.what_is_kept_answers.Goals as goal

pub returns : goal.returns
returns c = record { first = none_at_first; used = used_is; accounts = accounts_are_theirs }
