use Rattle.gx_board.proofs.View_owner as belonging
use Rattle.gx_board.proofs.laws.views_are_his.Goals as goal

pub returns : goal.returns
returns c = belonging.views_are_his
