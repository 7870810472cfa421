use Rattle.std.proofs.Common.{◌∙◌, ◌++◌, List, ap}
use Rattle.gx_overview.specs.declared.commands.GrantedCommand.{GrantedCommand}
use Rattle.gx_board.proofs.Summary_next.{all_followed}
use Rattle.gx_board.proofs.summary.Summary.follow.Goals as goal

pub returns-clause-followed : goal.returns-clause-followed
returns-clause-followed c =
    all_followed c.args.more.now c.args.self.now _ c.count.new.self
    (λ policy records was. record { counts = was.counts; denied = was.denied; last_denied = was.last_denied; last_commands = was.last_commands })
    (c.in_ok-extend_from_slice.ensures.items ∙ ap (λ (added : List GrantedCommand). c.args.self.now.commands.items ++ added) (c.as_slice.ensures.value ∙ c.in_ok-granted.ensures.commands))
    c.count.ensures.counted c.count.ensures.commands_kept
