use Rattle.gx_report.proofs.making.see.Goals as goal

pub replay_watched-requires : goal.replay_watched-requires
replay_watched-requires g c = record {
  saw = ((c.in-Ok.ensures.commands, c.in-Ok.ensures.endings), (c.in-Ok.ensures.samples, c.in-Ok.ensures.peaks));
}
