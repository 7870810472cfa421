use Rattle.std.proofs.Common.{◌++◌, ◌∷◌, []}
use Rattle.gx_history.specs.Streams.{reports_of}
use Rattle.gx_laws.proofs.Streams_next.{stream_next}
use Rattle.gx_streams.proofs.{EndedOrders_owed.{ended_are_counted, ended_are_owed}, Reports_told.{all_owed, all_told, first_told, more_told, nobody_told, none_owed, one_owed, one_told}}
use Rattle.gx_streams.proofs.laws.streams_go_on.Goals as goal

pub returns : goal.returns
returns c = record {
  none = first_told;
  next = λ policy history r. more_told policy history (history ++ r ∷ []) (λ user. reports_of policy user (history, r)) (stream_next policy history r);
  one = λ policy history r receiver owed h. one_told policy history (history ++ r ∷ []) r receiver owed (one_owed policy history r receiver owed h);
  all = λ policy history r owed h. all_told policy history (history ++ r ∷ []) r owed (all_owed policy history r owed h);
  nobody = λ policy history r h. nobody_told policy history (history ++ r ∷ []) (none_owed policy history r h);
  ended = ended_are_owed;
  counted = ended_are_counted;
}
