use Rattle.gx_connection.proofs.Run_prefix.{text_is_front, records_are_first}
use Rattle.gx_connection.proofs.laws.faults_leave_a_front.Goals as goal

pub returns-clause-text : goal.returns-clause-text
returns-clause-text c = text_is_front

pub returns-clause-records : goal.returns-clause-records
returns-clause-records c = records_are_first
