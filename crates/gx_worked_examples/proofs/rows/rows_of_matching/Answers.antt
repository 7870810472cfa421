use Rattle.gx_worked_examples.proofs.Matches_computed.{settling_takes_all_that_wait, the_best_price_comes_first, an_immediate_order_takes_what_there_is, a_cut_order_keeps_its_place}
use Rattle.gx_worked_examples.proofs.rows.rows_of_matching.Goals as goal

pub returns : goal.returns
returns c = record {
  settling_takes_all_that_wait = settling_takes_all_that_wait;
  the_best_price_comes_first = the_best_price_comes_first;
  an_immediate_order_takes_what_there_is = an_immediate_order_takes_what_there_is;
  a_cut_order_keeps_its_place = a_cut_order_keeps_its_place;
}
