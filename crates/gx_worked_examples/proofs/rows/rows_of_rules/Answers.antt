use Rattle.gx_worked_examples.proofs.Rules_computed.{value_above_the_limit, the_file_order_decides, the_file_order_turned, a_collar_follows_the_last_fill, shares_count_together, a_position_is_net, incoming_orders_count, equal_orders_are_counted, windows_go_by_the_moments, a_restricted_stock_comes_first, a_restricted_stock_comes_last, an_order_may_be_too_big}
use Rattle.gx_worked_examples.proofs.rows.rows_of_rules.Goals as goal

pub returns : goal.returns
returns c = record {
  value_above_the_limit = value_above_the_limit;
  the_file_order_decides = the_file_order_decides;
  the_file_order_turned = the_file_order_turned;
  a_collar_follows_the_last_fill = a_collar_follows_the_last_fill;
  shares_count_together = shares_count_together;
  a_position_is_net = a_position_is_net;
  incoming_orders_count = incoming_orders_count;
  equal_orders_are_counted = equal_orders_are_counted;
  windows_go_by_the_moments = windows_go_by_the_moments;
  a_restricted_stock_comes_first = a_restricted_stock_comes_first;
  a_restricted_stock_comes_last = a_restricted_stock_comes_last;
  an_order_may_be_too_big = an_order_may_be_too_big;
}
