use Rattle.gx_worked_examples.proofs.Orders_computed.{a_used_token_is_denied, cancels_lower_the_size, a_replace_loses_its_place, sizes_and_prices_are_checked, immediate_orders_expire, the_greatest_order_is_granted, prices_below_a_dollar_may_be_finer, logins_and_roles_are_checked}
use Rattle.gx_worked_examples.proofs.rows.rows_of_orders.Goals as goal

pub returns : goal.returns
returns c = record {
  a_used_token_is_denied = a_used_token_is_denied;
  cancels_lower_the_size = cancels_lower_the_size;
  a_replace_loses_its_place = a_replace_loses_its_place;
  sizes_and_prices_are_checked = sizes_and_prices_are_checked;
  immediate_orders_expire = immediate_orders_expire;
  the_greatest_order_is_granted = the_greatest_order_is_granted;
  prices_below_a_dollar_may_be_finer = prices_below_a_dollar_may_be_finer;
  logins_and_roles_are_checked = logins_and_roles_are_checked;
}
