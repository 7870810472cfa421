use Rattle.gx_laws.proofs.{Orders_listed.orders_are_listed, Orders_numbered.numbers_are_within, Orders_owned.orders_are_their_users, Tokens_differ.{orders_are_grants, tokens_differ}}
use Rattle.gx_laws.proofs.history.orders_are_granted_requests.Goals as goal

pub returns : goal.returns
returns c = record { grants = orders_are_grants; numbers = numbers_are_within; tokens = tokens_differ; accounts = orders_are_their_users; stocks = orders_are_listed }
