use Rattle.std.proofs.Common.{List, codes, subst}
use Rattle.gx_policy.specs.declared.policy.{Account.Account, Stock.Stock, User.User, FileRule.FileRule, Lifters.Lifters}
use Rattle.gx_units.specs.declared.names.SessionName.{SessionName}
use Rattle.gx_digest.specs.{Hashing.TakesIn, PolicyText.{policy_text, lifters_text, list_text, account_text, stock_text, user_text, rule_text}}
use Rattle.gx_digest.proofs.Digest_next.{seven}
use Rattle.gx_digest.proofs.digest.put_policy.Goals as goal

pub returns : goal.returns
unfolding policy_text
returns c =
    let p = c.args.policy.now in
    let h0 = c.args.hasher.now in
    let h1 = c.put.new.hasher in
    let h2 = c.put-2.new.hasher in
    let h3 = c.put_lifters.new.hasher in
    let h4 = c.write_list.new.hasher in
    let h5 = c.write_list-2.new.hasher in
    let h6 = c.write_list-3.new.hasher in
    let h7 = c.write_list-4.new.hasher in
    seven h0 h1 h2 h3 h4 h5 h6 h7
    (codes "GXP1") p.session.bytes (lifters_text p.lifters)
    (list_text account_text p.accounts) (list_text stock_text p.stocks) (list_text user_text p.users) (list_text rule_text p.rules)
    c.put.ensures
    (subst (λ (s : SessionName). TakesIn h1 h2 s.bytes) c.session.ensures c.put-2.ensures)
    (subst (λ (l : Lifters). TakesIn h2 h3 (lifters_text l)) c.lifters.ensures c.put_lifters.ensures)
    (subst (λ (xs : List Account). TakesIn h3 h4 (list_text account_text xs)) c.accounts.ensures c.write_list.ensures)
    (subst (λ (xs : List Stock). TakesIn h4 h5 (list_text stock_text xs)) c.stocks.ensures c.write_list-2.ensures)
    (subst (λ (xs : List User). TakesIn h5 h6 (list_text user_text xs)) c.users.ensures c.write_list-3.ensures)
    (subst (λ (xs : List FileRule). TakesIn h6 h7 (list_text rule_text xs)) c.rules.ensures.same c.write_list-4.ensures)
