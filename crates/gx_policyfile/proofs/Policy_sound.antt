-- A policy that was read is sound.
use Rattle.std.proofs.Common.{◌≡◌, Bool, true, ◌&&◌, codes, Ok, refl}
use Rattle.toml.specs.Data.{Members}
use Rattle.gx_units.specs.Names.{same_account, same_stock, same_user, same_rule}
use Rattle.gx_policy.specs.{declared.policy.{PolicyData.PolicyData, Account.Account, Stock.Stock, User.User, FileRule.FileRule}, Soundness.{is_sound, is_account_sound, is_stock_sound, is_user_sound, is_rule_sound}}
use Rattle.gx_policyvalues.specs.declared.fault.Letters.TheVariants.{Visible}
use Rattle.gx_policyfile.specs.{Users.user, Rules.rule, Version.version, Policies.{account, stock, accounts, stocks, users, rules, policy}}
use Rattle.gx_policyfile.proofs.{Place_entries.place_placed, Values_spelled.field_at_spelled, Policy_parts.was_read, Entries_sound.{account_sound, stock_sound, user_sound}, Rules_sound.rule_sound}

all_four : (a b c d : Bool) → a ≡ true → b ≡ true → c ≡ true → d ≡ true → (((a && b) && c) && d) ≡ true
all_four a b c d p q r s = rw (p, q, r, s)

all_seven : (a b c d e f g : Bool) → a ≡ true → b ≡ true → c ≡ true → d ≡ true → e ≡ true → f ≡ true → g ≡ true → ((((((a && b) && c) && d) && e) && f) && g) ≡ true
all_seven a b c d e f g p q r s t u v = rw (p, q, r, s, t, u, v)

pub policy_sound : (top : Members) (p : PolicyData) → policy top ≡ Ok p → is_sound p ≡ true
unfolding accounts stocks users rules is_sound
policy_sound top p h =
    let w = was_read top p h in
    let a = place_placed (λ (a b : Account). same_account a.name b.name) account is_account_sound 64 account_sound _ p.accounts w.of_accounts in
    let s = place_placed (λ (a b : Stock). same_stock a.name b.name) stock is_stock_sound 1024 stock_sound _ p.stocks w.of_stocks in
    let u = place_placed (λ (a b : User). same_user a.name b.name) (user p.accounts) (is_user_sound p) 256 (user_sound p) _ p.users w.of_users in
    let r = place_placed (λ (a b : FileRule). same_rule a.name b.name) (rule (version top) p.accounts p.stocks) (is_rule_sound p) 128 (rule_sound (version top) p) _ p.rules w.of_rules in
    all_seven _ _ _ _ _ _ _
    (all_four _ _ _ _ a.0 s.0 u.0 r.0)
    (all_four _ _ _ _ a.2 s.2 u.2 r.2)
    (field_at_spelled (codes "session") Visible 10 top p.session.bytes refl w.session)
    a.1 s.1 u.1 r.1
