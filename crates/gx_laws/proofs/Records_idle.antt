-- A record that makes, sizes and fills no order and puts none to rest, and one that ends none.
use Rattle.std.proofs.{Common.{◌≡◌, false, List, []}, lemmas.Bool.and_left}
use Rattle.std.specs.Prelude.{None}
use Rattle.gx_units.specs.declared.names.{AccountName.AccountName, UserName.UserName}
use Rattle.gx_policy.specs.{declared.policy.PolicyData.PolicyData, People.{role_in, is_reader}}
use Rattle.gx_history.specs.{declared.record.RecordData.RecordData, Book.rested_of, Executions.sides, InForce.is_entitled, Orders.{Order, ends, orders, orders_added, size_set}}

-- no order, no size, no fill and no rest comes of the record
pub record AddsNothing (policy : PolicyData) (history : List RecordData) (r : RecordData) : Type 0 where
  pub makes_none : orders_added policy (orders policy history) r ≡ []
  pub fills_none : sides policy history r.verdict ≡ []
  pub rests_none : rested_of r.verdict ≡ None
  pub sizes_none : (o : Order) → size_set o r ≡ None

-- the record ends no order
abbrev pub EndsNone : RecordData → Type 0
EndsNone r = (o : Order) → ends o r ≡ false

pub others_not : (policy : PolicyData) (history : List RecordData) (reader : UserName) (account : AccountName) → is_reader (role_in policy.users reader) ≡ false → is_entitled policy history reader account ≡ false
unfolding is_entitled
others_not policy history reader account h = and_left (is_reader (role_in policy.users reader)) _ h
