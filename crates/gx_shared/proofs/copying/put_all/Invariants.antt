use Rattle.std.proofs.Common.{◌≡◌, ◌+◌, ◌++◌, take}
use Rattle.std.specs.Prelude.{vec_capacity, vec_len}
use Rattle.gx_shared.proofs.copying.put_all.Given as goal

abbrev pub invariant-loop-place : goal.invariant-loop-place
invariant-loop-place l = record {
  items : l.list.items ≡ l.fn.list.items ++ take l.place l.records;
  len : vec_len l.list ≡ vec_len l.fn.list + l.place;
  room : vec_capacity l.list ≡ vec_capacity l.fn.list;
}
