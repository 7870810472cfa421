-- What is known and counted, once one more record is noted.
use Rattle.std.proofs.{Common.{◌≡◌, ℕ, ◌+◌, ◌<◌, List, [], ◌∷◌, ◌++◌, length, take, get_or, refl, ap, sym, subst, ◌∙◌}, lemmas.List.take_more}
use Rattle.gx_units.specs.declared.names.AccountName.{AccountName}
use Rattle.gx_policy.specs.declared.policy.{Account.Account, PolicyData.PolicyData}
use Rattle.gx_history.specs.{declared.record.RecordData.RecordData, Executions.executions, Orders.orders}
use Rattle.gx_laws.proofs.Orders_next.{orders_next}
use Rattle.gx_overview.specs.{declared.owners.Owners.Owners, Executed.KnowOrders}
use Rattle.gx_activity.specs.{declared.activity.ActivityRow.ActivityRow, Activity.idle, Noting.{NoteDeeds, deeds_in, row_in, so_far}}
use Rattle.gx_activity.proofs.{Counts_next.row_next, AccountRow_next.row_after}

-- before any record
pub nothing_noted : (policy : PolicyData) (a : Account) → idle a.name ≡ so_far policy [] a
unfolding executions
nothing_noted policy a = refl

module _ (policy : PolicyData) (records : List RecordData) (i : ℕ) (r d : RecordData) (old new : Owners) (before after : List (AccountName × ActivityRow)) (within : i < length records) (is : r ≡ get_or records i d)
    (knows : KnowOrders old (orders policy (take i records))) (noted : NoteDeeds policy r old new before after) where
  abbrev one_more : take i records ++ r ∷ [] ≡ take (i + 1) records
  one_more = ap (λ (x : RecordData). take i records ++ x ∷ []) is ∙ sym (take_more records i d within)

  -- one more record
  pub known_further : KnowOrders new (orders policy (take (i + 1) records))
  known_further = subst (KnowOrders new) (sym (orders_next policy (take i records) r) ∙ ap (orders policy) one_more) (noted (orders policy (take i records)) knows).knows

  pub noted_further : ((a : Account) → row_in before a.name ≡ so_far policy (take i records) a) → (a : Account) → row_in after a.name ≡ so_far policy (take (i + 1) records) a
  noted_further so_many a =
      ap (λ (entries : List (AccountName × ActivityRow)). row_in entries a.name) (noted (orders policy (take i records)) knows).rows
      ∙ row_after a.name before (so_far policy (take i records) a) (deeds_in policy (orders policy (take i records)) r.step r.verdict) refl (so_many a)
      ∙ sym (row_next policy (take i records) r a)
      ∙ ap (λ (rs : List RecordData). so_far policy rs a) one_more
