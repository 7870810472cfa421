-- The record of a record's row is that record.
use Rattle.std.proofs.Common.{◌≡◌, ℕ, refl, ◌∙◌, ap}
use Rattle.std.specs.Prelude.{Option, Some, option_map}
use Rattle.gx_desk.specs.declared.Action.{Action}
use Rattle.gx_history.specs.declared.record.{RecordData.RecordData, Request.Request, Step.Step, Verdict.Verdict}
use Rattle.gx_script_text.specs.Words.{◌>>=◌}
use Rattle.gx_fields.specs.{declared.row.{Row.Row, RowVerdict.RowVerdict}, Rows.{blank_row, record_of, row_of, row_step, row_verdict, with_action, with_request, with_step, with_verdict}}

-- a verdict is read from its fields
verdict_read : (v : Verdict) (row : Row) → row_verdict (with_verdict v row).verdict (with_verdict v row) ≡ Some v
verdict_read Verdict.Granted row = refl
verdict_read (Verdict.Denied rule) row = refl
verdict_read (Verdict.Filled f) row = refl
verdict_read (Verdict.Rested order) row = refl
verdict_read (Verdict.Expired order) row = refl

-- a step is read from its fields
step_read : (s : Step) (row : Row) → row_step (with_step s row).kind (with_step s row) ≡ Some s
step_read (Step.Matching handed) row = refl
step_read (Step.Asked a) row = by a.request
  where
    base : Row
    base = record row { handed = a.handed; line = Some a.line; user = Some a.user }

    by : (q : Request) → row_step (with_request q base).kind (with_request q base) ≡ Some (Step.Asked (record { line = a.line; user = a.user; request = q; handed = a.handed }))
    by (Request.Login m) = refl
    by Request.Logout = refl
    by (Request.Unreadable m) = refl
    by (Request.Enter m) = refl
    by (Request.Replace m) = refl
    by (Request.Cancel m) = refl
    by (Request.Command c) = commanded c.action
      where
        commanded : (action : Action) → row_step (with_action action (record base { tag = Some c.tag })).kind (with_action action (record base { tag = Some c.tag }))
            ≡ Some (Step.Asked (record { line = a.line; user = a.user; request = Request.Command (record { tag = c.tag; action = action }); handed = a.handed }))
        commanded (Action.Kill account) = refl
        commanded (Action.Lift account) = refl
        commanded (Action.SetLimit rule limit) = refl
        commanded (Action.Restrict rule stock) = refl
        commanded (Action.Unrestrict rule stock) = refl
        commanded (Action.Grant reader account) = refl
        commanded (Action.Revoke reader account) = refl
        commanded Action.CloseDay = refl

-- the number, the moment and the fields of the verdict are the same
record IsBeside (row after : Row) : Type 0 where
  number : after.number ≡ row.number
  moment : after.moment ≡ row.moment
  verdict : after.verdict ≡ row.verdict
  rule : after.rule ≡ row.rule
  order : after.order ≡ row.order
  taker : after.taker ≡ row.taker
  maker : after.maker ≡ row.maker
  fill_shares : after.fill_shares ≡ row.fill_shares
  fill_price : after.fill_price ≡ row.fill_price

same_by_action : (action : Action) (row : Row) → IsBeside row (with_action action row)
same_by_action (Action.Kill account) row = record { number = refl; moment = refl; verdict = refl; rule = refl; order = refl; taker = refl; maker = refl; fill_shares = refl; fill_price = refl }
same_by_action (Action.Lift account) row = record { number = refl; moment = refl; verdict = refl; rule = refl; order = refl; taker = refl; maker = refl; fill_shares = refl; fill_price = refl }
same_by_action (Action.SetLimit rule limit) row = record { number = refl; moment = refl; verdict = refl; rule = refl; order = refl; taker = refl; maker = refl; fill_shares = refl; fill_price = refl }
same_by_action (Action.Restrict rule stock) row = record { number = refl; moment = refl; verdict = refl; rule = refl; order = refl; taker = refl; maker = refl; fill_shares = refl; fill_price = refl }
same_by_action (Action.Unrestrict rule stock) row = record { number = refl; moment = refl; verdict = refl; rule = refl; order = refl; taker = refl; maker = refl; fill_shares = refl; fill_price = refl }
same_by_action (Action.Grant reader account) row = record { number = refl; moment = refl; verdict = refl; rule = refl; order = refl; taker = refl; maker = refl; fill_shares = refl; fill_price = refl }
same_by_action (Action.Revoke reader account) row = record { number = refl; moment = refl; verdict = refl; rule = refl; order = refl; taker = refl; maker = refl; fill_shares = refl; fill_price = refl }
same_by_action Action.CloseDay row = record { number = refl; moment = refl; verdict = refl; rule = refl; order = refl; taker = refl; maker = refl; fill_shares = refl; fill_price = refl }

same_by_request : (q : Request) (row : Row) → IsBeside row (with_request q row)
same_by_request (Request.Login m) row = record { number = refl; moment = refl; verdict = refl; rule = refl; order = refl; taker = refl; maker = refl; fill_shares = refl; fill_price = refl }
same_by_request Request.Logout row = record { number = refl; moment = refl; verdict = refl; rule = refl; order = refl; taker = refl; maker = refl; fill_shares = refl; fill_price = refl }
same_by_request (Request.Unreadable m) row = record { number = refl; moment = refl; verdict = refl; rule = refl; order = refl; taker = refl; maker = refl; fill_shares = refl; fill_price = refl }
same_by_request (Request.Enter m) row = record { number = refl; moment = refl; verdict = refl; rule = refl; order = refl; taker = refl; maker = refl; fill_shares = refl; fill_price = refl }
same_by_request (Request.Replace m) row = record { number = refl; moment = refl; verdict = refl; rule = refl; order = refl; taker = refl; maker = refl; fill_shares = refl; fill_price = refl }
same_by_request (Request.Cancel m) row = record { number = refl; moment = refl; verdict = refl; rule = refl; order = refl; taker = refl; maker = refl; fill_shares = refl; fill_price = refl }
same_by_request (Request.Command c) row = let kept = same_by_action c.action (record row { tag = Some c.tag }) in record { number = kept.number; moment = kept.moment; verdict = kept.verdict; rule = kept.rule; order = kept.order; taker = kept.taker; maker = kept.maker; fill_shares = kept.fill_shares; fill_price = kept.fill_price }

same_by_step : (s : Step) (row : Row) → IsBeside row (with_step s row)
same_by_step (Step.Matching handed) row = record { number = refl; moment = refl; verdict = refl; rule = refl; order = refl; taker = refl; maker = refl; fill_shares = refl; fill_price = refl }
same_by_step (Step.Asked a) row = let kept = same_by_request a.request (record row { handed = a.handed; line = Some a.line; user = Some a.user }) in record { number = kept.number; moment = kept.moment; verdict = kept.verdict; rule = kept.rule; order = kept.order; taker = kept.taker; maker = kept.maker; fill_shares = kept.fill_shares; fill_price = kept.fill_price }

verdict_same : (k : RowVerdict) (row after : Row) → IsBeside row after → row_verdict k after ≡ row_verdict k row
verdict_same RowVerdict.Granted row after kept = refl
verdict_same RowVerdict.Denied row after kept = ap (option_map Verdict.Denied) kept.rule
verdict_same RowVerdict.Filled row after kept =
    filled after.taker after.maker after.fill_shares after.fill_price kept.taker kept.maker kept.fill_shares kept.fill_price
  where
    fill_of : Option ℕ → Option ℕ → Option ℕ → Option ℕ → Option Verdict
    fill_of taker maker shares price =
        taker >>= λ t. maker >>= λ m. shares >>= λ s. price >>= λ p. Some (Verdict.Filled (record { taker = t; maker = m; shares = s; price = p }))

    filled : (taker maker shares price : Option ℕ) → taker ≡ row.taker → maker ≡ row.maker → shares ≡ row.fill_shares → price ≡ row.fill_price
        → fill_of taker maker shares price ≡ fill_of row.taker row.maker row.fill_shares row.fill_price
    filled taker maker shares price t m s p =
        ap (λ (o : Option ℕ). fill_of o maker shares price) t
        ∙ ap (λ (o : Option ℕ). fill_of row.taker o shares price) m
        ∙ ap (λ (o : Option ℕ). fill_of row.taker row.maker o price) s
        ∙ ap (fill_of row.taker row.maker row.fill_shares) p
verdict_same RowVerdict.Rested row after kept = ap (option_map Verdict.Rested) kept.order
verdict_same RowVerdict.Expired row after kept = ap (option_map Verdict.Expired) kept.order

same_number : (v : Verdict) (row : Row) → (with_verdict v row).number ≡ row.number
same_number Verdict.Granted row = refl
same_number (Verdict.Denied rule) row = refl
same_number (Verdict.Filled f) row = refl
same_number (Verdict.Rested order) row = refl
same_number (Verdict.Expired order) row = refl

same_moment : (v : Verdict) (row : Row) → (with_verdict v row).moment ≡ row.moment
same_moment Verdict.Granted row = refl
same_moment (Verdict.Denied rule) row = refl
same_moment (Verdict.Filled f) row = refl
same_moment (Verdict.Rested order) row = refl
same_moment (Verdict.Expired order) row = refl

-- the fields of a record give it back
pub read_back : (r : RecordData) → record_of (row_of r) ≡ Some r
unfolding record_of
read_back r =
    let base : Row = record blank_row { number = r.number; moment = r.moment } in
    let told : Row = with_verdict r.verdict base in
    let kept : IsBeside told (row_of r) = same_by_step r.step told in
    let step : row_step (row_of r).kind (row_of r) ≡ Some r.step = step_read r.step told in
    let verdict : row_verdict (row_of r).verdict (row_of r) ≡ Some r.verdict =
    ap (λ (k : RowVerdict). row_verdict k (row_of r)) kept.verdict ∙ verdict_same told.verdict told (row_of r) kept ∙ verdict_read r.verdict base
    in
    let number : (row_of r).number ≡ r.number = kept.number ∙ same_number r.verdict base in
    let moment : (row_of r).moment ≡ r.moment = kept.moment ∙ same_moment r.verdict base in
    whole (row_step (row_of r).kind (row_of r)) (row_verdict (row_of r).verdict (row_of r)) (row_of r).number (row_of r).moment step verdict number moment
  where
    whole : (s : Option Step) (v : Option Verdict) (number moment : ℕ) → s ≡ Some r.step → v ≡ Some r.verdict → number ≡ r.number → moment ≡ r.moment
        → (s >>= λ step. v >>= λ verdict. Some (record { number = number; moment = moment; step = step; verdict = verdict })) ≡ Some r
    whole s v number moment step verdict at when =
        ap (λ (o : Option Step). o >>= λ step. v >>= λ verdict. Some (record { number = number; moment = moment; step = step; verdict = verdict })) step
        ∙ ap (λ (o : Option Verdict). o >>= λ verdict. Some (record { number = number; moment = moment; step = r.step; verdict = verdict })) verdict
        ∙ ap (λ (n : ℕ). Some (record { number = n; moment = moment; step = r.step; verdict = r.verdict })) at
        ∙ ap (λ (n : ℕ). Some (record { number = r.number; moment = n; step = r.step; verdict = r.verdict })) when
