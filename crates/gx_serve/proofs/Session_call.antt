-- What becomes of a session and its pass under the lock.
use Rattle.std.proofs.Common.{◌≡◌, ◌≢◌, ℕ, ◌-◌, Bool, true, false, cond, Option, Some, None, inl, inr, refl, sym, ap, subst, ◌∙◌}
use Rattle.std.specs.Prelude.{nat_le, ◌≤◌, length, Ok}
use Rattle.gx_units.specs.{declared.names.UserName.UserName, Spelling.folded_user}
use Rattle.gx_policy.specs.declared.policy.PolicyData.{PolicyData}
use Rattle.gx_history.specs.{declared.record.Asked.Asked, InForce.line_of}
use Rattle.gx_access_gate.specs.{declared.{outcome.{LoginAnswer.LoginAnswer, Outcome.Outcome, StepFault.StepFault}, pulled.Pulled.Pulled}, Gates.left_by}
use Rattle.gx_pass.specs.{declared.view.LineView.LineView, Views.{mine, with_told}}
use Rattle.gx_session.specs.Happenings as happens
use Rattle.gx_session.specs.{declared.{session.Phase.{Phase, TheVariants.{Fresh, Waiting, On, Abandoned, Done}}, event.Sign.Sign, outbox.Outbox.Outbox}, Outboxes.left_after, Table.{row_in, turn, SessionData}, Events.{is_phase_on, is_over}}
use Rattle.gx_door.specs.{Acts.IsLater, declared.ended.EndedTotals.EndedTotals, Matching.Turns}
use Rattle.gx_control.specs.PullCursors.{may_have_more, PullCursorData}
use Rattle.gx_serve.specs.{declared.{announcing.EndedOrders.EndedOrders, state.outgoing.NextWrite.NextWrite}, Announcements.{announced_of, WasAnnounced}, Marks.{fetched_data, given_login, FetchedData, SentMark}, States.{HasMetMore, WasTold, WasToldRefusal}, Seeking.{due_of, is_bare, cursor_after, DueElse, IsOver, LooksWhere, Seeks, WasHandedOut, WasPulled, WasSought, WasWatched}, Speech.{IsDue, AreReportsShown}}

-- a step was made, and what belongs to it is announced
pub was_announced : {policy : PolicyData} (a : Asked) (was is : LineView) (o : Outcome) (ended : EndedTotals) (made : ℕ) (told : Option EndedOrders) → IsLater policy was is → Turns policy was is (left_by a o) ended a.handed made
    → told ≡ announced_of a.user a.request o ended → WasAnnounced policy a was is told
was_announced a was is o ended made told later turns same = record { turned = record { later = later; outcome = o; ended = ended; made = made; turns = turns }; tells = same }

-- as many records were told as had been seen
pub was_idle : (policy : PolicyData) (user : UserName) (m : SentMark) (moment : ℕ) (session : SessionData) (was is : LineView) (cursor : PullCursorData) (count : ℕ) → is ≡ with_told was count → may_have_more cursor count ≡ false
    → WasPulled policy user m moment session was cursor session is cursor NextWrite.Nothing
was_idle policy user m moment session was is cursor count told idle = inl (record {
  told = told ∙ ap (λ n. with_told was n) (sym (ap (λ (h : LineView). h.told) told));
  idle = ap (λ n. may_have_more cursor n) (ap (λ (h : LineView). h.told) told) ∙ idle;
  same = refl;
  seen = refl;
  nothing = refl;
})

own_told : (was mid is : LineView) (count : ℕ) → mid ≡ with_told was count → HasMetMore mid is → HasMetMore was is
own_told was mid is count told looked = record {
  line = looked.line ∙ ap (λ (h : LineView). h.line) told;
  own = looked.own ∙ ap mine told;
}

-- the answer that is left is handed out
pub was_handed_out : (answer : LoginAnswer) (user : UserName) (login : ℕ) (session : SessionData) (was is : LineView) (known : ℕ) → is ≡ with_told was known → length was.front ≤ known
    → WasHandedOut answer user login session was session is (Some (Ok (given_login user login answer known)))
was_handed_out answer user login session was is known told few = record { known = known; told = told; within = few; same = refl; handed = refl }

-- the user's reports were pulled
pub was_fetched : (policy : PolicyData) (user : UserName) (m : SentMark) (moment : ℕ) (session : SessionData) (was mid is : LineView) (cursor : PullCursorData) (pulled : Pulled) (count known : ℕ)
    → mid ≡ with_told was count → may_have_more cursor count ≡ true → IsLater policy mid is → HasMetMore mid is → AreReportsShown policy m.user m.next known pulled
    → WasPulled policy user m moment session was cursor session is (cursor_after cursor (fetched_data pulled count known)) (due_of (fetched_data pulled count known))
was_fetched policy user m moment session was mid is cursor pulled count known told news later looked shown = inr (inl (record {
  pulled = pulled;
  count = count;
  known = known;
  news = news;
  later = subst (λ h. IsLater policy h is) told later;
  looked = own_told was mid is count told looked;
  shown = shown;
  same = refl;
  seen = refl;
  brought = refl;
}))

-- it was refused for want of memory
pub was_refused : (policy : PolicyData) (user : UserName) (m : SentMark) (moment : ℕ) (session session' : SessionData) (was mid next is : LineView) (cursor : PullCursorData) (count : ℕ)
    → mid ≡ with_told was count → HasMetMore mid next → WasToldRefusal policy user StepFault.OutOfMemory moment session next session' is
    → WasPulled policy user m moment session was cursor session' is cursor NextWrite.Nothing
was_refused policy user m moment session session' was mid next is cursor count told looked refusal = inr (inr (record {
  between = next;
  looked = own_told was mid next count told looked;
  told = inl refusal;
  seen = refl;
  nothing = refl;
}))

-- the user is not logged in there
pub was_not_on : (policy : PolicyData) (user : UserName) (m : SentMark) (moment : ℕ) (session session' : SessionData) (was mid next is : LineView) (cursor : PullCursorData) (count : ℕ)
    → mid ≡ with_told was count → HasMetMore mid next → line_of next.front (folded_user m.user) ≢ Some mid.line → WasTold policy user happens.Fault moment session next session' is
    → WasPulled policy user m moment session was cursor session' is cursor NextWrite.Nothing
was_not_on policy user m moment session session' was mid next is cursor count told looked off fault = inr (inr (record {
  between = next;
  looked = own_told was mid next count told looked;
  told = inr (subst (λ line. line_of next.front (folded_user m.user) ≢ Some line) (ap (λ (h : LineView). h.line) told) off, fault);
  seen = refl;
  nothing = refl;
}))

-- the session was told of the time
pub was_watched : (left left' : Outbox) (policy : PolicyData) (user : UserName) (m : SentMark) (moment : ℕ) (session ticked session' : SessionData) (was between is : LineView) (cursor cursor' : PullCursorData) (due : NextWrite)
    → WasTold policy user happens.Tick moment session was ticked between → Seeks (left_after left (turn session happens.Tick moment).reply.send).sign left' policy user m moment ticked between cursor session' is cursor' due
    → WasWatched left left' policy user m moment session was cursor session' is cursor' due
was_watched left left' policy user m moment session ticked session' was between is cursor cursor' due told sought = record { ticked = ticked; between = between; told = told; sought = sought }

-- What is due are the user's reports from the mark on.

fetched_due : {policy : PolicyData} (user : UserName) (from : ℕ) (f : FetchedData) → AreReportsShown policy user from f.known f.pulled → (bare : Bool) → IsDue policy user from (cond bare NextWrite.Nothing (NextWrite.Reports f))
fetched_due user from f shown true = tt
fetched_due user from f shown false = shown

due_so : (policy : PolicyData) (user : UserName) (from : ℕ) (due due' : NextWrite) → due' ≡ due → IsDue policy user from due → IsDue policy user from due'
due_so policy user from due due' same is = subst (λ d. IsDue policy user from d) (sym same) is

pulled_due : (policy : PolicyData) (user : UserName) (m : SentMark) (moment : ℕ) (session : SessionData) (was : LineView) (cursor : PullCursorData) (session' : SessionData) (is : LineView) (cursor' : PullCursorData) (due : NextWrite)
    → WasPulled policy user m moment session was cursor session' is cursor' due → IsDue policy m.user m.next due
pulled_due policy user m moment session was cursor session' is cursor' due (inl idle) = due_so policy m.user m.next NextWrite.Nothing due idle.nothing tt
pulled_due policy user m moment session was cursor session' is cursor' due (inr (inl found)) =
    due_so policy m.user m.next (due_of (fetched_data found.pulled found.count found.known)) due found.brought (fetched_due m.user m.next (fetched_data found.pulled found.count found.known) found.shown (is_bare (fetched_data found.pulled found.count found.known)))
pulled_due policy user m moment session was cursor session' is cursor' due (inr (inr refused)) = due_so policy m.user m.next NextWrite.Nothing due refused.nothing tt

over_due : (policy : PolicyData) (user : UserName) (from : ℕ) (due : NextWrite) → IsOver due → IsDue policy user from due
over_due policy user from (NextWrite.Sign sign) over = tt
over_due policy user from (NextWrite.Reports f) over = absurd over
over_due policy user from NextWrite.Nothing over = tt
over_due policy user from (NextWrite.Over finished) over = tt

looks_due : (on : Bool) (policy : PolicyData) (user : UserName) (m : SentMark) (moment : ℕ) (session : SessionData) (was : LineView) (cursor : PullCursorData) (session' : SessionData) (is : LineView) (cursor' : PullCursorData) (due : NextWrite)
    → LooksWhere on policy user m moment session was cursor session' is cursor' due → IsDue policy m.user m.next due
looks_due true policy user m moment session was cursor session' is cursor' due pulled = pulled_due policy user m moment session was cursor session' is cursor' due pulled
looks_due false policy user m moment session was cursor session' is cursor' due (stays, nothing) = due_so policy m.user m.next NextWrite.Nothing due nothing tt

else_due : {Else : Type 0} (left : Option Sign) (left' : Outbox) (over : Bool) (policy : PolicyData) (m : SentMark) (session : SessionData) (was : LineView) (cursor : PullCursorData) (session' : SessionData) (is : LineView) (cursor' : PullCursorData) (due : NextWrite)
    → (Else → IsDue policy m.user m.next due) → DueElse left left' over session was cursor session' is cursor' due Else → IsDue policy m.user m.next due
else_due (Some sign) left' over policy m session was cursor session' is cursor' due by (stays, signs, taken) = due_so policy m.user m.next (NextWrite.Sign sign) due signs tt
else_due None left' true policy m session was cursor session' is cursor' due by (stays, over) = over_due policy m.user m.next due over
else_due None left' false policy m session was cursor session' is cursor' due by other = by other

seeks_due : (left : Option Sign) (left' : Outbox) (policy : PolicyData) (user : UserName) (m : SentMark) (moment : ℕ) (session : SessionData) (was : LineView) (cursor : PullCursorData) (session' : SessionData) (is : LineView) (cursor' : PullCursorData) (due : NextWrite)
    → Seeks left left' policy user m moment session was cursor session' is cursor' due → IsDue policy m.user m.next due
seeks_due left left' policy user m moment session was cursor session' is cursor' due sought =
    else_due left left' (is_over session.phase) policy m session was cursor session' is cursor' due (looks_due (is_phase_on session.phase) policy user m moment session was cursor session' is cursor' due) sought

watched_due : (left left' : Outbox) {policy : PolicyData} (user : UserName) (m : SentMark) (moment : ℕ) (session : SessionData) (was : LineView) (cursor : PullCursorData) (session' : SessionData) (is : LineView) (cursor' : PullCursorData) (due : NextWrite)
    → WasWatched left left' policy user m moment session was cursor session' is cursor' due → IsDue policy m.user m.next due
watched_due left left' {policy} user m moment session was cursor session' is cursor' due w =
    seeks_due (left_after left (turn session happens.Tick moment).reply.send).sign left' policy user m moment w.ticked w.between cursor session' is cursor' due w.sought

pub sought_is_due : (left left' : Outbox) (policy : PolicyData) (user : UserName) (m : SentMark) (moment : ℕ) (session : SessionData) (was : LineView) (cursor : PullCursorData) (session' : SessionData) (is : LineView) (cursor' : PullCursorData) (due : NextWrite)
    → WasSought left left' policy user m moment session was cursor session' is cursor' due → IsDue policy m.user m.next due
sought_is_due left left' policy user m moment session was cursor session' is cursor' due sought =
    else_due left.sign left' (is_over session.phase) policy m session was cursor session' is cursor' due
    (watched_due (record left { sign = None }) left' user m moment session was cursor session' is cursor' due) sought

-- As time passes no login is answered.

tick_row : (left : Outbox) (phase : Phase) (silent quiet : Bool) → (left_after left (row_in phase happens.Tick silent quiet).reply.send).answer ≡ left.answer
tick_row left Fresh true quiet = refl
tick_row left Fresh false quiet = refl
tick_row left Waiting true quiet = refl
tick_row left Waiting false quiet = refl
tick_row left On true quiet = refl
tick_row left On false true = refl
tick_row left On false false = refl
tick_row left Abandoned silent quiet = refl
tick_row left Done silent quiet = refl

pub ticks_answer_nothing : (left : Outbox) (session : SessionData) (moment : ℕ) → (left_after left (turn session happens.Tick moment).reply.send).answer ≡ left.answer
unfolding turn
ticks_answer_nothing left session moment = tick_row left session.phase (nat_le 15000000000 (moment - session.heard)) (nat_le 1000000000 (moment - session.sent))

-- At the end nothing is answered or sent.

end_row : (left : Outbox) (phase : Phase) (silent quiet : Bool) → left_after left (row_in phase happens.End silent quiet).reply.send ≡ left
end_row left Fresh silent quiet = refl
end_row left Waiting silent quiet = refl
end_row left On silent quiet = refl
end_row left Abandoned silent quiet = refl
end_row left Done silent quiet = refl

pub ends_leave_nothing : (left : Outbox) (session : SessionData) (moment : ℕ) → left_after left (turn session happens.End moment).reply.send ≡ left
unfolding turn
ends_leave_nothing left session moment = end_row left session.phase (nat_le 15000000000 (moment - session.heard)) (nat_le 1000000000 (moment - session.sent))
