-- What the writer of a connection has written, part by part.
use Rattle.std.proofs.{Common.{◌≡◌, ℕ, Bool, true, false, inl, inr, Option, List, [], ◌∷◌, ◌++◌, refl, sym, ap, ◌∙◌, subst, append-nil, append_assoc}, lemmas.Grind.flat_map-append, KnownBytes.{Appends-nil, Appends-trans}}
use Rattle.std.specs.{Prelude.codes, List.flat_map, Io.KnownBytes.Appends}
use Rattle.gx_units.specs.declared.names.{SessionName.SessionName, UserName.UserName}
use Rattle.gx_policy.specs.declared.policy.PolicyData.{PolicyData}
use Rattle.gx_access_gate.specs.declared.outcome.LoginAnswer.{LoginAnswer}
use Rattle.gx_devices.specs.Devices.{IsFront}
use Rattle.gx_session.specs.{declared.event.{Control.Control, Sign.Sign}, Sending.{control_bytes, reports_text}}
use Rattle.gx_devices.proofs.Parts_written.{front_behind, front_longer}
use Rattle.gx_serve.specs.declared.state.outgoing.{NextWrite.NextWrite, LoginOutcome.LoginOutcome}
use Rattle.gx_serve.specs.Speech

-- parts that go on where others ended
goes_on : {K : Type 0} (kept : K → ℕ) (policy : PolicyData) (user : UserName) (from mid to : ℕ) (parts more : List Speech.Part) → Speech.GoOn kept policy user from parts mid → Speech.GoOn kept policy user mid more to → Speech.GoOn kept policy user from (parts ++ more) to
goes_on kept policy user from mid to [] more at next = subst (λ n. Speech.GoOn kept policy user n more to) at next
goes_on kept policy user from mid to (Speech.Beat ∷ parts) more at next = goes_on kept policy user from mid to parts more at next
goes_on kept policy user from mid to (Speech.Shown pulled ∷ parts) more (shown, at) next = (shown, goes_on kept policy user pulled.next mid to parts more at next)

-- what is spoken, and more
spoken_on : {K : Type 0} {kept : K → ℕ} {policy : PolicyData} (user : UserName) (from mid to : ℕ) (text more : List ℕ) → Speech.IsSpoken kept policy user from text mid → Speech.IsSpoken kept policy user mid more to → Speech.IsSpoken kept policy user from (text ++ more) to
spoken_on {kept = kept} {policy = policy} user from mid to text more s t = record {
  parts = s.parts ++ t.parts;
  go_on = goes_on kept policy user from mid to s.parts t.parts s.go_on t.go_on;
  whole = ap (λ x. x ++ more) s.whole ∙ ap (λ x. flat_map Speech.part_text s.parts ++ x) t.whole ∙ sym (flat_map-append Speech.part_text s.parts t.parts);
}

pub nothing_spoken : {K : Type 0} (kept : K → ℕ) (policy : PolicyData) (user : UserName) (from : ℕ) → Speech.IsSpoken kept policy user from [] from
nothing_spoken kept policy user from = record { parts = []; go_on = refl; whole = refl }

-- what is due and not the last is a part
due_spoken : {K : Type 0} (kept : K → ℕ) (policy : PolicyData) (user : UserName) (from : ℕ) (due : NextWrite) → Speech.IsDue policy user from due → Speech.IsDueKept kept due → Speech.is_last_write due ≡ false → Speech.IsSpoken kept policy user from (Speech.due_text due) (Speech.next_after due from)
due_spoken kept policy user from (NextWrite.Sign Sign.Heartbeat) d k e = record { parts = Speech.Beat ∷ []; go_on = refl; whole = sym (append-nil (control_bytes (Control.Sign Sign.Heartbeat))) }
due_spoken kept policy user from (NextWrite.Sign Sign.EndOfSession) d k e = cc
due_spoken kept policy user from (NextWrite.Reports fetched) d k e = record { parts = Speech.Shown fetched.pulled ∷ []; go_on = (record { known = fetched.known; shown = d; are_kept = k }, refl); whole = sym (append-nil (reports_text fetched.pulled.reports)) }
due_spoken kept policy user from NextWrite.Nothing d k e = record { parts = []; go_on = refl; whole = refl }
due_spoken kept policy user from (NextWrite.Over finished) d k e = cc

-- what is due and the last is an ending
due_ends : (due : NextWrite) → Speech.is_last_write due ≡ true → Speech.IsEnding (Speech.due_text due)
due_ends (NextWrite.Sign Sign.Heartbeat) e = cc
due_ends (NextWrite.Sign Sign.EndOfSession) e = inr refl
due_ends (NextWrite.Reports fetched) e = cc
due_ends NextWrite.Nothing e = cc
due_ends (NextWrite.Over finished) e = inl refl

-- of what the writer has come to
pub record Says {K : Type 0} (kept : K → ℕ) (policy : PolicyData) (user : UserName) (from to : ℕ) (before after : Option (List ℕ)) : Type 0 where
  pub spoken : List ℕ
  pub speech : Speech.IsSpoken kept policy user from spoken to
  pub written : Appends before after spoken

says_more : {K : Type 0} {kept : K → ℕ} {policy : PolicyData} (user : UserName) (from to : ℕ) (before mid after : Option (List ℕ)) (due : NextWrite) → Speech.IsDue policy user to due → Speech.IsDueKept kept due → Speech.is_last_write due ≡ false → Says kept policy user from to before mid → Appends mid after (Speech.due_text due) → Says kept policy user from (Speech.next_after due to) before after
says_more {kept = kept} {policy = policy} user from to before mid after due d k e s w = record {
  spoken = s.spoken ++ Speech.due_text due;
  speech = spoken_on user from to (Speech.next_after due to) s.spoken (Speech.due_text due) s.speech (due_spoken kept policy user to due d k e);
  written = Appends-trans before mid after s.spoken (Speech.due_text due) s.written w;
}

-- a text behind what was written
behind : (whole : Bool) (front text : List ℕ) (before mid after : Option (List ℕ)) → Appends before mid front → Speech.Writes whole mid after text → Speech.Writes whole before after (front ++ text)
behind true front text before mid after f w = Appends-trans before mid after front text f w
behind false front text before mid after f w = front_behind front text before mid after f w

says_last : {K : Type 0} {kept : K → ℕ} (whole : Bool) {policy : PolicyData} (user : UserName) (from to : ℕ) (before mid after : Option (List ℕ)) (due : NextWrite) → Speech.is_last_write due ≡ true → Says kept policy user from to before mid → Speech.Writes whole mid after (Speech.due_text due) → Speech.WasSpoken whole kept policy user from before after
says_last whole user from to before mid after due e s w = record {
  to = to;
  spoken = s.spoken;
  speech = s.speech;
  ending = Speech.due_text due;
  ends = due_ends due e;
  written = behind whole s.spoken (Speech.due_text due) before mid after s.written w;
}

-- the same, of what the functions answered

-- the user is the one from the beginning
pub due_still : (policy : PolicyData) (user user' : UserName) (from : ℕ) (due : NextWrite) → user' ≡ user → Speech.IsDue policy user' from due → Speech.IsDue policy user from due
due_still policy user user' from due same d = subst (λ u. Speech.IsDue policy u from due) same d

pub goes_further : {K : Type 0} {kept : K → ℕ} {policy : PolicyData} (user : UserName) (from to next : ℕ) (before mid after : Option (List ℕ)) (due : NextWrite) (last : Bool) → Speech.IsDue policy user to due → Speech.IsDueKept kept due → last ≡ Speech.is_last_write due → last ≡ false → next ≡ Speech.next_after due to → Says kept policy user from to before mid → Appends mid after (Speech.due_text due) → Says kept policy user from next before after
goes_further {kept = kept} {policy = policy} user from to next before mid after due last d k l e n s w = subst (λ m. Says kept policy user from m before after) (sym n) (says_more user from to before mid after due d k (sym l ∙ e) s w)

pub ends_there : {K : Type 0} {kept : K → ℕ} {policy : PolicyData} (user : UserName) (from to : ℕ) (before mid after : Option (List ℕ)) (due : NextWrite) (last : Bool) → last ≡ Speech.is_last_write due → last ≡ true → Says kept policy user from to before mid → Appends mid after (Speech.due_text due) → Speech.WasSpoken true kept policy user from before after
ends_there user from to before mid after due last l e s w = says_last true user from to before mid after due (sym l ∙ e) s w

front_cut_off : {K : Type 0} {kept : K → ℕ} {policy : PolicyData} (user : UserName) (from to : ℕ) (before mid after : Option (List ℕ)) (due : NextWrite) → Speech.IsDue policy user to due → Speech.IsDueKept kept due → Says kept policy user from to before mid → IsFront mid after (Speech.due_text due)
    → Speech.WasSpoken false kept policy user from before after
front_cut_off {kept = kept} {policy = policy} user from to before mid after due d k s f = elim (Speech.is_last_write due) as (λ b. Speech.is_last_write due ≡ b → Speech.WasSpoken false kept policy user from before after) [
  | true ↦ λ e. says_last false user from to before mid after due e s f
  | false ↦ λ e. record {
    to = Speech.next_after due to;
    spoken = s.spoken ++ Speech.due_text due;
    speech = spoken_on user from to (Speech.next_after due to) s.spoken (Speech.due_text due) s.speech (due_spoken kept policy user to due d k e);
    ending = [];
    ends = inl refl;
    written = front_longer (s.spoken ++ Speech.due_text due) [] before after (front_behind s.spoken (Speech.due_text due) before mid after s.written f);
  }
] refl

-- nothing more was written
none_cut_off : {K : Type 0} {kept : K → ℕ} {policy : PolicyData} (user : UserName) (from to : ℕ) (before mid after : Option (List ℕ)) → Says kept policy user from to before mid → after ≡ mid → Speech.WasSpoken false kept policy user from before after
none_cut_off user from to before mid after s same = record {
  to = to;
  spoken = s.spoken;
  speech = s.speech;
  ending = [];
  ends = inl refl;
  written = subst (λ (o : Option (List ℕ)). IsFront before o (s.spoken ++ [])) (sym same) (record { front = s.spoken; rest = []; written = s.written; whole = refl });
}

pub is_cut_off : {K : Type 0} {kept : K → ℕ} {policy : PolicyData} (user : UserName) (from to : ℕ) (before mid after : Option (List ℕ)) (due : NextWrite) → Speech.IsDue policy user to due → Says kept policy user from to before mid → Speech.IsCut kept due mid after
    → Speech.WasSpoken false kept policy user from before after
is_cut_off user from to before mid after due d s (inl same) = none_cut_off user from to before mid after s same
is_cut_off user from to before mid after due d s (inr (k, f)) = front_cut_off user from to before mid after due d k s f

-- The whole of it, by what came of the login.

pub is_greeted : (user : UserName) (login : ℕ) (answer : LoginAnswer) (greeted : LoginOutcome) (before after : Option (List ℕ)) → Appends before after (control_bytes (Control.Answer answer)) → Speech.Begins user login answer greeted → Speech.IsGreeted before after greeted
is_greeted user login (LoginAnswer.Accepted session next) (LoginOutcome.On m) before after w b = (session, subst (λ n. Appends before after (control_bytes (Control.Answer (LoginAnswer.Accepted session n)))) (sym (ap (λ k. k.next) b)) w)
is_greeted user login (LoginAnswer.Accepted session next) (LoginOutcome.Over finished) before after w b = absurd b
is_greeted user login (LoginAnswer.Accepted session next) LoginOutcome.Cut before after w b = absurd b
is_greeted user login (LoginAnswer.Rejected reason) (LoginOutcome.On m) before after w b = absurd b
is_greeted user login (LoginAnswer.Rejected reason) (LoginOutcome.Over finished) before after w b = inr (reason, w)
is_greeted user login (LoginAnswer.Rejected reason) LoginOutcome.Cut before after w b = absurd b

blank_user : UserName
blank_user = record { bytes = codes "      " }

answer_said : {K : Type 0} (kept : K → ℕ) (policy : PolicyData) (answer : LoginAnswer) → Speech.IsConversation kept policy (control_bytes (Control.Answer answer))
answer_said kept policy (LoginAnswer.Rejected reason) = inr (inl (reason, refl))
answer_said kept policy (LoginAnswer.Accepted session next) = inr (inr (record {
  user = blank_user;
  session = session;
  first = next;
  to = next;
  spoken = [];
  speech = nothing_spoken kept policy blank_user next;
  ending = [];
  ends = inl refl;
  whole = sym (append-nil (control_bytes (Control.Answer (LoginAnswer.Accepted session next)) ++ []) ∙ append-nil (control_bytes (Control.Answer (LoginAnswer.Accepted session next))));
}))

pub answer_cut : {K : Type 0} (kept : K → ℕ) (policy : PolicyData) (before after : Option (List ℕ)) → Speech.IsGreeted before after LoginOutcome.Cut → Speech.WasSaid false kept policy before after
answer_cut kept policy before after (answer, f) = record { text = control_bytes (Control.Answer answer); said = answer_said kept policy answer; written = f }

welcome : {K : Type 0} {kept : K → ℕ} {policy : PolicyData} (user : UserName) (session : SessionName) (first to : ℕ) (spoken ending : List ℕ) → Speech.IsSpoken kept policy user first spoken to → Speech.IsEnding ending → Speech.IsConversation kept policy (control_bytes (Control.Answer (LoginAnswer.Accepted session first)) ++ (spoken ++ ending))
welcome user session first to spoken ending s e = inr (inr (record {
  user = user;
  session = session;
  first = first;
  to = to;
  spoken = spoken;
  speech = s;
  ending = ending;
  ends = e;
  whole = sym (append_assoc (control_bytes (Control.Answer (LoginAnswer.Accepted session first))) spoken ending);
}))

pub rest_said : {K : Type 0} {kept : K → ℕ} (whole : Bool) {policy : PolicyData} (user : UserName) (first : ℕ) (before mid after : Option (List ℕ)) → ((session : SessionName) × Appends before mid (control_bytes (Control.Answer (LoginAnswer.Accepted session first)))) → Speech.WasSpoken whole kept policy user first mid after → Speech.WasSaid whole kept policy before after
rest_said whole user first before mid after (session, g) s = record {
  text = control_bytes (Control.Answer (LoginAnswer.Accepted session first)) ++ (s.spoken ++ s.ending);
  said = welcome user session first s.to s.spoken s.ending s.speech s.ends;
  written = behind whole (control_bytes (Control.Answer (LoginAnswer.Accepted session first))) (s.spoken ++ s.ending) before mid after g s.written;
}

-- Nothing was sent.

pub nothing_sent : (output : Option (List ℕ)) (text : List ℕ) → IsFront output output text
nothing_sent output text = record { front = []; rest = text; written = Appends-nil output; whole = refl }

-- nothing that is due was written, or a front of it
pub none_written : {K : Type 0} (kept : K → ℕ) (due : NextWrite) (output : Option (List ℕ)) → Speech.IsCut kept due output output
none_written kept due output = inl refl

pub front_written : {K : Type 0} (kept : K → ℕ) (due : NextWrite) (before after : Option (List ℕ)) → Speech.IsDueKept kept due → IsFront before after (Speech.due_text due) → Speech.IsCut kept due before after
front_written kept due before after k f = inr (k, f)
