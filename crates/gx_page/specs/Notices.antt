-- What is said in a line of text, and with which status.
use Rattle.std.specs.Prelude.{ℕ, List, Result, Ok, Err, codes}
use Rattle.gx_units.specs.declared.names.LoginRejection.{LoginRejection}
use Rattle.gx_history.specs.declared.record.Verdict.{Verdict}
use Rattle.gx_http.specs.{declared.{request.RequestFault.RequestFault, response.Status.Status}, Responses.{status_of as fault_status}}
use Rattle.gx_button.specs.declared.steps.{Deed.Deed, Refusal.Refusal}
use Rattle.gx_page.specs.declared.{notice.Notice.Notice, reply.Health.Health}

abbrev pub notice_of_health : Health → Notice
notice_of_health Health.Well = Notice.Well
notice_of_health Health.Closed = Notice.Closed
notice_of_health Health.Full = Notice.Full

abbrev pub notice_of_refusal : Refusal → Notice
notice_of_refusal Refusal.Unauthorized = Notice.Stranger
notice_of_refusal Refusal.NoToken = Notice.NoToken
notice_of_refusal Refusal.NoPower = Notice.NoPower

-- a kill is granted or denied, and nothing else
abbrev pub notice_of_verdict : Verdict → Notice
notice_of_verdict Verdict.Granted = Notice.Killed
notice_of_verdict (Verdict.Denied rule) = Notice.Denied
notice_of_verdict (Verdict.Filled fill) = Notice.Denied
notice_of_verdict (Verdict.Rested number) = Notice.Denied
notice_of_verdict (Verdict.Expired number) = Notice.Denied

-- a login with the right password is rejected where its user is logged in already
abbrev pub notice_of_deed : Deed → Notice
notice_of_deed (Deed.Refused fault) = Notice.Refused
notice_of_deed (Deed.Rejected LoginRejection.NotAuthorized) = Notice.Elsewhere
notice_of_deed (Deed.Rejected LoginRejection.SessionNotAvailable) = Notice.Elsewhere
notice_of_deed (Deed.Asked (Ok decided) logout) = notice_of_verdict decided.outcome.verdict
notice_of_deed (Deed.Asked (Err fault) logout) = Notice.Refused

abbrev pub notice_of_kill : Result Deed Refusal → Notice
notice_of_kill (Ok deed) = notice_of_deed deed
notice_of_kill (Err why) = notice_of_refusal why

abbrev pub notice_status : Notice → Status
notice_status Notice.Well = Status.Done
notice_status Notice.Closed = Status.Unavailable
notice_status Notice.Full = Status.Unavailable
notice_status Notice.Stranger = Status.Unauthorized
notice_status Notice.NoToken = Status.Forbidden
notice_status Notice.NoPower = Status.Forbidden
notice_status Notice.Elsewhere = Status.Forbidden
notice_status Notice.Denied = Status.Forbidden
notice_status Notice.Refused = Status.Unavailable
notice_status Notice.Killed = Status.SeePage
notice_status Notice.Unkept = Status.Unavailable
notice_status (Notice.Fault fault) = fault_status fault

abbrev pub notice_words : Notice → List ℕ
notice_words Notice.Well = codes "the gate takes orders\n"
notice_words Notice.Closed = codes "the day is closed\n"
notice_words Notice.Full = codes "the day has as many records as it may have\n"
notice_words Notice.Stranger = codes "the name and the password of an officer or a reader are wanted\n"
notice_words Notice.NoToken = codes "the page is of an earlier run of the server: try again\n"
notice_words Notice.NoPower = codes "you may not kill this account\n"
notice_words Notice.Elsewhere = codes "you are logged in elsewhere: kill from there, or log out there\n"
notice_words Notice.Denied = codes "the gate denied the kill: the last commands say why\n"
notice_words Notice.Refused = codes "there is no memory or no record left for the kill: try again\n"
notice_words Notice.Killed = codes "the account is killed\n"
notice_words Notice.Unkept = codes "the journal can't be written: nothing more is told\n"
notice_words (Notice.Fault RequestFault.Misdirected) = codes "the page is served by the names 127.0.0.1, localhost and [::1] alone\n"
notice_words (Notice.Fault fault) = codes "this is no request that is served here\n"
