-- Which bytes a record is written as, by the parts that do not show it: what has no use in it stands there as in all others.
use Rattle.std.specs.{Prelude.{ℕ, Bool, true, ◌&&◌, ◌||◌, ◌==◌, ◌-◌, List, ◌∷◌, codes, take, drop, replicate, bytes_eq}, Int.{w8, from_be_bytes}}
use Rattle.gx_ouch.specs.{Layout.bytes_at, Messages.{enter_order, replace_order, cancel_order}}
use Rattle.gx_history.specs.declared.record.{RecordData.RecordData, Request.Request, Step.Step, Verdict.Verdict}
use Rattle.gx_audit_bytes.specs.{declared.version.AuditVersion.AuditVersion, Versions.mark_of, Bodies.request_kind, Reading.part, Records.{line_place, user_place, kind_place, body_place, rule_place, order_place, maker_place, shares_place, price_place}}
use Rattle.gx_desk.specs.Contents.{command_layout}

-- the first letter, and the version's mark behind it
abbrev pub has_mark : AuditVersion → List ℕ → Bool
has_mark version bytes = bytes_eq (take 4 bytes) (71 ∷ mark_of version)

-- how many bytes of the body show the request
abbrev pub body_size : Request → ℕ
body_size (Request.Login m) = 10
body_size Request.Logout = 0
body_size (Request.Unreadable m) = 3
body_size (Request.Enter m) = enter_order.size
body_size (Request.Replace m) = replace_order.size
body_size (Request.Cancel m) = cancel_order.size
body_size (Request.Command c) = (command_layout c.action).size

-- zero bytes behind so many of the body
abbrev pub is_free : ℕ → List ℕ → Bool
is_free size body = bytes_eq (drop size body) (replicate (58 - size) 0)

-- `Y` or `N`
abbrev pub is_answer : ℕ → Bool
is_answer byte = byte == 89 || byte == 78

-- a Login shows what became of its password and of its session name
abbrev pub has_answers : Request → List ℕ → Bool
has_answers (Request.Login m) body = is_answer (from_be_bytes w8 (part 0 1 body)) && is_answer (from_be_bytes w8 (part 1 1 body))
has_answers Request.Logout body = true
has_answers (Request.Unreadable m) body = true
has_answers (Request.Enter m) body = true
has_answers (Request.Replace m) body = true
has_answers (Request.Cancel m) body = true
has_answers (Request.Command c) body = true

-- the kind is that of the request, and behind its bytes the body is free
abbrev pub is_request_written : Request → ℕ → List ℕ → Bool
is_request_written q kind body = (kind == request_kind q) && (has_answers q body && is_free (body_size q) body)

-- a matching step has no line, no user and no body
abbrev pub is_step_written : Step → List ℕ → Bool
is_step_written (Step.Asked a) bytes = is_request_written a.request (from_be_bytes w8 (bytes_at kind_place bytes)) (bytes_at body_place bytes)
is_step_written (Step.Matching handed) bytes =
    bytes_eq (bytes_at line_place bytes) (replicate 2 0) && (bytes_eq (bytes_at user_place bytes) (codes "      ") && bytes_eq (bytes_at body_place bytes) (replicate 58 0))

abbrev pub has_no_rule : List ℕ → Bool
has_no_rule bytes = bytes_eq (bytes_at rule_place bytes) (codes "        ")

abbrev pub has_no_order : List ℕ → Bool
has_no_order bytes = bytes_eq (bytes_at order_place bytes) (replicate 8 0)

abbrev pub has_no_fill : List ℕ → Bool
has_no_fill bytes =
    bytes_eq (bytes_at maker_place bytes) (replicate 8 0) && (bytes_eq (bytes_at shares_place bytes) (replicate 4 0) && bytes_eq (bytes_at price_place bytes) (replicate 4 0))

-- a verdict has only the parts that show it
abbrev pub is_verdict_written : Verdict → List ℕ → Bool
is_verdict_written Verdict.Granted bytes = has_no_rule bytes && (has_no_order bytes && has_no_fill bytes)
is_verdict_written (Verdict.Denied rule) bytes = has_no_order bytes && has_no_fill bytes
is_verdict_written (Verdict.Filled fill) bytes = has_no_rule bytes
is_verdict_written (Verdict.Rested order) bytes = has_no_rule bytes && has_no_fill bytes
is_verdict_written (Verdict.Expired order) bytes = has_no_rule bytes && has_no_fill bytes

-- all parts of a record with this content stand there
abbrev pub has_parts : AuditVersion → RecordData → List ℕ → Bool
has_parts version r bytes = has_mark version bytes && (is_step_written r.step bytes && is_verdict_written r.verdict bytes)
