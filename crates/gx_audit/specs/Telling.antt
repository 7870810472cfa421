-- What is told of an audit.
use Rattle.std.specs.Prelude.{ℕ, List, [], ◌++◌, codes, decimal, Result, Ok, Err}
use Rattle.gx_audit.specs.declared.fault.AuditFault.{AuditFault}
use Rattle.gx_script_text.specs.Printing.{line_end}

-- how many records a legal audit has, or the first fault; want of memory is no answer of an audit
abbrev pub answer_words : Result ℕ AuditFault → List ℕ
answer_words (Ok count) = codes "legal " ++ decimal count
answer_words (Err AuditFault.Truncated) = codes "truncated"
answer_words (Err (AuditFault.BadRecord number)) = codes "bad record " ++ decimal number
answer_words (Err (AuditFault.IllegalVerdict number)) = codes "illegal verdict " ++ decimal number
answer_words (Err AuditFault.OtherPolicy) = codes "other policy"
answer_words (Err other) = []

-- the line on standard output
abbrev pub answer_line : Result ℕ AuditFault → List ℕ
answer_line answer = answer_words answer ++ line_end

-- 0 for a legal audit
abbrev pub answer_status : Result ℕ AuditFault → ℕ
answer_status (Ok count) = 0
answer_status (Err fault) = 4
