-- A report of any kind is read by the reader of its kind, which its length tells.
use Rattle.std.proofs.Common.{◌≡◌, ◌≢◌, ℕ, List, length, Option, sym, ap, ◌∙◌, arith}
use Rattle.std.specs.Prelude.{option_map}
use Rattle.gx_ouch.specs.{Writing.outbound_bytes, declared.outbound.Outbound.Outbound}
use Rattle.gx_desk.specs.{Writing.{answer_bytes, drop_copy_bytes}, declared.{Answer.Answer, DropCopy.DropCopy}}
use Rattle.gx_client.specs.{declared.{reading.Stamped.Stamped, report.Report.Report}, Messages.{IsOutbound, IsAnswer, IsDropCopy, ReadsBack}, Reports.{IsReport, report_bytes, stamped_as}}
use Rattle.gx_client.proofs.Messages_apart.{outbound_length, answer_length, drop_copy_length, no_size}

differ : {m n : ℕ} → m ≡ 34 → n ≡ 49 → m ≢ n
differ is_m is_n e = omega arith

pub order_read : (bytes : List ℕ) (read : Option (Stamped Outbound)) → length bytes ≢ 34 → length bytes ≢ 49 → ReadsBack IsOutbound outbound_bytes bytes read
    → ReadsBack IsReport report_bytes bytes (option_map (stamped_as Report.Order) read)
order_read bytes read no_answer no_copy back timestamp (Report.Order m) is e = ap (option_map (stamped_as Report.Order)) (back timestamp m is e)
order_read bytes read no_answer no_copy back timestamp (Report.Answer m) is e = absurd (no_answer (sym (ap length e) ∙ answer_length timestamp m is))
order_read bytes read no_answer no_copy back timestamp (Report.DropCopy m) is e = absurd (no_copy (sym (ap length e) ∙ drop_copy_length timestamp m is))

pub answer_read : (bytes : List ℕ) (read : Option (Stamped Answer)) → length bytes ≡ 34 → ReadsBack IsAnswer answer_bytes bytes read
    → ReadsBack IsReport report_bytes bytes (option_map (stamped_as Report.Answer) read)
answer_read bytes read size back timestamp (Report.Order m) is e = absurd ((no_size m (length bytes) (sym (outbound_length timestamp m is) ∙ ap length e)).0 size)
answer_read bytes read size back timestamp (Report.Answer m) is e = ap (option_map (stamped_as Report.Answer)) (back timestamp m is e)
answer_read bytes read size back timestamp (Report.DropCopy m) is e = absurd (differ size (drop_copy_length timestamp m is) (sym (ap length e)))

pub drop_copy_read : (bytes : List ℕ) (read : Option (Stamped DropCopy)) → length bytes ≡ 49 → ReadsBack IsDropCopy drop_copy_bytes bytes read
    → ReadsBack IsReport report_bytes bytes (option_map (stamped_as Report.DropCopy) read)
drop_copy_read bytes read size back timestamp (Report.Order m) is e = absurd ((no_size m (length bytes) (sym (outbound_length timestamp m is) ∙ ap length e)).1 size)
drop_copy_read bytes read size back timestamp (Report.Answer m) is e = absurd (differ (answer_length timestamp m is) size (ap length e))
drop_copy_read bytes read size back timestamp (Report.DropCopy m) is e = ap (option_map (stamped_as Report.DropCopy)) (back timestamp m is e)
