use Rattle.std.specs.Prelude.{codes, decimal}
use Rattle.gx_units.proofs.Results_hold.{ok_then}
use Rattle.gx_text.specs.Shown.{json_name}
use Rattle.gx_json.specs.Parts.{member}
use Rattle.gx_events.specs.Fields.{event_field}
use Rattle.gx_monitor.specs.Fields.{share_fields}
use Rattle.gx_monitor.proofs.Places_next.{three_more}
use Rattle.gx_monitor.proofs.fields.append_share_fields.Goals as goal

pub returns : goal.returns
unfolding share_fields
returns c =
    ok_then c.append_name_member.result
    (λ last.
    three_more c.args.text.now.items (event_field (codes "limit_used")) (member (codes "percent") (decimal c.args.warning.now.share))
    (member (codes "rule") (json_name c.args.warning.now.figure.rule.bytes)) c.append_event.new.text.items c.append_percent.new.text.items c.append_name_member.new.text.items
    c.in_ok-append_event.ensures c.in_ok-append_percent.ensures last)
    c.append_name_member.ensures
