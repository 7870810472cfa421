use Rattle.gx_audit_bytes.proofs.Record_parts.{parts_tell, has_places}
use Rattle.gx_audit_bytes.proofs.written.is_written.Goals as goal

pub returns-clause-bytes : goal.returns-clause-bytes
returns-clause-bytes c =
    parts_tell c.args.version c.args.content.now c.args.bytes.now c.has_parts.result c.fits-bytes c.told-bytes c.requires c.has_parts.ensures

pub returns-clause-places : goal.returns-clause-places
returns-clause-places c =
    has_places c.args.version c.args.content.now c.args.bytes.now c.has_parts.result c.fits-bytes c.told-bytes c.requires c.has_parts.ensures
