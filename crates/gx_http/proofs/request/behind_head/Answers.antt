use Rattle.gx_http.proofs.Head_parts.{all_within}
use Rattle.gx_http.proofs.request.behind_head.Goals as goal

pub credentials_in-requires : goal.credentials_in-requires
credentials_in-requires c = all_within c.args.bytes.now c.args.fields.now c.args.head.now c.requires.within c.requires.all
