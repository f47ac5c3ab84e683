use Rattle.pm_types.proofs.BlankPages.{blank}
use Rattle.pm_types.proofs.head.put_head.Goals as goal

pub returns : goal.returns
returns c = blank c.args.page.now _ _ _ c.args.id c.args.kind c.requires (record { zeros = c.put_zeros.ensures.bytes; size = c.put_zeros.ensures.outside.size; name = c.put_u64.ensures.value; after_name = c.put_u64.ensures.outside; kind_is = c.put_bytes.ensures.bytes; after_kind = c.put_bytes.ensures.outside })
