use Rattle.pm_meta.proofs.FreshPages.{fresh_reuse_stored}
use Rattle.pm_meta.proofs.reuse.fresh_reuse.Goals as goal

pub returns-clause-stored : goal.returns-clause-stored
returns-clause-stored c = fresh_reuse_stored c.put_head.new.page _ c.args.id c.put_head.ensures c.put_u32.ensures.outside
