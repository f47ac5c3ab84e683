use Rattle.std.proofs.Common.{arith}
use Rattle.pm_meta.proofs.FreshPages.{fresh_stored, fresh_zero}
use Rattle.pm_meta.proofs.meta.fresh.Goals as goal

pub returns-clause-stored : goal.returns-clause-stored
returns-clause-stored c = λ max_rows. fresh_stored c.put_head.new.page _ c.args.id _ max_rows c.put_head.ensures c.put_u32.ensures.outside c.put_u32.ensures.value (omega arith) (omega arith)

pub returns-clause-others : goal.returns-clause-others
returns-clause-others c = λ slot is other. fresh_zero c.put_head.new.page _ c.args.id slot c.put_head.ensures c.put_u32.ensures.outside is other
