use Rattle.std.proofs.Common.{sym, ◌∙◌}
use Rattle.pm_btpage.proofs.ItemsByIndex.{length-items_of}
use Rattle.pm_btpage.proofs.head.count.Goals as goal

pub returns : goal.returns
returns c = c.get_u16.ensures ∙ sym (length-items_of c.args.page.now)
