use Rattle.std.proofs.Common.{sym, arith, ◌∙◌}
use Rattle.std.proofs.lemmas.Bool.{lt-ltb}
use Rattle.pm_data.specs.DataPages.{rows_of, free_item}
use Rattle.pm_data.proofs.RowsByItem.{free_item-le}
use Rattle.pm_data.proofs.items.has_item.Goals as goal

pub returns-then-get_u16-lt-SLOTS_MAX : goal.returns-then-get_u16-lt-SLOTS_MAX
returns-then-get_u16-lt-SLOTS_MAX c =
    lt-ltb c.get_u16.result 254 c.if-get_u16-lt-SLOTS_MAX.true ∙ sym (lt-ltb (free_item (rows_of c.args.page.now)) 254 (omega (arith, free_item-le c.args.page.now, c.get_u16.ensures)))
