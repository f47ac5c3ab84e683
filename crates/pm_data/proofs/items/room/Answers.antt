use Rattle.std.proofs.Common.{◌≡◌, ◌-◌, ◌*◌, true, nat_lt, if◌then◌else◌, sym, ap, ◌∙◌}
use Rattle.pm_data.specs.DataPages.{count_of, low_of, rows_of, free_item}
use Rattle.pm_data.proofs.RowsByItem.{room_is}
use Rattle.pm_data.proofs.items.room.Goals as goal

pub returns-clause-room : goal.returns-clause-room
returns-clause-room c =
    let page = c.args.page.now in
    let free : nat_lt (free_item (rows_of page)) 254 ≡ true = sym c.has_item.ensures ∙ c.if-not-has_item.false in
    (λ t. c.get_u16.ensures t - 32 - 4 * c.get_u16-2.ensures t) ∙ sym (ap (λ b. if b then low_of page - 32 - 4 * count_of page else 0) free)

pub returns-clause-beside : goal.returns-clause-beside
returns-clause-beside c = returns-clause-room c ∙ room_is c.args.page.now c.requires.rows
