use Rattle.std.proofs.Common.{◌≡◌, length, sym, ◌∙◌, subst}
use Rattle.pm_types.specs.PageSizes.{IsPageSize}
use Rattle.pm_data.proofs.Heads.{fresh_page}
use Rattle.pm_data.proofs.head.fresh.Goals as goal

pub returns-clause-page : goal.returns-clause-page
returns-clause-page c =
    let size : length c.put_bytes.new.page ≡ length c.args.page.now = c.put_bytes.ensures.outside.size in
    (fresh_page c.put_bytes.new.page _ _ _ c.args.id (subst IsPageSize (sym size) c.requires) c.put_bytes.ensures.bytes c.put_u64.ensures.outside c.put_u64.ensures.value c.put_bytes-2.ensures.outside c.put_bytes-2.ensures.bytes c.put_u16.ensures.outside (c.put_u16.ensures.value ∙ sym size)).well_made

pub returns-clause-says : goal.returns-clause-says
returns-clause-says c =
    let size : length c.put_bytes.new.page ≡ length c.args.page.now = c.put_bytes.ensures.outside.size in
    (fresh_page c.put_bytes.new.page _ _ _ c.args.id (subst IsPageSize (sym size) c.requires) c.put_bytes.ensures.bytes c.put_u64.ensures.outside c.put_u64.ensures.value c.put_bytes-2.ensures.outside c.put_bytes-2.ensures.bytes c.put_u16.ensures.outside (c.put_u16.ensures.value ∙ sym size)).says
