use Rattle.std.proofs.Common.{◌∙◌, ap, sym, subst}
use Rattle.pm_types.specs.Ids.{page_id}
use Rattle.pm_types.specs.declared.page_id.PageId.{PageId}
use Rattle.pm_part.specs.NewMeta.{IsNewMeta}
use Rattle.pm_part.proofs.NewMeta.{readable_meta}
use Rattle.pm_part.proofs.putting.write_meta.Goals as goal

pub returns-clause-readable : goal.returns-clause-readable
returns-clause-readable g c = readable_meta (g.P.Pages.seen c.args.pages.now) (g.P.Pages.seen c.put_meta.new.pages) c.put_meta.ensures.writes.0 c.requires.others c.put_meta.ensures.writes.1 (c.put_meta.ensures.writes.2.stored 0).well_made

pub returns-clause-new : goal.returns-clause-new
returns-clause-new g c =
    let writes = c.put_meta.ensures.writes in
    let id = c.new-id.ensures ∙ ap (λ n. page_id n 0) (c.part.ensures ∙ sym writes.1.same.part) in
    record { page = writes.0; here = writes.1.pages 0; size = writes.3 ∙ sym writes.1.same.page_size; is = subst (λ (i : PageId). IsNewMeta i writes.0) id writes.2 }
