use Rattle.std.proofs.Common.{◌≡◌, ◌<◌, ◌∙◌, length, refl, sym, ap, subst, arith}
use Rattle.std.specs.Prelude.{Option, Some, slice_get}
use Rattle.std.specs.Vec as Vec
use Rattle.std.proofs.lemmas.Option.{slice_get-get_or}
use Rattle.pm_types.specs.declared.page.Page.{Page}
use Rattle.pm_pages.specs.Asked.{entry_of}
use Rattle.pm_pages.specs.Plain.{refilled, pages_with}
use Rattle.pm_pages.specs.PlainRooms.{IsOfSize}
use Rattle.pm_pages.specs.PlainLaws.{lent_asked}
use Rattle.pm_pages.proofs.PageReads.{page_read}
use Rattle.pm_pages.proofs.plain.PlainPagesPages.page_mut.Goals as goal

pub index_mut-requires : goal.index_mut-requires
index_mut-requires c =
    let p = c.args.self.now in
    omega (arith, c.requires.ready.ordered.there c.args.index (lent_asked (entry_of p.asked.items c.args.index) c.requires.lent), p.pages.ok.0)

pub returns : goal.returns
returns c =
    let p = c.args.self.now in
    let lt : c.args.index < length p.pages.items = c.requires.ready.ordered.there c.args.index (lent_asked (entry_of p.asked.items c.args.index) c.requires.lent) in
    let page = c.index_mut.result.now in
    let here : slice_get p.pages.items c.args.index ≡ Some page = slice_get-get_or p.pages.items c.args.index page lt ∙ ap Some (sym c.index_mut.ensures.value) in
    let size = subst (IsOfSize p.shape.page_size) (sym c.index_mut.ensures.value) (c.requires.ready.ordered.sized c.args.index page lt) in (
      (refl, (λ w. subst (λ (o : Option Page). record p { pages = Vec.with_item p.pages c.args.index (refilled page w) } ≡ record p { pages = pages_with p.pages c.args.index o w }) (sym here) refl)),
      record { page = page_read p.pages.items c.args.index page lt c.index_mut.ensures.value ∙ ap Some (sym c.bytes_of_mut.ensures.page); size = ap length c.bytes_of_mut.ensures.page ∙ size; lends = tt },
    )
