use Rattle.std.proofs.Common.{◌≡◌, sym, subst}
use Rattle.pm_types.specs.declared.page_id.PageId.{PageId}
use Rattle.pm_types.specs.Ids.{page_id}
use Rattle.pm_stripe.specs.Kept.{held_at, place_at}
use Rattle.std.specs.Prelude.{IfSome}
use Rattle.pm_types.specs.Spans.{Coverage}
use Rattle.pm_stripe.specs.Rewrites.{NotesPage}
use Rattle.pm_stripe.specs.Shown.{patch_of}
use Rattle.pm_stripe.specs.ShownLaws.{lent_at, lent_part}
use Rattle.pm_stripe.proofs.BoundCalls as calls
use Rattle.pm_stripe.proofs.paging.BoundPages.note.Goals as goal

pub note-requires-clause-size : goal.note-requires-clause-size
note-requires-clause-size g c =
    let b = c.args.self.now in
    let x = lent_at b.stripe.held.items (page_id b.part c.args.index).0 c.requires.lent in
    let patched = (c.requires.ready.bound.holds.held (place_at b.stripe.held.items (page_id b.part c.args.index).0) x.page x.at).patched in
    let here : IfSome x.page.patch (λ (old : Coverage). old.page_size ≡ c.args.patch.now.page_size) = subst (λ n. IfSome x.page.patch (λ (old : Coverage). old.page_size ≡ n)) (sym c.requires.size) patched in
    let P : PageId → Type 0 = λ id. IfSome (patch_of (held_at b.stripe.held.items id.0)) (λ (old : Coverage). old.page_size ≡ c.args.patch.now.page_size) in
    subst P (sym c.new-page.ensures) (subst (λ o. IfSome (patch_of o) (λ (old : Coverage). old.page_size ≡ c.args.patch.now.page_size)) (sym x.found) here)

pub returns-clause-kept : goal.returns-clause-kept
returns-clause-kept g c =
    let b = c.args.self.now in
    let x = lent_at b.stripe.held.items (page_id b.part c.args.index).0 c.requires.lent in
    let in_part = lent_part g.R.Device.tells g.R.Device.history g.R.Device.state b c.args.index c.requires.ready x in
    calls.notes_keeps g.R.Device.tells g.R.Device.history g.R.Device.state b c.note.new.self c.args.index c.args.patch.now in_part c.requires.size (subst (λ id. NotesPage b.stripe c.note.new.self id c.args.patch.now) c.new-page.ensures c.note.ensures) c.requires.lent

pub returns-clause-notes : goal.returns-clause-notes
returns-clause-notes g c =
    let b = c.args.self.now in
    let x = lent_at b.stripe.held.items (page_id b.part c.args.index).0 c.requires.lent in
    let in_part = lent_part g.R.Device.tells g.R.Device.history g.R.Device.state b c.args.index c.requires.ready x in
    calls.notes g.R.Device.tells g.R.Device.history g.R.Device.state b c.note.new.self c.args.index c.args.patch.now in_part c.requires.size (subst (λ id. NotesPage b.stripe c.note.new.self id c.args.patch.now) c.new-page.ensures c.note.ensures)
