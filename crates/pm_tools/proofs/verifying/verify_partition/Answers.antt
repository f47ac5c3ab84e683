use Rattle.std.proofs.Common.{◌≡◌, inr, sym, ◌∙◌, subst}
use Rattle.std.specs.Prelude.{IsTrue, ◌↔◌}
use Rattle.std.proofs.lemmas.Bool.{false≢true}
use Rattle.pm_meta.specs.declared.slots.MetaSlot.TheVariants.{Pages, Rows}
use Rattle.pm_pages.specs.PageLists.{pages_in}
use Rattle.pm_pages.specs.Rows.{number_in, page_count}
use Rattle.pm_pages.specs.WellFormed.{IsWellFormed}
use Rattle.pm_redo.proofs.LoadedPages.{same_page}
use Rattle.pm_tools.proofs.Verified.{number_loaded, well_counted, well_loaded}
use Rattle.pm_tools.proofs.verifying.verify_partition.Goals as goal

pub returns-then-not-is_sound-clause-bad : goal.returns-then-not-is_sound-clause-bad
returns-then-not-is_sound-clause-bad g c t base is id err =
    let shape = c.args.shape.now in
    let part = c.args.part in
    let pages = c.in_ok-pages.pages.items in
    let exact = subst (λ xs. IsTrue c.in_ok-is_sound.is_sound ↔ IsWellFormed shape part (pages_in xs)) c.deref.ensures.value c.in_ok-is_sound.ensures in
    inr (record {
      part = part;
      inside = c.requires.inside;
      named = same_page id c.new.result err ∙ c.new.ensures;
      bad = λ well. false≢true (sym c.if-not-is_sound.true ∙ exact.1 (well_loaded shape part (base part) (pages_in pages) (c.in_ok-pages.ensures.pages t base is) well));
    })

pub returns-clause-sound : goal.returns-clause-sound
returns-clause-sound g c t base is =
    let shape = c.args.shape.now in
    let part = c.args.part in
    let pages = c.in_ok-pages.pages.items in
    let are = c.in_ok-pages.ensures.pages t base is in
    let exact = subst (λ xs. IsTrue c.in_ok-is_sound.is_sound ↔ IsWellFormed shape part (pages_in xs)) c.deref.ensures.value c.in_ok-is_sound.ensures in
    let counts = c.counted.ensures in
    let items = c.deref-2.ensures.value in
    record {
      well_formed = well_counted shape part (base part) (pages_in pages) are (exact.0 c.if-not-is_sound.false);
      pages = subst (λ xs. c.counted.result.pages ≡ page_count (pages_in xs)) items counts.pages ∙ number_loaded (base part) (pages_in pages) Pages are;
      rows = subst (λ xs. c.counted.result.rows ≡ number_in (pages_in xs) Rows) items counts.rows ∙ number_loaded (base part) (pages_in pages) Rows are;
    }
