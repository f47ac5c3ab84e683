use Rattle.std.proofs.lemmas.Result.{err_from_is_err_and}
use Rattle.pm_pages.proofs.SoundPages.{no_bad_passed}
use Rattle.pm_part.proofs.CacheIndexes.{index_of}
use Rattle.pm_part.proofs.KeptIndexes.{index_overwritten}
use Rattle.pm_part.proofs.SoundPuts.{may_take_row, may_take_page, link_there, overwritten_passes}
use Rattle.pm_part.proofs.ReplacedKeys.{replaced_key, rows_relinked}
use Rattle.pm_part.proofs.ReplacementSteps.{replacement_kept, replacement_moved}
use Rattle.pm_types.specs.Ids.{page_id, link}
use Rattle.pm_free.proofs.PlacedPages.{both_ok}
use Rattle.pm_tree.specs.Indexes.{link_in}
use Rattle.pm_btpage.specs.IndexPages.{Item}
use Rattle.std.proofs.Common.{◌≡◌, ◌∙◌, List, ap, refl, rules}
use Rattle.std.proofs.Common.{arith}
use Rattle.std.proofs.lemmas.Result.{on_ok_weaker}
use Rattle.pm_part.specs.Faults.{IsFaultOfPut}
use Rattle.pm_part.proofs.PartCauses.{cause_passed, cause_chain_put, cause_relinked}
use Rattle.pm_part.proofs.SpotReads.{item_of}
use Rattle.pm_part.proofs.Swaps.{pages_then, pages_more, pages_rows, pages_relinked}
use Rattle.pm_part.proofs.putting.replace_row.Goals as goal

pub overwrite-requires-clause-item : goal.overwrite-requires-clause-item
overwrite-requires-clause-item g c = item_of (g.P.Pages.seen c.args.pages.now) c.args.spot c.args.cache c.args.key.now c.requires.has

pub relink-requires-clause-meta : goal.relink-requires-clause-meta
relink-requires-clause-meta g c = c.in_ok-link.ensures.rows.meta

pub returns-then-eq-clause-changes : goal.returns-then-eq-clause-changes
returns-then-eq-clause-changes g c =
    let T = g.P.Pages.tells in
    let a = g.P.Pages.seen c.args.pages.now in
    let b = g.P.Pages.seen c.overwrite.new.pages in
    pages_more T a b 7 15 (omega arith) (pages_rows T a b 7 _ c.in_ok-link.ensures.rows)

pub returns-clause-changes : goal.returns-clause-changes
returns-clause-changes g c =
    let T = g.P.Pages.tells in
    let a = g.P.Pages.seen c.args.pages.now in
    let b = g.P.Pages.seen c.overwrite.new.pages in
    let d = g.P.Pages.seen c.relink.new.pages in
    on_ok_weaker c.relink.result (λ ch. pages_then T a b d 7 8 15 (omega arith) (pages_rows T a b 7 _ c.in_ok-link.ensures.rows) (pages_relinked T b d 8 ch)) c.relink.ensures.changes

pub returns-clause-cause : goal.returns-clause-cause
returns-clause-cause g c =
    let T = g.P.Pages.tells in
    let a = g.P.Pages.seen c.args.pages.now in
    let b = g.P.Pages.seen c.overwrite.new.pages in
    let d = g.P.Pages.seen c.relink.new.pages in
    cause_relinked T a b d 7 c.args.cache c.args.key.now c.relink.result c.in_ok-link.ensures.rows.edits c.requires.held c.relink.ensures.cause

pub returns-in_err-link-clause-cause : goal.returns-in_err-link-clause-cause
returns-in_err-link-clause-cause g c =
    let T = g.P.Pages.tells in
    let a = g.P.Pages.seen c.args.pages.now in
    let b = g.P.Pages.seen c.overwrite.new.pages in
    let p = err_from_is_err_and c.from_residual.result c.from_residual.ensures.1 in
    cause_passed T a b (IsFaultOfPut T b c.args.cache c.args.key.now) c.overwrite.result c.from_residual.result c.in_err-link.field-0.0 p.0 c.in_err-link.was p.1 p.2
    (cause_chain_put T a b c.args.cache c.args.key.now c.overwrite.result c.overwrite.ensures.cause)

pub returns-then-eq-clause-replaces : goal.returns-then-eq-clause-replaces
returns-then-eq-clause-replaces g c = λ t shape is value row_is.
    let T = g.P.Pages.tells in
    let a = g.P.Pages.seen c.args.pages.now in
    let b = g.P.Pages.seen c.overwrite.new.pages in
    let rows = c.in_ok-link.ensures.rows in
    let same : c.in_ok-link.link ≡ c.link-old.result = search rules in
    let link_is = same ∙ c.link-old.ensures ∙ ap (λ p. link (page_id p c.args.spot.at) c.args.spot.item) c.part.ensures in (
      replacement_kept T a b shape c.args.spot c.args.cache c.args.key.now value c.args.row.now c.in_ok-link.link t is c.requires.meta c.requires.has row_is rows (c.in_ok-link.ensures.passes t) link_is,
      replaced_key shape a b.pages b.pages c.args.spot c.args.cache c.args.key.now value c.args.row.now c.in_ok-link.link is c.requires.meta c.requires.has row_is (rows.told t) refl,
    )

pub returns-clause-replaces : goal.returns-clause-replaces
returns-clause-replaces g c =
    let T = g.P.Pages.tells in
    let a = g.P.Pages.seen c.args.pages.now in
    let b = g.P.Pages.seen c.overwrite.new.pages in
    let d = g.P.Pages.seen c.relink.new.pages in
    on_ok_weaker c.relink.result (λ both t shape is value row_is.
    let rows = c.in_ok-link.ensures.rows in
    let same = rows_relinked a b d shape c.args.spot c.args.cache c.in_ok-link.link.0 c.args.key.now c.args.row.now c.in_ok-link.link (λ (items : List Item). link_in items c.args.key.now) c.requires.cache is c.requires.meta rows.meta both.0.meta c.requires.readable c.overwrite.ensures.readable c.relink.ensures.readable (rows.told t) (both.1 t) in (
      replacement_moved T a b shape c.args.spot c.args.cache c.args.key.now value c.args.row.now c.in_ok-link.link t is c.requires.meta c.requires.has row_is rows (c.in_ok-link.ensures.passes t)
          d (λ (items : List Item). link_in items c.args.key.now) c.requires.cache both.0.meta (c.overwrite.ensures.readable, c.relink.ensures.readable) both.0 (both.1 t),
      replaced_key shape a b.pages d.pages c.args.spot c.args.cache c.args.key.now value c.args.row.now c.in_ok-link.link is c.requires.meta c.requires.has row_is (rows.told t) same,
    ))
    (both_ok c.relink.result _ _ c.relink.ensures.changes c.relink.ensures.links)

pub returns-in_err-link-clause-sound : goal.returns-in_err-link-clause-sound
returns-in_err-link-clause-sound g c = λ t shape is.
    let T = g.P.Pages.tells in
    let a = g.P.Pages.seen c.args.pages.now in
    let p = err_from_is_err_and c.from_residual.result c.from_residual.ensures.1 in
    no_bad_passed c.overwrite.result c.from_residual.result c.in_err-link.field-0.0 p.0 c.in_err-link.was p.1 p.2
    (c.overwrite.ensures.sound (may_take_page T a c.args.cache t c.requires.meta (may_take_row shape a c.args.cache c.requires.cache is c.requires.meta)) is.well_formed.chains)

pub returns-then-eq-clause-sound : goal.returns-then-eq-clause-sound
returns-then-eq-clause-sound g c = λ t shape is id h. absurd (cc h)

pub returns-clause-sound : goal.returns-clause-sound
returns-clause-sound g c = λ t shape is.
    let a = g.P.Pages.seen c.args.pages.now in
    let b = g.P.Pages.seen c.overwrite.new.pages in
    let ix = index_of shape a c.args.cache is.page_size is.max_rows is.well_formed c.requires.cache in
    let held = link_there a c.args.spot c.args.cache c.args.key.now c.requires.meta c.requires.has ix in
    let rows = c.in_ok-link.ensures.rows.told t in
    c.relink.ensures.sound t (overwritten_passes shape a b is c.requires.meta (c.in_ok-link.ensures.passes t)) ix.height ix.nodes ix.items
    (index_overwritten a b.pages c.args.cache ix.height ix.nodes ix.items c.requires.readable c.requires.meta c.requires.cache ix.index a.part c.args.spot c.args.row.now c.in_ok-link.link rows) held.0 held.1
