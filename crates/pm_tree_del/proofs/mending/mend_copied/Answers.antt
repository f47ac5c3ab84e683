use Rattle.std.proofs.Common.{refl, ap, subst, ◌∙◌, inr, arith}
use Rattle.std.proofs.lemmas.Result.{err_from_is_err_and}
use Rattle.pm_types.specs.Ids.{page_id}
use Rattle.pm_tree_del.specs.declared.mends.Mend.TheVariants.{Merged, Shared, Wrong}
use Rattle.pm_tree_del.specs.Neighbours.{IsMend}
use Rattle.pm_tree_del.proofs.WrittenPages.{pair_of_copy, mend_cause_gap, mend_cause_disk, mend_cause_passed, no_pair_cause}
use Rattle.pm_meta.specs.declared.slots.MetaSlot.TheVariants.{Pages}
use Rattle.pm_pages.proofs.ToldPages.{number_told}
use Rattle.pm_pages.proofs.SoundPages.{sound_no_gap, no_bad_passed}
use Rattle.pm_tree_del.proofs.mending.mend_copied.Goals as goal

pub returns-in_err-write_merged-in-Merged-clause-cause : goal.returns-in_err-write_merged-in-Merged-clause-cause
returns-in_err-write_merged-in-Merged-clause-cause g c =
    let T = g.P.Pages.tells in
    let a = g.P.Pages.seen c.args.pages.now in
    let d = g.P.Pages.seen c.write_merged.new.pages in
    let p = err_from_is_err_and c.from_residual.result c.from_residual.ensures.1 in
    mend_cause_passed T a d c.write_merged.result c.from_residual.result c.in_err-write_merged-in-Merged.field-0.0 p.0 c.in_err-write_merged-in-Merged.was p.1 p.2 (mend_cause_gap T a d c.args.pair.now.right c.write_merged.result c.write_merged.ensures.cause)

pub returns-in_err-write_shared-in-Shared-clause-cause : goal.returns-in_err-write_shared-in-Shared-clause-cause
returns-in_err-write_shared-in-Shared-clause-cause g c =
    let T = g.P.Pages.tells in
    let a = g.P.Pages.seen c.args.pages.now in
    let d = g.P.Pages.seen c.write_shared.new.pages in
    let p = err_from_is_err_and c.from_residual-in_err-write_shared-in-Shared.result c.from_residual-in_err-write_shared-in-Shared.ensures.1 in
    mend_cause_passed T a d c.write_shared.result c.from_residual-in_err-write_shared-in-Shared.result c.in_err-write_shared-in-Shared.field-0.0 p.0 c.in_err-write_shared-in-Shared.was p.1 p.2 (mend_cause_disk T a d c.write_shared.result c.write_shared.ensures.cause)

pub returns-in_ok-write_merged-in-Merged-clause-mends : goal.returns-in_ok-write_merged-in-Merged-clause-mends
returns-in_ok-write_merged-in-Merged-clause-mends g c = record {
  parent' = c.mend_pages.new.parent;
  left' = c.mend_pages.new.left;
  right' = c.mend_pages.new.right;
  mend = Merged;
  is = subst (IsMend c.args.parent.now c.args.left.now c.args.right.now c.args.pair.now.place c.mend_pages.new.parent c.mend_pages.new.left c.mend_pages.new.right) {x = c.mend_pages.result} c.in-Merged.is c.mend_pages.ensures.mends;
  sizes = (c.mend_pages.ensures.parent_noted.outside.size, c.mend_pages.ensures.left_noted.outside.size, c.mend_pages.ensures.right_noted.outside.size);
  written = (c.in_ok-write_merged-in-Merged.ensures.merges, c.has_few.ensures);
}

pub returns-in_ok-write_shared-in-Shared-clause-mends : goal.returns-in_ok-write_shared-in-Shared-clause-mends
returns-in_ok-write_shared-in-Shared-clause-mends g c = record {
  parent' = c.mend_pages.new.parent;
  left' = c.mend_pages.new.left;
  right' = c.mend_pages.new.right;
  mend = Shared;
  is = subst (IsMend c.args.parent.now c.args.left.now c.args.right.now c.args.pair.now.place c.mend_pages.new.parent c.mend_pages.new.left c.mend_pages.new.right) {x = c.mend_pages.result} c.in-Shared.is c.mend_pages.ensures.mends;
  sizes = (c.mend_pages.ensures.parent_noted.outside.size, c.mend_pages.ensures.left_noted.outside.size, c.mend_pages.ensures.right_noted.outside.size);
  written = (c.in_ok-write_shared-in-Shared.ensures.shares, refl);
}

pub returns-in-Wrong-clause-kept : goal.returns-in-Wrong-clause-kept
returns-in-Wrong-clause-kept g c = g.met.P.Pages.kept_refl c.args.pages.now

pub returns-in-Wrong-clause-cause : goal.returns-in-Wrong-clause-cause
returns-in-Wrong-clause-cause g c =
    let T = g.P.Pages.tells in
    let a = g.P.Pages.seen c.args.pages.now in
    let can = c.requires.pair in
    let family = c.requires.family in
    let wrong = subst (IsMend c.args.parent.now c.args.left.now c.args.right.now c.args.pair.now.place c.mend_pages.new.parent c.mend_pages.new.left c.mend_pages.new.right) {x = c.mend_pages.result} {y = Wrong} c.in-Wrong.is c.mend_pages.ensures.mends in
    no_pair_cause T a c.args.at can.i can.child c.args.parent.now c.new.result _ refl (c.new.ensures ∙ ap (λ n. page_id n c.args.at) c.part.ensures) family.parent_is.in_hand
    (inr (inr (c.args.pair.now, pair_of_copy a c.args.at c.args.pair.now c.args.parent.now can family.parent_is, c.args.left.now, c.args.right.now, family.left_is.in_hand, family.right_is.in_hand, wrong)))

pub returns-in_err-write_merged-in-Merged-clause-sound : goal.returns-in_err-write_merged-in-Merged-clause-sound
returns-in_err-write_merged-in-Merged-clause-sound g c = λ t sound near.
    let T = g.P.Pages.tells in
    let a = g.P.Pages.seen c.args.pages.now in
    let can = c.requires.pair in
    let p = err_from_is_err_and c.from_residual.result c.from_residual.ensures.1 in
    no_bad_passed c.write_merged.result c.from_residual.result c.in_err-write_merged-in-Merged.field-0.0 p.0 c.in_err-write_merged-in-Merged.was p.1 p.2
    (λ id h. sound_no_gap T a c.args.pair.now.right id t sound (omega (arith, can.may.right_below, number_told a Pages can.count can.number)) (c.write_merged.ensures.cause.bad id h))

pub returns-in_err-write_shared-in-Shared-clause-sound : goal.returns-in_err-write_shared-in-Shared-clause-sound
returns-in_err-write_shared-in-Shared-clause-sound g c = λ t sound near.
    let p = err_from_is_err_and c.from_residual-in_err-write_shared-in-Shared.result c.from_residual-in_err-write_shared-in-Shared.ensures.1 in
    no_bad_passed c.write_shared.result c.from_residual-in_err-write_shared-in-Shared.result c.in_err-write_shared-in-Shared.field-0.0 p.0 c.in_err-write_shared-in-Shared.was p.1 p.2 (λ id h. c.write_shared.ensures.cause.not_bad id h)

pub returns-in-Wrong-clause-sound : goal.returns-in-Wrong-clause-sound
returns-in-Wrong-clause-sound g c = λ t sound near id h.
    let wrong = subst (IsMend c.args.parent.now c.args.left.now c.args.right.now c.args.pair.now.place c.mend_pages.new.parent c.mend_pages.new.left c.mend_pages.new.right) {x = c.mend_pages.result} {y = Wrong} c.in-Wrong.is c.mend_pages.ensures.mends in
    wrong near
