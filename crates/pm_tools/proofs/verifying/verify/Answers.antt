use Rattle.std.proofs.Common.{rules, ◌≡◌, inr, ◌∙◌, subst}
use Rattle.std.specs.Prelude.{IsErrOf}
use Rattle.pm_types.specs.declared.fault.StoreFault.TheVariants.{BadPage, BadRecord}
use Rattle.pm_disk.proofs.Chain.{at_last}
use Rattle.pm_disk.specs.Worlds.{World}
use Rattle.pm_records.specs.LogFiles.{contents}
use Rattle.pm_redo.specs.Rebuilding.{IsSame}
use Rattle.pm_tools.specs.Listings.{list_place}
use Rattle.pm_tools.specs.Verifying.{ArePagesSound, CountsChanges, IsBadFrame, IsBadIn}
use Rattle.pm_tools.proofs.Verified.{base_read, base_there, are_base}
use Rattle.pm_tools.proofs.verifying.verify.Goals as goal

pub returns-in_err-counts-clause-bad_page : goal.returns-in_err-counts-clause-bad_page
returns-in_err-counts-clause-bad_page g c t id err =
    let old = g.H.Device.history c.args.host.now in
    let mid = g.H.Device.history c.base_pages.new.host in
    let same : mid.world ≡ old.world = at_last old mid (IsSame old.world) (g.H.Device.sound c.base_pages.new.host t) (c.base_pages.ensures.same t) in
    let pictures = c.in_ok-pictures.pictures in
    let are = c.in_ok-pictures.ensures.pictures t in
    let base = base_read old.world pictures in
    let its : IsErrOf c.verify_pages.result (BadPage id) = search rules in
    let bad = c.verify_pages.ensures.bad t base (base_there old.world mid.world pictures are same) id its in
    record { base = base; base_are = are_base old.world pictures are; bad = subst (λ o. IsBadIn o base id) are.shaped bad }

pub returns-in_err-records-clause-bad_record : goal.returns-in_err-records-clause-bad_record
returns-in_err-records-clause-bad_record g c t at err =
    let old = g.H.Device.history c.args.host.now in
    let mid = g.H.Device.history c.base_pages.new.host in
    let later = g.H.Device.history c.verify_pages.new.host in
    let same : mid.world ≡ old.world = at_last old mid (IsSame old.world) (g.H.Device.sound c.base_pages.new.host t) (c.base_pages.ensures.same t) in
    let still : later.world ≡ old.world = at_last mid later (IsSame mid.world) (g.H.Device.sound c.verify_pages.new.host t) (c.verify_pages.ensures.same t) ∙ same in
    let its : IsErrOf c.count_changes.result (BadRecord at) = search rules in
    inr (subst (λ (w : World). IsBadFrame (contents w.log) (list_place w) at) still (c.count_changes.ensures.bad t at its))

pub returns-clause-verified : goal.returns-clause-verified
returns-clause-verified g c t =
    let old = g.H.Device.history c.args.host.now in
    let mid = g.H.Device.history c.base_pages.new.host in
    let later = g.H.Device.history c.verify_pages.new.host in
    let same : mid.world ≡ old.world = at_last old mid (IsSame old.world) (g.H.Device.sound c.base_pages.new.host t) (c.base_pages.ensures.same t) in
    let still : later.world ≡ old.world = at_last mid later (IsSame mid.world) (g.H.Device.sound c.verify_pages.new.host t) (c.verify_pages.ensures.same t) ∙ same in
    let pictures = c.in_ok-pictures.pictures in
    let are = c.in_ok-pictures.ensures.pictures t in
    let base = base_read old.world pictures in
    record {
      base = base;
      base_are = are_base old.world pictures are;
      pages = subst (λ o. ArePagesSound o base c.in_ok-counts.counts) are.shaped (c.in_ok-counts.ensures.sound t base (base_there old.world mid.world pictures are same));
      log = subst (λ (w : World). CountsChanges (contents w.log) (list_place w) c.in_ok-records.records) still (c.in_ok-records.ensures.counts t);
    }
