use Rattle.std.proofs.Common.{rules, ◌≡◌, ◌∙◌, ◌++◌, [], ◌∷◌, refl, sym, ap, subst, arith, length}
use Rattle.std.specs.Prelude.{IsErrOf}
use Rattle.std.proofs.lemmas.List.{length-append}
use Rattle.pm_types.specs.declared.fault.StoreFault.TheVariants.{BadPage}
use Rattle.pm_disk.proofs.Chain.{started, does, at_last}
use Rattle.pm_disk.specs.Worlds.{World}
use Rattle.pm_meta.specs.MetaPages.{field_of}
use Rattle.pm_meta.specs.declared.slots.MetaSlot.TheVariants.{Pages}
use Rattle.pm_pages.specs.PageLists.{pages_in}
use Rattle.pm_pages.specs.Passes.{PassesAt}
use Rattle.pm_core.specs.BasePages.{Partitions, counted}
use Rattle.pm_redo.specs.Loading.{BaseIs, EachPasses, bytes_in}
use Rattle.pm_redo.specs.Rebuilding.{IsSame}
use Rattle.pm_redo.proofs.LoadedPages.{AreFirst, bad_first, bad_counted, none_counted, says_count, passes_found, more_pass, more_first, all_counted}
use Rattle.pm_redo.proofs.loading.load_pages.Goals as goal

pub returns-in_err-meta-clause-bad : goal.returns-in_err-meta-clause-bad
returns-in_err-meta-clause-bad g c told base is id err =
    let its : IsErrOf c.read_page.result (BadPage id) = search rules in
    bad_first c.args.shape.now base c.args.part id c.requires.inside (c.read_page.ensures.bad told base is id its)

pub returns-in_default-clause-pages : goal.returns-in_default-clause-pages
returns-in_default-clause-pages g c told base is index =
    let none = c.in_ok-meta.ensures.page told base is ∙ ap bytes_in c.in_default.is in
    subst (λ items. pages_in items index ≡ counted (base c.args.part) index) (sym c.new-pages.ensures.items)
    (none_counted (base c.args.part) none index)

pub each-init : goal.each-init
each-init g c =
    let old = g.H.Device.history c.args.host.now in
    let now = g.H.Device.history c.read_page.new.host in
    let cause = c.read_page.ensures.cause in
    let shape = c.args.shape.now in
    let meta = c.in-Some.meta in
    let items : c.push.new.self.items ≡ meta ∷ [] = c.in_ok-push.ensures.items ∙ ap (λ xs. xs ++ meta ∷ []) c.new-pages.ensures.items in
    let passes = passes_found shape c.args.part 0 c.in_ok-meta.field-0 meta c.in-Some.is c.in_ok-meta.ensures.passes in
    let counts : c.get-count.result ≡ field_of meta.bytes.items Pages = c.get-count.ensures ∙ ap (λ bytes. field_of bytes Pages) c.deref.ensures.value in
    let same = λ (t : g.H.Device.tells). does old old now c.read_page.result old.world (IsSame old.world)
    (started old (IsSame old.world) (g.H.Device.sound c.args.host.now t) refl) (c.read_page.ensures.does t) refl refl in
    let there = λ (t : g.H.Device.tells) (base : Partitions) (is : BaseIs c.args.pictures.now old.world base). c.in_ok-meta.ensures.page t base is ∙ ap bytes_in c.in-Some.is in
    record {
      state = record { later = cause.later; access = cause.access; usable = cause.usable };
      long = ap length items;
      upto = omega (arith, passes.stored.counts.some, counts);
      passes = subst (λ xs. EachPasses shape c.args.part (pages_in xs)) (sym items) (more_pass shape c.args.part [] meta (λ i. tt) passes);
      same = same;
      world = λ t. at_last old now (IsSame old.world) (g.H.Device.sound c.read_page.new.host t) (same t);
      first = λ t base is. subst (AreFirst (base c.args.part)) (sym items)
          (more_first (base c.args.part) [] meta (λ i below. absurd (omega (arith, below))) (there t base is));
      counts = λ t base is. says_count (base c.args.part) meta (there t base is) ∙ sym counts;
    }

pub returns-in_err-read_counted-clause-bad : goal.returns-in_err-read_counted-clause-bad
returns-in_err-read_counted-clause-bad g c told base is id err =
    let its : IsErrOf c.read_counted.result (BadPage id) = search rules in
    let v = c.each.invariant in
    let is' = subst (λ (w : World). BaseIs c.args.pictures.now w base) (sym (v.world told)) is in
    bad_counted c.args.shape.now base c.args.part c.each.index id c.requires.inside c.each.auto.index
    (omega (arith, v.counts told base is, c.each-test.true)) (c.read_counted.ensures.bad told base is' id its)

pub each-preserved : goal.each-preserved
each-preserved g c =
    let old = g.H.Device.history c.args.host.now in
    let before = g.H.Device.history c.each.host in
    let now = g.H.Device.history c.read_counted.new.host in
    let cause = c.read_counted.ensures.cause in
    let v = c.each.invariant in
    let shape = c.args.shape.now in
    let page = c.in_ok-read_counted.field-0 in
    let items : c.push-in-each.new.self.items ≡ c.each.pages.items ++ page ∷ [] = c.in_ok-push-2.ensures.items in
    let same = λ (t : g.H.Device.tells). does old before now c.read_counted.result before.world (IsSame old.world) (v.same t) (c.read_counted.ensures.does t) (v.world t) (v.world t) in
    let passes : PassesAt shape.page_size shape.max_rows c.args.part (length c.each.pages.items) page.bytes.items =
    subst (λ i. PassesAt shape.page_size shape.max_rows c.args.part i page.bytes.items) (sym v.long) c.in_ok-read_counted.ensures.passes in
    record {
      state = record {
        later = omega (arith, v.state.later, cause.later);
        access = cause.access ∙ v.state.access;
        usable = λ usable. cause.usable (v.state.usable usable);
      };
      long = ap length items ∙ omega (arith, v.long, length-append c.each.pages.items (page ∷ []));
      upto = omega (arith, c.each-test.true);
      passes = subst (λ xs. EachPasses shape c.args.part (pages_in xs)) (sym items) (more_pass shape c.args.part c.each.pages.items page v.passes passes);
      same = same;
      world = λ t. at_last old now (IsSame old.world) (g.H.Device.sound c.read_counted.new.host t) (same t);
      first = λ t base is.
          let is' = subst (λ (w : World). BaseIs c.args.pictures.now w base) (sym (v.world t)) is in
          let next = ap (base c.args.part) v.long ∙ c.in_ok-read_counted.ensures.page t base is' in
          subst (AreFirst (base c.args.part)) (sym items) (more_first (base c.args.part) c.each.pages.items page (v.first t base is) next);
      counts = v.counts;
    }

pub returns-clause-pages : goal.returns-clause-pages
returns-clause-pages g c told base is index =
    let v = c.each.invariant in
    all_counted (base c.args.part) c.each.pages.items c.get-count.result (v.first told base is) (v.counts told base is)
    (omega (arith, v.long, v.upto, c.each-test.false)) (omega (arith, c.each.auto.index, v.upto)) index
