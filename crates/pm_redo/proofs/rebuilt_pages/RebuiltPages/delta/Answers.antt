use Rattle.std.proofs.Common.{Bool, false, ◌≡◌, ap, sym, ◌∙◌, ◌<◌, subst}
use Rattle.std.specs.Prelude.{is_some}
use Rattle.pm_types.specs.Ids.{part_of_id, index_of_id}
use Rattle.pm_types.specs.PageSizes.{IsPageSize}
use Rattle.pm_records.specs.Records.{Delta}
use Rattle.pm_redo.specs.declared.rebuilt_pages.RebuiltPages.TheInside.{Inside}
use Rattle.pm_redo.specs.PageMaps.{PageMap, AreSized, seen, TakesRecord}
use Rattle.pm_redo.proofs.Entries.{bytes_in, found_entry, put_sized, set_same}
use Rattle.pm_redo.proofs.Taking.{page_map, takes_delta, takes_no_delta}
use Rattle.pm_redo.proofs.rebuilt_pages.RebuiltPages.delta.Goals as goal
use Rattle.pm_redo.proofs.rebuilt_pages.RebuiltPages.delta.Goals.{in-Some, in-None}

pub patch-requires : goal.patch-requires
patch-requires c =
    let page = c.args.page in
    let found = found_entry page c.number_of.result c.in-Some.bytes.now c.self.inside.pages.entries c.number_of.ensures c.in-Some.ensures.value in
    subst IsPageSize (sym (c.self.invariant.each (part_of_id page) (index_of_id page) c.in-Some.bytes.now.items found)) c.self.invariant.may

abbrev sized : Inside → Type 0
sized s = AreSized s.shape.page_size (seen bytes_in s.pages.entries)

pub invariant_of-self : goal.invariant_of-self
invariant_of-self c =
    let page = c.args.page in
    let k = c.number_of.result in
    let es = c.self.inside.pages.entries in
    elim c.match-get_mut.branch [
      | in-Some w ↦
          let now = w.patch.new.bytes in
          let through = c.get_mut.follows.holds now in
          let found = found_entry page k w.in-Some.bytes.now es c.number_of.ensures w.in-Some.ensures.value in
          let long = w.patch.ensures.sized ∙ c.self.invariant.each (part_of_id page) (index_of_id page) w.in-Some.bytes.now.items found in
          subst sized (sym w.self-inside-is)
          (put_sized c.self.inside.shape.page_size page k now es (c.get_mut.follows.lender now).entries c.number_of.ensures (through.3 (ap (λ o. is_some o) (sym w.in-Some.ensures.value))).0 long c.self.invariant)
      | in-None w ↦ subst sized (sym (w.self-inside-is ∙ ap (λ m. let s : Inside = record { shape = c.self.inside.shape; pages = m } in s) c.get_mut.follows.holds-at-none)) c.self.invariant
    ]

pub returns : goal.returns
returns c =
    let page = c.args.page in
    let k = c.number_of.result in
    let es = c.self.inside.pages.entries in
    let shape = c.self.inside.shape in
    let delta = c.args.ranges.now in
    let lt : part_of_id page < shape.partitions = subst (λ n. n < shape.partitions) c.part.ensures c.if-part-self.false in
    let view : Inside → PageMap = λ s. page_map s.shape s.pages.entries in
    let here : (b : Bool) (s : Inside) → c.match-get_mut.result ≡ b → c.match-get_mut.self-inside ≡ s → TakesRecord b (page_map shape es) (view s) (Delta page delta)
    → TakesRecord c.match-get_mut.result c.args.self.now (view c.match-get_mut.self-inside) (Delta page delta) =
    λ b s rs ss takes. subst (λ (old : PageMap). TakesRecord c.match-get_mut.result old (view c.match-get_mut.self-inside) (Delta page delta)) c.self.view_is
    (subst (λ (t : Inside). TakesRecord c.match-get_mut.result (page_map shape es) (view t) (Delta page delta)) (sym ss)
    (subst (λ r. TakesRecord r (page_map shape es) (view s) (Delta page delta)) (sym rs) takes)) in
    elim c.match-get_mut.branch [
      | in-Some w ↦
          let was = w.in-Some.bytes.now in
          let now = w.patch.new.bytes in
          let through = c.get_mut.follows.holds now in
          let value = w.in-Some.ensures.value in
          let fs = (c.get_mut.follows.lender now).entries in
          let e = w.patch.ensures in
          here w.patch.result (record { shape = shape; pages = c.get_mut.follows.lender now }) w.result-is w.self-inside-is
          (takes_delta shape page k delta es c.number_of.ensures lt w.patch.result was now fs value (through.3 (ap (λ o. is_some o) (sym value))).0
          (λ same. ap (seen bytes_in) through.0 ∙ set_same _ es was now value same)
          c.requires.grammar e.delta e.applied e.unchanged)
      | in-None w ↦
          here false (record { shape = shape; pages = c.get_mut.follows.lender-at-none }) w.result-is w.self-inside-is
          (subst (λ m. TakesRecord false (page_map shape es) (page_map shape m.entries) (Delta page delta)) (sym c.get_mut.follows.holds-at-none)
          (takes_no_delta shape page k delta es c.number_of.ensures lt w.in-None.ensures.value))
    ]
