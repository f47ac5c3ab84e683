use Rattle.std.proofs.Common.{◌≡◌, List, length, drop, sym, subst, ◌∙◌}
use Rattle.std.specs.List.Sorted.{IsPermutation}
use Rattle.std.proofs.lemmas.List.{take_at}
use Rattle.std.proofs.lemmas.List.FromFn.{length-map-range_with_len}
use Rattle.std.proofs.lemmas.List.Sorted.{length_permutation}
use Rattle.pm_data.specs.declared.slots.Slot.{Slot}
use Rattle.pm_data.specs.DataPages.{slot_at}
use Rattle.pm_data.specs.Following.{AreConsecutive}
use Rattle.pm_data.proofs.Filled.{page_filled}
use Rattle.pm_data.proofs.checks.are_full.Goals as goal

pub returns : goal.returns
returns c =
    let page = c.args.page.now in
    let sorted = c.sort_by_start.new.slots in
    let same = subst (λ (t : List Slot). IsPermutation t sorted) c.all_slots-slots.ensures c.sort_by_start.ensures.same in
    let len : length sorted ≡ c.args.count = length_permutation _ sorted same ∙ length-map-range_with_len (slot_at page) 0 c.args.count in
    let whole = take_at sorted (drop c.args.count c.all_slots-slots.result) c.args.count len in
    let is = page_filled page c.args.count c.args.low sorted c.requires.low c.requires.some c.requires.above c.requires.each same c.sort_by_start.ensures.rising in (
      λ t. is.0 (subst (λ (t : List Slot). AreConsecutive c.args.low (length page) t) whole (c.are_consecutive.ensures.0 t)),
      λ h. c.are_consecutive.ensures.1 (subst (λ (t : List Slot). AreConsecutive c.args.low (length page) t) (sym whole) (is.1 h)),
    )
