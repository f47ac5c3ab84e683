use Rattle.std.proofs.Common.{◌≡◌, ◌+◌, ◌-◌, ◌≤◌, false, sym, ap, arith, ◌∙◌}
use Rattle.pm_data.specs.DataPages.{count_of, low_of, slot_at, is_empty, row_bytes}
use Rattle.pm_data.proofs.checks.has_rows.Goals as goal
use Rattle.pm_data.proofs.checks.has_rows.Goals.{else-count-gt0-via-then-count-gt0+else-is_empty, else-count-gt0-via-else-count-gt0}

pub returns-then-each_holds : goal.returns-then-each_holds
returns-then-each_holds c =
    let page = c.args.page.now in
    let count : c.get_u16-count.result ≡ count_of page = c.get_u16-count.ensures in
    let last = elim c.else-count-gt0.branch as (λ _. 1 ≤ c.get_u16-count.result → is_empty (slot_at page (c.get_u16-count.result - 1)) ≡ false) [
      | else-count-gt0-via-then-count-gt0+else-is_empty w ↦ λ some. sym (ap is_empty w.get_slot.ensures) ∙ sym w.is_empty.ensures ∙ w.if-is_empty.false
      | else-count-gt0-via-else-count-gt0 w ↦ λ some. absurd (omega (arith, some))
    ] in (
      λ t.
          let full = c.are_full.ensures.0 t in
          record {
            few = omega (arith, count);
            last = λ some. ap (λ n. is_empty (slot_at page (n - 1))) (sym count) ∙ last (omega (arith, count, some));
            low = omega (arith, count, c.get_u16-low.ensures);
            each = λ item lt. c.each_holds.ensures.0 c.if-each_holds.true item (omega (arith, count, lt));
            apart = λ i j less lt. full.0 i j less (omega (arith, count, lt));
            full = ap (λ n. low_of page + row_bytes page n) (sym count) ∙ full.1;
          },
      λ rows. c.are_full.ensures.1 (λ i j less lt. rows.apart i j less (omega (arith, count, lt)), ap (λ n. low_of page + row_bytes page n) count ∙ rows.full),
    )
