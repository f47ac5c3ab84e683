-- What is known of the pages of a well-formed partition: they pass their checks, and some can be taken.
use Rattle.std.proofs.Common.{ℕ, ◌+◌, ◌*◌, ◌<◌, ◌≤◌, ap, subst, arith}
use Rattle.std.specs.Prelude.{◌^◌, IfSome}
use Rattle.pm_types.specs.declared.shape.Shape.{Shape}
use Rattle.pm_types.specs.PageSizes.{IsPageSize}
use Rattle.pm_types.specs.Ids.{page_id}
use Rattle.pm_meta.specs.declared.layout.TheConstants.{EXTRA_PAGES}
use Rattle.pm_meta.specs.declared.slots.MetaSlot.TheVariants.{Pages}
use Rattle.pm_pages.specs.Passes.{PassesAsMeta}
use Rattle.pm_pages.specs.Rows.{page_count, number_of}
use Rattle.pm_pages.specs.Paged.{Paged}
use Rattle.pm_pages.specs.Edits.{HasMeta}
use Rattle.pm_pages.specs.SoundPages.{PassesAll, CanTake}
use Rattle.pm_pages.specs.StoredPages.{IsStored}
use Rattle.pm_pages.proofs.EditedPages.{some_bytes}
use Rattle.pm_pages.proofs.SoundPages.{sound_all}
use Rattle.pm_pages.proofs.StoredPages.{meta_there, count_small}
use Rattle.pm_part.specs.Runs.{IsPartitionOf}
use Rattle.pm_part.proofs.SpareLaw.{has_spare_pages}

-- its pages pass their checks
pub stored_of : (shape : Shape) (p : Paged) → IsPartitionOf shape p → IsStored p
stored_of shape p is = record { all = record { shape = shape; page_size = is.page_size; max_rows = is.max_rows; pass = is.well_formed.all_pass }; rows = is.rows; part = is.part }

-- a partition with a meta page has a page
pub some_pages : (shape : Shape) (p : Paged) → IsPartitionOf shape p → HasMeta p → 1 ≤ page_count p.pages
some_pages shape p is meta =
    let m = some_bytes (p.pages 0) meta.there in
    let passes : PassesAsMeta shape.page_size shape.max_rows (page_id p.part 0) m.0 = subst (λ o. IfSome o (PassesAsMeta shape.page_size shape.max_rows (page_id p.part 0))) m.1 is.well_formed.all_pass.meta in
    omega (arith, passes.stored.counts.some, ap (λ o. number_of o Pages) m.1)

-- the pages have a size that pages may have
pub size_of : (p : Paged) → PassesAll p → 1 ≤ page_count p.pages → IsPageSize p.page_size
size_of p all some = (let meta = meta_there p all some in subst IsPageSize meta.2.size meta.2.stored.well_made.size)

-- so many pages can be taken
pub can_take : (shape : Shape) (p : Paged) → IsPartitionOf shape p → 1 ≤ page_count p.pages → (n : ℕ) → n ≤ 255 → CanTake (2 * p.max_rows + EXTRA_PAGES) p n
can_take shape p is some n few =
    let all = (stored_of shape p is).all in
    let spare = has_spare_pages shape p is.page_size is.max_rows (size_of p all some) is.well_formed some n few is.rows in
    record { sound = sound_all p all; spare = spare.spare; some = some; room = spare.room }

-- there are few pages
pub stored_few : (p : Paged) → IsStored p → 1 ≤ page_count p.pages → page_count p.pages < 2 ^ 32
stored_few p stored some = count_small p stored.rows (meta_there p stored.all some)
