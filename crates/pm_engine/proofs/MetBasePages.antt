-- A page that couldn't be used once a store was opened, over the base pages that it had before.
use Rattle.std.proofs.Common.{inl, inr, ℕ, Bool}
use Rattle.pm_types.specs.declared.page_id.PageId.{PageId}
use Rattle.pm_types.specs.declared.shape.Shape.{Shape}
use Rattle.pm_pages.specs.Paged.{Paged}
use Rattle.pm_core.specs.BasePages.{Partitions}
use Rattle.pm_engine.specs.FrameOpenings.{KeepsBasePagesBut}
use Rattle.pm_engine.specs.MetPages.{IsPartFrom, KeepsPagesBut, MeetsBadPage}

module _ (shape : Shape) (may_change : ℕ → Bool) (base mid : Partitions) (kept : KeepsBasePagesBut shape may_change base mid) where
  pub kept_from_base : (new : Partitions) → KeepsPagesBut may_change mid new → KeepsBasePagesBut shape may_change base new
  kept_from_base new more part index bytes inside low there = elim (kept part index bytes inside low there) [
    | inl here ↦ more part index bytes here
    | inr changed ↦ inr changed
  ]

  part_in_base : (p : Paged) → IsPartFrom may_change shape mid p → IsPartFrom may_change shape base p
  part_in_base p x = record {
    page_size = x.page_size;
    max_rows = x.max_rows;
    inside = x.inside;
    pages = λ index bytes low there. elim (kept p.part index bytes x.inside low there) [
      | inl here ↦ x.pages index bytes low here
      | inr changed ↦ inr changed
    ];
  }

  pub met_in_base : (tells : Type 0) (id : PageId) → MeetsBadPage tells may_change shape mid id → MeetsBadPage tells may_change shape base id
  met_in_base tells id x = record {
    cmd = x.cmd;
    before = x.before;
    after = x.after;
    began = part_in_base x.before x.began;
    ended = part_in_base x.after x.ended;
    same = x.same;
    met = x.met;
  }
