-- A command over a worker's page frames that names a page met it, in a partition of the store that the worker has.
use Rattle.std.proofs.Common.{◌≡◌, ◌⊎◌, inl, inr, ℕ, ◌<◌, Bool, List, Option, Some, refl, sym, ap, subst, ◌∙◌}
use Rattle.std.specs.Prelude.{IsTrue}
use Rattle.pm_types.specs.declared.page_id.PageId.{PageId}
use Rattle.pm_types.specs.declared.shape.Shape.{Shape}
use Rattle.pm_types.specs.Ids.{page_id}
use Rattle.pm_disk.specs.Moments.{History}
use Rattle.pm_disk.specs.States.{DeviceState}
use Rattle.pm_model.specs.declared.line.Cmd.{Cmd}
use Rattle.pm_model.specs.declared.line.Cmd.TheVariants.{Put, Get, Remove, Scan, Checkpoint}
use Rattle.pm_model.specs.declared.line.Line.TheVariants.{Good}
use Rattle.pm_model.specs.Orders.{part_of_line}
use Rattle.pm_pages.specs.Paged.{Paged}
use Rattle.pm_part.specs.Faults.{IsFaultAfter, IsFaultOf}
use Rattle.pm_part.specs.Runs.{IsGet}
use Rattle.pm_core.specs.BasePages.{Partitions}
use Rattle.pm_stripe.specs.declared.bound.Bound.{Bound}
use Rattle.pm_stripe.specs.Kept.{page_bytes}
use Rattle.pm_stripe.specs.Shown.{kept_by, file_by}
use Rattle.pm_engine.specs.FrameCommands.{frame_pages, part_seen, ChangesNothing, IsSameWorker}
use Rattle.pm_engine.specs.FrameLines.{HasKey}
use Rattle.pm_engine.specs.MetPages.{AllowsLine, IsMetBy, IsPartFrom, MeetsBadPage}
use Rattle.pm_engine.proofs.FrameSteps.{cut_some}

-- what a command of a key met
met_by : (T : Type 0) (cmd : Cmd) (before after : Paged) (id : PageId) → HasKey (Good cmd) → IsFaultAfter T before (IsFaultOf T after cmd) id → IsMetBy T cmd before after id
met_by T (Put cache key value) before after id has x = x
met_by T (Get cache key) before after id has x = x
met_by T (Remove cache key) before after id has x = x
met_by T (Scan cache) before after id has x = absurd has
met_by T Checkpoint before after id has x = absurd has

-- a put or a remove may change its partition, and a get leaves a page that was there
left_or_changed : (may_change : ℕ → Bool) (shape : Shape) (cmd : Cmd) (now : Option (List ℕ)) (was : Option (List ℕ)) (bytes : List ℕ) → HasKey (Good cmd) → AllowsLine may_change shape (Good cmd) → (IsGet cmd → now ≡ was) → was ≡ Some bytes
    → (now ≡ Some bytes) ⊎ IsTrue (may_change (part_of_line shape (Good cmd)))
left_or_changed may_change shape (Put cache key value) now was bytes has allows looks there = inr allows
left_or_changed may_change shape (Get cache key) now was bytes has allows looks there = inl (looks tt ∙ there)
left_or_changed may_change shape (Remove cache key) now was bytes has allows looks there = inr allows
left_or_changed may_change shape (Scan cache) now was bytes has allows looks there = absurd has
left_or_changed may_change shape Checkpoint now was bytes has allows looks there = absurd has

module _ {Q R : Type 0} (tells : Type 0) (history : R → History) (state : R → DeviceState) (may_change : ℕ → Bool) (q : ℕ) (b m : Bound Q R) (t : tells) (first : ChangesNothing tells history b m) (below : q < b.stripe.shape.partitions) where
  -- a page that the store has is there, since nothing changed
  there_still : (index : ℕ) (bytes : List ℕ) → frame_pages history b q index ≡ Some bytes → (part_seen history state m q).pages index ≡ Some bytes
  there_still index bytes there = cut_some m.stripe.shape q index (page_bytes (file_by history m) (kept_by m) (page_id q index)) bytes (ap (λ (p : Partitions). p q index) (first.told t) ∙ there)

  began : IsPartFrom may_change b.stripe.shape (frame_pages history b) (part_seen history state m q)
  began = record {
    page_size = ap (λ (s : Shape). s.page_size) first.seat.shape;
    max_rows = ap (λ (s : Shape). s.max_rows) first.seat.shape;
    inside = below;
    pages = λ index bytes small there. inl (there_still index bytes there);
  }

  -- a command of a key
  pub met_command : (cmd : Cmd) (e : Bound Q R) (id : PageId) → IsSameWorker tells history state m e → q ≡ part_of_line b.stripe.shape (Good cmd) → HasKey (Good cmd) → AllowsLine may_change b.stripe.shape (Good cmd)
      → (IsGet cmd → (index : ℕ) → (part_seen history state e q).pages index ≡ (part_seen history state m q).pages index)
      → IsFaultAfter tells (part_seen history state m q) (IsFaultOf tells (part_seen history state e q) cmd) id → MeetsBadPage tells may_change b.stripe.shape (frame_pages history b) id
  met_command cmd e id same is has allows looks fault =
      let shape : e.stripe.shape ≡ b.stripe.shape = same.shape ∙ first.seat.shape in
      record {
        cmd = cmd;
        before = part_seen history state m q;
        after = part_seen history state e q;
        began = began;
        ended = record {
          page_size = ap (λ (s : Shape). s.page_size) shape;
          max_rows = ap (λ (s : Shape). s.max_rows) shape;
          inside = below;
          pages = λ index bytes small there.
              subst (λ (part : ℕ). ((part_seen history state e q).pages index ≡ Some bytes) ⊎ IsTrue (may_change part)) (sym is)
              (left_or_changed may_change b.stripe.shape cmd ((part_seen history state e q).pages index) ((part_seen history state m q).pages index) bytes has allows (λ get. looks get index) (there_still index bytes there));
        };
        same = refl;
        met = met_by tells cmd (part_seen history state m q) (part_seen history state e q) id has fault;
      }

  -- a scan
  pub met_scan : (cache : ℕ) (id : PageId) → IsMetBy tells (Scan cache) (part_seen history state m q) (part_seen history state m q) id → MeetsBadPage tells may_change b.stripe.shape (frame_pages history b) id
  met_scan cache id met = record {
    cmd = Scan cache;
    before = part_seen history state m q;
    after = part_seen history state m q;
    began = began;
    ended = began;
    same = refl;
    met = met;
  }
