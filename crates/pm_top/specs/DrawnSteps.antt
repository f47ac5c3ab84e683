-- How far a run over drawn lines has come.
use Rattle.std.specs.Prelude.{◌≡◌, ℕ, ◌+◌, ◌≤◌, ◌<◌, List, [], ◌++◌, length, take}
use Rattle.std.specs.List.{All}
use Rattle.pm_types.specs.declared.limits.TheConstants.{BATCH_LINES_MAX, LINES_MAX}
use Rattle.pm_types.specs.declared.shape.Shape.{Shape}
use Rattle.pm_disk.specs.Moments.{History, AllMoments}
use Rattle.pm_disk.specs.Worlds.{World}
use Rattle.pm_model.specs.declared.line.Line.{Line}
use Rattle.pm_model.specs.Batches.{HasCache}
use Rattle.pm_model.specs.Eval.{accepted}
use Rattle.pm_model.specs.ReplyLists.{ReplyList}
use Rattle.pm_core.specs.Calls.{ChangesDisk}
use Rattle.pm_engine.specs.Engines.{FrameRunning, AllLastIn, HasDoneLines, IsSameEngine, map_in}
use Rattle.pm_engine.specs.RunningLines.{says_nothing}
use Rattle.pm_tools.specs.DrawnLines.{drawn_lines}
use Rattle.pm_top.specs.Crashes.{CrashKeeps}
use Rattle.pm_top.specs.Runs.{CanRun, StaysWithin}

-- this holds where the host tells, and a run over a whole script may begin over the engine and this disk
abbrev pub IfCanRun : Type 0 → FrameRunning → World → Type 0 → Type 0
IfCanRun tells engine world P =
    tells → (wanted : Shape) (last number : ℕ) → CanRun wanted last number engine world → P

-- These are the next lines that are drawn, at least one and at most so many. There is room for the replies to them,
-- and none stands there yet.
pub record DrawsNext (drawing now first left : ℕ) (replies : ReplyList) (lines : List Line) : Type 0 where
  pub drawn : (more : ℕ) → drawn_lines drawing first (length lines + more)
      ≡ lines ++ drawn_lines now (first + length lines) more
  pub some : 0 < length lines
  pub inside : length lines ≤ left
  pub few : length lines ≤ BATCH_LINES_MAX
  pub caches : All HasCache lines
  pub none : replies.replies ≡ []
  pub room : length lines ≤ replies.spare

-- What was done meanwhile: nothing but the store's files was changed, and a crash at any moment leaves the map
-- after a prefix of these lines.
pub record KeepsDrawn (tells : Type 0) (old new : History) (before : FrameRunning) (lines : List Line)
    : Type 0 where
  pub disk : tells → AllMoments old new (ChangesDisk old.world)
  pub crash : tells → (wanted : Shape) (last number : ℕ) → CanRun wanted last number before old.world
      → AllMoments old new (CrashKeeps wanted last number before.store.shape (map_in before old.world) lines)

-- These lines were run, one batch after the other.
pub record HasRunDrawn (tells : Type 0) (old new : History) (before now : FrameRunning) (lines : List Line)
    : Type 0 where
  pub keeps : KeepsDrawn tells old new before lines
  pub same : IsSameEngine before now
  pub order : IfCanRun tells before old.world
      (now.order ≡ accepted before.store.shape 1 lines (map_in before old.world))
  pub runs : tells → (wanted : Shape) (last number : ℕ) → (can : CanRun wanted last number before old.world)
      → HasDoneLines wanted says_nothing can.stands.from (map_in before old.world) lines now new.world

-- Lines of the script were run: all of some batches, and of the batch after them those up to the last one that
-- was tried.
pub record TriesDrawn (tells : Type 0) (old new : History) (script : List Line) (before now : FrameRunning)
    : Type 0 where
  pub many : ℕ
  pub tried : ℕ
  pub from : many ≤ tried
  pub to : tried ≤ many + BATCH_LINES_MAX
  pub within : tried ≤ length script
  pub order : IfCanRun tells before old.world
      (now.order ≡ accepted before.store.shape 1 (take tried script) (map_in before old.world))
  pub keeps : KeepsDrawn tells old new before (take tried script)

-- All lines of the script were run, and last. Of the numbers that a whole run may take those of one line were kept for
-- the checkpoint at its end.
pub record EndsDrawn (tells : Type 0) (old new : History) (script : List Line) (before now : FrameRunning)
    : Type 0 where
  pub ran : HasRunDrawn tells old new before now script
  pub lasts : tells → (wanted : Shape) (last number : ℕ) → CanRun wanted last number before old.world
      → AllLastIn wanted says_nothing now new.world
  pub within : (last number : ℕ) → StaysWithin last number (LINES_MAX + 2048) before
      → StaysWithin last number 2047 now
