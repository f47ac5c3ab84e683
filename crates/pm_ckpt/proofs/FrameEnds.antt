-- Pages are written, and then the checkpoint ends.
use Rattle.std.proofs.Common.{◌≡◌, ℕ, List, ◌++◌, refl, sym, ◌∙◌, ap, subst, Result, Ok}
use Rattle.std.specs.Prelude.{All, IsErr}
use Rattle.pm_types.specs.declared.page_id.PageId.{PageId}
use Rattle.pm_types.specs.declared.shape.Mark.{Mark}
use Rattle.pm_disk.specs.Moments.{History}
use Rattle.pm_disk.specs.Worlds.{World, pages_in}
use Rattle.pm_core.specs.BasePages.{Partitions}
use Rattle.pm_core.specs.Calls.{MakesSteps, finish_steps}
use Rattle.pm_core.specs.Machine.{states, worlds}
use Rattle.pm_core.specs.PageSets.{Running}
use Rattle.pm_core.specs.States.{State}
use Rattle.pm_core.proofs.Making.{broke_off}
use Rattle.pm_ckpt.specs.declared.frame_page.FramePage.{FramePage}
use Rattle.pm_ckpt.specs.Frames.{names_of}
use Rattle.pm_ckpt.specs.Checkpoints.{MayEnd}
use Rattle.pm_ckpt.specs.Writes.{IsHeld, write_steps, WritesPages, Finishes, AreHome, StoresPages}
use Rattle.pm_ckpt.proofs.Finishing.{home, finish_log, writes_log}
use Rattle.pm_ckpt.proofs.Opening.{makes_joined, some_state}
use Rattle.pm_ckpt.proofs.Stored.{stored_writes, stored_as, finish_same}
use Rattle.pm_ckpt.proofs.Written.{after_writes, writes_world}

-- by the names of pages that stand in frames
pub wrote_as : {T E : Type 0} (old new : History) (result : Result T E) (held : Partitions) (order : List PageId) (pages : List FramePage) → order ≡ names_of pages → WritesPages {T = T} {E = E} old new result held (names_of pages)
    → WritesPages {T = T} {E = E} old new result held order
wrote_as {T} {E} old new result held order pages is wrote = subst (λ ps. WritesPages {T = T} {E = E} old new result held ps) (sym is) wrote

-- the call failed, and so did the one above it
pub broke_finish : {V T E : Type 0} (old new : History) (first : Result V E) (left : Result T E) (held : Partitions) (order : List PageId) (mark : Mark) → IsErr left → Finishes {T = V} {E = E} old new first held order mark
    → Finishes {T = T} {E = E} old new left held order mark
broke_finish old new first left held order mark failed ends = record {
  writings = ends.writings;
  pages_are = ends.pages_are;
  gaps = ends.gaps;
  makes = λ s. broke_off old new left (write_steps held ends.writings ++ finish_steps mark order) s failed (ends.makes s).moments;
}

-- it was made, and so was the one above it
pub finishes_ok : {V T E F : Type 0} (old new : History) (x : V) (y : T) (held : Partitions) (order : List PageId) (mark : Mark) → Finishes {T = V} {E = E} old new (Ok x) held order mark → Finishes {T = T} {E = F} old new (Ok y) held order mark
finishes_ok old new x y held order mark ends = record {
  writings = ends.writings;
  pages_are = ends.pages_are;
  gaps = ends.gaps;
  makes = λ s. record { all = (ends.makes s).all; moments = (ends.makes s).moments };
}

module _ {V E : Type 0} (old mid : History) (x : V) (held : Partitions) (order : List PageId) (wrote : WritesPages {T = V} {E = E} old mid (Ok x) held order) (mark : Mark) (now : Running)
    (mark_is : now.mark ≡ mark) (pages_is : now.set.pages ≡ order) where
  -- the end's steps, by the mark and the order
  end_steps_are : finish_steps now.mark now.set.pages ≡ finish_steps mark order
  end_steps_are = ap (λ (m : Mark). finish_steps m now.set.pages) mark_is ∙ ap (finish_steps mark) pages_is

  wrote_world : (s : State) → mid.world ≡ after_writes held wrote.writings old.world
  wrote_world s = (wrote.makes s).all ∙ writes_world held wrote.writings s old.world

  module _ {T : Type 0} (new : History) (last : Result T E) (ends : (s : State) → MakesSteps {T = T} {E = E} mid new last (finish_steps now.mark now.set.pages) s) where
    pub finishes : Finishes {T = T} {E = E} old new last held order mark
    finishes = record {
      writings = wrote.writings;
      pages_are = wrote.pages_are;
      gaps = wrote.gaps;
      makes = λ s.
          let writes = write_steps held wrote.writings in
          let after = states writes s old.world in
          makes_joined {T = T} {E = E} old mid new last writes (finish_steps mark order) s (wrote.makes s).moments (wrote.makes s).all
          (subst (λ steps. MakesSteps {T = T} {E = E} mid new last steps after) end_steps_are (ends after));
    }

  module _ {T : Type 0} (new : History) (y : T) (ends : (s : State) → MakesSteps {T = T} {E = E} mid new (Ok y) (finish_steps now.mark now.set.pages) s) where
    ended_world : (s : State) → new.world ≡ worlds (finish_steps mark order) s (after_writes held wrote.writings old.world)
    ended_world s =
        (ends s).all ∙ ap (λ steps. worlds steps s mid.world) end_steps_are ∙ ap (λ (w : World). worlds (finish_steps mark order) s w) (wrote_world s)

    pub home_there : (may : MayEnd mark held order old.world) → All (IsHeld mark.shape.page_size held) order → AreHome mark.shape.page_size held order new.world
    home_there may held_all = home may.wanted may.told may.state mark held order old.world may.can held_all wrote.writings wrote.pages_are wrote.gaps new.world (ended_world may.state)

    pub log_there : new.world.log ≡ old.world.log
    log_there =
        let s = some_state mark.shape in
        ap (λ (w : World). w.log) (ended_world s) ∙ finish_log mark order s (after_writes held wrote.writings old.world) ∙ writes_log held wrote.writings old.world

    pub stored_there : (size : ℕ) → All (IsHeld size held) order → StoresPages size held order old.world new.world
    stored_there size held_all =
        let s = some_state mark.shape in
        let after = after_writes held wrote.writings old.world in
        let writes = stored_writes size held wrote.writings old.world (subst (λ ps. All (IsHeld size held) ps) (sym wrote.pages_are) held_all) wrote.gaps in
        stored_as size held order old.world after old.world new.world (λ k. refl)
        (λ k. ap (λ (w : World). pages_in w k) (ended_world s) ∙ finish_same mark order s after k)
        (subst (λ ps. StoresPages size held ps old.world after) wrote.pages_are writes)
