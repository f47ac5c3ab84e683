-- After a restart nothing is pending.
use Rattle.std.proofs.Common.{◌≡◌, inl, inr, ℕ, List, [], Some, None, sym, ◌∙◌, ap, subst}
use Rattle.pm_types.specs.declared.shape.Mark.{Mark}
use Rattle.pm_types.specs.declared.place.Place.{Place}
use Rattle.pm_disk.specs.Files.{File, Change, Cut, after, bytes_of, content}
use Rattle.pm_disk.specs.Worlds.{World}
use Rattle.pm_records.specs.LogSteps.{cut_at, cut_steps, world_after}
use Rattle.pm_records.proofs.QuietLog.{changed_quiet, forced_quiet}
use Rattle.pm_marks.specs.InForce.{Checkpoint, NoStart, Started, Ended}
use Rattle.pm_marks.specs.Slots.{mark_at, slot_of}
use Rattle.pm_marks.proofs.FirstSlots.{cleared_none}
use Rattle.pm_core.specs.Stands.{IsStill, MarksSay}
use Rattle.pm_redo.specs.Restoring.{KeepsMarks, with_end}

-- a file with a valid mark isn't one to whose first slot zeros alone were written
pub valid_forced : (file : File) → IsStill file → (slot : ℕ) (mark : Mark) → mark_at slot (bytes_of (content file)) ≡ Some mark → file.since ≡ []
valid_forced file (inl quiet) slot mark is = quiet
valid_forced file (inr new) slot mark is =
    let none : mark_at slot (bytes_of (content file)) ≡ None =
    subst (λ (cs : List Change). mark_at slot (bytes_of (after cs file.forced)) ≡ None) (sym new.since) (cleared_none file.forced new.short slot) in
    let no : None ≡ Some mark = sym none ∙ is in
    absurd cc

-- once a checkpoint has its end marker
pub ended_forced : (mark : Mark) (now : World) → IsStill now.starts × IsStill now.ends → MarksSay (Ended mark) (bytes_of (content now.starts)) (bytes_of (content now.ends)) → (now.starts.since ≡ []) × (now.ends.since ≡ [])
ended_forced mark now still says =
    (valid_forced now.starts still.0 (slot_of mark.number) mark says.0.there, valid_forced now.ends still.1 (slot_of mark.number) mark says.2)

-- and where there was none
pub marks_forced : (checkpoint : Checkpoint) (old now : World) → old.starts.since ≡ [] → old.ends.since ≡ [] → KeepsMarks checkpoint old now → IsStill now.starts × IsStill now.ends
    → MarksSay (with_end checkpoint) (bytes_of (content now.starts)) (bytes_of (content now.ends)) → (now.starts.since ≡ []) × (now.ends.since ≡ [])
marks_forced NoStart old now starts ends kept still says = (ap (λ (f : File). f.since) kept.0 ∙ starts, ap (λ (f : File). f.since) kept.1 ∙ ends)
marks_forced (Started mark) old now starts ends kept still says = ended_forced mark now still says
marks_forced (Ended mark) old now starts ends kept still says = ended_forced mark now still says

-- the log, once it is cut where it ends
pub cut_forced : (end : Place) (world : World) → ((seg : ℕ) → (world.log seg).since ≡ []) → (seg : ℕ) → ((world_after cut_steps end world).log seg).since ≡ []
cut_forced end world quiet seg = forced_quiet end.seg (cut_at end world) (changed_quiet end.seg (Cut end.off) world (λ n apart. quiet n)) seg
