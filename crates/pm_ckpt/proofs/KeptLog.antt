-- A checkpoint keeps what the log has from the first kept segment on: its begin is appended at the log's end, and only
-- segments below are dropped.
use Rattle.std.proofs.Common.{◌≡◌, inl, inr, ℕ, ◌+◌, ◌<◌, ◌≤◌, max, refl, ◌∙◌, ap, arith, [], ◌∷◌}
use Rattle.std.specs.Prelude.{◌^◌}
use Rattle.std.proofs.lemmas.Bool.{cases_lt}
use Rattle.pm_types.specs.declared.place.Place.{Place}
use Rattle.pm_types.specs.declared.shape.Mark.{Mark}
use Rattle.pm_disk.specs.Files.{File, bytes_of, content, all_forced}
use Rattle.pm_disk.specs.Worlds.{World, log_forced}
use Rattle.pm_disk.proofs.Families.{file_cases}
use Rattle.pm_records.specs.LogFiles.{contents}
use Rattle.pm_records.specs.LogSteps.{Force, end_after, world_after}
use Rattle.pm_records.proofs.Tracing.{world_after-append}
use Rattle.pm_segments.specs.Appends.{append_steps}
use Rattle.pm_segments.specs.Drops.{AreDropped}
use Rattle.pm_segments.specs.Ends.{LogEnd, EndsThere}
use Rattle.pm_segments.proofs.GrownLog.{Grew, appended, extends_same, extends_then}
use Rattle.pm_core.specs.BasePages.{Partitions}
use Rattle.pm_core.specs.Calls.{begin_steps}
use Rattle.pm_core.specs.Machine.{worlds}
use Rattle.pm_core.specs.Rounds.{on_log}
use Rattle.pm_core.specs.States.{State}
use Rattle.pm_core.proofs.LogCalls.{log_worlds}
use Rattle.pm_core.proofs.Making.{worlds_join}
use Rattle.pm_ckpt.specs.Checkpoints.{opening_steps, LeavesLog}
use Rattle.pm_ckpt.specs.Marked.{begin_frame, begin_log}

forced_same : (n : ℕ) (w : World) (seg : ℕ) → contents (log_forced n w).log seg ≡ contents w.log seg
forced_same n w seg =
    let P : ℕ → File → Type 0 = λ m g. bytes_of (content g) ≡ contents w.log m in
    file_cases w.log n (all_forced (w.log n)) P refl (λ m apart. refl) seg

-- the steps up to the start marker make of the segments what those on the log make of them
opened_log : (log : LogEnd) (mark : Mark) (rebuilt : Partitions) (s : State) (w : World) → s.end ≡ log.end → (worlds (opening_steps log mark rebuilt) s w).log ≡ (world_after (begin_log log mark) log.end w).log
opened_log log mark rebuilt s w ends =
    let steps = on_log (begin_log log mark) in
    ap (λ (v : World). v.log) (worlds_join steps (begin_steps mark rebuilt) s w)
    ∙ ap (λ (v : World). v.log) (log_worlds (begin_log log mark) s w ∙ ap (λ (p : Place). world_after (begin_log log mark) p w) ends)

-- once it has begun
pub begun_grew : (log : LogEnd) (mark : Mark) (rebuilt : Partitions) (s : State) (w mid : World) → s.end ≡ log.end → EndsThere log w → log.end.seg + 1 < 2 ^ 64 → mid ≡ worlds (opening_steps log mark rebuilt) s w
    → (seg : ℕ) → seg ≤ log.end.seg → Grew seg w mid
begun_grew log mark rebuilt s w mid ends there numbered is seg le =
    let f = begin_frame mark in
    let added = world_after (append_steps log f) log.end w in
    let log_is : mid.log ≡ (world_after (begin_log log mark) log.end w).log = ap (λ (v : World). v.log) is ∙ opened_log log mark rebuilt s w ends in
    let parts : world_after (begin_log log mark) log.end w ≡ log_forced (end_after (append_steps log f) log.end).seg added = world_after-append (append_steps log f) (Force ∷ []) log.end w in
    let same : contents mid.log seg ≡ contents added.log seg =
    ap (λ (files : ℕ → File). contents files seg) (log_is ∙ ap (λ (v : World). v.log) parts) ∙ forced_same (end_after (append_steps log f) log.end).seg added seg in
    extends_then (contents w.log seg) (contents added.log seg) (contents mid.log seg) ((appended log f w there numbered).grew seg le) (extends_same (contents added.log seg) (contents mid.log seg) same)

-- a segment that isn't below this one is as it was
drops_keep : (first to kept seg : ℕ) (old new : World) → to ≡ max first kept → AreDropped first to old new → kept ≤ seg → contents new.log seg ≡ contents old.log seg
drops_keep first to kept seg old new is dropped le = elim (cases_lt seg first) [
  | inl below ↦ ap (λ (f : File). bytes_of (content f)) (dropped.others seg (inl below))
  | inr above ↦ ap (λ (f : File). bytes_of (content f)) (dropped.others seg (inr (omega (arith, is, above, le))))
]

-- and the whole
pub leaves_log : (log begun now : LogEnd) (mark : Mark) (rebuilt : Partitions) (s : State) (old mid ended new : World) (kept : ℕ) → s.end ≡ log.end → EndsThere log old → mid ≡ worlds (opening_steps log mark rebuilt) s old → ended.log ≡ mid.log
    → now.first ≡ max begun.first kept → AreDropped begun.first now.first ended new → EndsThere now new → LeavesLog kept log now old new
leaves_log log begun now mark rebuilt s old mid ended new kept ends there opened same first_is dropped there_now = record {
  ends = there_now;
  begins = λ numbered seg low high.
      let here : contents new.log seg ≡ contents mid.log seg =
      drops_keep begun.first now.first kept seg ended new first_is dropped low ∙ ap (λ (files : ℕ → File). contents files seg) same in
      extends_then (contents old.log seg) (contents mid.log seg) (contents new.log seg) (begun_grew log mark rebuilt s old mid ends there numbered opened seg high) (extends_same (contents mid.log seg) (contents new.log seg) here);
}
