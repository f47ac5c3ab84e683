-- Steps that say nothing change nothing but the store's files.
use Rattle.std.proofs.Common.{◌≡◌, ℕ, zero, suc, ◌+◌, List, [], ◌∷◌, ◌++◌, take, Bool, true, false, Result, refl, sym, ◌∙◌, subst}
use Rattle.std.specs.Prelude.{if◌then◌else◌}
use Rattle.pm_types.specs.declared.limits.TheConstants.{PARTITIONS_MAX}
use Rattle.pm_types.specs.declared.page_id.PageId.{PageId}
use Rattle.pm_types.specs.declared.place.Place.{Place}
use Rattle.pm_types.specs.declared.shape.Mark.{Mark}
use Rattle.pm_disk.specs.declared.mark.MarkFile.TheVariants as mark_file
use Rattle.pm_disk.specs.Moments.{History, IsHistory, Does, AllMoments, WritesPage}
use Rattle.pm_disk.specs.Worlds.{World}
use Rattle.pm_disk.proofs.Chain.{started, does, joined, weaker, at_last}
use Rattle.pm_records.specs.LogFiles.{ChangesLog}
use Rattle.pm_records.specs.LogSteps.{Step, DoesPrefix}
use Rattle.pm_records.proofs.QuietLog.{steps_change, prefix_changes}
use Rattle.pm_core.specs.BasePages.{Partitions}
use Rattle.pm_core.specs.Calls.{ChangesDisk, MakesPrefix, begin_steps, end_steps, force_steps, finish_steps}
use Rattle.pm_core.specs.Machine.{DiskStep, OnLog, WriteFirst, WriteStart, ForceStart, WritePage, ForcePages, WriteEnd, ForceEnd, Say, next_state, next_world, worlds}
use Rattle.pm_core.specs.PageSets.{has_part}
use Rattle.pm_core.specs.Rounds.{on_log}
use Rattle.pm_core.specs.States.{State}

-- a step that says nothing
abbrev pub IsSilent : DiskStep → Type 0
IsSilent (OnLog step) = Unit {0}
IsSilent (WriteFirst file) = Unit {0}
IsSilent (WriteStart mark rebuilt) = Unit {0}
IsSilent ForceStart = Unit {0}
IsSilent (WritePage page gap bytes) = Unit {0}
IsSilent (ForcePages part) = Unit {0}
IsSilent (WriteEnd mark) = Unit {0}
IsSilent ForceEnd = Unit {0}
IsSilent (Say bytes) = ⊥

abbrev pub AllSilent : List DiskStep → Type 0
AllSilent [] = Unit {0}
AllSilent (t ∷ ts) = IsSilent t × AllSilent ts

-- ---- lists of steps

pub silent_join : (xs ys : List DiskStep) → AllSilent xs → AllSilent ys → AllSilent (xs ++ ys)
silent_join [] ys first second = second
silent_join (x ∷ xs) ys first second = (first.0, silent_join xs ys first.1 second)

pub silent_log : (steps : List Step) → AllSilent (on_log steps)
silent_log [] = tt
silent_log (step ∷ steps) = (tt, silent_log steps)

pub silent_begin : (mark : Mark) (rebuilt : Partitions) → AllSilent (begin_steps mark rebuilt)
silent_begin mark rebuilt = (tt, (tt, (tt, tt)))

silent_forces : (from n : ℕ) (pages : List PageId) → AllSilent (force_steps from n pages)
unfolding force_steps
silent_forces from zero pages = tt
silent_forces from (suc n) pages = by (has_part from pages) (silent_forces (from + 1) n pages)
  where
    by : (b : Bool) → AllSilent (force_steps (from + 1) n pages) → AllSilent ((if b then ForcePages from ∷ [] else []) ++ force_steps (from + 1) n pages)
    by true rest = (tt, rest)
    by false rest = rest

pub silent_finish : (mark : Mark) (pages : List PageId) → AllSilent (finish_steps mark pages)
silent_finish mark pages = silent_join (force_steps 0 PARTITIONS_MAX pages) (end_steps mark) (silent_forces 0 PARTITIONS_MAX pages) (tt, (tt, (tt, tt)))

-- ---- what they change

pub disk_same : (w : World) → ChangesDisk w w
disk_same w = record { said = refl; input = refl; config = refl }

pub disk_then : (old mid new : World) → ChangesDisk old mid → ChangesDisk mid new → ChangesDisk old new
disk_then old mid new first second = record {
  said = second.said ∙ first.said;
  input = second.input ∙ first.input;
  config = second.config ∙ first.config;
}

pub disk_log : (old new : World) → ChangesLog old new → ChangesDisk old new
disk_log old new only = record { said = only.said; input = only.input; config = only.config }

step_disk : (t : DiskStep) (s : State) (w : World) → IsSilent t → ChangesDisk w (next_world t s w)
step_disk (OnLog step) s w silent = let only = steps_change (step ∷ []) s.end w in record { said = only.said; input = only.input; config = only.config }
step_disk (WriteFirst mark_file.Start) s w silent = record { said = refl; input = refl; config = refl }
step_disk (WriteFirst mark_file.End) s w silent = record { said = refl; input = refl; config = refl }
step_disk (WriteStart mark rebuilt) s w silent = record { said = refl; input = refl; config = refl }
step_disk ForceStart s w silent = record { said = refl; input = refl; config = refl }
step_disk (WritePage page gap bytes) s w silent = record { said = refl; input = refl; config = refl }
step_disk (ForcePages part) s w silent = record { said = refl; input = refl; config = refl }
step_disk (WriteEnd mark) s w silent = record { said = refl; input = refl; config = refl }
step_disk ForceEnd s w silent = record { said = refl; input = refl; config = refl }
step_disk (Say bytes) s w silent = absurd silent

steps_disk : (k : ℕ) (ts : List DiskStep) (s : State) (w : World) → AllSilent ts → ChangesDisk w (worlds (take k ts) s w)
steps_disk zero ts s w silent = disk_same w
steps_disk (suc k) [] s w silent = disk_same w
steps_disk (suc k) (t ∷ ts) s w silent =
    let next = next_world t s w in
    disk_then w next (worlds (take k ts) (next_state t s w) next) (step_disk t s w silent.0) (steps_disk k ts (next_state t s w) next silent.1)

prefix_disk : (ts : List DiskStep) (s : State) (old now : World) → AllSilent ts → MakesPrefix ts s old now → ChangesDisk old now
prefix_disk ts s old now silent some = subst (ChangesDisk old) (sym some.2) (steps_disk some.0 ts s old silent)

-- ---- at each moment

pub makes_disk : (old new : History) (ts : List DiskStep) (s : State) → AllSilent ts → AllMoments old new (MakesPrefix ts s old.world) → AllMoments old new (ChangesDisk old.world)
makes_disk old new ts s silent moments = weaker old new (MakesPrefix ts s old.world) (ChangesDisk old.world) (λ w some. prefix_disk ts s old.world w silent some) moments

pub logs_disk : (old new : History) (steps : List Step) (end : Place) → AllMoments old new (DoesPrefix steps end old.world) → AllMoments old new (ChangesDisk old.world)
logs_disk old new steps end moments =
    weaker old new (DoesPrefix steps end old.world) (ChangesDisk old.world) (λ w some. disk_log old.world w (prefix_changes steps end old.world w some)) moments

-- a call that changes nothing, or nothing was done
pub none_disk : (h : History) → IsHistory h → AllMoments h h (ChangesDisk h.world)
none_disk h sound = started h (ChangesDisk h.world) sound (disk_same h.world)

pub reads_disk : {T E : Type 0} (old new : History) (result : Result T E) → IsHistory old → Does {T = T} {E = E} old new result old.world → AllMoments old new (ChangesDisk old.world)
reads_disk old new result sound call =
    does old old new result old.world (ChangesDisk old.world) (none_disk old sound) call (disk_same old.world) (disk_same old.world)

pub same_disk : (old new : History) → AllMoments old new (λ w. w ≡ old.world) → AllMoments old new (ChangesDisk old.world)
same_disk old new same = weaker old new (λ w. w ≡ old.world) (ChangesDisk old.world) (λ w is. subst (ChangesDisk old.world) (sym is) (disk_same old.world)) same

-- a page was written
pub page_disk : {T E : Type 0} (old new : History) (result : Result T E) (page : PageId) (bytes : List ℕ) → IsHistory old → WritesPage {T = T} {E = E} old new result page bytes → AllMoments old new (ChangesDisk old.world)
page_disk old new result page bytes sound call =
    does old old new result _ (ChangesDisk old.world) (none_disk old sound) call.does (disk_same old.world) (record { said = refl; input = refl; config = refl })

-- calls after calls
pub then_disk : (old mid new : History) → IsHistory mid → AllMoments old mid (ChangesDisk old.world) → AllMoments mid new (ChangesDisk mid.world) → AllMoments old new (ChangesDisk old.world)
then_disk old mid new sound first second =
    joined old mid new (ChangesDisk old.world) first
    (weaker mid new (ChangesDisk mid.world) (ChangesDisk old.world) (λ w is. disk_then old.world mid.world w (at_last old mid (ChangesDisk old.world) sound first) is) second)
