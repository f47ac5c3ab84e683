-- The log's steps leave all files but the segments as they are, and changes that aren't forced in one segment alone.
use Rattle.std.proofs.Common.{◌≡◌, ◌≢◌, ◌⊎◌, inl, inr, ℕ, List, [], ◌∷◌, take, refl, sym, ◌∙◌, ap, subst}
use Rattle.std.proofs.lemmas.Bool.{cases_eq}
use Rattle.pm_types.specs.declared.place.Place.{Place}
use Rattle.pm_disk.specs.Files.{File, Change, with_change, all_forced}
use Rattle.pm_disk.specs.Worlds.{World, log_changed, log_forced}
use Rattle.pm_disk.proofs.Families.{file_here, file_there}
use Rattle.pm_records.specs.LogFiles.{IsQuietBut, ChangesLog}
use Rattle.pm_records.specs.LogSteps.{Step, CutTail, Append, Force, NextSegment, DropSegment, ForceSegment, step_end, step_world, world_after, DoesPrefix}

eq_cases : (m n : ℕ) → (m ≡ n) ⊎ (m ≢ n)
eq_cases m n = elim (cases_eq m n) [ inl is ↦ inl is | inr apart ↦ inr apart ]

-- a change of one segment
pub changed_quiet : (seg : ℕ) (change : Change) (world : World) → IsQuietBut world seg → IsQuietBut (log_changed seg change world) seg
changed_quiet seg change world quiet n apart = ap (λ (f : File). f.since) (file_there world.log seg n (with_change (world.log seg) change) apart) ∙ quiet n apart

-- once the segment is forced none has such changes
pub forced_quiet : (seg : ℕ) (world : World) → IsQuietBut world seg → (n : ℕ) → ((log_forced seg world).log n).since ≡ []
forced_quiet seg world quiet n = elim (eq_cases n seg) [
  | inl is ↦ subst (λ m. ((log_forced seg world).log m).since ≡ []) (sym is) (ap (λ (f : File). f.since) (file_here world.log seg (all_forced (world.log seg))))
  | inr apart ↦ ap (λ (f : File). f.since) (file_there world.log seg n (all_forced (world.log seg)) apart) ∙ quiet n apart
]

-- ---- what isn't the log

pub log_same : (world : World) → ChangesLog world world
log_same world = record { pages = refl; starts = refl; ends = refl; config = refl; said = refl; input = refl }

pub log_then : (old mid new : World) → ChangesLog old mid → ChangesLog mid new → ChangesLog old new
log_then old mid new first second = record {
  pages = second.pages ∙ first.pages;
  starts = second.starts ∙ first.starts;
  ends = second.ends ∙ first.ends;
  config = second.config ∙ first.config;
  said = second.said ∙ first.said;
  input = second.input ∙ first.input;
}

step_changes : (step : Step) (end : Place) (world : World) → ChangesLog world (step_world step end world)
step_changes CutTail end world = record { pages = refl; starts = refl; ends = refl; config = refl; said = refl; input = refl }
step_changes (Append frame) end world = record { pages = refl; starts = refl; ends = refl; config = refl; said = refl; input = refl }
step_changes Force end world = record { pages = refl; starts = refl; ends = refl; config = refl; said = refl; input = refl }
step_changes NextSegment end world = record { pages = refl; starts = refl; ends = refl; config = refl; said = refl; input = refl }
step_changes (DropSegment seg) end world = record { pages = refl; starts = refl; ends = refl; config = refl; said = refl; input = refl }
step_changes (ForceSegment seg) end world = record { pages = refl; starts = refl; ends = refl; config = refl; said = refl; input = refl }

pub steps_change : (steps : List Step) (end : Place) (world : World) → ChangesLog world (world_after steps end world)
steps_change [] end world = log_same world
steps_change (step ∷ steps) end world =
    log_then world (step_world step end world) (world_after (step ∷ steps) end world) (step_changes step end world)
    (steps_change steps (step_end step end) (step_world step end world))

pub prefix_changes : (steps : List Step) (end : Place) (old now : World) → DoesPrefix steps end old now → ChangesLog old now
prefix_changes steps end old now some = subst (λ w. ChangesLog old w) (sym some.2) (steps_change (take some.0 steps) end old)
