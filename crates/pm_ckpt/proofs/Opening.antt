-- The begin of a checkpoint as steps of the machine.
use Rattle.std.proofs.Common.{◌≡◌, Bool, true, false, List, [], ◌∷◌, ◌++◌, None, length, sym, ◌∙◌, ap, subst, Result}
use Rattle.std.specs.FinMap.{empty}
use Rattle.std.proofs.lemmas.Result.{on_ok_weaker}
use Rattle.pm_types.specs.declared.place.Place.{Place}
use Rattle.pm_types.specs.declared.shape.Shape.{Shape}
use Rattle.pm_frame.specs.Frames.{Frame}
use Rattle.pm_disk.specs.Moments.{History, AllMoments}
use Rattle.pm_disk.specs.Worlds.{World}
use Rattle.pm_disk.proofs.Chain.{weaker}
use Rattle.pm_records.specs.LogSteps.{Step, Append, end_after, world_after, DoesPrefix}
use Rattle.pm_records.specs.LogFiles.{Uncut}
use Rattle.pm_records.specs.Logs.{place, place_after}
use Rattle.pm_records.proofs.Tracing.{moments_first, end_after-append}
use Rattle.pm_marks.specs.InForce.{NoStart}
use Rattle.pm_segments.specs.Appends.{room_steps, append_steps, steps_of, grown}
use Rattle.pm_segments.specs.Ends.{LogEnd, EndsThere}
use Rattle.pm_segments.proofs.Sealing.{roomy_end}
use Rattle.pm_core.specs.BasePages.{no_pages}
use Rattle.pm_core.specs.Calls.{MakesPrefix, MakesSteps}
use Rattle.pm_core.specs.Machine.{DiskStep, states, worlds}
use Rattle.pm_core.specs.Rounds.{on_log}
use Rattle.pm_core.specs.States.{State}
use Rattle.pm_core.proofs.LogCalls.{log_worlds, prefix}
use Rattle.pm_core.proofs.Making as making

-- where the log ends after an append
pub grown_end : (log : LogEnd) (frame : Frame) → end_after (append_steps log frame) log.end ≡ (grown log frame).end
grown_end log frame =
    let n = length frame.payload in
    end_after-append (room_steps log n) (Append frame ∷ []) log.end ∙ ap (λ (p : Place). place_after p frame) (roomy_end log n)

-- an append that came to its frame's own write, or didn't
pub moments_tried : (old new : History) (tried : Bool) (log : LogEnd) (frame : Frame) → AllMoments old new (DoesPrefix (steps_of tried log frame) log.end old.world)
    → AllMoments old new (DoesPrefix (append_steps log frame) log.end old.world)
moments_tried old new true log frame moments = moments
moments_tried old new false log frame moments = moments_first old new (room_steps log (length frame.payload)) (Append frame ∷ []) log.end moments

-- steps of the log as steps of the machine
pub log_moments : (old new : History) (steps : List Step) (s : State) (end : Place) → s.end ≡ end → AllMoments old new (DoesPrefix steps end old.world) → AllMoments old new (MakesPrefix (on_log steps) s old.world)
log_moments old new steps s end ends moments =
    weaker old new (DoesPrefix steps end old.world) (MakesPrefix (on_log steps) s old.world)
    (λ w some. prefix steps s old.world w (subst (λ (p : Place). DoesPrefix steps p old.world w) (sym ends) some)) moments

pub log_world : (old now : World) (steps : List Step) (s : State) (end : Place) → s.end ≡ end → now ≡ world_after steps end old → now ≡ worlds (on_log steps) s old
log_world old now steps s end ends is = is ∙ ap (λ (p : Place). world_after steps p old) (sym ends) ∙ sym (log_worlds steps s old)

-- steps, and then others
pub makes_joined : {T E : Type 0} (old mid new : History) (result : Result T E) (xs ys : List DiskStep) (s : State) → AllMoments old mid (MakesPrefix xs s old.world) → mid.world ≡ worlds xs s old.world
    → MakesSteps {T = T} {E = E} mid new result ys (states xs s old.world) → MakesSteps {T = T} {E = E} old new result (xs ++ ys) s
makes_joined old mid new result xs ys s first is second = record {
  all = on_ok_weaker result (λ all. making.world_joined old.world mid.world new.world xs ys s is all) second.all;
  moments = making.moments_joined old mid new xs ys s first is second.moments;
}

-- A state of the machine. What steps make of the files of segments and markers doesn't go by the state.
pub some_state : Shape → State
some_state shape = record {
  shape = shape;
  low = 0;
  at = place 1 0;
  pending = [];
  end = place 1 0;
  tail = Uncut;
  now = record { checkpoint = NoStart; rebuilt = no_pages };
  soon = None;
  files = no_pages;
  first = empty;
  order = [];
  map = empty;
}

-- where the segments stay, the log's end does
pub ends_same : (log : LogEnd) (old new : World) → new.log ≡ old.log → EndsThere log old → EndsThere log new
ends_same log old new same ends = subst (λ files. EndsThere log (record new { log = files })) (sym same) (record { kept = ends.kept; ends = ends.ends })
