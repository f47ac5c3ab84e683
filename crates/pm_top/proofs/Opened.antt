-- What a crash leaves before a store is opened, and meanwhile.
use Rattle.std.proofs.Common.{◌≡◌, arith, ℕ, ◌+◌, ◌≤◌, List, [], take, Result, refl, subst, sym, ◌⊎◌, inl, inr}
use Rattle.std.specs.Prelude.{codes}
use Rattle.pm_types.specs.declared.shape.Shape.{Shape}
use Rattle.pm_disk.specs.Worlds.{World, with_said}
use Rattle.pm_disk.specs.Moments.{History, IsHistory, AllMoments, Does}
use Rattle.pm_disk.proofs.Chain.{started, does, weaker, joined}
use Rattle.pm_model.specs.Eval.{Pairs}
use Rattle.pm_marks.specs.InForce.{number_in}
use Rattle.pm_core.specs.Calls.{ChangesDisk}
use Rattle.pm_core.specs.Held.{in_force}
use Rattle.pm_core.specs.LogAlone.{image_of}
use Rattle.pm_redo.specs.Rebuilding.{IsSame}
use Rattle.pm_engine.specs.Engines.{FrameRunning, HasDoneLines}
use Rattle.pm_engine.specs.FrameOpenings.{OpensRunningIn}
use Rattle.pm_engine.specs.Replays.{CrashHoldsMap}
use Rattle.pm_engine.specs.RunningLines.{says_nothing}
use Rattle.pm_engine.proofs.RunningLines.{crash_further, crash_one}
use Rattle.pm_top.specs.Configurations.{wanted_in}
use Rattle.pm_top.specs.Crashes.{CrashHoldsAcknowledged, CrashKeeps, opened_number, opened_to}
use Rattle.pm_top.specs.declared.status.Status.{Status}
use Rattle.pm_top.specs.declared.status.Status.TheVariants.{Usage, Failed}
use Rattle.pm_top.specs.Promises.{HoldsAtEachMoment, IsStart, RefusalIs, SaysPart, last_after, number_after}
use Rattle.pm_top.specs.Runs.{CanRun, SameConsole}
use Rattle.pm_top.proofs.AnsweredLines.{both}
use Rattle.pm_top.proofs.Lasting.{idle_keeps, keeps_said, none_refused, none_said}
use Rattle.pm_top.proofs.Orders.{BeginsNone, fault_line}
use Rattle.pm_top.proofs.StartedStores.{start_keeps}

-- one map is held by a prefix of no lines
pub map_keeps : (a b c d : ℕ) (wanted shape : Shape) (pairs : Pairs) (w : World) → a ≤ c → b ≤ d → CrashHoldsMap a b wanted shape pairs w → CrashKeeps wanted c d shape pairs [] w
map_keeps a b c d wanted shape pairs w later higher map image leaves honest = record {
  count = 0;
  within = omega arith;
  sound = map.holds image leaves honest;
  up_to = λ other others sound.
      let up_to = map.up_to image leaves honest other others sound in
      record { segment = omega (arith, up_to.segment, later); checkpoint = omega (arith, up_to.checkpoint, higher) };
}

module _ (wanted : Shape) (old : World) (shape : Shape) (pairs : Pairs) (start : IsStart wanted old shape pairs) where
  -- a sound store with nothing pending
  pub rest_keeps : CrashKeeps wanted (last_after start) (number_after start) shape pairs [] old
  rest_keeps =
      crash_further (opened_to start.sound) (number_in (in_force (image_of old))) (last_after start) (number_after start) wanted shape pairs [] old (omega arith) (omega arith) (start_keeps wanted old shape pairs start)

  -- beside what was said, too
  pub start_said : (text : List ℕ) → CrashHoldsMap (opened_to start.sound) (number_in (in_force (image_of old))) wanted shape pairs (with_said text old)
  start_said text =
      let last : ℕ = opened_to start.sound in
      let number : ℕ = number_in (in_force (image_of old)) in
      crash_one last number wanted shape pairs (with_said text old) (keeps_said wanted last number shape pairs [] text old (start_keeps wanted old shape pairs start))

  pub start_map : CrashHoldsMap (opened_to start.sound) (number_in (in_force (image_of old))) wanted shape pairs old
  start_map = crash_one (opened_to start.sound) (number_in (in_force (image_of old))) wanted shape pairs old (start_keeps wanted old shape pairs start)

  -- a run may begin over the engine that opened it
  pub can_run : (engine : FrameRunning) (mid : World) → OpensRunningIn (opened_to start.sound + 1) (opened_number start.sound + 1) wanted says_nothing shape pairs engine mid → CanRun wanted (last_after start) (number_after start) engine mid
  can_run engine mid opened = record {
    stands = record { from = 0; has = subst (λ (m : Pairs). HasDoneLines wanted says_nothing 0 m [] engine mid) (sym opened.map) opened.runs };
    within = record {
      segments = omega (arith, opened.segment);
      checkpoints = omega (arith, opened.number);
      last_fits = omega (arith, start.numbers.segments);
      number_fits = omega (arith, start.numbers.checkpoints);
    };
  }

-- while the store is opened
pub opening_moments : (wanted : Shape) (old mid : History) (shape : Shape) (pairs : Pairs) (start : IsStart wanted old.world shape pairs) (order : List ℕ) → AllMoments old mid (CrashHoldsMap (opened_to start.sound + 1 + 1) (opened_number start.sound + 1) wanted shape pairs)
    → AllMoments old mid (ChangesDisk old.world) → AllMoments old mid (CrashHoldsAcknowledged wanted (last_after start) (number_after start) old.world shape pairs order)
opening_moments wanted old mid shape pairs start order keeps only =
    let last : ℕ = last_after start in
    let number : ℕ = number_after start in
    let Q : World → Type 0 = CrashHoldsMap (opened_to start.sound + 1 + 1) (opened_number start.sound + 1) wanted shape pairs in
    weaker old mid (λ w. Q w × ChangesDisk old.world w) (CrashHoldsAcknowledged wanted last number old.world shape pairs order)
    (λ w is. idle_keeps wanted last number old.world shape pairs order w (none_said old.world shape pairs w is.1.said)
    (map_keeps (opened_to start.sound + 1 + 1) (opened_number start.sound + 1) last number wanted shape pairs w (omega arith) (omega arith) is.0)) (both old mid Q (ChangesDisk old.world) keeps only)

pub same_console : (old mid : World) → ChangesDisk old mid → SameConsole old mid
same_console old mid only = record { said = only.said; input = only.input }

-- a call that changes nothing
pub same_moments : {T E : Type 0} (old new : History) (result : Result T E) → IsHistory old → Does old new result old.world → AllMoments old new (IsSame old.world)
same_moments old new result sound call =
    does old old new result old.world (IsSame old.world) (started old (IsSame old.world) sound refl) call refl refl

pub kept_moments : (old mid : History) (order : List ℕ) → AllMoments old mid (IsSame old.world) → HoldsAtEachMoment old mid order
kept_moments old mid order same shape pairs start =
    let wanted = wanted_in old.world in
    let last : ℕ = last_after start in
    let number : ℕ = number_after start in
    weaker old mid (IsSame old.world) (CrashHoldsAcknowledged wanted last number old.world shape pairs order)
    (λ w is. subst (CrashHoldsAcknowledged wanted last number old.world shape pairs order) (sym is) (idle_keeps wanted last number old.world shape pairs order old.world (none_said old.world shape pairs old.world refl) (rest_keeps wanted old.world shape pairs start))) same

-- a fault is told, and nothing else happens
pub refused_moments : (old new : History) (order : List ℕ) (c : ℕ) (bytes : List ℕ) → BeginsNone c → AllMoments old new (SaysPart (fault_line c bytes) old.world) → HoldsAtEachMoment old new order
refused_moments old new order c bytes none all shape pairs start =
    let wanted = wanted_in old.world in
    let last : ℕ = last_after start in
    let number : ℕ = number_after start in
    weaker old new (SaysPart (fault_line c bytes) old.world) (CrashHoldsAcknowledged wanted last number old.world shape pairs order)
    (λ w part. subst (CrashHoldsAcknowledged wanted last number old.world shape pairs order) (sym part.1)
    (idle_keeps wanted last number old.world shape pairs order (with_said (take part.0 (fault_line c bytes)) old.world) (none_refused old.world shape pairs c bytes part.0 none)
    (keeps_said wanted last number shape pairs [] (take part.0 (fault_line c bytes)) old.world (rest_keeps wanted old.world shape pairs start)))) all

-- the calls that come after ones that left the world as it was
pub crash_then : (old mid new : History) (order : List ℕ) → HoldsAtEachMoment old mid order → mid.world ≡ old.world → HoldsAtEachMoment mid new order → HoldsAtEachMoment old new order
crash_then old mid new order first same second shape pairs start =
    joined old mid new (CrashHoldsAcknowledged (wanted_in old.world) (last_after start) (number_after start) old.world shape pairs order) (first shape pairs start)
    (subst (λ (w : World). (s : IsStart (wanted_in w) w shape pairs) → AllMoments mid new (CrashHoldsAcknowledged (wanted_in w) (last_after s) (number_after s) w shape pairs order)) same (second shape pairs) start)

pub crash_from : (old mid new : History) (order : List ℕ) → AllMoments old mid (IsSame old.world) → mid.world ≡ old.world → HoldsAtEachMoment mid new order → HoldsAtEachMoment old new order
crash_from old mid new order first same second = crash_then old mid new order (kept_moments old mid order first) same second

-- what is left where the words are refused
pub refusal : (status : Status) (old new : World) (lines : ℕ) (order : List ℕ) → (status ≡ Usage) ⊎ (status ≡ Failed) → (status ≡ Usage → new ≡ with_said (codes "fault usage\n") old) → SaysPart (codes "fault usage\n") old new → lines ≡ 0 → order ≡ []
    → RefusalIs status old new lines order
refusal status old new lines order cases said part none no_order = elim cases [
  | inl is ↦ subst (λ s. RefusalIs s old new lines order) (sym is) (record { now = said is; none = none; order_is = no_order })
  | inr is ↦ subst (λ s. RefusalIs s old new lines order) (sym is) (part.0, record { now = part.1; none = none; order_is = no_order })
]
