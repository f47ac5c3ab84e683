-- A store over which a run may begin: what a crash leaves of it before anything is done.
use Rattle.std.proofs.Common.{◌≡◌, ℕ, zero, suc, ◌+◌, [], take, Some, refl, sym, ◌∙◌, arith}
use Rattle.pm_types.specs.declared.shape.Shape.{Shape}
use Rattle.pm_disk.specs.Worlds.{World}
use Rattle.pm_model.specs.Eval.{Pairs}
use Rattle.pm_marks.specs.InForce.{number_in}
use Rattle.pm_core.specs.Held.{in_force}
use Rattle.pm_core.specs.LogAlone.{image_of}
use Rattle.pm_core.specs.Replays.{all_replayed}
use Rattle.pm_core.specs.Starts.{CanBegin, start_state}
use Rattle.pm_core.proofs.Starting.{stands_first}
use Rattle.pm_engine.specs.Openings.{HasFewNumbers}
use Rattle.pm_engine.specs.RunningLines.{CrashHoldsLines, KeepsLines, says_nothing}
use Rattle.pm_engine.proofs.RunningLines.{after_whole, crash_holds, crash_further}
use Rattle.pm_top.specs.Crashes.{opened_to}
use Rattle.pm_top.specs.Promises.{IsStart}

-- the disk machine may begin over it
abbrev pub can_begin : (wanted : Shape) (world : World) (shape : Shape) (pairs : Pairs) → IsStart wanted world shape pairs → CanBegin wanted says_nothing world shape pairs
can_begin wanted world shape pairs start = record {
  sound = start.sound;
  quiet = start.quiet;
  numbered = omega (arith, start.numbers.segments);
  silent = refl;
}

-- and there are numbers for its opening
pub few_numbers : (wanted : Shape) (world : World) (shape : Shape) (pairs : Pairs) (start : IsStart wanted world shape pairs) → HasFewNumbers (can_begin wanted world shape pairs start)
few_numbers wanted world shape pairs start = record {
  in_log = omega (arith, start.numbers.segments);
  in_marks = omega (arith, start.numbers.checkpoints);
}

some_same : (a b : Pairs) → Some a ≡ Some b → a ≡ b
some_same a b e = cc

nothing_appended : (shape : Shape) (pairs : Pairs) → KeepsLines shape 0 pairs [] pairs []
nothing_appended shape pairs n le map is = after_whole shape pairs [] map (some_same map pairs (sym is ∙ none n))
  where
    none : (n : ℕ) → all_replayed shape (take n []) (Some pairs) ≡ Some pairs
    none zero = refl
    none (suc n) = refl

-- a crash leaves its map
pub start_keeps : (wanted : Shape) (world : World) (shape : Shape) (pairs : Pairs) (start : IsStart wanted world shape pairs) → CrashHoldsLines (opened_to start.sound) (number_in (in_force (image_of world))) wanted shape pairs [] world
start_keeps wanted world shape pairs start =
    let can = can_begin wanted world shape pairs start in
    let s = start_state wanted world shape pairs start.sound in
    crash_further (s.end.seg + 1) (number_in (in_force (image_of world))) (opened_to start.sound) (number_in (in_force (image_of world))) wanted shape pairs [] world (omega arith) (omega arith)
    (crash_holds wanted says_nothing 0 pairs [] s world [] (stands_first wanted says_nothing world shape pairs can) refl tt (omega arith) (nothing_appended shape pairs) world (0, omega arith, refl))
