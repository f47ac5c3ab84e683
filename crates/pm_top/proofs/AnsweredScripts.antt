-- A script that was served over an open store: what is left of it, once it was said where it passes a limit.
use Rattle.std.proofs.Common.{◌≡◌, ◌⊎◌, inl, inr, ℕ, Ok, Err, refl, ap, sym, ◌∙◌, arith}
use Rattle.std.specs.Prelude.{codes}
use Rattle.pm_types.specs.declared.fault.StoreFault.TheVariants as fault
use Rattle.pm_types.specs.declared.fault.Lack.{Lack}
use Rattle.pm_types.specs.declared.shape.Shape.{Shape}
use Rattle.pm_disk.specs.Moments.{History, IsHistory, AllMoments}
use Rattle.pm_disk.specs.Worlds.{World, with_said}
use Rattle.pm_disk.proofs.Chain.{at_last}
use Rattle.pm_model.specs.Eval.{Pairs}
use Rattle.pm_top.specs.declared.run.Run.{Run}
use Rattle.pm_top.specs.declared.run.Stop.TheVariants as stops
use Rattle.pm_top.specs.declared.status.Status.{Status}
use Rattle.pm_top.specs.declared.status.Status.TheVariants.{Done, Failed, Memory, Long}
use Rattle.pm_top.specs.Promises.{SaysPart}
use Rattle.pm_top.specs.Runs.{IsServed, ScriptIsAnswered}
use Rattle.pm_top.specs.Statuses.{code_of}
use Rattle.pm_top.proofs.PrintedLimit.{ends_long, limit_moments}

module _ (wanted : Shape) (last number : ℕ) (start : World) (shape : Shape) (pairs : Pairs) (old mid : History) (run : Run) where
  pub script_done : IsServed wanted last number start shape pairs old mid run (Ok stops.Done) → ScriptIsAnswered wanted last number start shape pairs old mid Done run.lines run.engine.order
  script_done served = record { outcome = served.stop; moments = served.moments; leaves = λ _. served.leaves refl }

  pub script_failed : IsServed wanted last number start shape pairs old mid run (Err fault.Failed) → ScriptIsAnswered wanted last number start shape pairs old mid Failed run.lines run.engine.order
  script_failed served = record {
    outcome = served.fault.failed refl;
    moments = served.moments;
    leaves = λ is. absurd (let clash : 3 ≡ 0 = ap code_of is in omega (arith, clash));
  }

  pub script_memory : (lack : Lack) → IsServed wanted last number start shape pairs old mid run (Err (fault.Memory lack)) → ScriptIsAnswered wanted last number start shape pairs old mid Memory run.lines run.engine.order
  script_memory lack served = record {
    outcome = served.fault.memory lack refl;
    moments = served.moments;
    leaves = λ is. absurd (let clash : 4 ≡ 0 = ap code_of is in omega (arith, clash));
  }

  -- it was said that it passes a limit, or the call that says it failed
  pub script_limit : IsServed wanted last number start shape pairs old mid run (Ok stops.Limit) → (new : History) (status : Status) → IsHistory mid → IsHistory new → (status ≡ Long → new.world ≡ with_said (codes "fault long\n") mid.world)
      → AllMoments mid new (SaysPart (codes "fault long\n") mid.world) → (status ≡ Long) ⊎ (status ≡ Failed) → ScriptIsAnswered wanted last number start shape pairs old new status run.lines run.engine.order
  script_limit served new status sound sound_new long moments cases = record {
    outcome = ends_long status start mid.world new.world shape pairs run.lines run.engine.order served.stop long
        (λ failed. at_last mid new (SaysPart (codes "fault long\n") mid.world) sound_new moments) cases;
    moments = limit_moments wanted last number old mid new start shape pairs run.lines run.engine.order sound served.stop served.moments moments;
    leaves = λ is. absurd (elim cases [
      | inl it ↦ (let clash : 0 ≡ 6 = ap code_of (sym is ∙ it) in omega (arith, clash))
      | inr it ↦ (let clash : 0 ≡ 3 = ap code_of (sym is ∙ it) in omega (arith, clash))
    ]);
  }
