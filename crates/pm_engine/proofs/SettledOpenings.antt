-- A store that was opened, and what a checkpoint at its opening's end leaves.
use Rattle.std.proofs.Common.{◌≡◌, ◌⊎◌, inl, inr, ⊎_elim, ℕ, zero, suc, ◌+◌, ◌-◌, ◌<◌, ◌≤◌, List, [], ◌++◌, length, take, Option, Result, Ok, Err, refl, sym, ◌∙◌, ap, subst, arith}
use Rattle.std.specs.Prelude.{◌^◌, OnOk}
use Rattle.std.proofs.Math.Nat.{le_trans}
use Rattle.pm_types.specs.declared.fault.StoreFault.{StoreFault}
use Rattle.pm_types.specs.declared.fault.StoreFault.TheVariants.{Failed}
use Rattle.pm_types.specs.declared.place.Place.{Place}
use Rattle.pm_types.specs.declared.shape.Mark.{Mark}
use Rattle.pm_types.specs.declared.shape.Shape.{Shape}
use Rattle.pm_config.specs.declared.config.Config.{Config}
use Rattle.pm_frame.specs.Frames.{Frame}
use Rattle.pm_disk.specs.Moments.{History, AllMoments}
use Rattle.pm_disk.specs.Worlds.{World}
use Rattle.pm_disk.proofs.Chain.{weaker}
use Rattle.pm_model.specs.declared.line.Line.{Line}
use Rattle.pm_model.specs.Eval.{Pairs}
use Rattle.pm_locks.specs.Sight.{LockTable}
use Rattle.pm_segments.specs.Ends.{LogEnd}
use Rattle.pm_core.specs.BasePages.{Partitions}
use Rattle.pm_core.specs.Calls.{ChangesDisk}
use Rattle.pm_engine.specs.declared.log_count.LogCount.{LogCount}
use Rattle.pm_engine.specs.Batches.{StaysOpen}
use Rattle.pm_engine.specs.Engines.{FrameRunning, HasDoneLines, counted_in}
use Rattle.pm_engine.specs.FrameBatches.{EndsAtReplayIn, HasNumbersIn, RunsFrameBatch, SettlesEngine}
use Rattle.pm_engine.specs.FrameOpenings.{CountsLog, IsFreshIn, IsReadyOver, OpensOverAny, OpensRestored, OpensRunningIn}
use Rattle.pm_engine.specs.LogCounts.{CountsAtLeast, log_bytes}
use Rattle.pm_engine.specs.Replays.{CrashHoldsMap}
use Rattle.pm_engine.specs.RunningLines.{CrashHoldsLines}
use Rattle.pm_engine.specs.RunningStores.{number_of}
use Rattle.pm_engine.proofs.RunningLines.{crash_one, moments_further}

-- an engine that counts its log from elsewhere
pub recounted : (last highest : ℕ) (wanted : Shape) (told : List ℕ → ℕ) (shape : Shape) (pairs : Pairs) (engine : FrameRunning) (w : World) (b : LogCount) → OpensRunningIn last highest wanted told shape pairs engine w
    → OpensRunningIn last highest wanted told shape pairs (record engine { began = b }) w
recounted last highest wanted told shape pairs engine w b x = record {
  shape_is = x.shape_is;
  map = x.map;
  runs = record { state = x.runs.state; logged = x.runs.logged; names = x.runs.names; has = x.runs.has };
  segment = x.segment;
  number = x.number;
}

pub over_recounted : (tells : Type 0) (shape : Shape) (from end : Place) (frames : List Frame) (base : Partitions) (old new : World) (engine : FrameRunning) (b : LogCount) → OpensOverAny tells shape from end frames base old new (Ok engine)
    → OpensOverAny tells shape from end frames base old new (Ok (record engine { began = b }))
over_recounted tells shape from end frames base old new engine b x = record {
  pages = x.pages;
  meets = λ may_change all id is. absurd cc;
  refuses = λ at is. absurd cc;
}

take_none : (n : ℕ) → take {A = Line} n [] ≡ []
take_none zero = refl
take_none (suc n) = refl

module _ (tells : Type 0) (mid new : History) (config : Config) (before now : FrameRunning) (r : Result (Unit {0}) StoreFault) (settles : SettlesEngine tells mid new config before now r) where
  abbrev x : RunsFrameBatch tells mid new 0 [] 1 1 before now (record { replies = []; spare = 0 }) (record { replies = []; spare = 0 }) r
  x = settles.runs 0 (record { replies = []; spare = 0 })

  none_tried : ◌++◌ {A = Line} [] (take x.tried []) ≡ []
  none_tried = take_none x.tried

  -- ---- of a sound store

  module _ (last highest : ℕ) (wanted : Shape) (told : List ℕ → ℕ) (shape : Shape) (pairs : Pairs) (opened : OpensRunningIn last highest wanted told shape pairs before mid.world) (last_fits : last + 2 < 2 ^ 64) (highest_fits : highest + 1 < 2 ^ 64) where
    numbers : HasNumbersIn before 1 1
    numbers = record { in_log = omega (arith, opened.segment, last_fits); in_marks = omega (arith, opened.number, highest_fits) }

    pub settled_moments : tells → AllMoments mid new (CrashHoldsMap (last + 1 + 1) (highest + 1) wanted shape pairs)
    settled_moments t =
        let crash : AllMoments mid new (CrashHoldsLines (before.log.end.seg + (1 + 1)) (number_of before.ckpt.mark + 1) wanted shape pairs []) =
        subst (λ (q : Shape × List Line). AllMoments mid new (CrashHoldsLines (before.log.end.seg + (1 + 1)) (number_of before.ckpt.mark + 1) wanted q.0 pairs q.1))
        {x = (before.store.shape, [] ++ take x.tried [])} {y = (shape, [])} (λ i. (opened.shape_is i, none_tried i)) (x.crash t wanted told 0 pairs [] opened.runs numbers) in
        weaker mid new (CrashHoldsLines (last + 1 + 1) (highest + 1) wanted shape pairs []) (CrashHoldsMap (last + 1 + 1) (highest + 1) wanted shape pairs) (λ w holds. crash_one (last + 1 + 1) (highest + 1) wanted shape pairs w holds)
        (moments_further (before.log.end.seg + (1 + 1)) (number_of before.ckpt.mark + 1) (last + 1 + 1) (highest + 1) wanted shape pairs [] mid new (omega (arith, opened.segment)) (omega (arith, opened.number)) crash)

  pub settled_disk : tells → AllMoments mid new (ChangesDisk mid.world)
  settled_disk t = x.disk t

  -- ---- no call failed

  module _ (is : r ≡ Ok tt) where
    stays : StaysOpen r
    stays = subst StaysOpen (sym is) tt

    pub settled_fresh : IsFreshIn config before → IsFreshIn config now
    settled_fresh fresh = record {
      shape_is = x.same.shape ∙ fresh.shape_is;
      frames = fresh.frames ∙ ap (λ (locks : LockTable). length locks.ranges) (sym x.same.locks);
      order = settles.order ∙ fresh.order;
      is_open = x.is_open stays;
    }

    pub settled_ready : tells → IsReadyOver now new.world
    settled_ready t = record { ends = x.ends t stays; clean = x.clean t stays }

    pub settled_counts : (log : ℕ → List ℕ) (from end : Place) → CountsAtLeast before.began.found (log_bytes log from end) → CountsLog log from end now
    settled_counts log from end found =
        ⊎_elim inl (λ (same : now.began ≡ before.began). inr (counted same)) (subst (λ q. OnOk q (EndsAtReplayIn now ⊎ (now.began ≡ before.began))) is settles.counted)
      where
        counted : now.began ≡ before.began → CountsAtLeast (counted_in now) (log_bytes log from end)
        counted same =
            let all : before.began.found ≤ now.began.found + (now.log.total - now.began.total) = omega (arith, ap (λ (b : LogCount). b.found) same) in
            ⊎_elim (λ (le : log_bytes log from end ≤ before.began.found). inl (le_trans le all)) (λ (le : 2 ^ 63 ≤ before.began.found). inr (le_trans le all)) found

    pub settled_opens : (last highest : ℕ) (wanted : Shape) (told : List ℕ → ℕ) (shape : Shape) (pairs : Pairs) → OpensRunningIn last highest wanted told shape pairs before mid.world → last + 2 < 2 ^ 64 → highest + 1 < 2 ^ 64 → tells
        → OpensRunningIn (last + 1) (highest + 1) wanted told shape pairs now new.world
    settled_opens last highest wanted told shape pairs opened last_fits highest_fits t =
        let some : HasNumbersIn before 1 1 = numbers last highest wanted told shape pairs opened last_fits highest_fits in
        let runs : HasDoneLines wanted told 0 pairs [] now new.world = subst (λ (ls : List Line). HasDoneLines wanted told 0 pairs ls now new.world) none_tried (x.runs t stays wanted told 0 pairs [] opened.runs some) in
        record {
          shape_is = x.same.shape ∙ opened.shape_is;
          map = runs.has.map;
          runs = runs;
          segment = omega (arith, (settles.numbers stays).in_log, opened.segment);
          number = omega (arith, (settles.numbers stays).in_marks, opened.number);
        }

    -- each base page that was there is
    pub settled_over : (shape : Shape) (mark : Option Mark) (from end : Place) (log : LogEnd) (old : World) → tells → OpensRestored tells shape mark from end log old mid.world (Ok before) → OpensRestored tells shape mark from end log old new.world (Ok now)
    settled_over shape mark from end log old t restored = record {
      bad_page = λ id is well stray. absurd cc;
      bad_record = λ at is well stray. absurd cc;
      over_any = λ leads. record {
        pages = λ may_change all part index bytes inside low there.
            ⊎_elim (λ had. (x.meets t may_change (λ k d lt. absurd (omega (arith, lt)))).keeps stays part index bytes had) inr ((restored.over_any leads).pages may_change all part index bytes inside low there);
        meets = λ may_change all id is. absurd cc;
        refuses = λ at is. absurd cc;
      };
    }

-- a call failed
pub failed_over : (tells : Type 0) (shape : Shape) (mark : Option Mark) (from end : Place) (log : LogEnd) (old new : World) (fault : StoreFault) → fault ≡ Failed → OpensRestored tells shape mark from end log old new (Err fault)
failed_over tells shape mark from end log old new fault is = subst (λ (f : StoreFault). OpensRestored tells shape mark from end log old new (Err f)) (sym is) (record {
  bad_page = λ id bad well stray. absurd cc;
  bad_record = λ at bad well stray. absurd cc;
  over_any = λ leads. record { pages = λ may_change all. tt; meets = λ may_change all id bad. absurd cc; refuses = λ at bad. absurd cc };
})

-- a crash that goes further
pub map_further : (a b c d : ℕ) (wanted shape : Shape) (pairs : Pairs) (w : World) → a ≤ c → b ≤ d → CrashHoldsMap a b wanted shape pairs w → CrashHoldsMap c d wanted shape pairs w
map_further a b c d wanted shape pairs w later higher map = record {
  holds = map.holds;
  up_to = λ image leaves honest held others sound.
      let up_to = map.up_to image leaves honest held others sound in
      record { segment = omega (arith, up_to.segment, later); checkpoint = omega (arith, up_to.checkpoint, higher) };
}

pub further_moments : (last highest : ℕ) (wanted shape : Shape) (pairs : Pairs) (old new : History) → AllMoments old new (CrashHoldsMap (last + 1) highest wanted shape pairs) → AllMoments old new (CrashHoldsMap (last + 1 + 1) (highest + 1) wanted shape pairs)
further_moments last highest wanted shape pairs old new moments =
    weaker old new (CrashHoldsMap (last + 1) highest wanted shape pairs) (CrashHoldsMap (last + 1 + 1) (highest + 1) wanted shape pairs)
    (λ w holds. map_further (last + 1) highest (last + 1 + 1) (highest + 1) wanted shape pairs w (omega arith) (omega arith) holds) moments
