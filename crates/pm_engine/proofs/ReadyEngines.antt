-- A call that applies the log again keeps an engine ready, also after another one.
use Rattle.std.proofs.Common.{◌≡◌, true, Result, Ok, Err, refl, ◌∙◌}
use Rattle.std.specs.Prelude.{OnOk, IsErr}
use Rattle.std.proofs.lemmas.Result.{on_ok_weaker}
use Rattle.pm_disk.specs.Moments.{History, IsHistory}
use Rattle.pm_segments.specs.Ends.{EndsThere}
use Rattle.pm_core.proofs.OnlyDisk.{none_disk, then_disk}
use Rattle.pm_engine.specs.EngineReplays.{GoesOnInFrames, KeepsEngineReady}
use Rattle.pm_engine.specs.Engines.{FrameRunning}
use Rattle.pm_engine.specs.FrameStores.{HasCleanPages}
use Rattle.pm_engine.proofs.Results.{on_err}

-- nothing was done yet
pub ready_same : {T E : Type 0} (tells : Type 0) (engine : FrameRunning) (old : History) (x : T) → (tells → IsHistory old) → engine.store.is_open ≡ true → (tells → HasCleanPages engine.store old.world) → (tells → EndsThere engine.log old.world)
    → KeepsEngineReady {T = T} {E = E} tells engine engine old old (Ok x)
ready_same tells engine old x sound on clean there = record {
  same = record { shape = refl; region = refl; locks = refl };
  order = refl;
  is_open = on;
  clean = clean;
  ends = there;
  disk = λ t. none_disk old (sound t);
}

-- a fault came before anything was done
pub ready_refused : {T E : Type 0} (tells : Type 0) (engine : FrameRunning) (old : History) (fault : E) → (tells → IsHistory old) → KeepsEngineReady {T = T} {E = E} tells engine engine old old (Err fault)
ready_refused tells engine old fault sound = record {
  same = record { shape = refl; region = refl; locks = refl };
  order = refl;
  is_open = tt;
  clean = λ t. tt;
  ends = λ t. tt;
  disk = λ t. none_disk old (sound t);
}

module _ (tells : Type 0) (before now : FrameRunning) (old new : History) where
  -- a record was applied again
  pub ready_applied : {T E : Type 0} (result : Result T E) → GoesOnInFrames tells before now old new → OnOk result (now.store.is_open ≡ true) → KeepsEngineReady {T = T} {E = E} tells before now old new result
  ready_applied result goes opens = record {
    same = goes.same;
    order = goes.order;
    is_open = opens;
    clean = λ t. on_ok_weaker result (λ (on : now.store.is_open ≡ true). goes.clean t on) opens;
    ends = λ t. on_ok_weaker result (λ (on : now.store.is_open ≡ true). goes.ends t on) opens;
    disk = goes.disk;
  }

  -- the same is answered by another value
  pub ready_ok : {T E S F : Type 0} (x : T) (y : S) → KeepsEngineReady {T = T} {E = E} tells before now old new (Ok x) → KeepsEngineReady {T = S} {E = F} tells before now old new (Ok y)
  ready_ok x y ready = record { same = ready.same; order = ready.order; is_open = ready.is_open; clean = ready.clean; ends = ready.ends; disk = ready.disk }

  -- or by a fault
  pub ready_err : {T E S F : Type 0} (first : Result T E) (result : Result S F) → IsErr result → KeepsEngineReady {T = T} {E = E} tells before now old new first → KeepsEngineReady {T = S} {E = F} tells before now old new result
  ready_err first result err ready = record {
    same = ready.same;
    order = ready.order;
    is_open = on_err result err (now.store.is_open ≡ true);
    clean = λ t. on_err result err (HasCleanPages now.store new.world);
    ends = λ t. on_err result err (EndsThere now.log new.world);
    disk = ready.disk;
  }

-- one call after another
pub ready_then : {T E S F : Type 0} (tells : Type 0) (before mid now : FrameRunning) (h0 h1 h2 : History) (first : Result T E) (result : Result S F) → (tells → IsHistory h1) → KeepsEngineReady {T = T} {E = E} tells before mid h0 h1 first
    → KeepsEngineReady {T = S} {E = F} tells mid now h1 h2 result → KeepsEngineReady {T = S} {E = F} tells before now h0 h2 result
ready_then tells before mid now h0 h1 h2 first result sound x y = record {
  same = record { shape = y.same.shape ∙ x.same.shape; region = y.same.region ∙ x.same.region; locks = y.same.locks ∙ x.same.locks };
  order = y.order ∙ x.order;
  is_open = y.is_open;
  clean = y.clean;
  ends = y.ends;
  disk = λ t. then_disk h0 h1 h2 (sound t) (x.disk t) (y.disk t);
}
