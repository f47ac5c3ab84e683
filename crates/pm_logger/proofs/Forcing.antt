-- How an operation ends: where it is the last of so many, the log is forced.
use Rattle.std.proofs.Common.{◌≡◌, ℕ, zero, suc, ◌+◌, List, [], ◌∷◌, ◌++◌, length, refl, sym, ap, ◌∙◌, subst, arith, Bool, true, append-nil, Result, Ok, Err}
use Rattle.std.specs.Prelude.{if◌then◌else◌, ◌==◌, take, is_ok}
use Rattle.std.proofs.lemmas.Bool.Decides.{nat_tests}
use Rattle.pm_disk.specs.Worlds.{World, log_forced}
use Rattle.pm_disk.specs.Files.{File, bytes_of, content}
use Rattle.pm_disk.specs.Moments.{IsHistory, Does}
use Rattle.pm_disk.proofs.Families.{forced_here}
use Rattle.pm_records.specs.LogSteps.{Force}
use Rattle.pm_records.proofs.Tracing.{moments_one}
use Rattle.pm_segments.specs.Ends.{LogEnd, EndsThere}
use Rattle.pm_logger.specs.LogCalls.{LogCall, ForceLog, force_calls, next_since, lines_in, MakesCalls, BreaksOff, DoesCalls}
use Rattle.pm_logger.specs.Writers.{Writer}
use Rattle.pm_logger.specs.declared.limits.TheConstants.{FORCE_AFTER}

pub forces : (since : ℕ) → since + 1 ≡ FORCE_AFTER → force_calls since ≡ ForceLog ∷ []
forces since e = let same : (since + 1 == FORCE_AFTER) ≡ true = grind (arith, nat_tests) in ap (λ (b : Bool). let cs : List LogCall = if b then ForceLog ∷ [] else [] in cs) same

pub since_nought : (since : ℕ) → since + 1 ≡ FORCE_AFTER → next_since since ≡ 0
since_nought since e = let same : (since + 1 == FORCE_AFTER) ≡ true = grind (arith, nat_tests) in ap (λ (b : Bool). if b then 0 else since + 1) same

-- a forced log ends where it ended
forced_ends : (old new : World) (log now : LogEnd) → now ≡ log → new ≡ log_forced log.end.seg old → EndsThere log old → EndsThere now new
forced_ends old new log now same is ends =
    let there : EndsThere log (log_forced log.end.seg old) = record {
      kept = ends.kept;
      ends = ap (λ (f : File). length (bytes_of (content f))) (forced_here log.end.seg old) ∙ ends.ends;
    } in
    subst (λ (p : LogEnd × World). EndsThere p.0 p.1) (λ i. (sym same i, sym is i)) there

none_named : (lines noted : List ℕ) → noted ≡ lines → (n : ℕ) → noted ≡ lines ++ lines_in (take n (ForceLog ∷ []))
none_named lines noted e zero = e ∙ sym (append-nil lines)
none_named lines noted e (suc zero) = e ∙ sym (append-nil lines)
none_named lines noted e (suc (suc n)) = e ∙ sym (append-nil lines)

module _ {tells : Type 0} (before now : Writer) (same : now.log ≡ before.log) (lines : now.lines ≡ before.lines) where
  pub made_force : (tells → IsHistory before.history) → (tells → EndsThere before.log before.history.world) → (tells → now.history.world ≡ log_forced before.log.end.seg before.history.world)
      → {T E : Type 0} (result : Result T E) → (tells → Does {T = T} {E = E} before.history now.history result (log_forced before.log.end.seg before.history.world)) → MakesCalls tells before now (ForceLog ∷ [])
  made_force sound ends is result call = record {
    log_is = same;
    lines_are = lines ∙ sym (append-nil before.lines);
    ends = λ t. forced_ends before.history.world now.history.world before.log now.log same (is t) (ends t);
    world = is;
    moments = λ t. moments_one before.history now.history result Force before.log.end (log_forced before.log.end.seg before.history.world) (sound t) refl (call t);
  }

  pub broke_force : (tells → IsHistory before.history) → {T E : Type 0} (result : Result T E) → (tells → Does {T = T} {E = E} before.history now.history result (log_forced before.log.end.seg before.history.world)) → BreaksOff tells before now (ForceLog ∷ [])
  broke_force sound result call = record {
    count = 0;
    within = omega arith;
    lines_are = none_named before.lines now.lines lines (if now.log.tried then 0 + 1 else 0);
    moments = λ t. moments_one before.history now.history result Force before.log.end (log_forced before.log.end.seg before.history.world) (sound t) refl (call t);
  }

  -- a call of force, as it ended
  pub does_force : (tells → IsHistory before.history) → (tells → EndsThere before.log before.history.world)
      → {T E : Type 0} (result : Result T E) → (tells → Does {T = T} {E = E} before.history now.history result (log_forced before.log.end.seg before.history.world)) → DoesCalls tells before now (is_ok result) (ForceLog ∷ [])
  does_force sound ends (Ok x) call = made_force sound ends (λ t. (call t).ok) (Ok x) call
  does_force sound ends (Err e) call = broke_force sound (Err e) call
