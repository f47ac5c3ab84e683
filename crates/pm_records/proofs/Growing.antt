-- A log that grows twice grows by both.
use Rattle.std.proofs.Common.{◌≡◌, List, [], ◌∷◌, ◌++◌, refl, sym, ◌∙◌, ap, subst, Bool, true, false, append_assoc, append-nil}
use Rattle.std.specs.Prelude.{if◌then◌else◌}
use Rattle.pm_frame.specs.Frames.{Frame}
use Rattle.pm_disk.specs.Worlds.{World}
use Rattle.pm_records.specs.LogFiles.{contents, LogGrowsBy}
use Rattle.pm_records.specs.Logs.{place, all_frames, is_seal, without_seals, IsLogFrom}
use Rattle.pm_records.proofs.Runs.{one_log}

pub without_seals-append : (xs ys : List Frame) → without_seals (xs ++ ys) ≡ without_seals xs ++ without_seals ys
without_seals-append [] ys = refl
without_seals-append (x ∷ xs) ys = each (is_seal x) (without_seals-append xs ys)
  where
    each : (b : Bool) → without_seals (xs ++ ys) ≡ without_seals xs ++ without_seals ys
        → (if b then without_seals (xs ++ ys) else x ∷ without_seals (xs ++ ys)) ≡ (if b then without_seals xs else x ∷ without_seals xs) ++ without_seals ys
    each true is = is
    each false is = ap (λ l. x ∷ l) is

-- by nothing
pub grows_none : (world : World) (frames : List Frame) → IsLogFrom all_frames (contents world.log) (place 1 0) frames → LogGrowsBy world world []
grows_none world frames log = record { before = frames; was = log; added = []; now_is = subst (IsLogFrom all_frames (contents world.log) (place 1 0)) (sym (append-nil frames)) log; added_are = refl }

-- by these and those
pub grows_twice : (old mid new : World) (xs ys : List Frame) → LogGrowsBy old mid xs → LogGrowsBy mid new ys → LogGrowsBy old new (xs ++ ys)
grows_twice old mid new xs ys first second =
    let same : second.before ≡ first.before ++ first.added = one_log all_frames (contents mid.log) (place 1 0) second.before (first.before ++ first.added) second.was first.now_is in
    let all : second.before ++ second.added ≡ first.before ++ (first.added ++ second.added) = ap (λ l. l ++ second.added) same ∙ append_assoc first.before first.added second.added in
    record {
      before = first.before;
      was = first.was;
      added = first.added ++ second.added;
      now_is = subst (IsLogFrom all_frames (contents new.log) (place 1 0)) all second.now_is;
      added_are = without_seals-append first.added second.added ∙ ap (λ l. l ++ without_seals second.added) first.added_are ∙ ap (λ l. xs ++ l) second.added_are;
    }
