-- A scan gives the log, frame after frame, and ends where it ends.
use Rattle.std.proofs.Common.{◌≡◌, ℕ, List, [], ◌∷◌, ◌++◌, Some, None, refl, sym, ◌∙◌, ap, subst, Bool, true, false, inl, inr}
use Rattle.std.specs.Prelude.{◌||◌, if◌then◌else◌}
use Rattle.pm_types.specs.declared.place.Place.{Place}
use Rattle.pm_frame.specs.Frames.{Frame, frame_at}
use Rattle.pm_disk.specs.Worlds.{World}
use Rattle.pm_records.specs.LogFiles.{contents}
use Rattle.pm_records.specs.Logs.{all_frames, ends_log, next_place, after_frames, is_over, HasFrames, IsLogFrom}
use Rattle.pm_records.proofs.Runs.{bool_cases, run_join, after_frames-append, over-append}
use Rattle.pm_segments.specs.Read.{HasScanned}
use Rattle.pm_segments.specs.Scans.{Scanned, bytes_after, frame_ahead, Advances}

-- the frame that stands next, by whether the log is over
stands_going : (scan : Scanned) (world : World) → scan.is_over ≡ false → frame_ahead scan world ≡ frame_at scan.next (bytes_after scan.next world)
stands_going scan world going = ap (λ (b : Bool). if b then None else frame_at scan.next (bytes_after scan.next world)) going

pub going_on : (scan : Scanned) (world : World) (f : Frame) → frame_ahead scan world ≡ Some f → scan.is_over ≡ false
going_on scan world f stands = elim (bool_cases scan.is_over) [
  | inr going ↦ going
  | inl over ↦
      let none : None ≡ Some f = sym (ap (λ (b : Bool). if b then None else frame_at scan.next (bytes_after scan.next world)) over) ∙ stands in
      absurd cc
]

-- a scan that has read nothing yet
pub scan_starts : (bytes : ℕ → List ℕ) (from : Place) (scan : Scanned) → scan.next ≡ from → scan.is_over ≡ false → HasScanned bytes from [] scan
scan_starts bytes from scan is going = record { run = tt; next = is; over = going }

or_false : (b : Bool) → (b || false) ≡ b
or_false true = refl
or_false false = refl

-- one frame more
pub scan_goes : (world : World) (from : Place) (fs : List Frame) (old new : Scanned) (f : Frame) → HasScanned (contents world.log) from fs old → frame_ahead old world ≡ Some f → Advances old new (Some f) → HasScanned (contents world.log) from (fs ++ f ∷ []) new
scan_goes world from fs old new f was stands advances =
    let going = going_on old world f stands in
    let here : all_frames.frame_at old.next.seg old.next.off (contents world.log old.next.seg) ≡ Some f = sym (stands_going old world going) ∙ stands in
    record {
      run = run_join all_frames (contents world.log) from fs (f ∷ []) was.run (sym was.over ∙ going)
          (subst (λ (q : Place). HasFrames all_frames (contents world.log) q (f ∷ [])) was.next (here, λ ends. refl, tt));
      next = advances.1 ∙ ap (λ (q : Place). next_place q f) was.next ∙ sym (after_frames-append from fs (f ∷ []));
      over = advances.2 ∙ ap (λ (q : Place). ends_log q f) was.next ∙ sym (or_false (ends_log (after_frames from fs) f))
          ∙ ap (λ b. b || (ends_log (after_frames from fs) f || false)) (sym going ∙ was.over) ∙ sym (over-append from fs (f ∷ []));
    }

-- none any more: those are the log, and the scan is where it ends
pub scan_ends : (world : World) (from : Place) (fs : List Frame) (old new : Scanned) → HasScanned (contents world.log) from fs old → frame_ahead old world ≡ None → Advances old new None → IsLogFrom all_frames (contents world.log) from fs × (new.place ≡ after_frames from fs)
scan_ends world from fs old new was stands advances = (record { run = was.run; ends = ends }, advances.0 ∙ was.next)
  where
    none_at : Place → Type 0
    none_at q = all_frames.frame_at q.seg q.off (contents world.log q.seg) ≡ None

    ends : is_over from fs ≡ false → none_at (after_frames from fs)
    ends still = subst none_at was.next (sym (stands_going old world (was.over ∙ still)) ∙ stands)
