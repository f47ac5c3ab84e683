-- How long the segments' files are after the log's calls.
use Rattle.std.proofs.Common.{◌≡◌, ℕ, ◌+◌, ◌≤◌, List, length, Option, ◌∙◌, ap, arith, length-append}
use Rattle.std.proofs.lemmas.List.{length-take}
use Rattle.pm_disk.specs.Files.{File, Write, Cut, bytes_of, content, with_change, all_forced}
use Rattle.pm_disk.specs.Worlds.{World, log_changed, log_forced, segment_in}
use Rattle.pm_disk.proofs.Families.{file_here}
use Rattle.pm_disk.proofs.Files.{content_change}
use Rattle.pm_frame.specs.Frames.{Frame, frame_len, frame_bytes}
use Rattle.pm_frame.proofs.FrameAt.{length-frame_bytes}
use Rattle.pm_types.specs.declared.place.Place.{Place}
use Rattle.pm_records.specs.LogSteps.{written}
use Rattle.pm_records.proofs.FileSteps.{at_end-write}

-- a force leaves what a read finds
pub forced_reads : (seg : ℕ) (world : World) → segment_in (log_forced seg world) seg ≡ segment_in world seg
forced_reads seg world = ap content (file_here world.log seg (all_forced (world.log seg)))

pub cut_reads : (seg len : ℕ) (world : World) → len ≤ length (bytes_of (segment_in world seg)) → length (bytes_of (segment_in (log_changed seg (Cut len) world) seg)) ≡ len
cut_reads seg len world fits =
    let is : length (bytes_of (segment_in (log_changed seg (Cut len) world) seg)) ≡ length (bytes_of (content (with_change (world.log seg) (Cut len)))) =
    ap (λ (f : File). length (bytes_of (content f))) (file_here world.log seg (with_change (world.log seg) (Cut len))) in
    let now = ap (λ (o : Option (List ℕ)). length (bytes_of o)) (content_change (world.log seg) (Cut len)) in
    omega (arith, is, now, length-take len (bytes_of (content (world.log seg))), fits)

-- a segment that was cut to nothing and forced
pub emptied : (old mid new : World) (seg named : ℕ) → named ≡ seg → mid ≡ log_changed named (Cut 0) old → new ≡ log_forced named mid → length (bytes_of (segment_in new seg)) ≡ 0
emptied old mid new seg named is cut forced =
    let forced_there : new ≡ log_forced seg mid = forced ∙ ap (λ n. log_forced n mid) is in
    let cut_there : mid ≡ log_changed seg (Cut 0) old = cut ∙ ap (λ n. log_changed n (Cut 0) old) is in
    ap (λ (w : World). length (bytes_of (segment_in w seg))) forced_there
    ∙ ap (λ (o : Option (List ℕ)). length (bytes_of o)) (forced_reads seg mid)
    ∙ ap (λ (w : World). length (bytes_of (segment_in w seg))) cut_there
    ∙ cut_reads seg 0 old (omega arith)

-- the tail that was cut and forced ends where it was cut
pub cut_ends : (old new : World) (end : Place) → new ≡ log_forced end.seg (log_changed end.seg (Cut end.off) old) → end.off ≤ length (bytes_of (segment_in old end.seg))
    → length (bytes_of (segment_in new end.seg)) ≡ end.off
cut_ends old new end is fits =
    ap (λ (w : World). length (bytes_of (segment_in w end.seg))) is
    ∙ ap (λ (o : Option (List ℕ)). length (bytes_of o)) (forced_reads end.seg (log_changed end.seg (Cut end.off) old))
    ∙ cut_reads end.seg end.off old fits

-- a frame that was written at the end of its file
pub written_ends : (place : Place) (frame : Frame) (world : World) → length (bytes_of (segment_in world place.seg)) ≡ place.off
    → length (bytes_of (segment_in (written place frame world) place.seg)) ≡ place.off + frame_len frame
written_ends place frame world ends =
    let file = world.log place.seg in
    let bytes = frame_bytes place frame in
    let here = ap (λ (f : File). length (bytes_of (content f))) (file_here world.log place.seg (with_change file (Write place.off bytes))) in
    let now = ap (λ (o : Option (List ℕ)). length (bytes_of o)) (content_change file (Write place.off bytes)) in
    let joined = ap (λ (l : List ℕ). length l) (at_end-write (bytes_of (content file)) bytes place.off ends) in
    omega (arith, here, now, joined, ends, length-append (bytes_of (content file)) bytes, length-frame_bytes place frame)
