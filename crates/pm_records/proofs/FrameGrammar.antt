-- The log's frames are a grammar: what is read at a place is decided by its own bytes.
use Rattle.std.proofs.Common.{◌≡◌, ℕ, ◌+◌, ◌<◌, ◌≤◌, List, [], length, take, drop, Some, refl, sym, ◌∙◌, ap, arith}
use Rattle.std.specs.Prelude.{slice_get}
use Rattle.std.proofs.lemmas.List.{length-take, length-drop, append-nil, drop_at}
use Rattle.pm_frame.specs.Frames.{Frame, frame_len, frame_bytes, frame_at}
use Rattle.pm_frame.proofs.FrameAt.{length-frame_bytes, frame_at-bytes, frame_at-same, frame_at-within, IsFrame-from}
use Rattle.pm_disk.proofs.Files.{same_reads}
use Rattle.pm_disk.proofs.Writes.{slice_get-take, slice_get-drop}
use Rattle.pm_records.specs.Logs.{place, all_frames}
use Rattle.pm_records.proofs.GrammarLaws.{IsGrammar}

pub frame_laws : IsGrammar all_frames
frame_laws = record {
  within = within;
  own = decided;
  bytes_length = λ seg off f. length-frame_bytes (place seg off) f;
  written = λ seg bytes f fits.
      let at = length bytes in
      ap (frame_at (place seg at)) (drop_at bytes (frame_bytes (place seg at) f) at refl ∙ sym (append-nil (frame_bytes (place seg at) f)))
      ∙ frame_at-bytes (place seg at) f [] (IsFrame-from (place seg at) f fits);
}
  where
    within : (seg off : ℕ) (bytes : List ℕ) (f : Frame) → frame_at (place seg off) (drop off bytes) ≡ Some f → off + frame_len f ≤ length bytes
    within seg off bytes f is = omega (arith, frame_at-within (place seg off) (drop off bytes) f is, length-drop off bytes)

    decided : (seg off : ℕ) (old new : List ℕ) (f : Frame) → frame_at (place seg off) (drop off old) ≡ Some f → off + frame_len f ≤ length new → ((i : ℕ) → i < off + frame_len f → slice_get new i ≡ slice_get old i) → frame_at (place seg off) (drop off new) ≡ Some f
    decided seg off old new f is le same =
        let n = frame_len f in
        let old_long = within seg off old f is in
        frame_at-same (place seg off) (drop off old) (drop off new) f is
        (same_reads (take n (drop off new)) (take n (drop off old))
        (omega (arith, length-take n (drop off new), length-take n (drop off old), length-drop off new, length-drop off old, le, old_long))
        (λ i lt.
        let i_lt : i < n = omega (arith, lt, length-take n (drop off old)) in
        slice_get-take n (drop off new) i i_lt ∙ slice_get-drop off new i ∙ same (off + i) (omega (arith, i_lt)) ∙ sym (slice_get-drop off old i) ∙ sym (slice_get-take n (drop off old) i i_lt)))
