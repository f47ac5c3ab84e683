-- What the laws of a log ask of a grammar of frames.
use Rattle.std.proofs.Common.{◌≡◌, ◌<◌, ◌≤◌, ◌+◌, ℕ, List, ◌++◌, length, Some, true}
use Rattle.std.specs.Prelude.{slice_get}
use Rattle.pm_frame.specs.Frames.{Frame, frame_len}
use Rattle.pm_records.specs.Logs.{Grammar}

-- What is read at a place is decided by its own bytes, and what is written there is read.
pub record IsGrammar (g : Grammar) : Type 0 where
  -- a frame that stands somewhere is within the bytes
  pub within : (seg off : ℕ) (bytes : List ℕ) (f : Frame)
      → g.frame_at seg off bytes ≡ Some f → off + frame_len f ≤ length bytes
  -- it stands in all other bytes, too, that are the same up to its end
  pub own : (seg off : ℕ) (old new : List ℕ) (f : Frame)
      → g.frame_at seg off old ≡ Some f → off + frame_len f ≤ length new
      → ((i : ℕ) → i < off + frame_len f → slice_get new i ≡ slice_get old i)
      → g.frame_at seg off new ≡ Some f
  -- its bytes are as many as its size says
  pub bytes_length : (seg off : ℕ) (f : Frame) → length (g.frame_bytes seg off f) ≡ frame_len f
  -- what is written after the bytes, where it may stand, stands there
  pub written : (seg : ℕ) (bytes : List ℕ) (f : Frame)
      → g.fits seg (length bytes) f ≡ true
      → g.frame_at seg (length bytes) (bytes ++ g.frame_bytes seg (length bytes) f) ≡ Some f
