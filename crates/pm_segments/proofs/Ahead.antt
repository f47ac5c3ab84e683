-- What a scan's buffer holds of a segment.
use Rattle.std.proofs.Common.{◌≡◌, ◌⊎◌, inl, inr, ℕ, ◌+◌, ◌-◌, ◌<◌, ◌≤◌, min, List, ◌++◌, length, take, drop, Option, Some, None, refl, sym, ◌∙◌, ap, subst, arith, append_assoc, length-append}
use Rattle.std.specs.Prelude.{IsTrue}
use Rattle.std.specs.Int.{w32, to_le_bytes}
use Rattle.std.proofs.lemmas.List.{drop-drop, drop-take, length-drop, length-take, take-take, take_all, take_at, drop_at, take-append-drop}
use Rattle.std.proofs.Math.Seq.{take-add}
use Rattle.pm_types.specs.declared.place.Place.{Place}
use Rattle.pm_frame.specs.declared.limits.TheConstants.{FRAME_MAX}
use Rattle.pm_frame.specs.Crc.{crc_of}
use Rattle.pm_frame.specs.Frames.{Frame, frame_len, head_bytes, summed_bytes, frame_bytes, frame_at}
use Rattle.pm_frame.proofs.HeadBytes.{length-head_bytes}
use Rattle.pm_frame.proofs.FrameAt.{length-frame_bytes, frame_at-same, frame_at-some, frame_at-append, frame_at-within}
use Rattle.pm_disk.specs.Files.{bytes_of}
use Rattle.pm_disk.specs.Worlds.{World, segment_in}
use Rattle.pm_records.proofs.Runs.{option_cases}
use Rattle.pm_segments.specs.Scans.{Scanned, IsAhead, StepsOver, StepsTo, bytes_after}

-- the first so many elements, less some of them
pub less_first : (k m : ℕ) (xs : List ℕ) → k ≤ m → drop k (take m xs) ≡ take (m - k) (drop k xs)
less_first k m xs le =
    let sum : m ≡ k + (m - k) = omega arith in
    ap (λ n. drop k (take n xs)) sum ∙ drop-take k (m - k) xs

-- the payload in the spelling of a frame
payload_of : (place : Place) (frame : Frame) (bytes rest : List ℕ) → bytes ≡ frame_bytes place frame ++ rest → take (length frame.payload) (drop 17 bytes) ≡ frame.payload
unfolding frame_bytes summed_bytes
payload_of place frame bytes rest spelled =
    let n = length frame.payload in
    let head = head_bytes frame.kind place n in
    let sum = to_le_bytes w32 (crc_of (head ++ frame.payload)) in
    let parted : bytes ≡ head ++ (frame.payload ++ (sum ++ rest)) =
    spelled ∙ append_assoc (head ++ frame.payload) sum rest ∙ append_assoc head frame.payload (sum ++ rest) in
    ap (λ b. take n (drop 17 b)) parted
    ∙ ap (take n) (drop_at head (frame.payload ++ (sum ++ rest)) 17 (length-head_bytes frame.kind place n))
    ∙ take_at frame.payload (sum ++ rest) n refl

-- the payload of a frame that stands in the buffer
pub payload_there : (place : Place) (frame : Frame) (buffer rest : List ℕ) (at end : ℕ) → take (end - at) (drop at buffer) ≡ frame_bytes place frame ++ rest → take (length frame.payload) (drop (at + 17) buffer) ≡ frame.payload
payload_there place frame buffer rest at end spelled =
    let n = length frame.payload in
    let w = drop at buffer in
    let long : n + 21 ≤ end - at = omega (arith, ap (λ (b : List ℕ). length b) spelled, length-take (end - at) w, length-append (frame_bytes place frame) rest, length-frame_bytes place frame) in
    let inner = payload_of place frame (take (end - at) w) rest spelled in
    let shifted : take n (drop 17 (take (end - at) w)) ≡ take n (drop (at + 17) buffer) =
    ap (take n) (less_first 17 (end - at) w (omega (arith, long)))
    ∙ take-take n (end - at - 17) (drop 17 w) (omega (arith, long))
    ∙ ap (take n) (drop-drop 17 at buffer) in
    sym shifted ∙ inner

-- what a scan holds tells which frame stands there
pub sees : (place : Place) (ahead there : List ℕ) → ahead ≡ take (length ahead) there → (FRAME_MAX ≤ length ahead) ⊎ (ahead ≡ there) → frame_at place ahead ≡ frame_at place there
sees place ahead there front enough = elim enough [
  | inr whole ↦ ap (frame_at place) whole
  | inl long ↦ elim (option_cases (frame_at place there)) [
    | inl none ↦ elim (option_cases (frame_at place ahead)) [
      | inl nothing ↦ nothing ∙ sym none
      | inr some ↦
          let whole : ahead ++ drop (length ahead) there ≡ there = ap (λ a. a ++ drop (length ahead) there) front ∙ take-append-drop (length ahead) there in
          let no : None ≡ Some some.0 = sym none ∙ ap (frame_at place) (sym whole) ∙ frame_at-append place ahead (drop (length ahead) there) some.0 some.1 in
          cc
    ]
    | inr some ↦
        let short : frame_len some.0 ≤ length ahead = omega (arith, (frame_at-some place there some.0 some.1).0.short, long) in
        let same : take (frame_len some.0) ahead ≡ take (frame_len some.0) there = ap (take (frame_len some.0)) front ∙ take-take (frame_len some.0) (length ahead) there short in
        frame_at-same place there ahead some.0 some.1 same ∙ sym some.1
  ]
]

-- what a scan holds after the frame that it gave
pub ahead_after : (old new : Scanned) (world : World) (found : Option Frame) → IsAhead old world → found ≡ frame_at old.next old.ahead → StepsTo old new found → StepsOver old new found → IsAhead new world
ahead_after old new world None is_ahead is advances steps =
    let there : bytes_after new.next world ≡ bytes_after old.next world = ap (λ (p : Place). bytes_after p world) advances.1 in
    record {
      front = steps.0 ∙ is_ahead.front ∙ ap (λ (a : List ℕ). take (length a) (bytes_after old.next world)) (sym steps.0) ∙ ap (take (length new.ahead)) (sym there);
      whole = λ whole. steps.0 ∙ is_ahead.whole (subst IsTrue steps.1 whole) ∙ sym there;
    }
ahead_after old new world (Some frame) is_ahead is advances steps =
    let k = frame_len frame in
    let there : bytes_after new.next world ≡ drop k (bytes_after old.next world) =
    ap (λ (p : Place). bytes_after p world) advances.1 ∙ sym (drop-drop k old.next.off (bytes_of (segment_in world old.next.seg))) in
    let within : k ≤ length old.ahead = frame_at-within old.next old.ahead frame (sym is) in
    let count : length old.ahead - k ≡ length new.ahead = omega (arith, ap (λ (a : List ℕ). length a) steps.0, length-drop k old.ahead) in
    record {
      front = steps.0 ∙ ap (drop k) is_ahead.front ∙ less_first k (length old.ahead) (bytes_after old.next world) within
          ∙ ap (λ n. take n (drop k (bytes_after old.next world))) count ∙ ap (take (length new.ahead)) (sym there);
      whole = λ whole. steps.0 ∙ ap (drop k) (is_ahead.whole (subst IsTrue steps.1 whole)) ∙ sym there;
    }

-- what is ahead once more was read after it
pub read_more : (ahead there now moved : List ℕ) (kept count : ℕ) → ahead ≡ take (length ahead) there → kept ≡ length ahead → take kept now ≡ ahead
    → kept + count ≤ length now → take count (drop kept now) ≡ take count (drop kept there) → (take (kept + count) now ≡ take (kept + count) there) × (length (take (kept + count) now) ≡ kept + count)
read_more ahead there now moved kept count front is_kept first bound read = (
  take-add kept count now ∙ ap (λ a. a ++ take count (drop kept now)) (first ∙ front ∙ ap (λ n. take n there) (sym is_kept)) ∙ ap (λ r. take kept there ++ r) read ∙ sym (take-add kept count there),
  length-take (kept + count) now ∙ (let m : min (kept + count) (length now) ≡ kept + count = omega (arith, bound) in m),
)

-- a scan that holds the first so many bytes after its place
pub is_ahead_by : (scan : Scanned) (world : World) (there now : List ℕ) (n : ℕ) → scan.ahead ≡ take n now → take n now ≡ take n there → length (take n now) ≡ n
    → bytes_after scan.next world ≡ there → (IsTrue scan.is_whole → length there ≤ n) → IsAhead scan world
is_ahead_by scan world there now n ahead_is same count there_is whole =
    let len : length scan.ahead ≡ n = ap (λ (a : List ℕ). length a) ahead_is ∙ count in
    record {
      front = ahead_is ∙ same ∙ ap (λ k. take k there) (sym len) ∙ ap (take (length scan.ahead)) (sym there_is);
      whole = λ is_whole. ahead_is ∙ same ∙ take_all n there (whole is_whole) ∙ sym there_is;
    }

-- a read that didn't fill the buffer came to the segment's end
pub read_all : (segment now : List ℕ) (off kept count : ℕ) → count ≡ min (length (drop kept now)) (length segment - (off + kept)) → kept + count < length now → length (drop off segment) ≤ kept + count
read_all segment now off kept count many less = omega (arith, many, less, length-drop kept now, length-drop off segment)
