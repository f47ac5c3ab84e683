-- The frame at the front of bytes: whatever frame is spelled there and no other, whatever follows it.
use Rattle.std.proofs.Common.{◌≡◌, ℕ, ◌+◌, ◌-◌, ◌≤◌, ◌<◌, ◌^◌, true, leb, ltb, List, [], ◌++◌, length, take, drop, Option, Some, None, refl, sym, ap, subst, ◌∙◌, append_assoc, arith}
use Rattle.std.specs.Prelude.{◌&&◌, nat_eq}
use Rattle.std.specs.List.{starts_with}
use Rattle.std.specs.Int.{w32, to_le_bytes, from_le_bytes}
use Rattle.std.proofs.lemmas.Bool.{and_parts, and_from, leb-true, le-leb, ltb-true, lt-ltb}
use Rattle.std.proofs.lemmas.Bool.Decides.{Decides-eqb}
use Rattle.std.proofs.lemmas.List.{append-nil, length-append, length-take, take_at, take-append-drop}
use Rattle.std.proofs.lemmas.Nat.{from_le_bytes-to_le_bytes_4}
use Rattle.std.proofs.lemmas.List.Prefix.{front_fits}
use Rattle.std.proofs.lemmas.Option.{cond_some, same_Some}
use Rattle.std.proofs.lemmas.Slice.Eq.{starts_is}
use Rattle.pm_types.specs.declared.place.Place.{Place}
use Rattle.pm_frame.specs.declared.kinds.TheConstants.{LOGICAL, SEAL}
use Rattle.pm_frame.specs.declared.limits.TheConstants.{HEAD_LEN, FRAME_EXTRA, PAYLOAD_MAX}
use Rattle.pm_frame.specs.Crc.{crc_of}
use Rattle.pm_frame.specs.Frames.{Frame, frame_len, head_bytes, summed_bytes, frame_bytes, end_max, IsFrame, is_frame, named_frame, frame_at}
use Rattle.pm_frame.proofs.HeadBytes.{length-head_bytes}

pub length-summed_bytes : (place : Place) (frame : Frame) → length (summed_bytes place frame) ≡ length frame.payload + HEAD_LEN
unfolding summed_bytes
length-summed_bytes place frame =
    let h = length-head_bytes frame.kind place (length frame.payload) in
    omega (arith, h, length-append (head_bytes frame.kind place (length frame.payload)) frame.payload)

pub length-frame_bytes : (place : Place) (frame : Frame) → length (frame_bytes place frame) ≡ frame_len frame
unfolding frame_bytes
length-frame_bytes place frame =
    let sum = crc_of (summed_bytes place frame) in
    omega (arith, length-append (summed_bytes place frame) (to_le_bytes w32 sum), length-summed_bytes place frame)

-- ---- the test says what the record says

pub is_frame-from : (place : Place) (frame : Frame) → IsFrame place frame → is_frame place frame ≡ true
is_frame-from place frame h =
    and_from _ _ (and_from _ _ (and_from _ _ (and_from _ _ (le-leb _ _ h.known_from) (le-leb _ _ h.known_to)) (le-leb _ _ h.short)) (le-leb _ _ h.ends)) (lt-ltb _ _ h.numbered)

pub IsFrame-from : (place : Place) (frame : Frame) → is_frame place frame ≡ true → IsFrame place frame
IsFrame-from place frame t =
    let from = leb LOGICAL frame.kind in
    let to = leb frame.kind SEAL in
    let short = leb (length frame.payload) PAYLOAD_MAX in
    let ends = leb (place.off + length frame.payload + FRAME_EXTRA) (end_max frame.kind) in
    let numbered = ltb place.seg (2 ^ 64) in
    let a = and_parts (from && to && short && ends) numbered t in
    let b = and_parts (from && to && short) ends a.0 in
    let c = and_parts (from && to) short b.0 in
    let d = and_parts from to c.0 in
    record {
      known_from = leb-true _ _ d.0;
      known_to = leb-true _ _ d.1;
      short = leb-true _ _ c.1;
      ends = leb-true _ _ b.1;
      numbered = ltb-true _ _ a.1;
    }

-- ---- both ways

-- what is spelled names itself
named_frame-bytes : (place : Place) (frame : Frame) (rest : List ℕ) → length frame.payload < 2 ^ 32
    → named_frame (frame_bytes place frame ++ rest) ≡ frame
unfolding named_frame frame_bytes summed_bytes head_bytes
named_frame-bytes place frame rest short =
    let n = length frame.payload in
    let sum = to_le_bytes w32 (crc_of (summed_bytes place frame)) in
    let others = frame.payload ++ sum ++ rest in
    let len : from_le_bytes w32 (to_le_bytes w32 n) ≡ n = from_le_bytes-to_le_bytes_4 n short in
    let count : HEAD_LEN + n - HEAD_LEN ≡ n = omega arith in
    let payload : take (HEAD_LEN + from_le_bytes w32 (to_le_bytes w32 n) - HEAD_LEN) others ≡ frame.payload =
    ap (λ k. take (HEAD_LEN + k - HEAD_LEN) others) len
    ∙ ap (λ k. take k others) count
    ∙ ap (take n) (append_assoc frame.payload sum rest)
    ∙ take_at frame.payload (sum ++ rest) n refl
    in
    λ i. record { kind = frame.kind; payload = payload i }

pub frame_at-bytes : (place : Place) (frame : Frame) (rest : List ℕ) → IsFrame place frame
    → frame_at place (frame_bytes place frame ++ rest) ≡ Some frame
unfolding frame_at
frame_at-bytes place frame rest h =
    let bytes = frame_bytes place frame ++ rest in
    let named : named_frame bytes ≡ frame = named_frame-bytes place frame rest (omega (arith, h.short)) in
    let begins : starts_with nat_eq bytes (frame_bytes place frame) ≡ true = (starts_is Decides-eqb bytes (frame_bytes place frame) _ refl).1 rest refl in
    rw (named, is_frame-from place frame h, begins) refl

pub frame_at-some : (place : Place) (bytes : List ℕ) (frame : Frame) → frame_at place bytes ≡ Some frame
    → IsFrame place frame × (bytes ≡ frame_bytes place frame ++ drop (frame_len frame) bytes)
unfolding frame_at
frame_at-some place bytes frame e =
    let named = named_frame bytes in
    let t = cond_some (is_frame place named && starts_with nat_eq bytes (frame_bytes place named)) named frame e in
    let p = and_parts (is_frame place named) (starts_with nat_eq bytes (frame_bytes place named)) t.0 in
    let spelled : bytes ≡ frame_bytes place named ++ drop (frame_len named) bytes =
    rw (← length-frame_bytes place named) ((starts_is Decides-eqb bytes (frame_bytes place named) _ refl).0 p.1)
    in
    subst (λ f. IsFrame place f × (bytes ≡ frame_bytes place f ++ drop (frame_len f) bytes)) t.1 (IsFrame-from place named p.0, spelled)

-- where no frame is spelled, none is found
pub frame_at-none : (place : Place) (bytes : List ℕ)
    → ((frame : Frame) (rest : List ℕ) → IsFrame place frame → bytes ≡ frame_bytes place frame ++ rest → ⊥) → frame_at place bytes ≡ None
frame_at-none place bytes h =
    let P : Option Frame → Type 0 = λ found. frame_at place bytes ≡ found → found ≡ None in
    let found : P (frame_at place bytes) =
    elim (frame_at place bytes) as P [
      | None ↦ λ e. refl
      | Some frame ↦ λ e. let s = frame_at-some place bytes frame e in absurd (h frame (drop (frame_len frame) bytes) s.0 s.1)
    ]
    in
    found refl

-- what is found is whatever frame is spelled
pub found-spelled : (place : Place) (bytes : List ℕ) (found : Option Frame) → found ≡ frame_at place bytes
    → (frame : Frame) (rest : List ℕ) → IsFrame place frame → bytes ≡ frame_bytes place frame ++ rest → found ≡ Some frame
found-spelled place bytes found e frame rest h spelled = e ∙ ap (frame_at place) spelled ∙ frame_at-bytes place frame rest h

-- one frame at most is spelled at the front of bytes
pub one_frame : (place : Place) (a b : Frame) (x y : List ℕ)
    → IsFrame place a → IsFrame place b → frame_bytes place a ++ x ≡ frame_bytes place b ++ y → a ≡ b
one_frame place a b x y p q e = same_Some a b (sym (frame_at-bytes place a x p) ∙ ap (frame_at place) e ∙ frame_at-bytes place b y q)

-- a frame that is found is there as a whole
pub frame_at-within : (place : Place) (bytes : List ℕ) (frame : Frame) → frame_at place bytes ≡ Some frame
    → frame_len frame ≤ length bytes
frame_at-within place bytes frame e =
    let s = frame_at-some place bytes frame e in
    omega (arith, length-frame_bytes place frame, front_fits bytes (frame_bytes place frame) (drop (frame_len frame) bytes) s.1)

-- what follows changes nothing
pub frame_at-append : (place : Place) (bytes more : List ℕ) (frame : Frame) → frame_at place bytes ≡ Some frame
    → frame_at place (bytes ++ more) ≡ Some frame
frame_at-append place bytes more frame e =
    let s = frame_at-some place bytes frame e in
    let others = drop (frame_len frame) bytes in
    ap (λ b. frame_at place (b ++ more)) s.1
    ∙ ap (frame_at place) (append_assoc (frame_bytes place frame) others more)
    ∙ frame_at-bytes place frame (others ++ more) s.0

-- a frame is decided by its own bytes
pub frame_at-same : (place : Place) (old new : List ℕ) (frame : Frame)
    → frame_at place old ≡ Some frame → take (frame_len frame) new ≡ take (frame_len frame) old → frame_at place new ≡ Some frame
frame_at-same place old new frame e same =
    let s = frame_at-some place old frame e in
    let n = frame_len frame in
    let front : take n old ≡ frame_bytes place frame = ap (take n) s.1 ∙ take_at (frame_bytes place frame) (drop n old) n (length-frame_bytes place frame) in
    let parts : new ≡ frame_bytes place frame ++ drop n new = sym (take-append-drop n new) ∙ ap (λ f. f ++ drop n new) (same ∙ front) in
    ap (frame_at place) parts ∙ frame_at-bytes place frame (drop n new) s.0

-- a frame that is cut short is none
pub frame_at-short : (place : Place) (frame : Frame) (n : ℕ) → IsFrame place frame → n < frame_len frame
    → frame_at place (take n (frame_bytes place frame)) ≡ None
frame_at-short place frame n h short =
    frame_at-none place (take n (frame_bytes place frame)) (λ other rest p e.
    let whole = frame_bytes place frame in
    let again : frame_bytes place frame ++ [] ≡ frame_bytes place other ++ (rest ++ drop n whole) =
    append-nil whole ∙ sym (take-append-drop n whole) ∙ ap (λ front. front ++ drop n whole) e ∙ append_assoc (frame_bytes place other) rest (drop n whole)
    in
    let same = one_frame place frame other [] (rest ++ drop n whole) h p again in
    let long : frame_len other ≤ n = omega (arith, length-frame_bytes place other, front_fits (take n whole) (frame_bytes place other) rest e, length-take n whole) in
    omega (arith, long, short, ap frame_len same))

-- too few bytes hold none
pub frame_at-few : (place : Place) (bytes : List ℕ) → length bytes < FRAME_EXTRA → frame_at place bytes ≡ None
frame_at-few place bytes few =
    frame_at-none place bytes (λ frame rest h e.
    omega (arith, few, length-frame_bytes place frame, front_fits bytes (frame_bytes place frame) rest e))
