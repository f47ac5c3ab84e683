-- What each test of a reader rules out, and what is read where all tests pass.
use Rattle.std.proofs.Common.{◌≡◌, ℕ, ◌+◌, ◌^◌, ◌<◌, ◌≤◌, eqb, List, ◌++◌, length, take, drop, sym, ap, subst, ◌∙◌, append_assoc, arith}
use Rattle.std.specs.Int.{w32, to_le_bytes, from_le_bytes}
use Rattle.std.proofs.lemmas.Bool.{cond_both}
use Rattle.std.proofs.lemmas.List.{length-take, length-drop, take_at, drop_at, take-take, take-append-drop, drop-drop}
use Rattle.std.proofs.lemmas.List.Prefix.{front_fits}
use Rattle.std.proofs.lemmas.Nat.{from_le_bytes-to_le_bytes_4, le_bytes_4}
use Rattle.pm_types.specs.declared.place.Place.{Place}
use Rattle.pm_frame.specs.declared.kinds.TheConstants.{SEAL}
use Rattle.pm_frame.specs.declared.limits.TheConstants.{HEAD_LEN, FRAME_EXTRA, SUM_LEN, FRAME_END_MAX, SEGMENT_END_MAX}
use Rattle.pm_frame.specs.Crc.{crc_of}
use Rattle.pm_frame.specs.Frames.{Frame, head_bytes, summed_bytes, frame_bytes, end_max, IsHead, IsFrame}
use Rattle.pm_frame.proofs.Bytes.{AreBytes, AreBytes-take, AreBytes-drop}
use Rattle.pm_frame.proofs.HeadBytes.{Fits, length-head_bytes, head_bytes-same}
use Rattle.pm_frame.proofs.FrameAt.{length-summed_bytes, length-frame_bytes}

-- no frame of the place is spelled at the front of the bytes
abbrev pub HoldsNone : Place → List ℕ → Type 0
HoldsNone place bytes = (frame : Frame) (rest : List ℕ) → IsFrame place frame → bytes ≡ frame_bytes place frame ++ rest → ⊥

-- the front of the bytes is this head
pub record Begins (bytes : List ℕ) (kind : ℕ) (at : Place) (len : ℕ) : Type 0 where
  pub front : take HEAD_LEN bytes ≡ head_bytes kind at len
  pub fits : Fits at len

pub begins : (bytes front : List ℕ) (kind : ℕ) (at : Place) (len : ℕ) → front ≡ take HEAD_LEN bytes
    → front ≡ head_bytes kind at len
    → at.seg < 2 ^ 64 → at.off < 2 ^ 32 → len < 2 ^ 32 → Begins bytes kind at len
begins bytes front kind at len taken said seg off short = record { front = sym taken ∙ said; fits = record { seg = seg; off = off; len = short } }

end_max-le : (kind : ℕ) → end_max kind ≤ SEGMENT_END_MAX
end_max-le kind = cond_both (eqb kind SEAL) SEGMENT_END_MAX FRAME_END_MAX (λ x. x ≤ SEGMENT_END_MAX) (λ e. omega arith) (λ e. omega arith)

-- what is spelled, in its parts
parted : (place : Place) (bytes : List ℕ) (frame : Frame) (rest : List ℕ) → bytes ≡ frame_bytes place frame ++ rest
    → bytes ≡ summed_bytes place frame ++ (to_le_bytes w32 (crc_of (summed_bytes place frame)) ++ rest)
unfolding frame_bytes
parted place bytes frame rest e = e ∙ append_assoc (summed_bytes place frame) (to_le_bytes w32 (crc_of (summed_bytes place frame))) rest

headed : (place : Place) (bytes : List ℕ) (frame : Frame) (rest : List ℕ) → bytes ≡ frame_bytes place frame ++ rest
    → take HEAD_LEN bytes ≡ head_bytes frame.kind place (length frame.payload)
unfolding summed_bytes
headed place bytes frame rest e =
    let head = head_bytes frame.kind place (length frame.payload) in
    let others = to_le_bytes w32 (crc_of (summed_bytes place frame)) ++ rest in
    ap (take HEAD_LEN) (parted place bytes frame rest e ∙ append_assoc head frame.payload others)
    ∙ take_at head (frame.payload ++ others) HEAD_LEN (length-head_bytes frame.kind place (length frame.payload))

-- the head of a frame that is spelled there is that frame's
named : (place : Place) (bytes : List ℕ) (kind : ℕ) (at : Place) (len : ℕ) (frame : Frame) (rest : List ℕ)
    → Begins bytes kind at len → IsFrame place frame → bytes ≡ frame_bytes place frame ++ rest
    → (kind ≡ frame.kind) × (at ≡ place) × (len ≡ length frame.payload)
named place bytes kind at len frame rest b h e =
    let fits : Fits place (length frame.payload) = record {
      seg = h.numbered;
      off = omega (arith, h.ends, end_max-le frame.kind);
      len = omega (arith, h.short);
    }
    in
    head_bytes-same kind frame.kind at place len (length frame.payload) b.fits fits (sym b.front ∙ headed place bytes frame rest e)

long : (place : Place) (bytes : List ℕ) (frame : Frame) (rest : List ℕ) → bytes ≡ frame_bytes place frame ++ rest
    → length frame.payload + FRAME_EXTRA ≤ length bytes
long place bytes frame rest e = omega (arith, length-frame_bytes place frame, front_fits bytes (frame_bytes place frame) rest e)

pub none-few_for_head : (place : Place) (bytes : List ℕ) → length bytes < HEAD_LEN → HoldsNone place bytes
none-few_for_head place bytes few frame rest h e = omega (arith, long place bytes frame rest e)

pub none-other_head : (place : Place) (bytes : List ℕ) (kind : ℕ) (at : Place) (len : ℕ) → Begins bytes kind at len
    → ((at ≡ place) × IsHead place kind len → ⊥) → HoldsNone place bytes
none-other_head place bytes kind at len b other frame rest h e =
    let n = named place bytes kind at len frame rest b h e in
    other (n.1, subst (λ (x : ℕ × ℕ). IsHead place x.0 x.1) (λ i. (sym n.0 i, sym n.2 i)) h)

pub none-few_for_payload : (place : Place) (bytes : List ℕ) (kind : ℕ) (at : Place) (len : ℕ) → Begins bytes kind at len
    → length bytes < HEAD_LEN + len → HoldsNone place bytes
none-few_for_payload place bytes kind at len b few frame rest h e =
    let n = named place bytes kind at len frame rest b h e in
    omega (arith, n.2, long place bytes frame rest e)

pub none-few_for_sum : (place : Place) (bytes : List ℕ) (kind : ℕ) (at : Place) (len : ℕ) → Begins bytes kind at len
    → length bytes < HEAD_LEN + len + SUM_LEN → HoldsNone place bytes
none-few_for_sum place bytes kind at len b few frame rest h e =
    let n = named place bytes kind at len frame rest b h e in
    omega (arith, n.2, long place bytes frame rest e)

crc_of-lt : (bytes : List ℕ) → crc_of bytes < 2 ^ 32
unfolding crc_of
crc_of-lt bytes = omega arith

pub none-other_sum : (place : Place) (bytes : List ℕ) (kind : ℕ) (at : Place) (len : ℕ) (summed stored : List ℕ)
    → Begins bytes kind at len → summed ≡ take (HEAD_LEN + len) bytes → stored ≡ take SUM_LEN (drop (HEAD_LEN + len) bytes)
    → (from_le_bytes w32 stored ≡ crc_of summed → ⊥) → HoldsNone place bytes
none-other_sum place bytes kind at len summed stored b s t other frame rest h e =
    let n = named place bytes kind at len frame rest b h e in
    let whole = summed_bytes place frame in
    let sum = to_le_bytes w32 (crc_of whole) in
    let count : length whole ≡ HEAD_LEN + len = omega (arith, n.2, length-summed_bytes place frame) in
    let parts = parted place bytes frame rest e in
    let summed_is : summed ≡ whole = s ∙ ap (take (HEAD_LEN + len)) parts ∙ take_at whole (sum ++ rest) (HEAD_LEN + len) count in
    let stored_is : stored ≡ sum = t ∙ ap (λ b. take SUM_LEN (drop (HEAD_LEN + len) b)) parts ∙ ap (take SUM_LEN) (drop_at whole (sum ++ rest) (HEAD_LEN + len) count) in
    other (ap (from_le_bytes w32) stored_is ∙ from_le_bytes-to_le_bytes_4 (crc_of whole) (crc_of-lt whole) ∙ sym (ap crc_of summed_is))

-- what is read where head and sum are right
pub read_spelled : (place : Place) (bytes : List ℕ) (kind len : ℕ) (summed stored payload : List ℕ)
    → AreBytes bytes → Begins bytes kind place len → HEAD_LEN + len + SUM_LEN ≤ length bytes
    → summed ≡ take (HEAD_LEN + len) bytes → stored ≡ take SUM_LEN (drop (HEAD_LEN + len) bytes)
    → from_le_bytes w32 stored ≡ crc_of summed → payload ≡ drop HEAD_LEN summed
    → bytes ≡ frame_bytes place (record { kind = kind; payload = payload }) ++ drop (len + FRAME_EXTRA) bytes
unfolding frame_bytes summed_bytes
read_spelled place bytes kind len summed stored payload are b enough s t right p =
    let count : length payload ≡ len = omega (arith, ap length p, length-drop HEAD_LEN summed, ap length s, length-take (HEAD_LEN + len) bytes) in
    let front : take HEAD_LEN summed ≡ head_bytes kind place (length payload) =
    ap (take HEAD_LEN) s ∙ take-take HEAD_LEN (HEAD_LEN + len) bytes (omega arith) ∙ b.front ∙ ap (head_bytes kind place) (sym count)
    in
    let whole : summed ≡ head_bytes kind place (length payload) ++ payload = sym (take-append-drop HEAD_LEN summed) ∙ (λ i. front i ++ sym p i) in
    let stored_are : AreBytes stored = subst AreBytes (sym t) (AreBytes-take SUM_LEN _ (AreBytes-drop (HEAD_LEN + len) bytes are)) in
    let stored_len : length stored ≡ SUM_LEN = omega (arith, ap length t, length-take SUM_LEN (drop (HEAD_LEN + len) bytes), length-drop (HEAD_LEN + len) bytes) in
    let sum : stored ≡ to_le_bytes w32 (crc_of summed) = sym (le_bytes_4 stored (crc_of summed) stored_len stored_are (sym right)) in
    let end : HEAD_LEN + len + SUM_LEN ≡ len + FRAME_EXTRA = omega arith in
    let others : drop (HEAD_LEN + len) bytes ≡ stored ++ drop (len + FRAME_EXTRA) bytes =
    sym (take-append-drop SUM_LEN (drop (HEAD_LEN + len) bytes))
    ∙ (λ i. sym t i ++ drop-drop SUM_LEN (HEAD_LEN + len) bytes i)
    ∙ ap (λ k. stored ++ drop k bytes) end
    in
    let rest = drop (len + FRAME_EXTRA) bytes in
    sym (take-append-drop (HEAD_LEN + len) bytes)
    ∙ (λ i. sym s i ++ others i)
    ∙ ap (λ x. summed ++ (x ++ rest)) sum
    ∙ sym (append_assoc summed (to_le_bytes w32 (crc_of summed)) rest)
    ∙ ap (λ x. x ++ to_le_bytes w32 (crc_of x) ++ rest) whole
