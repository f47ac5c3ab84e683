-- A frame's head says one kind, place and length, and is said by its bytes alone.
use Rattle.std.proofs.Common.{◌≡◌, ℕ, ◌^◌, ◌<◌, List, ◌∷◌, ◌++◌, length, get_or, refl, sym, ap, ◌∙◌}
use Rattle.std.specs.Int.{w32, w64, from_le_bytes}
use Rattle.std.specs.Prelude.{slice_range}
use Rattle.std.proofs.lemmas.Nat.{from_le_bytes-to_le_bytes_4, from_le_bytes-to_le_bytes_8}
use Rattle.pm_types.specs.declared.place.Place.{Place}
use Rattle.pm_frame.specs.Frames.{head_bytes}
use Rattle.pm_frame.proofs.Bytes.{AreBytes, cells, written_out, four_back, eight_back}

-- the numbers fit their fields
pub record Fits (place : Place) (payload_len : ℕ) : Type 0 where
  pub seg : place.seg < 2 ^ 64
  pub off : place.off < 2 ^ 32
  pub len : payload_len < 2 ^ 32

pub length-head_bytes : (kind : ℕ) (place : Place) (payload_len : ℕ) → length (head_bytes kind place payload_len) ≡ 17
unfolding head_bytes
length-head_bytes kind place payload_len = refl

-- numbers read from seventeen bytes are said by these bytes
pub head_bytes-said : (bytes : List ℕ) (seg off len : ℕ) → length bytes ≡ 17 → AreBytes bytes
    → seg ≡ from_le_bytes w64 (cells 1 8 bytes) → off ≡ from_le_bytes w32 (cells 9 4 bytes)
    → len ≡ from_le_bytes w32 (cells 13 4 bytes)
    → bytes ≡ head_bytes (get_or bytes 0 0) (record { seg = seg; off = off }) len
unfolding head_bytes
head_bytes-said bytes seg off len long fits s o n =
    let seg_back = eight_back bytes 1 seg fits s in
    let off_back = four_back bytes 9 off fits o in
    let len_back = four_back bytes 13 len fits n in
    written_out 17 bytes long ∙ sym (λ i. get_or bytes 0 0 ∷ (seg_back i ++ (off_back i ++ len_back i)))

-- heads with the same bytes are the same
pub head_bytes-same : (a b : ℕ) (p q : Place) (m n : ℕ) → Fits p m → Fits q n → head_bytes a p m ≡ head_bytes b q n
    → (a ≡ b) × (p ≡ q) × (m ≡ n)
unfolding head_bytes
head_bytes-same a b p q m n f g e =
    let seg : p.seg ≡ q.seg = sym (from_le_bytes-to_le_bytes_8 p.seg f.seg) ∙ ap (λ bs. from_le_bytes w64 (slice_range bs 1 9)) e ∙ from_le_bytes-to_le_bytes_8 q.seg g.seg in
    let off : p.off ≡ q.off = sym (from_le_bytes-to_le_bytes_4 p.off f.off) ∙ ap (λ bs. from_le_bytes w32 (slice_range bs 9 13)) e ∙ from_le_bytes-to_le_bytes_4 q.off g.off in
    let len : m ≡ n = sym (from_le_bytes-to_le_bytes_4 m f.len) ∙ ap (λ bs. from_le_bytes w32 (slice_range bs 13 17)) e ∙ from_le_bytes-to_le_bytes_4 n g.len in
    (ap (λ bs. get_or bs 0 0) e, (λ i. record { seg = seg i; off = off i }), len)
