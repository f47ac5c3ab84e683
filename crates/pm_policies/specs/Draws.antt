-- The kind RandomLru: some frames are drawn, and the one used longest ago is picked.
use Rattle.std.specs.Prelude.{◌≡◌, ℕ, zero, suc, ◌*◌, ◌/◌, ◌%◌, ◌^◌, ◌≤◌, ◌==◌, List, length}
use Rattle.std.specs.Prelude.{bit_xor, slice_index, slice_set, if◌then◌else◌}
use Rattle.pm_policies.specs.Stamps.{raised, IsNoLater}

-- the seed, the state from which the next frame is drawn, the tick, and each frame's stamp
pub record Drawing : Type 0 where
  pub seed : ℕ
  pub state : ℕ
  pub tick : ℕ
  pub stamps : List ℕ

-- the state before the first draw
abbrev pub first_state : ℕ → ℕ
first_state seed = if seed == 0 then 1 else seed

-- the state after a draw: Marsaglia's xorshift of 32 bits, by 13, 17 and 5
unfoldable pub state_after_draw : ℕ → ℕ
state_after_draw state =
    let a = bit_xor state (state * 2 ^ 13 % 2 ^ 32) in
    let b = bit_xor a (a / 2 ^ 17) in
    bit_xor b (b * 2 ^ 5 % 2 ^ 32)

-- the state after so many draws
unfoldable pub state_after : ℕ → ℕ → ℕ
state_after zero state = state
state_after (suc draws) state = state_after_draw (state_after draws state)

-- the frame that the k-th draw gives
abbrev pub frame_drawn : List ℕ → ℕ → ℕ → ℕ
frame_drawn stamps state k = state_after k state % length stamps

-- the frame is one of so many drawn frames, and of these none has a lesser stamp, or the same and a
-- lesser number
pub record IsOldestDrawn (stamps : List ℕ) (state draws frame : ℕ) : Type 0 where
  pub drawn : (k : ℕ) × (1 ≤ k) × (k ≤ draws) × (frame ≡ frame_drawn stamps state k)
  pub oldest : (k : ℕ) → 1 ≤ k → k ≤ draws
      → IsNoLater (slice_index stamps frame) frame (slice_index stamps (frame_drawn stamps state k))
      (frame_drawn stamps state k)

-- the frame has the next tick as its stamp
abbrev pub stamped : Drawing → ℕ → Drawing
stamped d frame = record d { tick = raised d.tick; stamps = slice_set d.stamps frame (raised d.tick) }
