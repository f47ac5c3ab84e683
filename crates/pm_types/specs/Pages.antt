-- Pages as lists of bytes, and what a change leaves of them.
use Rattle.std.specs.Prelude.{◌≡◌, ℕ, List, length, slice_index}
use Rattle.pm_types.specs.Spans.{Coverage, Covers}

-- a page has as many bytes as it had, and outside these places the same
pub record SameOutside (covered : ℕ → Type 0) (was now : List ℕ) : Type 0 where
  pub size : length now ≡ length was
  pub bytes : (k : ℕ) → (covered k → ⊥) → slice_index now k ≡ slice_index was k

-- a page was changed only where its patch covers it now, and what the patch covered it still covers
pub record IsNoted (old new : Coverage) (was now : List ℕ) : Type 0 where
  pub size : new.page_size ≡ old.page_size
  pub keeps : (k : ℕ) → Covers old k → Covers new k
  pub outside : SameOutside (Covers new) was now
