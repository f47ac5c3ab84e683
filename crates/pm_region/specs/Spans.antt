-- What a span is.
use Rattle.std.specs.Prelude.{◌≡◌, ℕ}
use denote.RawPtr.{Ptr}
use Rattle.pm_region.specs.declared.memory.Span.{Span}

-- the span is room for so many bytes, from this origin on
pub record IsSpan (span : Span) (at : Ptr) (size : ℕ) : Type 0 where
  pub lies : span.origin ≡ at
  pub long : span.len ≡ size
