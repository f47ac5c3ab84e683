-- A shape is said by its bytes alone.
use Rattle.std.proofs.Common.{◌≡◌, ℕ, ◌^◌, ◌<◌, List, ◌++◌, length, refl, sym, ap, ◌∙◌, arith}
use Rattle.std.specs.Int.{w16, w32, from_le_bytes}
use Rattle.std.proofs.lemmas.Nat.{from_le_bytes-to_le_bytes_2, from_le_bytes-to_le_bytes_4}
use Rattle.pm_types.specs.declared.shape.Shape.{Shape}
use Rattle.pm_types.proofs.PageSizeBounds.{page_size_bounds}
use Rattle.pm_frame.proofs.Bytes.{AreBytes, cells, written_out, two_back, four_back}
use Rattle.pm_records.specs.declared.limits.TheConstants.{SHAPE_LEN}
use Rattle.pm_types.specs.Shapes.{IsShape}
use Rattle.pm_records.specs.Shapes.{shape_bytes, named_shape}

-- numbers read from sixteen bytes are said by these bytes
pub shape_bytes-said : (bytes : List ℕ) (page_size partitions version max_rows segment_bytes : ℕ) → length bytes ≡ 16
    → AreBytes bytes
    → page_size ≡ from_le_bytes w32 (cells 0 4 bytes) → partitions ≡ from_le_bytes w16 (cells 4 2 bytes)
    → version ≡ from_le_bytes w16 (cells 6 2 bytes)
    → max_rows ≡ from_le_bytes w32 (cells 8 4 bytes) → segment_bytes ≡ from_le_bytes w32 (cells 12 4 bytes)
    → bytes ≡ shape_bytes (record { page_size = page_size; partitions = partitions; version = version; max_rows = max_rows; segment_bytes = segment_bytes })
unfolding shape_bytes
shape_bytes-said bytes page_size partitions version max_rows segment_bytes long fits p n v r s =
    let p_back = four_back bytes 0 page_size fits p in
    let n_back = two_back bytes 4 partitions fits n in
    let v_back = two_back bytes 6 version fits v in
    let r_back = four_back bytes 8 max_rows fits r in
    let s_back = four_back bytes 12 segment_bytes fits s in
    written_out 16 bytes long ∙ sym (λ i. p_back i ++ (n_back i ++ (v_back i ++ (r_back i ++ s_back i))))

-- the numbers fit their fields
pub record ShapeFits (shape : Shape) : Type 0 where
  pub page_size : shape.page_size < 2 ^ 32
  pub partitions : shape.partitions < 2 ^ 16
  pub version : shape.version < 2 ^ 16
  pub max_rows : shape.max_rows < 2 ^ 32
  pub segment_bytes : shape.segment_bytes < 2 ^ 32

pub ShapeFits-from : (shape : Shape) → IsShape shape → ShapeFits shape
ShapeFits-from shape h =
    let bounds = page_size_bounds shape.page_size h.page_size in
    record {
      page_size = omega (arith, bounds.1);
      partitions = omega (arith, h.partitions_to);
      version = omega (arith, h.version_to);
      max_rows = omega (arith, h.max_rows_to);
      segment_bytes = omega (arith, h.segment_bytes_to);
    }

-- a shape's bytes name it
pub named_shape-bytes : (shape : Shape) → ShapeFits shape → named_shape (shape_bytes shape) ≡ shape
unfolding named_shape shape_bytes
named_shape-bytes shape h =
    let size = from_le_bytes-to_le_bytes_4 shape.page_size h.page_size in
    let partitions = from_le_bytes-to_le_bytes_2 shape.partitions h.partitions in
    let version = from_le_bytes-to_le_bytes_2 shape.version h.version in
    let rows = from_le_bytes-to_le_bytes_4 shape.max_rows h.max_rows in
    let segment = from_le_bytes-to_le_bytes_4 shape.segment_bytes h.segment_bytes in
    λ i. record { page_size = size i; partitions = partitions i; version = version i; max_rows = rows i; segment_bytes = segment i }

-- shapes with the same bytes are the same
pub shape_bytes-same : (a b : Shape) → ShapeFits a → ShapeFits b → shape_bytes a ≡ shape_bytes b → a ≡ b
shape_bytes-same a b f g e = sym (named_shape-bytes a f) ∙ ap named_shape e ∙ named_shape-bytes b g

pub length-shape_bytes : (shape : Shape) → length (shape_bytes shape) ≡ SHAPE_LEN
unfolding shape_bytes
length-shape_bytes shape = refl
