-- Each entry of the tables is what the definition gives: computed over all of them, and then said of each.
use Rattle.std.proofs.Common.{◌≡◌, ℕ, ◌+◌, ◌*◌, ◌<◌, List, [], map, get_or, refl, ap, ◌∙◌, arith}
use Rattle.std.specs.List.{range_with_len}
use Rattle.std.proofs.lemmas.List.FromFn.{get_or-map-range_with_len}
use Rattle.pm_frame.specs.declared.tables.TheConstants.{TABLES}
use Rattle.pm_frame.specs.Crc.{shifted_once, shifted_by}

-- the 256 entries of one table
row : ℕ → List ℕ
row zeros = map (shifted_by (8 * zeros + 8)) (range_with_len 0 256)

tables_are : TABLES ≡ map row (range_with_len 0 16)
unfolding row shifted_by shifted_once
tables_are = refl

pub TABLES-entry : (zeros byte : ℕ) → zeros < 16 → byte < 256
    → get_or (get_or TABLES zeros []) byte 0 ≡ shifted_by (8 * zeros + 8) byte
unfolding row
TABLES-entry zeros byte lt small =
    ap (λ t. get_or (get_or t zeros []) byte 0) tables_are
    ∙ ap (λ r. get_or r byte 0) (get_or-map-range_with_len row 0 16 zeros zeros [] lt (omega arith))
    ∙ get_or-map-range_with_len (shifted_by (8 * zeros + 8)) 0 256 byte byte 0 small (omega arith)
