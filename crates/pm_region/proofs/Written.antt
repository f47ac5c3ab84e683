-- What a lease is after all of its bytes were written.
use Rattle.std.proofs.Common.{◌≡◌, ℕ, List, ◌++◌, length, take, drop, sym, ap, ◌∙◌}
use Rattle.std.proofs.Math.Seq.{take-append_seam}
use Rattle.pm_region.specs.Lease.{Leased, with_bytes}

pub all_written : (lease : Leased) (ws : List ℕ) → length ws ≡ length lease.bytes → with_bytes lease ws ≡ record lease { bytes = ws }
all_written lease ws same =
    let rest = drop (length ws) lease.bytes in
    let is_ws = ap (λ n. take n (ws ++ rest)) (sym same) ∙ take-append_seam ws rest in
    ap (λ bs. record lease { bytes = bs }) is_ws
