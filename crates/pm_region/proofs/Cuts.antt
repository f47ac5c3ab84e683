-- Room is cut into leases of zeros, one after another.
use Rattle.std.proofs.Common.{◌≡◌, ℕ, zero, suc, ◌+◌, ◌-◌, ◌*◌, ◌<◌, ◌≤◌, List, [], ◌∷◌, ◌++◌, length, Some, refl, ap, ◌∙◌, subst, arith, below_more, length-append}
use Rattle.std.proofs.lemmas.Nat.{mul-le}
use Rattle.std.specs.List.{slice_get}
use denote.RawPtr.{Ptr, InBlock, block_ptr, null_ptr, ◌+ₚ◌}
use Rattle.pm_region.specs.Lease.{Leased}
use Rattle.pm_region.specs.Memory.{zeros_at, extent_at}
use Rattle.pm_region.specs.Region.{fresh_lease, AreFresh}

-- what comes before the end of a list is as it was
pub slice_get-front : {X : Type 0} (xs ys : List X) (i : ℕ) → i < length xs → slice_get (xs ++ ys) i ≡ slice_get xs i
slice_get-front [] ys i h = absurd (omega arith)
slice_get-front (x ∷ xs) ys zero h = refl
slice_get-front (x ∷ xs) ys (suc i) h = slice_get-front xs ys i (omega arith)

-- what was pushed is the last element
pub slice_get-push : {X : Type 0} (xs : List X) (y : X) → slice_get (xs ++ y ∷ []) (length xs) ≡ Some y
slice_get-push [] y = refl
slice_get-push (x ∷ xs) y = slice_get-push xs y

-- the first n leases are made, and the rest is room for so many bytes
pub record IsCut (origin : Ptr) (frames size n : ℕ) (leases : List Leased) (following : Ptr) (left : ℕ) : Type 0 where
  pub count : length leases ≡ n
  pub each : (i : ℕ) → i < n → slice_get leases i ≡ Some (fresh_lease (extent_at origin frames size) i)
  pub next : following ≡ origin +ₚ n * size
  pub sum : n * size + left ≡ frames * size

-- an origin further on is in the same block
pub moved : (p : Ptr) (n m : ℕ) → (p +ₚ n) +ₚ m ≡ p +ₚ (n + m)
moved (block_ptr b o) n m = let same : o + n + m ≡ o + (n + m) = omega arith in ap (block_ptr b) same
moved null_ptr n m = refl

still : (p : Ptr) (n : ℕ) → n ≡ 0 → p ≡ p +ₚ n
still (block_ptr b o) n e = let same : o ≡ o + n = omega arith in ap (block_ptr b) same
still null_ptr n e = refl

-- a lease that begins n leases after the origin
lease_there : (p q : Ptr) (frames size n : ℕ) → q ≡ p +ₚ n * size → InBlock q → zeros_at n q size ≡ fresh_lease (extent_at p frames size) n
lease_there (block_ptr b o) q frames size n at here = λ i. zeros_at n (at i) size
lease_there null_ptr q frames size n at here = absurd (subst InBlock at here)

pub IsCut-none : (origin : Ptr) (frames size left : ℕ) → left ≡ frames * size → IsCut origin frames size 0 [] origin left
IsCut-none origin frames size left is = record {
  count = refl;
  each = λ i h. absurd (omega arith);
  next = still origin (0 * size) (omega arith);
  sum = omega (arith, is);
}

-- another lease fits
pub IsCut-room : {origin : Ptr} {frames size n : ℕ} {leases : List Leased} {following : Ptr} {left : ℕ}
    → IsCut origin frames size n leases following left → n < frames → size ≤ left
IsCut-room {frames = frames} {size} {n} c more = omega (arith, mul-le (n + 1) size frames size (omega arith) (omega arith), c.sum)

pub IsCut-more : (origin : Ptr) (frames size n : ℕ) (leases : List Leased) (following : Ptr) (left : ℕ)
    → IsCut origin frames size n leases following left → n < frames → InBlock following
    → IsCut origin frames size (n + 1) (leases ++ zeros_at n following size ∷ []) (following +ₚ size) (left - size)
IsCut-more origin frames size n leases following left c more here =
    let region = extent_at origin frames size in let made = zeros_at n following size in let new = leases ++ made ∷ [] in
    let room = IsCut-room c more in
    let lease : made ≡ fresh_lease region n = lease_there origin following frames size n c.next here in record {
      count = omega (arith, length-append leases (made ∷ []), c.count);
      each = below_more (λ i. slice_get new i ≡ Some (fresh_lease region i)) n
          (λ i h. slice_get-front leases _ i (omega (arith, c.count)) ∙ c.each i h)
          (subst (λ k. slice_get new k ≡ Some made) c.count (slice_get-push leases made) ∙ ap Some lease);
      next = ap (λ p. p +ₚ size) c.next ∙ moved origin (n * size) size ∙ ap (λ k. origin +ₚ k) (omega arith);
      sum = omega (arith, c.sum, room);
    }

pub IsCut-all : {origin : Ptr} {frames size : ℕ} {leases : List Leased} {following : Ptr} {left : ℕ}
    → IsCut origin frames size frames leases following left → AreFresh (extent_at origin frames size) leases
IsCut-all c = record { count = c.count; each = c.each }
