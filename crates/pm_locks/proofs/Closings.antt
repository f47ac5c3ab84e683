-- A seat that stands for all numbers, with nothing out, finds every lease at home.
use Rattle.std.proofs.Common.{◌≡◌, ℕ, suc, ◌<◌, List, [], ◌∷◌, length, map, get_or, sym, refl, ap, ◌∙◌, subst, inl, inr, ⊎_elim, Option, Some, arith}
use Rattle.std.specs.List.{slice_get}
use mathlib.Core.Option.{some, some-injective}
use mathlib.Core.Logic.{dite}
use native.Mathlib.Decide.{ℕ_discrete}
use lib.ListN.{get_elem?}
use Rattle.atomic_table.specs.Table.{Final, Seen}
use Rattle.pm_region.specs.Lease.{Range, Leased}
use Rattle.pm_locks.specs.declared.view.View.{View}
use Rattle.pm_locks.specs.Views.{IsWhole, IsStill}
use Rattle.pm_locks.specs.Rule.{IsLawful, frame_range, holder_of}
use Rattle.pm_locks.proofs.Numbering.{whole_has}
use Rattle.pm_locks.proofs.Sharing.{unheld}

-- the slot of a frame has its lease
pub record HasLease (ranges : List Range) (slots : List (Option Leased)) (f : ℕ) : Type 0 where
  pub lease : Leased
  pub at : get_elem? slots f ≡ some (Some lease)
  pub number : lease.number ≡ f
  pub range_is : lease.range ≡ frame_range ranges f

pub closes : (workers : ℕ) (ranges : List Range) (id : ℕ) (v : View) → IsWhole v → IsStill v → (words : List ℕ) (slots : List (Option Leased)) → Final (Seen (IsLawful workers ranges) id v) words slots
    → (f : ℕ) → f < length slots → HasLease ranges slots f
closes workers ranges id v whole still words slots fin f lt =
    let s = fin.0 in let r = fin.1.0 in let w = get_or s.words f 0 in
    let b : f < length s.words = subst (λ n. f < n) (sym fin.3 ∙ r.sized) lt in
    let fr = r.each_frame f b in let x = r.each_view id v fin.1.1 in
    dite (ℕ_discrete (holder_of w) 255)
    (λ home. record { lease = (r.frames f).lease; at = fin.4 f (Some (r.frames f).lease) (fr.here home).0; number = fr.number; range_is = fr.range_is })
    (λ out.
    let staff = x.staff 8 (whole_has v 8 whole (inr refl)) in let worker = fr.worker in
    absurd (unheld workers r.frames s.words r.seats id v x still f b (whole_has v (holder_of w) whole (⊎_elim (λ e. inl (omega arith)) (λ e. inr e) (fr.away out).1))))

some_slot : (y z : Leased) → Some y ≡ Some z → y ≡ z
some_slot y z e = cc e

-- a lease that was taken out of its slot is that slot's
pub same_slot : (ranges : List Range) (slots : List (Option Leased)) (f : ℕ) (y : Leased) → HasLease ranges slots f → get_elem? slots f ≡ some (Some y) → (y.number ≡ f) × (y.range ≡ frame_range ranges f)
same_slot ranges slots f y x at =
    let e : x.lease ≡ y = some_slot x.lease y (some-injective (Some x.lease) (Some y) (sym x.at ∙ at)) in (ap (λ (z : Leased). z.number) (sym e) ∙ x.number, ap (λ (z : Leased). z.range) (sym e) ∙ x.range_is)

-- leases that lie in these ranges have them
pub ranges_are : (leases : List Leased) (ranges : List Range) → length leases ≡ length ranges → ((f : ℕ) (y : Leased) → slice_get leases f ≡ Some y → y.range ≡ frame_range ranges f) → map (λ y. y.range) leases ≡ ranges
ranges_are [] [] e each = refl
ranges_are [] (p ∷ ps) e each = absurd (omega arith)
ranges_are (y ∷ ys) [] e each = absurd (omega arith)
ranges_are (y ∷ ys) (p ∷ ps) e each = let k : length ys ≡ length ps = omega arith in (λ i. each 0 y refl i ∷ ranges_are ys ps k (λ f z at. each (suc f) z at) i)
