-- The pages that were gathered, in the order in which they are written, and the room for them.
use Rattle.std.proofs.Common.{◌≡◌, ℕ, zero, suc, ◌<◌, ◌≤◌, Bool, true, false, List, [], ◌∷◌, length, get_or, Option, Some, None, refl, sym, ◌∙◌, ap, subst, arith}
use Rattle.std.specs.Prelude.{◌==◌, if◌then◌else◌, All}
use Rattle.std.specs.List.Sorted.{IsPermutation, IsNonDecreasingBy}
use Rattle.std.proofs.lemmas.List.{length-map, get_or-map}
use Rattle.std.proofs.lemmas.List.Elements.{All-head, All-tail}
use Rattle.std.proofs.lemmas.List.Sorted.{All-permutation, IsPermutation-map, IsNonDecreasingBy-from_default}
use Rattle.std.proofs.lemmas.Option.{same_Some}
use Rattle.pm_types.specs.declared.page_id.PageId.{PageId}
use Rattle.pm_types.specs.declared.shape.Shape.{Shape}
use Rattle.pm_types.specs.Ids.{part_of_id}
use Rattle.pm_locks.specs.Sight.{Sight, LockTable}
use Rattle.pm_core.specs.PageSets.{PageList, has_part}
use Rattle.pm_stripe.specs.declared.stripe.Stripe.{Stripe}
use Rattle.pm_ckpt.specs.declared.frame_page.FramePage.{FramePage}
use Rattle.pm_ckpt.specs.Dirty.{AreResting, HaveFrames}
use Rattle.pm_ckpt.specs.Frames.{names_of}
use Rattle.pm_ckpt.specs.Marked.{HaveRoom, room_of}
use Rattle.pm_ckpt.specs.Writes.{IsOrderOf}
use Rattle.pm_ckpt.proofs.Stored.{none_first}

-- where there is room for as many pages as there are frames, the lists have it
pub rooms : (o : Option (Option PageList)) (frames pages order n : ℕ) → HaveRoom o frames pages order → room_of o ≡ Some n → (frames ≡ n) × (frames ≤ pages) × (frames ≤ order)
rooms None frames pages order n have is = absurd cc
rooms (Some None) frames pages order n have is = absurd cc
rooms (Some (Some set)) frames pages order n have is = (sym have.1 ∙ same_Some _ _ is, have.2, have.3)

-- each stripe is over all frames
pub have_frames : (locks : LockTable) (shape : Shape) (seat : Sight) (stripes : List Stripe) (frames : ℕ) → frames ≡ length locks.ranges → AreResting locks shape seat stripes → HaveFrames frames stripes
have_frames locks shape seat stripes frames is resting n stripe at = omega (arith, is, (resting.each n stripe at).rests.holds.many)

-- the names rise as the pages do
names_rise : (pages : List FramePage) → IsNonDecreasingBy (λ (p : FramePage). p.page.0) pages → IsNonDecreasingBy (λ (p : PageId). p.0) (names_of pages)
names_rise pages rising =
    let none : FramePage = record { page = record { 0 = 0 }; frame = 0; tag = 0 } in
    let name = λ (p : FramePage). p.page in
    IsNonDecreasingBy-from_default (λ (p : PageId). p.0) (names_of pages) none.page
    (λ i j le lt.
    let low : j < length pages = omega (arith, lt, length-map pages name) in
    let at_i = ap (λ (p : PageId). p.0) (get_or-map name pages i none none.page (omega (arith, le, low))) in
    let at_j = ap (λ (p : PageId). p.0) (get_or-map name pages j none none.page low) in
    omega (arith, at_i, at_j, rising i j none le low))

pub order_of : (frames pages : List FramePage) (order : List PageId) → IsPermutation frames pages → order ≡ names_of pages → IsNonDecreasingBy (λ (p : FramePage). p.page.0) pages → IsOrderOf (names_of frames) order
order_of frames pages order same is rising =
    subst (IsOrderOf (names_of frames)) (sym is) (record { same = IsPermutation-map (λ (p : FramePage). p.page) frames pages same; rising = names_rise pages rising })

-- ---- the order doesn't matter

abbrev IsOther : ℕ → FramePage → Type 0
IsOther part x = (part_of_id x.page == part) ≡ false

each_other : (part : ℕ) (xs : List FramePage) → has_part part (names_of xs) ≡ false → All (IsOther part) xs
each_other part [] none k d lt = absurd (omega (arith, lt))
each_other part (x ∷ xs) none zero d lt = (none_first part x.page (names_of xs) none).0
each_other part (x ∷ xs) none (suc k) d lt = each_other part xs (none_first part x.page (names_of xs) none).1 k d (omega (arith, lt))

none_among : (part : ℕ) (xs : List FramePage) → All (IsOther part) xs → has_part part (names_of xs) ≡ false
none_among part [] all = refl
none_among part (x ∷ xs) all =
    ap (λ (b : Bool). if b then true else has_part part (names_of xs)) (All-head (IsOther part) x xs all) ∙ none_among part xs (All-tail (IsOther part) x xs all)

-- where none of these pages is of a partition, none is in another order
pub none_in_order : (part : ℕ) (frames pages : List FramePage) → IsPermutation frames pages → has_part part (names_of frames) ≡ false → has_part part (names_of pages) ≡ false
none_in_order part frames pages same none = none_among part pages (All-permutation (IsOther part) frames pages same (each_other part frames none))
