-- The room that the records of the pages take that are still to be written.
use Rattle.std.proofs.Common.{◌≡◌, ℕ, zero, suc, ◌+◌, ◌≤◌, Bool, true, false, List, [], ◌∷◌, length, refl, sym, subst, arith}
use Rattle.std.specs.Prelude.{◌&&◌, nat_le, if◌then◌else◌, IsTrue, Some, slice_get}
use Rattle.std.proofs.lemmas.Bool.Decides.{nat_tests}
use Rattle.std.proofs.lemmas.List.Sums.{sum_by-cons}
use Rattle.pm_stripe.specs.declared.limits.TheConstants.{PAGE_EXTRA}
use Rattle.pm_stripe.specs.declared.held.Held.{Held}
use Rattle.pm_stripe.specs.ChangedPages.{is_changed}
use Rattle.pm_stripe.specs.Listings.{pages_room}

-- so many bytes, where this holds and the name is `low` or above
abbrev room_by : Bool → ℕ → ℕ → ℕ → ℕ
room_by changed low name len = if changed && nat_le low name then len else 0

-- the room of the pages that were changed and whose names are `low` or above
abbrev pub rooms_from : ℕ → List Held → ℕ
rooms_from low [] = 0
rooms_from low (h ∷ hs) =
    room_by (is_changed h.patch) low h.page.0 (length h.lease.bytes + PAGE_EXTRA) + rooms_from low hs

room_less : (changed : Bool) (low low' name len : ℕ) → low ≤ low' → room_by changed low' name len ≤ room_by changed low name len
room_less false low low' name len le = omega arith
room_less true low low' name len le = grind (arith, nat_tests)

room_gone : (changed : Bool) (name len : ℕ) → room_by changed (name + 1) name len ≡ 0
room_gone false name len = refl
room_gone true name len = grind (arith, nat_tests)

room_here : (changed : Bool) (low name len : ℕ) → IsTrue changed → low ≤ name → room_by changed low name len ≡ len
room_here false low name len is le = absurd (let e : false ≡ true = is in cc e)
room_here true low name len is le = grind (arith, nat_tests)

-- fewer pages take no more room
pub rooms_less : (low low' : ℕ) (held : List Held) → low ≤ low' → rooms_from low' held ≤ rooms_from low held
rooms_less low low' [] le = omega arith
rooms_less low low' (h ∷ hs) le =
    omega (arith, room_less (is_changed h.patch) low low' h.page.0 (length h.lease.bytes + PAGE_EXTRA) le, rooms_less low low' hs le)

-- without the one in this place, and those before it
pub rooms_after : (low i : ℕ) (held : List Held) (h : Held) → slice_get held i ≡ Some h → IsTrue (is_changed h.patch) → low ≤ h.page.0 → rooms_from (h.page.0 + 1) held + (length h.lease.bytes + PAGE_EXTRA) ≤ rooms_from low held
rooms_after low i [] h is changed le = absurd (cc is)
rooms_after low zero (g ∷ gs) h is changed le =
    let e : g ≡ h = cc is in
    let here : room_by (is_changed h.patch) low h.page.0 (length h.lease.bytes + PAGE_EXTRA) ≡ length h.lease.bytes + PAGE_EXTRA = room_here (is_changed h.patch) low h.page.0 (length h.lease.bytes + PAGE_EXTRA) changed le in
    let gone = room_gone (is_changed h.patch) h.page.0 (length h.lease.bytes + PAGE_EXTRA) in
    let P : Held → Type 0 = λ x. rooms_from (h.page.0 + 1) (x ∷ gs) + (length h.lease.bytes + PAGE_EXTRA) ≤ rooms_from low (x ∷ gs) in
    subst P (sym e) (omega (arith, here, gone, rooms_less low (h.page.0 + 1) gs (omega arith)))
rooms_after low (suc i) (g ∷ gs) h is changed le =
    omega (arith, room_less (is_changed g.patch) low (h.page.0 + 1) g.page.0 (length g.lease.bytes + PAGE_EXTRA) (omega arith), rooms_after low i gs h is changed le)

room_most : (changed : Bool) (name len : ℕ) → room_by changed 0 name len ≤ len
room_most false name len = omega arith
room_most true name len = grind (arith, nat_tests)

-- all of them
pub rooms_all : (held : List Held) → rooms_from 0 held ≤ pages_room held
rooms_all [] = omega arith
rooms_all (h ∷ hs) =
    omega (arith, room_most (is_changed h.patch) h.page.0 (length h.lease.bytes + PAGE_EXTRA), rooms_all hs, sum_by-cons (λ (g : Held). length g.lease.bytes + PAGE_EXTRA) h hs)
