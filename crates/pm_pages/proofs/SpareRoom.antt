-- How many pages can be taken still after a change.
use Rattle.std.proofs.Common.{◌≡◌, ℕ, ◌+◌, ◌^◌, ◌<◌, ◌≤◌, ◌⊎◌, List, [], length, sym, ap, ◌∙◌, inl, inr, arith}
use Rattle.std.specs.Prelude.{Some, IsTrue, Result, IsErrOf}
use Rattle.pm_types.specs.declared.page_id.PageId.{PageId}
use Rattle.pm_types.specs.declared.fault.PageFault.{PageFault}
use Rattle.pm_types.specs.declared.fault.PageFault.TheVariants.{BadPage}
use Rattle.pm_meta.specs.declared.layout.TheConstants.{REUSE_KIND}
use Rattle.pm_pages.specs.Rows.{Partition, bytes_of, number_in, page_at, page_count, kind_of}
use Rattle.pm_pages.specs.Chains.{reuse_chain}
use Rattle.pm_pages.specs.Paged.{Paged, IsThere}
use Rattle.pm_pages.specs.Edits.{LooksAtPages, EditsPages}
use Rattle.pm_pages.specs.SparePages.{NamesNoSpare, HasTakeCause}
use Rattle.pm_pages.proofs.EditedPages.{edits_looked}
use Rattle.pm_meta.specs.MetaPages.{field_of}
use Rattle.pm_meta.specs.declared.slots.MetaSlot.TheVariants.{Reuse, Pages}
use Rattle.pm_pages.specs.SoundPages.{NoBadPage, CanTake, MayTake}
use Rattle.pm_pages.specs.SpareChains.{MovesSpare}
use Rattle.pm_pages.proofs.SpareSteps.{number_by, moves_look}
use Rattle.pm_pages.proofs.SoundPages.{sound_grown, sound_not_bad, sound_no_gap_upto}
use Rattle.pm_pages.proofs.ChainWalks.{stands}
use Rattle.pm_pages.proofs.PassingPages.{first_stands, no_chain}
use Rattle.pm_pages.proofs.PageReads.{page_at-below}
use Rattle.pm_pages.proofs.ToldPages.{pages_told}

pub can_take_less : (limit : ℕ) (p : Paged) (n m : ℕ) → m ≤ n → CanTake limit p n → CanTake limit p m
can_take_less limit p n m le can = record { sound = can.sound; spare = can.spare; some = can.some; room = omega (arith, can.room, le) }

-- pages that were changed are at hand, and at most so many were taken
pub can_take_after : (T : Type 0) (a c : Paged) (touched : ℕ → Type 0) (m n : ℕ) (made : List ℕ) → T → EditsPages T a c touched m → ((j : ℕ) → touched j → IsTrue (c.known j) × IsThere c j) → ((j : ℕ) → j < page_count c.pages → (j < page_count a.pages) ⊎ touched j)
    → MovesSpare a.pages c.pages made [] → length made ≤ n → (limit left : ℕ) → CanTake limit a (n + left) → CanTake limit c left
can_take_after T a c touched m n made t edits held added moves few limit left can = record {
  sound = sound_grown T a c touched m t edits held added can.sound;
  spare = moves.sound can.spare;
  some = omega (arith, can.some, moves.count);
  room = omega (arith, can.room, moves.room can.spare, few);
}

pub can_take_looked : (T : Type 0) (a b : Paged) (m : ℕ) → T → LooksAtPages T a b m → (limit left : ℕ) → CanTake limit a left → CanTake limit b left
can_take_looked T a b m t looks limit left can =
    can_take_after T a b (λ j. ⊥) m 0 [] t (edits_looked T a b (λ j. ⊥) m looks) (λ j h. absurd h) (λ j lt. inl (omega (arith, lt, ap (λ (q : Partition). page_count q) (pages_told T a b m t looks)))) (moves_look T a b m t looks) (omega arith) limit left (can_take_less limit a left (0 + left) (omega arith) can)

pub may_take_looked : (T : Type 0) (a b : Paged) (m : ℕ) → LooksAtPages T a b m → MayTake T a → MayTake T b
may_take_looked T a b m looks may = record { told = may.told; limit = may.limit; small = may.small; take = can_take_looked T a b m may.told looks may.limit 1 may.take }

-- the meta page names a page that can be taken
names_spare : (T : Type 0) (a b : Paged) (m : ℕ) (id : PageId) → MayTake T a → LooksAtPages T a b m → NamesNoSpare b id → ⊥
names_spare T a b m id may looks names =
    let meta : a.pages 0 ≡ Some names.meta = sym (looks.pages 0 (inl may.told)) ∙ names.in_hand.page in
    let count = number_by a.pages Pages names.meta meta in
    let head = number_by a.pages Reuse names.meta meta in
    let can = may.take in
    elim names.wrong [
      | inl none ↦ (let empty = no_chain a.pages (head ∙ none.none) in elim none.count [ inl zero ↦ omega (arith, can.some, count, zero) | inr most ↦ omega (arith, can.room, empty, may.small, count, most) ])
      | inr w ↦
          let there = first_stands a.pages can.some (omega (arith, head, w.some)) in
          let below = stands (λ i. i < page_count a.pages) (reuse_chain a.pages) can.spare.below (number_in a.pages Reuse) there in
          elim w.wrong [
            | inl past ↦ omega (arith, past, below, count, head)
            | inr other ↦
                let kind = stands (λ i. kind_of (page_at a.pages i) ≡ REUSE_KIND) (reuse_chain a.pages) can.spare.kind (number_in a.pages Reuse) there in
                let page : a.pages (number_in a.pages Reuse) ≡ Some other.page = ap a.pages head ∙ sym (looks.pages (field_of names.meta Reuse) (inl may.told)) ∙ other.in_hand.page in
                other.kind (ap kind_of (sym (page_at-below a.pages (number_in a.pages Reuse) below ∙ ap bytes_of page)) ∙ kind)
          ]
    ]

-- where a page can be taken none is bad
pub take_not_bad : {R : Type 0} (T : Type 0) (a b : Paged) (m : ℕ) (r : Result R PageFault) → MayTake T a → ((id : PageId) → IsErrOf r (BadPage id) → LooksAtPages T a b m) → HasTakeCause T a b r → NoBadPage r
take_not_bad T a b m r may unchanged cause id e = elim (cause.bad id e) [
  | inl names ↦ names_spare T a b m id may (unchanged id e) names
  | inr r2 ↦ elim r2 [
    | inl bad ↦ sound_not_bad T a bad.index id may.told may.take.sound (omega (arith, bad.is_first.below, number_by a.pages Pages bad.is_first.meta bad.is_first.in_hand.page)) bad.bad
    | inr gap ↦ sound_no_gap_upto T a gap.index id may.told may.take.sound
        (elim gap.is_next [
          | inl first ↦ omega (arith, first.below, number_by a.pages Pages first.meta first.in_hand.page)
          | inr last ↦ omega (arith, last.count, number_by a.pages Pages last.meta last.in_hand.page)
        ]) gap.gap
  ]
]

-- one of the pages that can be taken
pub may_take : (T : Type 0) (p : Paged) (limit n : ℕ) → T → limit < 2 ^ 32 → 1 ≤ n → CanTake limit p n → MayTake T p
may_take T p limit n t small some can = record { told = t; limit = limit; small = small; take = can_take_less limit p n 1 some can }
