-- The way of a key: one step on, what is wrong on it, and that it stays after looks.
use Rattle.std.proofs.Common.{◌≡◌, ℕ, zero, suc, ◌+◌, List, refl, subst, inl, inr, ◌∙◌, sym, arith}
use Rattle.std.specs.Prelude.{Result, Err}
use Rattle.pm_types.specs.declared.page_id.PageId.{PageId}
use Rattle.pm_types.specs.declared.fault.PageFault.{PageFault}
use Rattle.pm_types.specs.declared.fault.PageFault.TheVariants.{BadPage}
use Rattle.pm_types.specs.Ids.{page_id}
use Rattle.pm_meta.specs.declared.slots.MetaSlot.TheVariants.{Pages}
use Rattle.pm_pages.specs.Paged.{Paged, IsBadPage, HasPageCause}
use Rattle.pm_pages.specs.Edits.{LooksAtPages, IsNumberIn}
use Rattle.pm_pages.proofs.EditedPages.{looks_at_none}
use Rattle.pm_pages.proofs.TakenPages.{bad_before}
use Rattle.pm_tree.specs.Places.{IsPlaceIn, IsPlace}
use Rattle.pm_tree.specs.declared.places.Place.{Place}
use Rattle.pm_tree.specs.declared.places.Place.TheVariants.{Below, Other}
use Rattle.pm_tree.proofs.Descents.{in_hand_looked}
use Rattle.pm_free.proofs.ChainCauses.{err_passed}
use Rattle.pm_part.specs.Ways.{IsWay, IsBadOnWay, LeadsToNoNode, HasWayCause}

pub place_looked : (T : Type 0) (a b : Paged) (m at : ℕ) (key : List ℕ) (place : Place) → LooksAtPages T a b m → IsPlaceIn a at key place → IsPlaceIn b at key place
place_looked T a b m at key place looks is = record {
  some = is.some;
  page = is.page;
  in_hand = in_hand_looked T a b m at is.page looks is.in_hand;
  size = is.size ∙ sym looks.same.page_size;
  is = is.is;
}

-- a way is there still after looks
pub way_looked : (T : Type 0) (a b : Paged) (m cache : ℕ) (key : List ℕ) (levels from at : ℕ) → LooksAtPages T a b m → IsWay a cache key levels from at → IsWay b cache key levels from at
way_looked T a b m cache key zero from at looks way = (way.0, record { meta = way.1.meta; in_hand = in_hand_looked T a b m 0 way.1.meta looks way.1.in_hand; is = way.1.is })
way_looked T a b m cache key (suc levels) from at looks way = (
  way.0,
  place_looked T a b m from key (Below way.0 at) looks way.1,
  way.2,
  way_looked T a b m cache key levels way.2 from looks way.3,
)

-- the child for the key is next
pub way_below : (p : Paged) (cache : ℕ) (key : List ℕ) (n from at child i : ℕ) → IsWay p cache key n from at → IsPlaceIn p at key (Below i child) → IsWay p cache key (n + 1) at child
way_below p cache key n from at child i way place =
    let e : suc n ≡ n + 1 = omega arith in
    subst (λ m. IsWay p cache key m at child) e (i, place, from, way)

-- a page on the way leads to no page of a tree
pub leads_to_none : (p : Paged) (cache : ℕ) (key : List ℕ) (levels from at count : ℕ) (id : PageId) → id ≡ page_id p.part from → IsWay p cache key levels from at → IsNumberIn p Pages count → IsPlace p count at key Other → LeadsToNoNode p cache key id
leads_to_none p cache key levels from at count id name way number look = record {
  levels = levels;
  from = from;
  at = at;
  name = name;
  way = way;
  wrong = elim look [
    | inl beside ↦ elim beside.where_at [ inl e ↦ inl e | inr le ↦ inr (inl (count, number, le)) ]
    | inr r ↦ inr (inr (record { page = r.1.page; in_hand = r.1.in_hand; kind = r.1.is }))
  ];
}

-- a page to which the way leads was bad, before which pages were looked at
pub bad_on_way : (T : Type 0) (a b d : Paged) (m n cache : ℕ) (key : List ℕ) (levels from at : ℕ) (id : PageId) → LooksAtPages T a b m → LooksAtPages T b d n → IsWay b cache key levels from at → IsBadPage T b at id → IsBadOnWay T a d cache key id
bad_on_way T a b d m n cache key levels from at id before looks way bad = record {
  at = at;
  on_way = inr (record { levels = levels; from = from; way = way_looked T b d n cache key levels from at looks way });
  bad = bad_before T a b m at id before bad;
}

pub bad_on_way_cause : {R : Type 0} (T : Type 0) (b d : Paged) (n cache : ℕ) (key : List ℕ) (levels from at : ℕ) (r : Result R PageFault) → LooksAtPages T b d n → IsWay b cache key levels from at → HasPageCause T b d.faults at r → HasWayCause T b d cache key r
bad_on_way_cause T b d n cache key levels from at r looks way cause = record {
  failed = cause.failed;
  bad = λ id e. inl (bad_on_way T b b d 0 n cache key levels from at id (looks_at_none T b) looks way (cause.bad id e));
}

-- the meta page was bad
pub bad_meta_cause : {R : Type 0} (T : Type 0) (b d : Paged) (cache : ℕ) (key : List ℕ) (r : Result R PageFault) → HasPageCause T b d.faults 0 r → HasWayCause T b d cache key r
bad_meta_cause T b d cache key r cause = record { failed = cause.failed; bad = λ id e. inl (record { at = 0; on_way = inl refl; bad = cause.bad id e }) }

-- pages were looked at before
pub way_cause_before : {R : Type 0} (T : Type 0) (a b d : Paged) (m cache : ℕ) (key : List ℕ) (r : Result R PageFault) → LooksAtPages T a b m → HasWayCause T b d cache key r → HasWayCause T a d cache key r
way_cause_before T a b d m cache key r looks cause = record {
  failed = λ e. omega (arith, cause.failed e, looks.same.faults);
  bad = λ id e. elim (cause.bad id e) [
    | inl bad ↦ inl (record { at = bad.at; on_way = bad.on_way; bad = bad_before T a b m bad.at id looks bad.bad })
    | inr more ↦ inr more
  ];
}

-- an error that is passed on
pub way_cause_passed : {R S : Type 0} (T : Type 0) (a b d : Paged) (m cache : ℕ) (key : List ℕ) (r : Result R PageFault) (s : Result S PageFault) (f e : PageFault) → r ≡ Err f → s ≡ Err e → e ≡ f → LooksAtPages T a b m → HasWayCause T b d cache key r → HasWayCause T a d cache key s
way_cause_passed T a b d m cache key r s f e is_r is_s same looks cause =
    let before = way_cause_before T a b d m cache key r looks cause in
    record {
      failed = λ h. before.failed (err_passed r s f e is_r is_s same _ h);
      bad = λ id h. before.bad id (err_passed r s f e is_r is_s same (BadPage id) h);
    }
