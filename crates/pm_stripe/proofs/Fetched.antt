-- A page is sought: in hand, then in the frame that keeps it, then in its file.
use Rattle.std.proofs.Common.{◌≡◌, ℕ, ◌<◌, ◌≤◌, Bool, true, false, List, [], ◌∷◌, ◌++◌, ◌⊎◌, ⊎_elim, inl, inr, length, Option, Some, None, Result, Ok, Err, sym, refl, ap, subst, ◌∙◌}
use Rattle.std.specs.Prelude.{IsSome}
use Rattle.pm_types.specs.declared.page_id.PageId.{PageId}
use Rattle.pm_types.specs.declared.shape.Shape.{Shape}
use Rattle.pm_types.specs.declared.fault.PageFault.{PageFault}
use Rattle.pm_types.specs.declared.limits.TheConstants.{OP_PAGES}
use Rattle.pm_disk.specs.States.{DeviceState, MayRead}
use Rattle.pm_locks.specs.Sight.{Sight, LockTable}
use Rattle.pm_stripe.specs.declared.held.Held.{Held}
use Rattle.pm_stripe.specs.declared.places.Places.{Places}
use Rattle.pm_stripe.specs.Reads.{FailsCheck}
use Rattle.pm_stripe.specs.Fetches.{KeepsBeside, ReadsFrame, Fetches, TakesHome}
use Rattle.pm_stripe.specs.Kept.{Kept, held_at, place_at, place_of, last_put, known_by, is_known, Holds, HasFrames, KeepsPages, IsAway, AddsPage, IsStaying, IsPageOf}
use Rattle.pm_stripe.specs.Stripes.{MayReadOthers}
use Rattle.pm_stripe.specs.HandLaws.{place_there, place_none}
use Rattle.pm_stripe.specs.SightLaws.{sight_refl, sight_same}
use Rattle.pm_stripe.proofs.Hands.{or_else, held_push, one_here}

pub some_held : (o : Option Held) (h : Held) → o ≡ Some h → IsSome o
some_held o h e = subst IsSome (sym e) refl

pub no_some : (o : Option Held) → o ≡ None → IsSome o → ⊥
no_some o none some = let q = subst IsSome none some in cc q

-- a page without a place is away
pub is_away : (k : Kept) (id : PageId) → length k.held ≤ place_at k.held id.0 → IsSome (held_at k.held id.0) ⊎ (length k.held < OP_PAGES) → IsAway k id
is_away k id le room = let none = place_none k.held id.0 le in record { away = none; room = ⊎_elim (λ some. absurd (no_some (held_at k.held id.0) none some)) (λ lt. lt) room }

-- and so it is where the same pages are in hand
pub still_away : (k k' : Kept) (id : PageId) → k'.held ≡ k.held → IsAway k id → IsAway k' id
still_away k k' id same away = record { away = ap (λ hs. held_at hs id.0) same ∙ away.away; room = subst (λ (hs : List Held). length hs < OP_PAGES) (sym same) away.room }

-- what was added is in hand
pub added_some : (k k' : Kept) (id : PageId) → IsAway k id → AddsPage k k' id → IsSome (held_at k'.held id.0)
added_some k k' id away adds =
    some_held (held_at k'.held id.0) adds.page
    (ap (λ hs. held_at hs id.0) adds.added ∙ held_push k.held adds.page id.0 ∙ ap (λ o. or_else o (held_at (adds.page ∷ []) id.0)) away.away ∙ one_here adds.page id.0 (ap (λ (p : PageId). p.0) adds.page_is))

-- a page that no frame keeps may be read
pub may_read_lost : (workers : ℕ) (state : DeviceState) (k k₁ : Kept) (id : PageId) → MayReadOthers workers state k → IsPageOf workers k.shape.partitions k.number id
    → ((j : PageId) → IsStaying k j → IsStaying k₁ j) → place_of k₁ id ≡ None → MayRead state id
may_read_lost workers state k k₁ id reads own staying none = record { usable = reads.usable; allowed = by_test (state.access.reads id) refl }
  where
    by_test : (b : Bool) → state.access.reads id ≡ b → state.access.reads id ≡ true
    by_test true e = e
    by_test false e =
        let x = staying id (reads.others id own e) in
        absurd (let bad : None ≡ Some (x.frame, x.tag) = sym none ∙ x.kept in cc bad)

-- all pages are as they were, also beside one that was sought in its file
beside : (k k' : Kept) (id : PageId) (tells : Type 0) (stored : Option (List ℕ)) → KeepsPages k k' → KeepsBeside k k' id tells stored
beside k k' id tells stored keeps = record { known = keeps.known; at_hand = keeps.at_hand; clean = λ t file e is. keeps.clean file is; told = λ t file j e is. keeps.told file j is }

then_beside : (k k₁ k₂ : Kept) (id : PageId) (tells : Type 0) (stored : Option (List ℕ)) → KeepsPages k k₁ → KeepsBeside k₁ k₂ id tells stored → KeepsBeside k k₂ id tells stored
then_beside k k₁ k₂ id tells stored a b = record {
  known = λ j is. b.known j (a.known j is);
  at_hand = λ file j is. b.at_hand file j (a.known j is) ∙ a.at_hand file j is;
  clean = λ t file e is. b.clean t file e (a.clean file is);
  told = λ t file j e is. b.told t file j e (a.clean file is) ∙ a.told file j is;
}

-- the page is in hand
pub had : (locks : LockTable) (k : Kept) (id : PageId) (tells : Type 0) (stored : Option (List ℕ)) → Holds locks k → HasFrames k → place_at k.held id.0 < length k.held → Fetches locks k k id tells stored (Ok true)
had locks k id tells stored holds frames lt = record {
  holds = holds;
  frames = frames;
  keeps = record { known = λ j is. is; at_hand = λ file j is. refl; clean = λ t file e is. is; told = λ t file j e is. refl };
  shape = refl;
  number = refl;
  staying = λ j is. is;
  back = λ j is. is;
  only = λ j ne. refl;
  bare = refl;
  sight = sight_refl locks k.seat.view;
  held = inl refl;
  found = λ _. (let x = place_there k.held id.0 lt in some_held (held_at k.held id.0) x.0 x.1);
  not_found = λ no. absurd (no refl);
  absent = λ e. absurd (cc e);
  bad = λ named e. absurd (cc e);
}

-- the page was taken from the frame that keeps it
pub at_home : (locks : LockTable) (k k' : Kept) (id : PageId) (tells : Type 0) (stored : Option (List ℕ)) → IsAway k id → TakesHome locks k k' id true → Fetches locks k k' id tells stored (Ok true)
at_home locks k k' id tells stored away home = let x = home.takes in let adds = x.added refl in record {
  holds = x.holds;
  frames = home.frames;
  keeps = beside k k' id tells stored x.keeps;
  shape = x.shape;
  number = x.number;
  staying = x.staying;
  back = x.back;
  only = x.only;
  bare = x.bare;
  sight = x.sight;
  held = inr (away, adds);
  found = λ _. added_some k k' id away adds;
  not_found = λ no. absurd (no refl);
  absent = λ e. absurd (cc e);
  bad = λ named e. absurd (cc e);
}

-- no frame keeps it, and there are no files
pub nowhere : (locks : LockTable) (k k' : Kept) (id : PageId) (tells : Type 0) (stored : Option (List ℕ)) → IsAway k id → TakesHome locks k k' id false → stored ≡ None → Fetches locks k k' id tells stored (Ok false)
nowhere locks k k' id tells stored away home none = let x = home.takes in let lost = x.lost refl in record {
  holds = x.holds;
  frames = home.frames;
  keeps = beside k k' id tells stored x.keeps;
  shape = x.shape;
  number = x.number;
  staying = x.staying;
  back = x.back;
  only = x.only;
  bare = x.bare;
  sight = x.sight;
  held = inl lost.0;
  found = λ e. absurd (cc e);
  not_found = λ _. (lost.0, away.away, lost.1);
  absent = λ _ _. none;
  bad = λ named e. absurd (cc e);
}

-- no frame keeps it, and it was sought in its file
module _ (locks locks' : LockTable) (k k₁ k₂ : Kept) (id : PageId) (tells : Type 0) (stored stored' : Option (List ℕ)) (result : Result Bool PageFault) (same_locks : locks' ≡ locks) (same_stored : stored' ≡ stored)
    (away : IsAway k id) (home : TakesHome locks k k₁ id false) (read : ReadsFrame locks' k₁ k₂ id tells stored' result) where
  reads : ReadsFrame locks k₁ k₂ id tells stored result
  reads = subst (λ (p : LockTable × Option (List ℕ)). ReadsFrame p.0 k₁ k₂ id tells p.1 result) (λ i. (same_locks i, same_stored i)) read

  lost : (k₁.held ≡ k.held) × (place_of k₁ id ≡ None)
  lost = home.takes.lost refl

  away₁ : IsAway k₁ id
  away₁ = still_away k k₁ id lost.0 away

  unknown : is_known k₁ id ≡ false
  unknown = λ i. known_by (away₁.away i) (lost.1 i) k₁.seat.view.entries k₁.number

  then_added : AddsPage k₁ k₂ id → AddsPage k k₂ id
  then_added x = record {
    page = x.page;
    added = x.added ∙ ap (λ hs. hs ++ x.page ∷ []) lost.0;
    page_is = x.page_is;
    unlent = x.unlent;
    bare = x.bare;
    reads = inr (⊎_elim
        (λ known. absurd (let q : false ≡ true = sym unknown ∙ known in cc q))
        (λ reads. reads) x.reads);
  }

  is_there : (result ≡ Ok true) ⊎ (result ≡ Ok true → ⊥) → (k₂.held ≡ k.held) ⊎ (IsAway k id × AddsPage k k₂ id)
  is_there = ⊎_elim (λ e. inr (away, then_added (reads.added e))) (λ no. inl (reads.not_added no ∙ lost.0))

  staying_by : k₂.places ≡ k₁.places → (j : PageId) → IsStaying k₁ j → IsStaying k₂ j
  staying_by same j x = record {
    frame = x.frame;
    tag = x.tag;
    entry = x.entry;
    kept = ap (λ (p : Places). place_of (record k₁ { places = p }) j) same ∙ x.kept;
    at = (λ i. last_put (record k₁ { seat = reads.seat i; number = reads.number i }) x.frame) ∙ x.at;
    stay = x.stay;
  }

  back_by : k₂.places ≡ k₁.places → (j : PageId) → IsStaying k₂ j → IsStaying k₁ j
  back_by same j x = record {
    frame = x.frame;
    tag = x.tag;
    entry = x.entry;
    kept = sym (ap (λ (p : Places). place_of (record k₁ { places = p }) j) same) ∙ x.kept;
    at = sym (λ i. last_put (record k₁ { seat = reads.seat i; number = reads.number i }) x.frame) ∙ x.at;
    stay = x.stay;
  }

  pub then_read : (result ≡ Ok true) ⊎ (result ≡ Ok true → ⊥) → Fetches locks k k₂ id tells stored result
  then_read decided = record {
    holds = reads.holds;
    frames = reads.frames;
    keeps = then_beside k k₁ k₂ id tells stored home.takes.keeps reads.keeps;
    shape = reads.shape ∙ home.takes.shape;
    number = reads.number ∙ home.takes.number;
    staying = λ j is. staying_by reads.places j (home.takes.staying j is);
    back = λ j is. home.takes.back j (back_by reads.places j is);
    only = λ j ne. reads.only j ne ∙ home.takes.only j ne;
    bare = reads.bare ∙ home.takes.bare;
    sight = sight_same locks k.seat.view k₁.seat.view k₂.seat.view (ap (λ (s : Sight). s.view) reads.seat) home.takes.sight;
    held = is_there decided;
    found = λ e. added_some k k₂ id away (then_added (reads.added e));
    not_found = λ no. (reads.not_added no ∙ lost.0, away.away, ap (λ (p : Places). place_of (record k₁ { places = p }) id) reads.places ∙ lost.1);
    absent = reads.absent;
    bad = λ named e. let x = reads.bad named e in (x.0, λ t. subst (λ (s : Shape). FailsCheck s id stored) home.takes.shape (x.1 t));
  }

-- whether a page was had
pub decided : (result : Result Bool PageFault) → (result ≡ Ok true) ⊎ (result ≡ Ok true → ⊥)
decided (Ok true) = inl refl
decided (Ok false) = inr (λ e. cc e)
decided (Err fault) = inr (λ e. cc e)
