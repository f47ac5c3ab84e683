-- A look at the frames' words changes nothing that is known of an engine's pages.
use Rattle.std.proofs.Common.{inl, inr, ◌≡◌, ℕ, zero, suc, List, [], ◌∷◌, ◌++◌, length, Option, Bool, true, refl, sym, ◌∙◌, ap, subst}
use Rattle.std.specs.Prelude.{◌&&◌, ◌==◌, if◌then◌else◌}
use Rattle.std.proofs.lemmas.Bool.Decides.{eqb_tells}
use Rattle.pm_types.specs.declared.page_id.PageId.{PageId}
use Rattle.pm_types.specs.Ids.{page_id, part_of_id, index_of_id}
use Rattle.pm_disk.specs.Moments.{History, IsHistory}
use Rattle.pm_disk.proofs.Chain.{started}
use Rattle.pm_core.specs.PageSets.{has_index}
use Rattle.pm_locks.specs.Views.{known_at}
use Rattle.pm_locks.specs.Words.{LockWord}
use Rattle.pm_locks.specs.declared.view.View.{View}
use Rattle.pm_stripe.specs.declared.stripe.Stripe.{Stripe}
use Rattle.pm_ckpt.specs.Dirty.{dirty_below, dirty_page}
use Rattle.pm_ckpt.specs.Frames.{names_of}
use Rattle.pm_engine.specs.FrameBatches.{KeepsEngine, LooksAtFrames, LooksAtEngine}
use Rattle.pm_engine.specs.FrameDirty.{ListsDirty, dirty_names, dirty_bytes}
use Rattle.pm_engine.specs.Engines.{FrameRunning}
use Rattle.pm_engine.specs.FrameStores.{FrameStoreView, IsDirtyPage, HasCleanPages}

-- the same pages are Dirty by the same words
same_below : (stripes : List Stripe) (old new : View) → ((f : ℕ) → known_at new f ≡ known_at old f) → (n : ℕ) → dirty_below stripes new n ≡ dirty_below stripes old n
same_below stripes old new words zero = refl
same_below stripes old new words (suc f) =
    ap (λ xs. xs ++ dirty_page stripes f (known_at new f)) (same_below stripes old new words f)
    ∙ ap (λ (w : LockWord). dirty_below stripes old f ++ dirty_page stripes f w) (words f)

-- a store after a look, by what its seat met and what is remembered of it
abbrev looked_store : FrameStoreView → View → Option ℕ → FrameStoreView
looked_store store view dirty = record store { seat = record store.seat { view = record store.seat.view { words = view.words; met = view.met } }; dirty = dirty }

looked_is : (old new : FrameStoreView) → LooksAtFrames old new → new ≡ looked_store old new.seat.view new.dirty
looked_is old new looks = looks.store ∙ ap (λ s. let it : FrameStoreView = record old { seat = s; dirty = new.dirty } in it) looks.looks.seat

pub looks_names : (old new : FrameStoreView) → LooksAtFrames old new → dirty_names new ≡ dirty_names old
looks_names old new looks =
    ap dirty_names (looked_is old new looks)
    ∙ ap names_of (same_below (old.stripe ∷ []) old.seat.view (looked_store old new.seat.view new.dirty).seat.view
    (λ f. ap (λ (s : FrameStoreView). known_at s.seat.view f) (sym (looked_is old new looks)) ∙ looks.looks.words f) (length old.locks.ranges))

looked_keeps : (tells : Type 0) (h : History) (engine : FrameRunning) (view : View) (dirty : Option ℕ) → (tells → IsHistory h) → (tells → HasCleanPages engine.store h.world)
    → KeepsEngine tells h h engine (record engine { store = looked_store engine.store view dirty })
looked_keeps tells h engine view dirty sound clean = record {
  same = record { shape = refl; region = refl; locks = refl };
  log = refl;
  ckpt = refl;
  began = refl;
  order = refl;
  dirty = λ id. (
    λ d. record { frame = d.frame; tag = d.tag; entry = d.entry; kept = d.kept; at = d.at; stay = d.stay },
    λ d. record { frame = d.frame; tag = d.tag; entry = d.entry; kept = d.kept; at = d.at; stay = d.stay },
  );
  pages = λ t. refl;
  clean = λ t. record { kept = (clean t).kept; read = (clean t).read };
  world = λ t. record { world = refl; moments = started h (λ w. w ≡ h.world) (sound t) refl };
}

pub looks_keep : (tells : Type 0) (h : History) (before now : FrameRunning) → LooksAtEngine before now → (tells → IsHistory h) → (tells → HasCleanPages before.store h.world)
    → KeepsEngine tells h h before now
looks_keep tells h before now looks sound clean =
    subst (λ (e : FrameRunning). KeepsEngine tells h h before e)
    (sym (looks.engine ∙ ap (λ s. let it : FrameRunning = record before { store = s } in it) (looked_is before.store now.store looks.frames)))
    (looked_keeps tells h before now.store.seat.view now.store.dirty sound clean)

-- where no page stays there is none in a Dirty frame
pub none_dirty : (store : FrameStoreView) → ListsDirty store (dirty_names store) (dirty_bytes store) → ((id : PageId) → IsDirtyPage store id → ⊥) → dirty_names store ≡ []
none_dirty store lists none = by (dirty_names store) refl
  where
    self_is : (n : ℕ) → (n == n) ≡ true
    self_is n = elim (eqb_tells n n) [
      | inl it ↦ it.0
      | inr other ↦ absurd (other.1 refl)
    ]

    first_is : (n : PageId) (ns : List PageId) → has_index (part_of_id n) (index_of_id n) (n ∷ ns) ≡ true
    first_is n ns = ap {B = Bool} (λ (b : Bool). if b && index_of_id n == index_of_id n then true else has_index (part_of_id n) (index_of_id n) ns) (self_is (part_of_id n))
        ∙ ap {B = Bool} (λ (b : Bool). if b then true else has_index (part_of_id n) (index_of_id n) ns) (self_is (index_of_id n))

    by : (names : List PageId) → dirty_names store ≡ names → dirty_names store ≡ []
    by [] is = is
    by (n ∷ ns) is =
        let part = part_of_id n in
        let index = index_of_id n in
        let has : has_index part index (dirty_names store) ≡ true = ap (has_index part index) is ∙ first_is n ns in
        let it = lists.inside part index has in
        absurd (none (page_id part index) ((lists.names_are.each part index it.0 it.1).0 has))
