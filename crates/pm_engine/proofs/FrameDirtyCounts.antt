-- Frames are looked at, and those are counted that have a page which stays there.
use Rattle.std.proofs.Common.{◌≡◌, ℕ, ◌+◌, ◌≤◌, [], ◌∷◌, length, Bool, true, false, Option, Some, None, refl, sym, ◌∙◌, ap, subst, arith, length-append}
use Rattle.std.specs.Prelude.{if◌then◌else◌, slice_get}
use Rattle.std.proofs.lemmas.List.{length-map}
use Rattle.pm_types.specs.declared.page_id.PageId.{PageId}
use Rattle.pm_locks.specs.Sight.{Sight}
use Rattle.pm_locks.specs.Views.{known_at, out_at, entry_at}
use Rattle.pm_locks.specs.Words.{LockWord}
use Rattle.pm_locks.specs.declared.view.View.{View}
use Rattle.pm_stripe.specs.Sights.{AreSettled, IsSettledFrame}
use Rattle.pm_stripe.specs.Stripes.{kept, IsAtRest}
use Rattle.pm_stripe.specs.declared.stripe.Stripe.{Stripe}
use Rattle.pm_ckpt.specs.Dirty.{dirty_below, dirty_page, dirty_frames, is_dirty, page_in, placed}
use Rattle.pm_ckpt.specs.Frames.{IsWholeSeat}
use Rattle.pm_ckpt.proofs.Listed.{below_few, below_more}
use Rattle.pm_engine.specs.FrameBatches.{LooksOnce}
use Rattle.pm_engine.specs.FrameDirty.{dirty_names}
use Rattle.pm_engine.specs.FrameStores.{FrameStoreView, IsFrameStore, IsOpenStore}
use Rattle.pm_engine.proofs.FrameLooks.{looks_names}

-- ---- a store after a look

module _ (store : FrameStoreView) (is : IsFrameStore store) (view : View) (count : ℕ) where
  abbrev seat : Sight
  seat = record store.seat { view = record store.seat.view { words = view.words; met = view.met } }

  abbrev looked : FrameStoreView
  looked = record store { seat = seat; dirty = Some count }

  module _ (whole : IsWholeSeat store.locks seat) (words : (f : ℕ) → known_at seat.view f ≡ known_at store.seat.view f) where
    looked_settled : AreSettled store.locks store.seat.view → AreSettled store.locks seat.view
    looked_settled settled = record {
      knows = whole.knows;
      each = λ f frame. subst (λ (w : LockWord). IsSettledFrame seat.view.workers seat.view.numbers w (out_at seat.view.outs f) (λ n. entry_at seat.view.entries n f)) (sym (words f)) (settled.each f frame);
    }

    looked_rests : IsAtRest store.locks (kept store.stripe store.seat) → IsAtRest store.locks (kept store.stripe seat)
    looked_rests rests =
        let h = rests.holds in
        record {
          holds = record {
            shaped = h.shaped;
            frames = h.frames;
            many = h.many;
            worker = record { seat_of = whole.of; below = h.worker.below; few = h.worker.few; has = h.worker.has };
            kept = h.kept;
            stay = h.stay;
            held = h.held;
            free = h.free;
            apart = h.apart;
            held_room = h.held_room;
            free_room = h.free_room;
          };
          none_held = rests.none_held;
          none_free = rests.none_free;
        }

    looked_open : IsOpenStore store → IsOpenStore looked
    looked_open on = record {
      workers = on.workers;
      number = on.number;
      shaped = on.shaped;
      settled = looked_settled on.settled;
      rests = looked_rests on.rests;
      idle = on.idle;
      readable = on.readable;
    }

    looked_names : dirty_names looked ≡ dirty_names store
    looked_names = looks_names store looked (record { store = refl; looks = record { seat = refl; words = words } })

    looked_store : count ≡ length (dirty_names store) → IsFrameStore looked
    looked_store counts = record {
      seat = whole;
      outbox = is.outbox;
      counted = counts ∙ ap length (sym looked_names);
      open_is = λ opens. looked_open (is.open_is opens);
      frames = is.frames;
      size = is.size;
      ranges = is.ranges;
    }

pub looks_store : (store : FrameStoreView) → IsFrameStore store → (seat : Sight) → IsWholeSeat store.locks seat → LooksOnce store.seat seat → (count : ℕ) → count ≡ length (dirty_names store)
    → (new : FrameStoreView) → new ≡ record store { seat = seat; dirty = Some count } → IsFrameStore new
looks_store store is seat whole looks count counts new new_is =
    subst IsFrameStore (sym (new_is ∙ ap (λ (s : Sight). let it : FrameStoreView = record store { seat = s; dirty = Some count } in it) looks.seat))
    (looked_store store is seat.view count (subst (IsWholeSeat store.locks) looks.seat whole)
    (λ f. ap (λ (s : Sight). known_at s.view f) (sym looks.seat) ∙ looks.words f) counts)

-- ---- how many there are

pub counts_names : (store : FrameStoreView) (count : ℕ) → count ≡ length (dirty_below (store.stripe ∷ []) store.seat.view (length store.locks.ranges)) → count ≡ length (dirty_names store)
counts_names store count is = is ∙ sym (length-map (dirty_frames store.locks (store.stripe ∷ []) store.seat.view) (λ page. page.page))

pub count_more : (stripe : Stripe) (view : View) (f count more : ℕ) (word : LockWord) → count ≡ length (dirty_below (stripe ∷ []) view f) → word ≡ known_at view f
    → more ≡ length (dirty_page (stripe ∷ []) f word) → count + more ≡ length (dirty_below (stripe ∷ []) view (f + 1))
count_more stripe view f count more word is word_is one =
    omega (
      arith,
      is,
      ap length (below_more (stripe ∷ []) view f),
      length-append (dirty_below (stripe ∷ []) view f) (dirty_page (stripe ∷ []) f (known_at view f)),
      ap (λ (w : LockWord). length (dirty_page (stripe ∷ []) f w)) word_is,
      one,
    )

-- how many there are so far is no more than how many frames were passed
pub count_few : (stripe : Stripe) (view : View) (f count : ℕ) → count ≡ length (dirty_below (stripe ∷ []) view f) → count ≤ f
count_few stripe view f count is = omega (arith, is, below_few (stripe ∷ []) view f)

-- a frame in which the stripe keeps no page
pub none_in : (stripe : Stripe) (f : ℕ) (word : LockWord) → word.owner ≡ 0 → None ≡ page_in (Some stripe) f → 0 ≡ length (dirty_page (stripe ∷ []) f word)
none_in stripe f word owner none =
    let page : page_in (slice_get (stripe ∷ []) word.owner) f ≡ None = ap (λ n. page_in (slice_get (stripe ∷ []) n) f) owner ∙ sym none in
    sym (ap (λ (p : Option PageId). length (if is_dirty word.flag then placed p f word.tag else [])) page ∙ by (is_dirty word.flag))
  where
    by : (b : Bool) → length (if b then placed None f word.tag else []) ≡ 0
    by true = refl
    by false = refl
