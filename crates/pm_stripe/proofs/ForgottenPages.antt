-- No frame keeps a page any more.
use Rattle.std.proofs.Common.{◌≡◌, ℕ, ◌<◌, List, [], Option, Some, None, length, refl, sym, ap, ◌∙◌, arith}
use Rattle.std.specs.Prelude.{slice_get}
use Rattle.std.specs.FinMap as fin
use Rattle.std.specs.FinMap.{FinMap}
use Rattle.std.specs.Option.{option_map}
use Rattle.std.specs.Ordering.{nat_cmp}
use Rattle.std.proofs.lemmas.Option.{slice_get_within}
use Rattle.pm_types.specs.declared.page_id.PageId.{PageId}
use Rattle.pm_locks.specs.declared.view.Entry.{Entry}
use Rattle.pm_locks.specs.Sight.{LockTable}
use Rattle.pm_stripe.specs.declared.held.Held.{Held}
use Rattle.pm_stripe.specs.declared.places.Places.{Places}
use Rattle.pm_stripe.specs.Forgets.{AreSpare, ForgetsPages}
use Rattle.pm_stripe.specs.Kept.{Kept, held_at, place_of, bytes_by, IsStaying, Holds, AreClean}
use Rattle.pm_stripe.specs.PlacedPages.{AgreeOnPages, AreAllEmpty, KeepsNoPage}
use Rattle.pm_stripe.specs.Stripes.{IsAtRest}
use Rattle.pm_stripe.proofs.LostPages.{spare_goes, spare_clean}

pub all_empty : (pages : List (Option PageId)) (n : ℕ) → length pages ≡ n → ((f : ℕ) → f < n → slice_get pages f ≡ Some None) → AreAllEmpty pages
all_empty pages n long each f page is =
    let none = each f (omega (arith, slice_get_within pages f (Some page) is, long)) in
    let bad : Some None ≡ Some (Some page) = sym none ∙ is in cc bad

pub no_page : (table : FinMap nat_cmp (ℕ × ℕ)) (pages : List (Option PageId)) → AgreeOnPages table pages → AreAllEmpty pages → KeepsNoPage table
no_page table pages agree empty id = by_place (fin.get table id) refl
  where
    by_place : (o : Option (ℕ × ℕ)) → fin.get table id ≡ o → fin.get table id ≡ None
    by_place None is = is
    by_place (Some p) is = absurd (empty p.0 (record { 0 = id }) (agree.kept (record { 0 = id }) p.0 p.1 is))

module _ (k : Kept) (places' : Places) (spare : AreSpare k) (none : KeepsNoPage places'.table.entries) (empty : AreAllEmpty places'.pages.items) (count : length places'.pages.items ≡ length k.places.pages.items) where
  abbrev k' : Kept
  k' = record k { places = places' }

  none_at : {A : Type 0} (id : PageId) (f tag : ℕ) → place_of k' id ≡ Some (f, tag) → A
  none_at id f tag is = absurd (let bad : None ≡ Some (f, tag) = sym (none id.0) ∙ is in cc bad)

  none_in : {A B : Type 0} (xs : List B) (i : ℕ) (x : B) → xs ≡ [] → slice_get xs i ≡ Some x → A
  none_in xs i x nil is = absurd (let bad : None ≡ Some x = sym (ap (λ ys. slice_get ys i) nil) ∙ is in cc bad)

  not_staying : (id : PageId) → IsStaying k id → ⊥
  not_staying id is = spare_goes is.entry.flag (spare.each id is.frame is.tag is.entry is.kept is.at) is.stay

  rests : (locks : LockTable) → IsAtRest locks k → IsAtRest locks k'
  rests locks rest =
      let holds = rest.holds in record {
        holds = record {
          shaped = holds.shaped;
          frames = holds.frames;
          many = count ∙ holds.many;
          worker = holds.worker;
          kept = λ id f tag is. none_at id f tag is;
          stay = λ f e is stay. let x = holds.stay f e is stay in absurd (spare_goes e.flag (spare.each x.0 f e.tag e x.1 is) stay);
          held = λ i h is. none_in k.held i h rest.none_held is;
          free = λ i s is. none_in k.free i s rest.none_free is;
          apart = holds.apart;
          held_room = holds.held_room;
          free_room = holds.free_room;
        };
        none_held = rest.none_held;
        none_free = rest.none_free;
      }

  bytes_same : (locks : LockTable) (file : PageId → Option (List ℕ)) (id : PageId) → Holds locks k → AreClean file k → (o : Option Held) (t : Option (ℕ × ℕ)) → place_of k id ≡ t
      → bytes_by o (place_of k' id) k.seat.view.entries k.number (file id) ≡ bytes_by o t k.seat.view.entries k.number (file id)
  bytes_same locks file id holds clean (Some h) t is = refl
  bytes_same locks file id holds clean None None is = ap (λ t. bytes_by None t k.seat.view.entries k.number (file id)) (none id.0)
  bytes_same locks file id holds clean None (Some p) is =
      let x = holds.kept id p.0 p.1 is in
      ap (λ t. bytes_by None t k.seat.view.entries k.number (file id)) (none id.0)
      ∙ clean.kept id p.0 p.1 x.entry is x.at (spare_clean x.entry.flag (spare.each id p.0 p.1 x.entry is x.at) x.some)
      ∙ sym (ap (option_map (λ (e : Entry). e.bytes)) x.at)

  pub forgets : ForgetsPages k k'
  forgets = record {
    none = λ id. none id.0;
    rest = rests;
    reads = λ workers state reads. record { usable = reads.usable; others = λ id own away. absurd (not_staying id (reads.others id own away)) };
    clean = λ file nil. record { kept = λ id f tag e is. none_at id f tag is; read = λ i h is. none_in k.held i h nil is };
    pages = λ locks file id holds clean. bytes_same locks file id holds clean (held_at k.held id.0) (place_of k id) refl;
  }
