-- All frames are looked at, one after the other, and the pages in those that are Dirty are listed.
use Rattle.std.proofs.Common.{◌≡◌, ℕ, zero, suc, ◌+◌, ◌≤◌, List, [], ◌++◌, length, Bool, true, false, Option, Some, None, refl, sym, ◌∙◌, ap, arith}
use Rattle.std.specs.Prelude.{if◌then◌else◌, slice_get, MatchOption}
use Rattle.std.specs.FinMap as map
use Rattle.std.specs.FinMap.{FinMap}
use Rattle.std.specs.Ordering.{nat_cmp}
use Rattle.std.specs.Option.{option_map, option_and_then}
use Rattle.std.proofs.lemmas.List.{length-append}
use mathlib.Core.Logic.{dite}
use native.Mathlib.Decide.{ℕ_discrete}
use Rattle.pm_types.specs.declared.page_id.PageId.{PageId}
use Rattle.pm_locks.specs.Sight.{LockTable, KnowsAll, IsFrameOf}
use Rattle.pm_locks.specs.Steps.{IsMet, meets}
use Rattle.pm_locks.specs.Views.{known_at}
use Rattle.pm_locks.specs.Words.{LockWord}
use Rattle.pm_locks.specs.declared.view.View.{View}
use Rattle.pm_locks.proofs.Callers.{known_here, known_else}
use Rattle.pm_stripe.specs.PlacedPages.{AgreeOnPages, KeepsNone}
use Rattle.pm_stripe.specs.declared.stripe.Stripe.{Stripe}
use Rattle.pm_ckpt.specs.Dirty.{is_dirty, placed, page_in, dirty_page, dirty_below, IsSameSight}

-- ---- a page in a frame

-- a table and the pages of frames name the same page
pub named_page : (table : FinMap nat_cmp (ℕ × ℕ)) (pages : List (Option PageId)) (f : ℕ) (found : Option (PageId × ℕ)) → AgreeOnPages table pages
    → MatchOption found (KeepsNone table f) (λ p. map.get table p.0.0 ≡ Some (f, p.1)) → option_map (λ p. p.0) found ≡ option_and_then (λ page. page) (slice_get pages f)
named_page table pages f (Some p) agree is = sym (ap (λ o. option_and_then (λ page. page) o) (agree.kept p.0 f p.1 is))
named_page table pages f None agree none = by (slice_get pages f) refl
  where
    at : (page : PageId) (place : Option (ℕ × ℕ)) → map.get table page.0 ≡ place → option_map (λ q. q.0) place ≡ Some f → ⊥
    at page None is same = absurd cc
    at page (Some place) is same =
        let e : place.0 ≡ f = cc in
        none page place.1 (is ∙ ap (λ n. Some (n, place.1)) e)

    by : (o : Option (Option PageId)) → slice_get pages f ≡ o → None ≡ option_and_then (λ (page : Option PageId). page) o
    by None is = refl
    by (Some None) is = refl
    by (Some (Some page)) is = absurd (at page (map.get table page.0) refl (agree.named page f is))

-- ---- how many there are

placed_few : (page : Option PageId) (f tag : ℕ) → length (placed page f tag) ≤ 1
placed_few None f tag = omega arith
placed_few (Some page) f tag = omega arith

with_few : (stripes : List Stripe) (f : ℕ) (word : LockWord) → length (dirty_page stripes f word) ≤ 1
with_few stripes f word = by (is_dirty word.flag)
  where
    by : (b : Bool) → length (if b then placed (page_in (slice_get stripes word.owner) f) f word.tag else []) ≤ 1
    by true = placed_few (page_in (slice_get stripes word.owner) f) f word.tag
    by false = omega arith

pub below_few : (stripes : List Stripe) (view : View) (f : ℕ) → length (dirty_below stripes view f) ≤ f
below_few stripes view zero = omega arith
below_few stripes view (suc f) =
    omega (arith, length-append (dirty_below stripes view f) (dirty_page stripes f (known_at view f)), below_few stripes view f, with_few stripes f (known_at view f))

pub below_more : (stripes : List Stripe) (view : View) (f : ℕ) → dirty_below stripes view (f + 1) ≡ dirty_below stripes view f ++ dirty_page stripes f (known_at view f)
below_more stripes view f = let e : f + 1 ≡ suc f = omega arith in ap (dirty_below stripes view) e

-- ---- a look

-- the view, but for its words and what it met
abbrev pub IsLooked : View → View → Type 0
IsLooked old new = new ≡ record old { words = new.words; met = new.met }

pub looked_once : (old mid new : View) (f : ℕ) (word : LockWord) → IsLooked old mid → new ≡ meets mid f word → IsLooked old new
looked_once old mid new f word before is =
    is ∙ ap (λ (v : View). meets v f word) before
    ∙ ap (λ (v : View). let u : View = record old { words = v.words; met = v.met } in u) (sym is)

-- the word that is met is the one that is known
pub met_known : (locks : LockTable) (v v' : View) (f : ℕ) (word : LockWord) → KnowsAll locks v → IsFrameOf locks f → IsMet v v' f word → word ≡ known_at v f
met_known locks v v' f word knows lt met = met.told.exact knows.whole (known_at v f) (knows.each f lt)

-- and so each is known as before
pub known_after : (locks : LockTable) (v v' : View) (f : ℕ) (word : LockWord) → KnowsAll locks v → IsFrameOf locks f → IsMet v v' f word → (g : ℕ) → known_at v' g ≡ known_at v g
known_after locks v v' f word knows lt met g =
    let words = ap (λ (u : View). u.words) met.view in
    dite (ℕ_discrete g f)
    (λ e. ap (known_at v') e ∙ known_here v' f word v.words words ∙ met_known locks v v' f word knows lt met ∙ ap (known_at v) (sym e))
    (λ ne. known_else v v' f word words g ne)

-- what is known of frames is the same
pub same_sight : (old new : View) → IsLooked old new → ((f : ℕ) → known_at new f ≡ known_at old f) → IsSameSight old new
same_sight old new looked words = record { words = words; entries = ap (λ (v : View). v.entries) looked }
