-- What is left where all that was in hand was put back.
use Rattle.std.proofs.Common.{◌≡◌, ℕ, List, [], ◌++◌, Option, Some, None, ⊎_elim, refl, sym, ap, subst, ◌∙◌}
use Rattle.std.specs.Prelude.{slice_get, if◌then◌else◌}
use Rattle.std.specs.FinMap as fin
use Rattle.pm_types.specs.declared.page_id.PageId.{PageId}
use Rattle.pm_disk.specs.Moments.{History}
use Rattle.pm_disk.specs.States.{DeviceState}
use Rattle.pm_locks.specs.declared.view.Out.{Out}
use Rattle.pm_locks.specs.Sight.{Sight}
use Rattle.pm_locks.specs.Views.{out_at}
use Rattle.pm_stripe.specs.declared.bound.Bound.{Bound}
use Rattle.pm_stripe.specs.declared.held.Held.{Held}
use Rattle.pm_stripe.specs.declared.held.Free.{Free}
use Rattle.pm_stripe.specs.declared.places.Places.{Places}
use Rattle.pm_stripe.specs.declared.stripe.Stripe.{Stripe}
use Rattle.pm_stripe.specs.Bounds.{IsBound}
use Rattle.pm_stripe.specs.Ends.{EndsRound, first_or, next_sweep}
use Rattle.pm_stripe.specs.Frees.{FreesFrames}
use Rattle.pm_stripe.specs.Kept.{Kept, held_at, place_of, out_of, bytes_by, IsInHand, IsStaying, AreClean}
use Rattle.pm_stripe.specs.Puts.{unended_flag, IsPutAs, PutsHeld}
use Rattle.pm_stripe.specs.Reads.{stored}
use Rattle.pm_stripe.specs.Shown.{kept_by, file_by}
use Rattle.pm_stripe.specs.SightLaws.{sight_then}
use Rattle.pm_stripe.specs.ShownLaws.{any_file, clean_file, may_read}
use Rattle.pm_stripe.specs.Stripes.{kept, file_of, IsAtRest, MayReadOthers, SameButPages, SameButFrames}
use Rattle.pm_stripe.proofs.BoundCalls.{same_state}
use Rattle.pm_stripe.proofs.HeldPages.{unended_some}

-- the pages in hand were put back, and then the empty frames
module _ {Q R : Type 0} (tells : Type 0) (history : R → History) (state : R → DeviceState) (b : Bound Q R) (s₂ s₃ : Stripe) (seat₂ seat₃ : Sight) (bound : IsBound tells history state b)
    (puts : PutsHeld b.locks.now (kept_by b) (kept s₂ seat₂)) (same₂ : SameButPages b.stripe s₂)
    (next : ℕ) (next_is : next ≡ next_sweep s₂) (frees : FreesFrames b.locks.now (kept s₂ seat₂) (kept s₃ seat₃)) (no_frame : s₃.free.items ≡ []) (same₃ : SameButPages (record s₂ { next = next }) s₃) where
  abbrev k₃ : Kept
  k₃ = kept s₃ seat₃

  same : SameButFrames b.stripe s₃
  same = record {
    number = same₃.number ∙ same₂.number;
    shape = same₃.shape ∙ same₂.shape;
    files = same₃.files ∙ same₂.files;
    is_running = same₃.is_running ∙ same₂.is_running;
    outbox = same₃.outbox ∙ same₂.outbox;
  }

  same_files : (j : PageId) → file_of s₃ (history b.reader) j ≡ file_by history b j
  same_files j = λ i. if same.files i then stored (history b.reader).world (same.shape i).page_size j else None

  pub rest : IsAtRest b.locks.now k₃
  rest = record { holds = frees.holds; none_held = frees.held ∙ puts.none_held; none_free = no_frame }

  stays_in_frame : (id : PageId) → IsStaying (kept_by b) id → IsStaying k₃ id
  stays_in_frame id is = frees.staying id (puts.staying id is)

  pub reads : MayReadOthers b.locks.now.workers (state b.reader) k₃
  reads = may_read b.locks.now.workers (state b.reader) (state b.reader) (kept_by b) k₃ (same_state (state b.reader))
      (frees.shape ∙ puts.shape) (frees.number ∙ puts.number) stays_in_frame bound.reads

  pub clean : tells → AreClean (file_of s₃ (history b.reader)) k₃
  clean t =
      let file = file_by history b in
      clean_file file (file_of s₃ (history b.reader)) k₃ same_files (frees.clean file (puts.clean file (bound.clean t)))

  still : (f : ℕ) → out_at seat₃.view.outs f ≡ None
  still f = by_out (out_of k₃ f) refl
    where
      by_out : (o : Option Out) → out_of k₃ f ≡ o → out_of k₃ f ≡ None
      by_out None is = is
      by_out (Some out) is =
          let all : IsInHand [] [] f = subst (λ (p : List Held × List Free). IsInHand p.0 p.1 f) (λ i. (rest.none_held i, rest.none_free i)) (frees.holds.apart.all f out is) in
          absurd (⊎_elim (λ p. let at = p.2 in cc at) (λ p. let at = p.2 in cc at) all)

  put : (i : ℕ) (h : Held) → slice_get b.stripe.held.items i ≡ Some h → IsPutAs k₃ h (unended_flag h)
  put i h is =
      let d : IsPutAs (kept s₂ seat₂) h (unended_flag h) = puts.put i h is in
      let some = unended_some b.locks.now (kept_by b) h bound.holds (bound.holds.held i h is) in
      let place = d.kept some in record {
        entry = d.entry;
        at = frees.puts h.page h.frame h.tag place ∙ d.at;
        flag_is = d.flag_is;
        bytes_are = d.bytes_are;
        kept = λ _. ap (λ (p : Places). fin.get p.table.entries h.page.0) frees.places ∙ place;
        gone = λ e. absurd (some e);
      }

  all_free : b.stripe.free.items ≡ frees.rest
  all_free = sym puts.free ∙ frees.free ∙ ap (λ fs. fs ++ frees.rest) no_frame

  pub ends : EndsRound tells history b s₃ seat₃
  ends = record {
    same = same;
    next = same₃.next ∙ next_is ∙ (λ i. first_or (same₂.next i) (puts.free i));
    still = still;
    sight = sight_then b.locks.now b.seat.view seat₂.view seat₃.view puts.left.sight frees.sight;
    put = put;
    empty = λ i e is. frees.empty i e (sym (ap (λ fs. slice_get fs i) all_free) ∙ is);
    staying = stays_in_frame;
    only = λ id none. frees.known id ∙ puts.only id none;
    pages = λ id. ⊎_elim
        (λ t.
        let file = file_by history b in
        ap (bytes_by (held_at k₃.held id.0) (place_of k₃ id) k₃.seat.view.entries k₃.number) (same_files id)
        ∙ frees.pages file id ∙ puts.told file id (bound.clean t))
        (λ known.
        let file = file_by history b in
        any_file (file_of s₃ (history b.reader)) file k₃ id known
        ∙ frees.pages file id ∙ puts.at_hand file id (sym (frees.known id) ∙ known));
  }
