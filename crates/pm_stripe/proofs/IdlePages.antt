-- From one operation to the next the pages at hand read as what they say.
use Rattle.std.proofs.Common.{◌≡◌, ℕ, ◌%◌, ◌<◌, true, false, List, [], inr, Option, Some, None, refl, sym, ap, subst, ◌∙◌}
use Rattle.std.specs.Prelude.{IsTrue, IfSome, if◌then◌else◌}
use Rattle.std.specs.FinMap as fin
use Rattle.std.specs.Ordering.{nat_cmp}
use Rattle.pm_types.specs.declared.page_id.PageId.{PageId}
use Rattle.pm_types.specs.declared.shape.Shape.{Shape}
use Rattle.pm_types.specs.Ids.{page_id}
use Rattle.pm_disk.specs.Moments.{History}
use Rattle.pm_disk.specs.States.{DeviceState}
use Rattle.pm_pages.specs.PageLists.{ReadsAt}
use Rattle.pm_pages.specs.Paged.{AllReadable}
use Rattle.pm_stripe.specs.declared.bound.Bound.{Bound}
use Rattle.pm_stripe.specs.declared.held.Held.{Held}
use Rattle.pm_stripe.specs.Begins.{IsOwnPart, MakesReady}
use Rattle.pm_stripe.specs.Bounds.{IsBound, SameButSent}
use Rattle.pm_stripe.specs.Dones.{EndsOperation}
use Rattle.pm_stripe.specs.Ends.{EndsRound}
use Rattle.pm_stripe.specs.Idle.{IsIdle}
use Rattle.pm_stripe.specs.Kept.{held_at, place_of, bytes_by, known_by, page_bytes, is_known}
use Rattle.pm_stripe.specs.Reads.{stored}
use Rattle.pm_stripe.specs.Shown.{kept_by, file_by, shown, KeepsBound}
use Rattle.pm_stripe.specs.ShownLaws.{any_file}
use Rattle.pm_stripe.specs.Stripes.{file_of}

module _ {Q R : Type 0} (history : R → History) (state : R → DeviceState) (b c : Bound Q R) where
  -- nothing more is at hand, and what is has the same bytes
  readable_by : c.part ≡ b.part → ((id : PageId) → IsTrue (is_known (kept_by c) id) → IsTrue (is_known (kept_by b) id))
      → ((id : PageId) → IsTrue (is_known (kept_by c) id) → page_bytes (file_by history c) (kept_by c) id ≡ page_bytes (file_by history b) (kept_by b) id)
      → AllReadable (shown history state b) → AllReadable (shown history state c)
  readable_by part only pages r = record {
    each = λ i known.
        let id = page_id c.part i in
        let reads = subst (λ p. IsTrue (is_known (kept_by b) (page_id p i)) → IfSome (page_bytes (file_by history b) (kept_by b) (page_id p i)) (ReadsAt i)) (sym part) (r.each i) (only id known) in
        subst (λ (o : Option (List ℕ)). IfSome o (ReadsAt i)) (sym (pages id known)) reads;
  }

  known_by_hand : (id : PageId) (o : Option Held) → held_at b.stripe.held.items id.0 ≡ o → (o ≡ None → is_known (kept_by c) id ≡ is_known (kept_by b) id) → IsTrue (is_known (kept_by c) id) → IsTrue (is_known (kept_by b) id)
  known_by_hand id None is only known = sym (only refl) ∙ known
  known_by_hand id (Some h) is only known = ap (λ (o : Option Held). known_by o (place_of (kept_by b) id) b.seat.view.entries b.stripe.number) is

  pub own_same : c.part ≡ b.part → c.locks ≡ b.locks → c.stripe.shape ≡ b.stripe.shape → c.stripe.number ≡ b.stripe.number → IsOwnPart b b.part → IsOwnPart c c.part
  own_same part locks shape number own = record {
    there = subst (λ (p : ℕ × Shape). p.0 < p.1.partitions) (λ i. (sym part i, sym shape i)) own.there;
    own = subst (λ (p : ℕ × ℕ × ℕ). p.0 % p.1 ≡ p.2) (λ i. (sym part i, (sym locks i).now.workers, sym number i)) own.own;
  }

module _ {Q R : Type 0} (tells : Type 0) (history : R → History) (state : R → DeviceState) where
  pub readable_begun : (b c : Bound Q R) → MakesReady tells history state b c → AllReadable (shown history state b) → AllReadable (shown history state c)
  readable_begun b c x r =
      readable_by history state b c x.part
      (λ id known. known_by_hand history state b c id (held_at b.stripe.held.items id.0) refl (λ is. x.only id is) known)
      (λ id known. x.pages id (inr known)) r

  pub readable_ended : (b c : Bound Q R) → EndsOperation tells history state b c → AllReadable (shown history state b) → AllReadable (shown history state c)
  readable_ended b c x r =
      readable_by history state b c x.part
      (λ id known. known_by_hand history state b c id (held_at b.stripe.held.items id.0) refl (λ is. x.only id is) known)
      (λ id known. x.pages id (inr known)) r

  -- where the next operation lacked something
  pub lacking_idle : (b c : Bound Q R) → IsIdle tells history state b → MakesReady tells history state b c → IsIdle tells history state c
  lacking_idle b c idle x = record {
    bound = x.bound;
    none_held = x.none_held;
    part = own_same history state b c x.part x.locks x.same.shape x.same.number idle.part;
    readable = readable_begun b c x idle.readable;
  }

  -- where pages were made ready, code over any pages was run, and the operation ended
  pub ended_idle : (a b c d : Bound Q R) → IsIdle tells history state a → MakesReady tells history state a b → KeepsBound tells history state b c → AllReadable (shown history state c) → EndsOperation tells history state c d → IsIdle tells history state d
  ended_idle a b c d idle x keeps readable y = record {
    bound = y.bound;
    none_held = y.none_held;
    part = own_same history state a d (y.part ∙ keeps.part ∙ x.part) (y.locks ∙ keeps.locks ∙ x.locks) (y.same.shape ∙ keeps.same.shape ∙ x.same.shape) (y.same.number ∙ keeps.same.number ∙ x.same.number) idle.part;
    readable = readable_ended c d y readable;
  }

  -- where a part of the outbox was sent
  pub sent_idle : (b c : Bound Q R) → IsIdle tells history state b → SameButSent b c → IsBound tells history state c → IsIdle tells history state c
  sent_idle b c idle x bound = record {
    bound = bound;
    none_held = (λ i. (x.stripe.held i).items) ∙ idle.none_held;
    part = own_same history state b c x.part x.locks x.stripe.shape x.stripe.number idle.part;
    readable = readable_by history state b c x.part (λ id known. sym (same_known id) ∙ known) (λ id _. same_pages id) idle.readable;
  }
    where
      same_known : (id : PageId) → is_known (kept_by c) id ≡ is_known (kept_by b) id
      same_known id = λ i. known_by (held_at (x.stripe.held i).items id.0) (fin.get (x.stripe.places i).table.entries id.0) (x.seat i).view.entries (x.stripe.number i)

      same_pages : (id : PageId) → page_bytes (file_by history c) (kept_by c) id ≡ page_bytes (file_by history b) (kept_by b) id
      same_pages id = λ i. bytes_by (held_at (x.stripe.held i).items id.0) (fin.get (x.stripe.places i).table.entries id.0) (x.seat i).view.entries (x.stripe.number i)
          (if x.stripe.files i then stored (history (x.reader i)).world (x.stripe.shape i).page_size id else None)

  -- where a stripe without a page was bound
  pub new_idle : (c : Bound Q R) → IsBound tells history state c → c.stripe.places.table.entries ≡ fin.empty → c.stripe.held.items ≡ [] → IsOwnPart c c.part → IsIdle tells history state c
  new_idle c bound table none part = record {
    bound = bound;
    none_held = none;
    part = part;
    readable = record {
      each = λ i known.
          let id = page_id c.part i in
          let unknown : is_known (kept_by c) id ≡ false = (λ j. known_by (held_at (none j) id.0) (fin.get (table j) id.0) c.seat.view.entries c.stripe.number) ∙ ap (λ t. known_by None t c.seat.view.entries c.stripe.number) (fin.get-empty nat_cmp id.0) in
          absurd (let bad : false ≡ true = sym unknown ∙ known in cc bad);
    };
  }

  -- where a round ended in the middle of an operation, and the stripe was bound again
  pub rebound_idle : (b c : Bound Q R) → AllReadable (shown history state b) → EndsRound tells history b c.stripe c.seat → c.part ≡ b.part → IsBound tells history state c → c.stripe.held.items ≡ [] → IsOwnPart c c.part → IsIdle tells history state c
  rebound_idle b c readable x same bound none part = record {
    bound = bound;
    none_held = none;
    part = part;
    readable = readable_by history state b c same
        (λ id known. known_by_hand history state b c id (held_at b.stripe.held.items id.0) refl (λ is. x.only id is) known)
        (λ id known. any_file (file_by history c) (file_of c.stripe (history b.reader)) (kept_by c) id known ∙ x.pages id (inr known)) readable;
  }
