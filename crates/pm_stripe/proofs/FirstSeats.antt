-- By the first seat no checkpoint has to write a frame.
use Rattle.std.proofs.Common.{◌≡◌, ℕ, zero, suc, ◌+◌, ◌<◌, List, [], ◌∷◌, length, Some, None, refl, sym, ap, subst, ◌∙◌, arith}
use Rattle.std.specs.Prelude.{◌%◌}
use Rattle.std.proofs.lemmas.List.{length-map}
use Rattle.std.proofs.Math.Nat.{mod-lt}
use Rattle.pm_types.specs.declared.flag.Flag.TheVariants as flag
use Rattle.pm_region.specs.Lease.{Leased}
use Rattle.pm_locks.specs.declared.view.Entry.{Entry}
use Rattle.pm_locks.specs.declared.view.View.{View}
use Rattle.pm_locks.specs.Opening.{first_word, first_words, first_entries, first_view}
use Rattle.pm_locks.specs.Steps.{entry_as}
use Rattle.pm_locks.specs.Views.{entry_at, word_at, word_or, known_at, all_numbers}
use Rattle.pm_locks.proofs.Facts.{entry_at-here, entry_at-other_frame, first_known}
use Rattle.pm_locks.proofs.Openings.{entry_is}
use Rattle.pm_stripe.specs.Rests.{FirstSeatsSettle}
use Rattle.pm_stripe.specs.Sights.{IsSettledIn, AreSettled}
use Rattle.pm_stripe.proofs.SettledFrames.{settled_as}

-- a frame's first entry is its owner's, and Empty
first_entry : (k : ℕ) (ys : List Leased) (g j : ℕ) → j < length ys → (e : Entry) × (entry_at (first_entries k g ys) ((g + j) % k) (g + j) ≡ Some e) × (e.tag ≡ 0) × (e.flag ≡ flag.Empty)
first_entry k [] g j lt = absurd (omega (arith, lt))
first_entry k (y ∷ ys) g zero lt =
    let d = entry_as g (first_word k g) y.bytes in
    let e : g ≡ g + 0 = omega arith in
    (d, subst (λ z. entry_at (first_entries k g (y ∷ ys)) (z % k) z ≡ Some d) e (entry_at-here (first_entries k (g + 1) ys) d), refl, refl)
first_entry k (y ∷ ys) g (suc j) lt =
    let x = first_entry k ys (g + 1) j (omega (arith, lt)) in
    let e : g + 1 + j ≡ g + suc j = omega arith in (
      x.0,
      entry_at-other_frame (first_entries k (g + 1) ys) (entry_as g (first_word k g) y.bytes) ((g + suc j) % k) (g + suc j) (λ q. omega (arith, q))
          ∙ subst (λ z. entry_at (first_entries k (g + 1) ys) (z % k) z ≡ Some x.0) e x.1,
      x.2,
      x.3,
    )

-- a frame's first word
word_first : (k : ℕ) (leases : List Leased) (f : ℕ) → f < length leases → word_at (first_words k 0 leases) f ≡ Some (first_word k f)
word_first k leases f lt =
    let e : 0 + f ≡ f = omega arith in
    subst (λ z. word_at (first_words k 0 leases) z ≡ Some (first_word k z)) e (first_known k 0 f leases lt)

first_frame : (k : ℕ) (leases : List Leased) (f : ℕ) → 0 < k → f < length leases → IsSettledIn (first_view k leases) f
first_frame k leases f some lt =
    let word = word_first k leases f lt in
    let e : 0 + f ≡ f = omega arith in
    let x = first_entry k leases 0 f lt in
    settled_as k (all_numbers k) (first_word k f) (known_at (first_view k leases) f) None None (λ n. entry_at (first_entries k 0 leases) n f) (λ n. entry_at (first_entries k 0 leases) n f) (sym (ap word_or word)) refl (λ n. refl)
    (record {
      worker = mod-lt f some;
      not_due = λ e. cc e;
      not_done = λ e. cc e;
      home = λ _. refl;
      out = λ o e. absurd (cc e);
      last = x.0;
      at = subst (λ z. entry_at (first_entries k 0 leases) (z % k) z ≡ Some x.0) e x.1;
      tag_is = x.2;
      flag_is = x.3;
      others = λ n e has ne at. absurd (ne (entry_is k leases 0 n f e at).1);
    })

pub first_settled : FirstSeatsSettle
first_settled locks seat leases shape number b =
    let some : 0 < locks.workers = omega (arith, b.below) in
    let many : length locks.ranges ≡ length leases = ap length (sym b.seat_of.ranges) ∙ length-map seat.view.leases (λ (y : Leased). y.range) ∙ ap (λ (v : View). length v.leases) b.first in
    let first : AreSettled locks (first_view locks.workers leases) = record {
      knows = record {
        whole = refl;
        each = λ f lt. let w = word_first locks.workers leases f (omega (arith, lt, many)) in w ∙ ap Some (sym (ap word_or w));
      };
      each = λ f lt. first_frame locks.workers leases f some (omega (arith, lt, many));
    } in
    subst (AreSettled locks) (sym b.first) first
