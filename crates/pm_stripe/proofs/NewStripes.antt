-- A new stripe is at rest under the seat with which the locks begin.
use Rattle.std.proofs.Common.{◌≡◌, ℕ, ◌+◌, ◌<◌, Bool, true, false, List, [], ◌∷◌, ◌⊎◌, ⊎_elim, inl, inr, Option, Some, None, cond, refl, sym, ap, subst, ◌∙◌, arith}
use Rattle.std.specs.Prelude.{slice_get, ◌==◌, ◌&&◌, nat_le}
use Rattle.std.specs.FinMap as fin
use Rattle.std.specs.Ordering.{nat_cmp}
use Rattle.std.proofs.lemmas.Bool.{lt-ltb, le-leb}
use Rattle.pm_types.specs.declared.flag.Flag.TheVariants as flag
use Rattle.pm_types.specs.declared.page_id.PageId.{PageId}
use Rattle.pm_types.specs.declared.shape.Shape.{Shape}
use Rattle.pm_types.specs.Shapes.{IsShape}
use Rattle.pm_region.specs.Lease.{Leased}
use Rattle.pm_locks.specs.declared.view.Entry.{Entry}
use Rattle.pm_locks.specs.declared.view.View.{View}
use Rattle.pm_locks.specs.Opening.{first_word, first_entries}
use Rattle.pm_locks.specs.Sight.{HasPageSize}
use Rattle.pm_locks.specs.Steps.{entry_as}
use Rattle.pm_locks.specs.Views.{entry_at, out_at, is_among, all_numbers}
use Rattle.pm_stripe.specs.Kept.{place_of, out_of, stays}
use Rattle.pm_stripe.specs.Rests.{NewStripesRest}
use Rattle.pm_stripe.specs.Stripes.{kept}

one_of : {X : Type 0} (b : Bool) (x y : X) (o : Option X) → cond b (Some x) o ≡ Some y → (x ≡ y) ⊎ (o ≡ Some y)
one_of true x y o is = inl (cc is)
one_of false x y o is = inr is

-- each frame is Empty at first
first_empty : (workers g n f : ℕ) (leases : List Leased) (e : Entry) → entry_at (first_entries workers g leases) n f ≡ Some e → e.flag ≡ flag.Empty
first_empty workers g n f [] e is = absurd (cc is)
first_empty workers g n f (y ∷ ys) e is =
    let x = entry_as g (first_word workers g) y.bytes in
    ⊎_elim
    (λ same. sym (ap (λ (z : Entry). z.flag) same))
    (λ rest. first_empty workers (g + 1) n f ys e rest)
    (one_of (x.number == n && x.frame == f) x e (entry_at (first_entries workers (g + 1) ys) n f) is)

among_all : (workers n : ℕ) → n < workers → is_among (all_numbers workers) n ≡ true
among_all workers n lt =
    let low : nat_le 0 n ≡ true = le-leb 0 n (omega arith) in
    simp (low, lt-ltb n workers lt) refl

nothing_in : {A B : Type 0} (xs : List B) (i : ℕ) (x : B) → xs ≡ [] → slice_get xs i ≡ Some x → A
nothing_in xs i x nil is = absurd (let bad : None ≡ Some x = sym (ap (λ ys. slice_get ys i) nil) ∙ is in cc bad)

pub new_rests : NewStripesRest
new_rests locks seat leases shape number files s b new =
    let none : (id : PageId) → place_of (kept s seat) id ≡ None = λ id. ap (λ m. fin.get m id.0) new.no_page ∙ fin.get-empty nat_cmp id.0 in
    let out : (f : ℕ) → out_of (kept s seat) f ≡ None = λ f. ap (λ (v : View). out_at v.outs f) b.first in
    record {
      holds = record {
        shaped = subst IsShape (sym new.shape_is) b.shaped;
        frames = subst (λ (z : Shape). HasPageSize locks z.page_size) (sym new.shape_is) b.sized;
        many = new.many;
        worker = record {
          seat_of = b.seat_of;
          below = subst (λ n. n < locks.workers) (sym new.number_is) b.below;
          few = b.few;
          has = ap (λ (v : View). is_among v.numbers s.number) b.first ∙ ap (is_among (all_numbers locks.workers)) new.number_is ∙ among_all locks.workers number b.below;
        };
        kept = λ id f tag is. absurd (let bad : None ≡ Some (f, tag) = sym (none id) ∙ is in cc bad);
        stay = λ f e is stay. absurd (
            let empty = first_empty locks.workers 0 s.number f leases e (sym (ap (λ (v : View). entry_at v.entries s.number f) b.first) ∙ is) in
            let bad : false ≡ true = sym (ap stays empty) ∙ stay in cc bad);
        held = λ i h is. nothing_in s.held.items i h new.none_held is;
        free = λ i f is. nothing_in s.free.items i f new.none_free is;
        apart = record {
          names = record { once = λ i j x y p. nothing_in s.held.items i x new.none_held p };
          held_once = record { once = λ i j x y p. nothing_in s.held.items i x new.none_held p };
          free_once = record { once = λ i j x y p. nothing_in s.free.items i x new.none_free p };
          both = λ i j h f p. nothing_in s.held.items i h new.none_held p;
          all = λ f o is. absurd (let bad : None ≡ Some o = sym (out f) ∙ is in cc bad);
        };
        held_room = new.held_room;
        free_room = new.free_room;
      };
      none_held = new.none_held;
      none_free = new.none_free;
    }
