-- A gap wanders down a row of slots, until no entry is sought across it.
use Rattle.std.proofs.Common.{◌≡◌, ◌≢◌, ℕ, ◌+◌, ◌<◌, ◌≤◌, ◌⊎◌, inl, inr, ⊎_elim, List, length, set, Option, Some, None, refl, sym, ap, ◌∙◌, subst, arith, length-set}
use Rattle.std.proofs.lemmas.Bool.{cases_eq, cases_order}
use Rattle.std.proofs.lemmas.List.Sums.{sum_by-set}
use Rattle.std.specs.Option.{IsSome}
use Rattle.pm_ptable.specs.declared.slots.Entry.{Entry}
use Rattle.pm_ptable.specs.Slots.{slot_at, home_of, filled, count_in, map_of, IsReachableBut, IsSettledBut, IsSettled, IsSingle}
use Rattle.pm_ptable.proofs.Lookups.{set_here, set_there, after_set, IsSingle-set, no_other, AllIn, map_of-moved}
use Rattle.pm_ptable.proofs.Probes.{not_filled}

-- the gap is empty, and no entry between it and the next slot to look at is sought across it
pub record IsClosing (homes : ℕ) (slots : List (Option Entry)) (gap at : ℕ) : Type 0 where
  pub within : gap < length slots
  pub before : gap < at
  pub empty : slot_at slots gap ≡ None
  pub settled : IsSettledBut homes slots gap
  pub beyond : (i : ℕ) (e : Entry) → gap < i → i < at → slot_at slots i ≡ Some e → gap < home_of homes e.page
  pub single : IsSingle slots

pub IsClosing-none : (homes : ℕ) (slots : List (Option Entry)) (gap : ℕ) → gap < length slots → slot_at slots gap ≡ None → IsSettledBut homes slots gap → IsSingle slots
    → IsClosing homes slots gap (gap + 1)
IsClosing-none homes slots gap within empty settled single =
    record { within = within; before = omega arith; empty = empty; settled = settled; beyond = λ i e h k at. absurd (omega arith); single = single }

-- once an empty slot comes, or the end, all entries are settled
pub IsClosing-all : (homes : ℕ) (slots : List (Option Entry)) (gap at : ℕ) → IsClosing homes slots gap at → slot_at slots at ≡ None → IsSettled homes slots
IsClosing-all homes slots gap at c none i e there =
    let but = c.settled i e there in record {
      after = but.after;
      full = λ j h k. ⊎_elim
          (λ (is : j ≡ gap). absurd (⊎_elim
          (λ (w : i ≡ at). not_filled none (subst (λ n. IsSome (slot_at slots n)) w (subst IsSome (sym there) refl)))
          (λ (w : (i < at) ⊎ (at < i)). ⊎_elim
          (λ (x : i < at). let far = c.beyond i e (omega arith) x there in omega arith)
          (λ (x : at < i). not_filled none (but.full at (omega (arith, c.before)) x (λ s. omega (arith, c.before)))) w)
          (cases_order i at)))
          (λ (is : j ≢ gap). but.full j h k is)
          (cases_eq j gap);
    }

-- an entry whose home is after the gap stays
pub IsClosing-stays : (homes : ℕ) (slots : List (Option Entry)) (gap at : ℕ) (f : Entry) → IsClosing homes slots gap at → slot_at slots at ≡ Some f → gap < home_of homes f.page
    → IsClosing homes slots gap (at + 1)
IsClosing-stays homes slots gap at f c here far = record {
  within = c.within;
  before = omega (arith, c.before);
  empty = c.empty;
  settled = c.settled;
  beyond = λ i e h k there. ⊎_elim
      (λ (w : i ≡ at). subst (λ (x : Entry). gap < home_of homes x.page) {x = f} {y = e} (let both : Some f ≡ Some e = sym here ∙ ap (slot_at slots) (sym w) ∙ there in cc) far)
      (λ (w : i ≢ at). c.beyond i e h (omega arith) there)
      (cases_eq i at);
  single = c.single;
}

-- any other entry moves into the gap, and leaves one
module _ (homes : ℕ) (slots : List (Option Entry)) (gap at : ℕ) (f : Entry) (c : IsClosing homes slots gap at) (h : at < length slots) (here : slot_at slots at ≡ Some f)
    (near : home_of homes f.page ≤ gap) where
  abbrev left : List (Option Entry)
  left = set slots at None

  abbrev moved : List (Option Entry)
  moved = set left gap (Some f)

  in_left : gap < length left
  in_left = omega (arith, length-set slots at None, c.within)

  apart : gap ≢ at
  apart e = omega (arith, c.before)

  -- what is there afterwards
  moved_there : (j : ℕ) → j ≢ gap → j ≢ at → slot_at moved j ≡ slot_at slots j
  moved_there j p q = set_there left gap j (Some f) p ∙ set_there slots at j None q

  moved_here : slot_at moved gap ≡ Some f
  moved_here = set_here left gap gap (Some f) in_left refl

  emptied : slot_at moved at ≡ None
  emptied = set_there left gap at (Some f) (λ e. apart (sym e)) ∙ set_here slots at at None h refl

  -- where an entry was before
  came_from : (i : ℕ) (e : Entry) → slot_at moved i ≡ Some e → ((i ≡ gap) × (f ≡ e)) ⊎ ((i ≢ gap) × (i ≢ at) × (slot_at slots i ≡ Some e))
  came_from i e there =
      ⊎_elim
      (λ (w : (i ≡ gap) × (Some f ≡ Some e)). inl (w.0, let both = w.1 in cc))
      (λ (w : (i ≢ gap) × (slot_at left i ≡ Some e)). ⊎_elim
      (λ (x : (i ≡ at) × (None ≡ Some e)). absurd (let clash = x.1 in cc))
      (λ (x : (i ≢ at) × (slot_at slots i ≡ Some e)). inr (w.0, x.0, x.1))
      (after_set slots at i None e h w.1))
      (after_set left gap i (Some f) e in_left there)

  single_left : IsSingle left
  single_left = IsSingle-set slots at None h c.single (λ e is. absurd (cc))

  single_moved : IsSingle moved
  single_moved = IsSingle-set left gap (Some f) in_left single_left (λ e is j g away there. ⊎_elim
      (λ (x : (j ≡ at) × (None ≡ Some g)). absurd (let clash = x.1 in cc))
      (λ (x : (j ≢ at) × (slot_at slots j ≡ Some g)). λ same. no_other slots at f c.single here j g x.0 x.1 (same ∙ ap (λ (y : Entry). y.page.0) (let both : e ≡ f = cc in both)))
      (after_set slots at j None g h there))

  -- a slot that was filled still is, but for the new gap
  still_filled : (j : ℕ) → j ≢ gap → j ≢ at → IsSome (slot_at slots j) → IsSome (slot_at moved j)
  still_filled j p q = subst IsSome (sym (moved_there j p q))

  settled_moved : IsSettledBut homes moved at
  settled_moved i e there =
      ⊎_elim
      (λ (w : (i ≡ gap) × (f ≡ e)).
      let but = c.settled at f here in
      let at_gap : IsReachableBut homes moved at gap f.page = record {
        after = near;
        full = λ j a b k. still_filled j (λ s. omega arith) k (but.full j a (omega (arith, c.before)) (λ s. omega arith));
      } in
      subst (λ n. IsReachableBut homes moved at n e.page) (sym w.0) (subst (λ (x : Entry). IsReachableBut homes moved at gap x.page) w.1 at_gap))
      (λ (w : (i ≢ gap) × (i ≢ at) × (slot_at slots i ≡ Some e)).
      let but = c.settled i e w.2 in record {
        after = but.after;
        full = λ j a b k. ⊎_elim
            (λ (s : j ≡ gap). subst (λ n. IsSome (slot_at moved n)) (sym s) (subst IsSome (sym moved_here) refl))
            (λ (s : j ≢ gap). still_filled j s k (but.full j a b s))
            (cases_eq j gap);
      })
      (came_from i e there)

  pub IsClosing-moves : IsClosing homes moved at (at + 1)
  IsClosing-moves = record {
    within = omega (arith, length-set left gap (Some f), length-set slots at None);
    before = omega arith;
    empty = emptied;
    settled = settled_moved;
    beyond = λ i e a b. absurd (omega arith);
    single = single_moved;
  }

  moved_in : AllIn slots moved
  moved_in i e there =
      ⊎_elim
      (λ (s : i ≡ at). (gap, moved_here ∙ sym here ∙ ap (slot_at slots) (sym s) ∙ there))
      (λ (s : i ≢ at). (i, moved_there i (λ k. let clash : None ≡ Some e = sym c.empty ∙ ap (slot_at slots) (sym k) ∙ there in cc) s ∙ there))
      (cases_eq i at)

  moved_out : AllIn moved slots
  moved_out i e there =
      ⊎_elim
      (λ (w : (i ≡ gap) × (f ≡ e)). (at, here ∙ ap Some w.1))
      (λ (w : (i ≢ gap) × (i ≢ at) × (slot_at slots i ≡ Some e)). (i, w.2))
      (came_from i e there)

  pub map_of-moves : map_of moved ≡ map_of slots
  map_of-moves = map_of-moved moved slots single_moved c.single moved_out moved_in

  pub filled-moves : filled moved ≡ filled slots
  filled-moves =
      let first = sum_by-set count_in slots at None None h in
      let second = sum_by-set count_in left gap (Some f) None in_left in
      let was : count_in (slot_at slots at) ≡ 1 = ap count_in here in
      let none : count_in (slot_at left gap) ≡ 0 = ap count_in (set_there slots at gap None apart ∙ c.empty) in
      omega arith
