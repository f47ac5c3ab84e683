-- A step on one frame keeps the rule, where it keeps the facts on that frame and on the seat's own view.
use Rattle.std.proofs.Common.{◌≡◌, ℕ, ◌<◌, ◌≤◌, ◌≢◌, ◌⊎◌, true, cond, List, length, map, get_or, set, sym, refl, ap, ◌∙◌, subst, inl, inr, ⊎_elim, arith, eqb, eq-eqb, ne_eqb, Option, Some, None, get_or-set_other, get_or-set_same, length-set, zero, suc, [], ◌∷◌}
use mathlib.Core.Logic.{dite}
use native.Mathlib.Decide.{ℕ_discrete}
use mathlib.Core.Option.{some, none, some-ne-none}
use lib.ListN.{get_elem?}
use Rattle.atomic_table.specs.Table.{State}
use Rattle.atomic_table.proofs.Lists.{at_set, set_else}
use Rattle.pm_region.specs.Lease.{Range, Leased}
use Rattle.pm_locks.specs.Words.{LockWord, unpacked}
use Rattle.pm_locks.specs.declared.view.Numbers.{Numbers}
use Rattle.pm_locks.specs.declared.view.View.{View}
use Rattle.pm_locks.specs.Views.{entry_at, out_at, due_at, word_at, is_among, Has, IsWhole, is_hand}
use Rattle.pm_locks.specs.Rule.{PageFrame, Home, IsPageFrame, IsView, IsLawful, out_for, frame_range, holder_of}
use Rattle.pm_locks.specs.Steps.{out_as}
use Rattle.pm_locks.proofs.Numbering.{not_true, among, has_small, whole_has}

module _ {A : Type 0} where
  abbrev pub updated : (ℕ → A) → ℕ → A → ℕ → A
  updated g i a j = cond (eqb j i) a (g j)

  pub updated-here : (g : ℕ → A) (i : ℕ) (a : A) → updated g i a i ≡ a
  updated-here g i a = ap (λ b. cond b a (g i)) (eq-eqb i i refl)

  pub updated-else : (g : ℕ → A) (i : ℕ) (a : A) (j : ℕ) → j ≢ i → updated g i a j ≡ g j
  updated-else g i a j ne = ap (λ b. cond b a (g j)) (ne_eqb j i ne)

-- what is so of the view of the seat that steps, and of the views of others
pub record OwnView (v v' : View) (f w w' : ℕ) (g g' : PageFrame) : Type 0 where
  pub same : v'.numbers ≡ v.numbers
  pub staff : v'.workers ≡ v.workers
  pub began : v'.leases ≡ v.leases
  pub known : (n : ℕ) → Has v n → entry_at v'.entries n f ≡ g'.entries n
  pub known_else : (n k : ℕ) → k ≢ f → entry_at v'.entries n k ≡ entry_at v.entries n k
  pub out : out_at v'.outs f ≡ out_for v.numbers w' g'.lease
  pub out_else : (k : ℕ) → k ≢ f → out_at v'.outs k ≡ out_at v.outs k
  pub foreign : (n : ℕ) → ¬ Has v n → entry_at v'.entries n f ≡ None
  pub foreign_due : ¬ Has v 8 → due_at v'.dues f ≡ None
  pub due : Has v 8 → due_at v'.dues f ≡ g'.due
  pub due_else : (k : ℕ) → k ≢ f → due_at v'.dues k ≡ due_at v.dues k
  pub due_others : ¬ Has v 8 → g'.due ≡ g.due
  pub word : IsWhole v → (k : LockWord) → word_at v'.words f ≡ Some k → unpacked w' ≡ k
  pub word_else : (k : ℕ) → k ≢ f → word_at v'.words k ≡ word_at v.words k
  pub hand : Has v (holder_of w') → g'.carried ≡ is_hand v'.hand f
  pub hand_else : (k : ℕ) → k ≢ f → is_hand v'.hand k ≡ is_hand v.hand k
  pub others : (n : ℕ) → ¬ Has v n → g'.entries n ≡ g.entries n

-- no other seat has the holder before or after, and the seat has some number
abbrev pub IsApart : View → ℕ → ℕ → Type 0
IsApart v w w' = ((n : ℕ) → (n ≡ holder_of w) ⊎ (n ≡ holder_of w') → (n ≡ 255) ⊎ Has v n) × ((n : ℕ) × Has v n)

abbrev pub IsSame : ℕ → ℕ → PageFrame → PageFrame → Type 0
IsSame w w' g g' = (w' ≡ w) × (g'.lease ≡ g.lease) × (g'.carried ≡ g.carried)

frame_moves : (workers : ℕ) (span : Range) (f w w' : ℕ) (h h' : Home) (g g' : PageFrame) → w' ≡ w → h' ≡ h → g' ≡ g → IsPageFrame workers span f w h g → IsPageFrame workers span f w' h' g'
frame_moves workers span f w w' h h' g g' a b c x = subst (λ (p : ℕ × Home × PageFrame). IsPageFrame workers span f p.0 p.1 p.2) (λ i. (sym a i, sym b i, sym c i)) x

-- a fact on each number, from the fact at f and at the others
pub at_or_else : (P : ℕ → Type 0) (f : ℕ) → P f → ((k : ℕ) → k ≢ f → P k) → (k : ℕ) → P k
at_or_else P f here else' k = dite (ℕ_discrete k f) (λ e. subst P (sym e) here) (λ ne. else' k ne)

-- what is out is so
pub out_is : (numbers : Numbers) (w : ℕ) (lease : Leased) → is_among numbers (holder_of w) ≡ true → out_for numbers w lease ≡ Some (out_as (unpacked w) lease)
out_is numbers w lease h = rw h

pub none_for : (l : Numbers) (w : ℕ) (b : Leased) → ¬ (is_among l (holder_of w) ≡ true) → out_for l w b ≡ None
none_for l w b h = rw (not_true (is_among l (holder_of w)) h)

module _ (workers : ℕ) (eight : workers ≤ 8) (frames : ℕ → PageFrame) (words : List ℕ) (seats : ℕ → ℕ) (f w' : ℕ) (g' : PageFrame) (lt : f < length words) where
  word_here : get_or (set words f w') f 0 ≡ w'
  word_here = rw get_or-set_same

  word_else : (k : ℕ) → k ≢ f → get_or (set words f w') k 0 ≡ get_or words k 0
  word_else k ne = rw get_or-set_other

  own_view : (i : ℕ) (v v' : View) → OwnView v v' f (get_or words f 0) w' (frames f) g' → IsView workers frames words seats i v → IsView workers (updated frames f g') (set words f w') seats i v'
  own_view i v v' o x =
      let had : (n : ℕ) → Has v' n → Has v n = λ n h. ap (λ (l : Numbers). is_among l n) (sym o.same) ∙ h in
      let has' : (n : ℕ) → Has v n → Has v' n = λ n h. ap (λ (l : Numbers). is_among l n) o.same ∙ h in record {
        staff = λ n h. o.staff ∙ x.staff n (had n h);
        few = subst (λ (l : Numbers). l.upto ≤ workers) (sym o.same) x.few;
        mine = λ n h. x.mine n (had n h);
        known = λ n k h. at_or_else (λ z. entry_at v'.entries n z ≡ (updated frames f g' z).entries n) f
            (o.known n (had n h) ∙ sym (ap (λ (g : PageFrame). g.entries n) (updated-here frames f g')))
            (λ z ne. o.known_else n z ne ∙ x.known n z (had n h) ∙ sym (ap (λ (g : PageFrame). g.entries n) (updated-else frames f g' z ne))) k;
        foreign = λ n k no. let no' : ¬ Has v n = λ h. no (has' n h) in at_or_else (λ z. entry_at v'.entries n z ≡ None) f (o.foreign n no') (λ z ne. o.known_else n z ne ∙ x.foreign n z no') k;
        foreign_due = λ k no. let no' : ¬ Has v 8 = λ h. no (has' 8 h) in at_or_else (λ z. due_at v'.dues z ≡ None) f (o.foreign_due no') (λ z ne. o.due_else z ne ∙ x.foreign_due z no') k;
        due = λ k h. at_or_else (λ z. due_at v'.dues z ≡ (updated frames f g' z).due) f
            (o.due (had 8 h) ∙ sym (ap (λ (g : PageFrame). g.due) (updated-here frames f g')))
            (λ z ne. o.due_else z ne ∙ x.due z (had 8 h) ∙ sym (ap (λ (g : PageFrame). g.due) (updated-else frames f g' z ne))) k;
        left = λ whole k z below. let had_all : IsWhole v = sym o.same ∙ whole ∙ ap (λ n. record { from = 0; upto = n; flusher = true }) o.staff in at_or_else (λ j. j < length words → word_at v'.words j ≡ Some z → unpacked (get_or (set words f w') j 0) ≡ z) f
            (λ _ is. ap unpacked word_here ∙ o.word had_all z is)
            (λ j ne b is. ap unpacked (word_else j ne) ∙ x.left had_all j z b (sym (o.word_else j ne) ∙ is)) k (subst (λ n. k < n) (length-set words f w') below);
        outs = λ k below. at_or_else (λ z. z < length words → out_at v'.outs z ≡ out_for v'.numbers (get_or (set words f w') z 0) (updated frames f g' z).lease) f
            (λ _. o.out ∙ (λ i. out_for (sym o.same i) (sym word_here i) (sym (updated-here frames f g') i).lease))
            (λ z ne b. o.out_else z ne ∙ x.outs z b ∙ (λ i. out_for (sym o.same i) (sym (word_else z ne) i) (sym (updated-else frames f g' z ne) i).lease)) k (subst (λ n. k < n) (length-set words f w') below);
        hand = λ k below. at_or_else (λ z. z < length words → Has v' (holder_of (get_or (set words f w') z 0)) → (updated frames f g' z).carried ≡ is_hand v'.hand z) f
            (λ _ h. ap (λ (g : PageFrame). g.carried) (updated-here frames f g') ∙ o.hand (had _ (subst (λ w. Has v' (holder_of w)) word_here h)))
            (λ z ne b h. ap (λ (g : PageFrame). g.carried) (updated-else frames f g' z ne) ∙ x.hand z b (had _ (subst (λ w. Has v' (holder_of w)) (word_else z ne) h)) ∙ sym (o.hand_else z ne)) k (subst (λ n. k < n) (length-set words f w') below);
      }

  other_view : (i j : ℕ) (v v' u : View) → j ≢ i → OwnView v v' f (get_or words f 0) w' (frames f) g' → IsSame (get_or words f 0) w' (frames f) g' ⊎ IsApart v (get_or words f 0) w'
      → IsView workers frames words seats i v → IsView workers frames words seats j u → IsView workers (updated frames f g') (set words f w') seats j u
  other_view i j v v' u away o how x y =
      let not_both : (n : ℕ) → Has u n → Has v n → ⊥ = λ n a b. away (sym (y.mine n a) ∙ x.mine n b) in
      let small : (n : ℕ) → Has u n → n ≢ 255 = λ n h e. let few : u.numbers.upto ≤ 8 = let k = y.few in omega arith in let b : n < 9 = has_small u.numbers n few h in omega arith in
      let no : IsApart v (get_or words f 0) w' → (n : ℕ) → (n ≡ holder_of (get_or words f 0)) ⊎ (n ≡ holder_of w') → ¬ Has u n = λ a n is h. ⊎_elim (λ e. small n h e) (λ b. not_both n h b) (a.0 n is) in
      let all : IsWhole u → (n : ℕ) → Has v n → Has u n = λ whole n h. whole_has u n whole (⊎_elim (λ p. inl (let k = p.1 in let m = x.few in let s = y.staff 8 (whole_has u 8 whole (inr refl)) in omega arith)) (λ p. inr p.0) (among v.numbers n h)) in record {
        staff = y.staff;
        few = y.few;
        mine = y.mine;
        known = λ n k h. at_or_else (λ z. entry_at u.entries n z ≡ (updated frames f g' z).entries n) f
            (y.known n f h ∙ sym (o.others n (not_both n h)) ∙ sym (ap (λ (g : PageFrame). g.entries n) (updated-here frames f g')))
            (λ z ne. y.known n z h ∙ sym (ap (λ (g : PageFrame). g.entries n) (updated-else frames f g' z ne))) k;
        foreign = y.foreign;
        foreign_due = y.foreign_due;
        due = λ k h. at_or_else (λ z. due_at u.dues z ≡ (updated frames f g' z).due) f
            (y.due f h ∙ sym (o.due_others (not_both 8 h)) ∙ sym (ap (λ (g : PageFrame). g.due) (updated-here frames f g')))
            (λ z ne. y.due z h ∙ sym (ap (λ (g : PageFrame). g.due) (updated-else frames f g' z ne))) k;
        left = λ whole k z below. at_or_else (λ j. j < length words → word_at u.words j ≡ Some z → unpacked (get_or (set words f w') j 0) ≡ z) f
            (λ b is. ap unpacked word_here ∙ ⊎_elim (λ t. ap unpacked t.0 ∙ y.left whole f z b is) (λ a. absurd (not_both a.1.0 (all whole a.1.0 a.1.1) a.1.1)) how)
            (λ j ne b is. ap unpacked (word_else j ne) ∙ y.left whole j z b is) k (subst (λ n. k < n) (length-set words f w') below);
        outs = λ k below. at_or_else (λ z. z < length words → out_at u.outs z ≡ out_for u.numbers (get_or (set words f w') z 0) (updated frames f g' z).lease) f
            (λ b. y.outs f b ∙ ⊎_elim (λ t. λ i. out_for u.numbers (sym t.0 i) (sym t.1 i))
            (λ a. none_for u.numbers (get_or words f 0) (frames f).lease (no a _ (inl refl)) ∙ sym (none_for u.numbers w' g'.lease (no a _ (inr refl)))) how
            ∙ (λ i. out_for u.numbers (sym word_here i) (sym (updated-here frames f g') i).lease))
            (λ z ne b. y.outs z b ∙ (λ i. out_for u.numbers (sym (word_else z ne) i) (sym (updated-else frames f g' z ne) i).lease)) k (subst (λ n. k < n) (length-set words f w') below);
        hand = λ k below. at_or_else (λ z. z < length words → Has u (holder_of (get_or (set words f w') z 0)) → (updated frames f g' z).carried ≡ is_hand u.hand z) f
            (λ b h. let h' : Has u (holder_of w') = subst (λ w. Has u (holder_of w)) word_here h in
            ap (λ (g : PageFrame). g.carried) (updated-here frames f g') ∙ ⊎_elim (λ t. t.2 ∙ y.hand f b (subst (λ w. Has u (holder_of w)) t.0 h')) (λ a. absurd (no a _ (inr refl) h')) how)
            (λ z ne b h. ap (λ (g : PageFrame). g.carried) (updated-else frames f g' z ne) ∙ y.hand z b (subst (λ w. Has u (holder_of w)) (word_else z ne) h)) k (subst (λ n. k < n) (length-set words f w') below);
      }

some_view : (a b : View) → some a ≡ some b → a ≡ b
some_view a b e = cc e

-- what is written over an element of a list is there
pub set_over : (l : List View) (i : ℕ) (a b : View) → get_elem? l i ≡ some a → get_elem? (set l i b) i ≡ some b
set_over [] i a b e = absurd (some-ne-none a (sym e))
set_over (x ∷ xs) zero a b e = refl
set_over (x ∷ xs) (suc i) a b e = set_over xs i a b e

-- a number's seat, after one view is written over by another with at least this number
pub seat_after : (views : List View) (i j : ℕ) (v v' u : View) (n : ℕ) → get_elem? views i ≡ some v → (Has v n → Has v' n) → get_elem? views j ≡ some u → Has u n
    → (z : View) × (get_elem? (set views i v') j ≡ some z) × Has z n
seat_after views i j v v' u n at keep look has = dite (ℕ_discrete j i)
    (λ e. let same : u ≡ v = some_view u v (sym look ∙ ap (get_elem? views) e ∙ at) in
    (v', ap (get_elem? (set views i v')) e ∙ set_over views i v v' at, keep (subst (λ z. Has z n) same has)))
    (λ ne. (u, set_else views i j v' ne ∙ look, has))

module _ {workers : ℕ} {ranges : List Range} where
  pub keeps_at : (s : State (Option Leased) View) (r : IsLawful workers ranges s) (i : ℕ) (v v' : View) (f w' : ℕ) (homes' : List (mathlib.Core.Option.Option (Option Leased))) (g' : PageFrame)
      → get_elem? s.views i ≡ some v → f < length s.words
      → length homes' ≡ length s.homes → ((k : ℕ) → k ≢ f → get_elem? homes' k ≡ get_elem? s.homes k)
      → IsPageFrame workers (frame_range ranges f) f w' (get_elem? homes' f) g'
      → OwnView v v' f (get_or s.words f 0) w' (r.frames f) g'
      → IsSame (get_or s.words f 0) w' (r.frames f) g' ⊎ IsApart v (get_or s.words f 0) w'
      → IsLawful workers ranges (record { words = set s.words f w'; homes = homes'; views = set s.views i v' })
  keeps_at s r i v v' f w' homes' g' at lt long same here own how = record {
    frames = updated r.frames f g';
    seats = r.seats;
    few = r.few;
    sized = long ∙ r.sized ∙ sym (length-set s.words f w');
    each_frame = λ k below. at_or_else (λ z. z < length s.words → IsPageFrame workers (frame_range ranges z) z (get_or (set s.words f w') z 0) (get_elem? homes' z) (updated r.frames f g' z)) f
        (λ _. frame_moves workers (frame_range ranges f) f w' _ _ _ g' _ (word_here workers r.few r.frames s.words r.seats f w' g' lt) refl (updated-here r.frames f g') here)
        (λ z ne b. frame_moves workers (frame_range ranges z) z _ _ _ _ _ _ (word_else workers r.few r.frames s.words r.seats f w' g' lt z ne) (same z ne) (updated-else r.frames f g' z ne) (r.each_frame z b)) k (subst (λ n. k < n) (length-set s.words f w') below);
    began = λ j u look n h. ⊎_elim
        (λ t. let h' : Has v' n = subst (λ (z : View). Has z n) (sym t.1) h in
        ap (λ (z : View). map (λ (y : Leased). y.range) z.leases) (sym t.1) ∙ ap (map (λ (y : Leased). y.range)) own.began ∙ r.began i v at n (ap (λ (l : Numbers). is_among l n) (sym own.same) ∙ h'))
        (λ t. r.began j u t.1 n h)
        (at_set s.views i j v' u look);
    each_view = λ j u look. ⊎_elim
        (λ t. subst (λ (p : ℕ × View). IsView workers (updated r.frames f g') (set s.words f w') r.seats p.0 p.1) (λ z. (sym t.0 z, t.1 z)) (own_view workers r.few r.frames s.words r.seats f w' g' lt i v v' own (r.each_view i v at)))
        (λ t. other_view workers r.few r.frames s.words r.seats f w' g' lt i j v v' u t.0 own how (r.each_view i v at) (r.each_view j u t.1))
        (at_set s.views i j v' u look);
    each_number = λ n which. let x = r.each_number n which in seat_after s.views i (r.seats n) v v' x.0 n at (λ h. ap (λ (l : Numbers). is_among l n) own.same ∙ h) x.1 x.2;
  }
