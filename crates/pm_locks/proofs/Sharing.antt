-- A split and a join keep the rule.
use Rattle.std.proofs.Common.{◌≡◌, ℕ, zero, suc, ◌+◌, ◌<◌, ◌≤◌, ◌≢◌, ◌⊎◌, Bool, true, false, cond, List, [], ◌∷◌, ◌++◌, length, map, get_or, set, sym, refl, ap, ◌∙◌, subst, inl, inr, ⊎_elim, arith, eqb, ne_eqb, Option, Some, None, length-set}
use Rattle.std.specs.Prelude.{◌&&◌}
use mathlib.Core.Option.{some, some-injective, some-ne-none}
use mathlib.Core.Logic.{dite}
use native.Mathlib.Decide.{dec_le, ℕ_discrete}
use lib.ListN.{get_elem?}
use Rattle.atomic_table.specs.Table.{Splits, Joins}
use Rattle.atomic_table.proofs.Lists.{at_set, set_else, at_last, at_longer}
use Rattle.pm_region.specs.Lease.{Leased, Range}
use Rattle.pm_locks.specs.Words.{LockWord, unpacked}
use Rattle.pm_locks.specs.declared.view.Numbers.{Numbers}
use Rattle.pm_locks.specs.declared.view.Entry.{Entry}
use Rattle.pm_locks.specs.declared.view.Due.{Due}
use Rattle.pm_locks.specs.declared.view.Met.{Met}
use Rattle.pm_locks.specs.declared.view.View.{View}
use Rattle.pm_locks.specs.Views.{entry_at, due_at, is_among, Has, IsStill, IsOwnAlone}
use Rattle.pm_locks.specs.Rule.{PageFrame, IsView, IsLawful, holder_of}
use Rattle.pm_locks.specs.Steps.{out_as}
use Rattle.pm_locks.specs.Shares.{least_of, others_of, entries_of, dues_of, share_of, what_stays, what_goes, joined, nobody, AreAdjacent, HasBoth}
use Rattle.pm_locks.proofs.Numbering.{true_not_false, not_true, among, is_one}
use Rattle.pm_locks.proofs.Keeping.{none_for, set_over, seat_after}
use Rattle.pm_locks.proofs.Hands.{none_some}

none_word : (w : LockWord) → None ≡ Some w → ⊥
none_word w e = cc e

module _ (l : Numbers) where
  pub least_in : l.from < l.upto → (n : ℕ) → is_among (least_of l) n ≡ true → is_among l n ≡ true
  least_in any n h = is_one l n (⊎_elim (λ p. inl (p.0, (let k = p.1 in omega arith))) (λ p. absurd (true_not_false (sym p.1))) (among (least_of l) n h))

  pub others_in : (n : ℕ) → is_among (others_of l) n ≡ true → is_among l n ≡ true
  others_in n h = is_one l n (⊎_elim (λ p. inl ((let k = p.0 in omega arith), p.1)) (λ p. inr p) (among (others_of l) n h))

  -- a number is the least one's or the others'
  pub stays_in : (n : ℕ) → is_among l n ≡ true → ¬ (is_among (least_of l) n ≡ true) → is_among (others_of l) n ≡ true
  stays_in n h out = is_one (others_of l) n (⊎_elim
      (λ p. dite (ℕ_discrete n l.from) (λ e. absurd (out (is_one (least_of l) n (inl (omega arith, omega arith))))) (λ ne. inl ((let a = p.0 in omega arith), p.1)))
      (λ p. inr p) (among l n h))

  not_both : l.upto ≤ 8 → l.from < l.upto → (n : ℕ) → is_among (least_of l) n ≡ true → is_among (others_of l) n ≡ true → ⊥
  not_both few any n h k = ⊎_elim
      (λ p. ⊎_elim (λ q. let a = p.1 in let b = q.0 in omega arith) (λ q. let a = p.1 in let b = q.0 in omega arith) (among (others_of l) n k))
      (λ p. true_not_false (sym p.1)) (among (least_of l) n h)

  -- the entries of these numbers, and of no other
  apart : (m n : ℕ) → is_among l m ≡ false → is_among l n ≡ true → m ≢ n
  apart m n a b e = true_not_false (sym b ∙ ap (is_among l) (sym e) ∙ a)

  passed : (e : Entry) (es : List Entry) (n f : ℕ) → e.number ≢ n → entry_at (e ∷ es) n f ≡ entry_at es n f
  passed e es n f ne = ap (λ b. cond (b && eqb e.frame f) (Some e) (entry_at es n f)) (ne_eqb e.number n ne)

  pub own_entries : (es : List Entry) (n f : ℕ) → is_among l n ≡ true → entry_at (entries_of l es) n f ≡ entry_at es n f
  own_entries [] n f h = refl
  own_entries (e ∷ es) n f h =
      let P : Bool → Type 0 = λ b. is_among l e.number ≡ b → entry_at (cond b (e ∷ entries_of l es) (entries_of l es)) n f ≡ entry_at (e ∷ es) n f in
      let all : (b : Bool) → P b = λ b. elim b as P [
        | true ↦ λ _. ap (λ o. cond (eqb e.number n && eqb e.frame f) (Some e) o) (own_entries es n f h)
        | false ↦ λ a. own_entries es n f h ∙ sym (passed e es n f (apart e.number n a h))
      ] in all (is_among l e.number) refl

  pub no_entries : (es : List Entry) (n f : ℕ) → is_among l n ≡ false → entry_at (entries_of l es) n f ≡ None
  no_entries [] n f h = refl
  no_entries (e ∷ es) n f h =
      let P : Bool → Type 0 = λ b. is_among l e.number ≡ b → entry_at (cond b (e ∷ entries_of l es) (entries_of l es)) n f ≡ None in
      let all : (b : Bool) → P b = λ b. elim b as P [
        | true ↦ λ a. passed e (entries_of l es) n f (λ q. apart n e.number h a (sym q)) ∙ no_entries es n f h
        | false ↦ λ a. no_entries es n f h
      ] in all (is_among l e.number) refl

  pub own_dues : (ds : List (ℕ × Due)) (f : ℕ) → is_among l 8 ≡ true → due_at (dues_of l ds) f ≡ due_at ds f
  own_dues ds f h = ap (λ b. due_at (cond b ds []) f) h

  pub no_dues : (ds : List (ℕ × Due)) (f : ℕ) → is_among l 8 ≡ false → due_at (dues_of l ds) f ≡ None
  no_dues ds f h = ap (λ b. due_at (cond b ds []) f) h

at_end : {A : Type 0} (l : List A) (a b : A) (j : ℕ) → get_elem? (l ++ a ∷ []) j ≡ some b → (get_elem? l j ≡ some b) ⊎ ((j ≡ length l) × (a ≡ b))
at_end [] a b zero e = inr (refl, some-injective a b e)
at_end [] a b (suc j) e = absurd (some-ne-none b (sym e))
at_end (x ∷ xs) a b zero e = inl e
at_end (x ∷ xs) a b (suc j) e = ⊎_elim (λ h. inl h) (λ t. inr (ap suc t.0, t.1)) (at_end xs a b j e)

-- numbers that a still seat has hold no frame
pub unheld : (workers : ℕ) (frames : ℕ → PageFrame) (words : List ℕ) (seats : ℕ → ℕ) (i : ℕ) (v : View) → IsView workers frames words seats i v → IsStill v → (f : ℕ) → f < length words → ¬ Has v (holder_of (get_or words f 0))
unheld workers frames words seats i v x still f lt h = let w = get_or words f 0 in
    none_some (out_as (unpacked w) (frames f).lease) (sym (still f) ∙ x.outs f lt ∙ ap (λ b. cond b (Some (out_as (unpacked w) (frames f).lease)) None) h)

-- a share of the numbers, at the seat j
shared : (workers : ℕ) (frames : ℕ → PageFrame) (words : List ℕ) (seats : ℕ → ℕ) (i : ℕ) (v : View) → IsView workers frames words seats i v → IsStill v
    → (seats' : ℕ → ℕ) (j : ℕ) (l : Numbers) (met : List Met) → l.upto ≤ workers → ((n : ℕ) → is_among l n ≡ true → Has v n) → ((n : ℕ) → is_among l n ≡ true → seats' n ≡ j)
    → IsView workers frames words seats' j (share_of l v met)
shared workers frames words seats i v x still seats' j l met few sub mine = record {
  staff = λ n h. x.staff n (sub n h);
  few = few;
  mine = mine;
  known = λ n f h. own_entries l v.entries n f h ∙ x.known n f (sub n h);
  due = λ f h. own_dues l v.dues f h ∙ x.due f (sub 8 h);
  foreign = λ n f no. no_entries l v.entries n f (not_true (is_among l n) no);
  foreign_due = λ f no. no_dues l v.dues f (not_true (is_among l 8) no);
  outs = λ f lt. sym (none_for l (get_or words f 0) (frames f).lease (λ h. unheld workers frames words seats i v x still f lt (sub _ h)));
  hand = λ f lt h. absurd (unheld workers frames words seats i v x still f lt (sub _ h));
  left = λ whole f w lt is. absurd (none_word w is);
}

-- the same view, where its numbers' seats are the same
reseated : (workers : ℕ) (frames : ℕ → PageFrame) (words : List ℕ) (seats seats' : ℕ → ℕ) (j : ℕ) (u : View) → ((n : ℕ) → Has u n → seats' n ≡ seats n) → IsView workers frames words seats j u → IsView workers frames words seats' j u
reseated workers frames words seats seats' j u same y = record {
  staff = y.staff;
  few = y.few;
  mine = λ n h. same n h ∙ y.mine n h;
  known = y.known;
  due = y.due;
  foreign = y.foreign;
  foreign_due = y.foreign_due;
  outs = y.outs;
  hand = y.hand;
  left = y.left;
}

nobody_has : (n : ℕ) → ¬ Has nobody n
nobody_has n h = ⊎_elim (λ p. let a = p.1 in omega arith) (λ p. true_not_false (sym p.1)) (among nobody.numbers n h)

module _ {workers : ℕ} {ranges : List Range} where
  pub splits_it : (id : ℕ) (v : View) → v.numbers.from < v.numbers.upto → IsStill v → Splits (IsLawful workers ranges) id v (what_stays v) (what_goes v)
  splits_it id v some' still s r at =
      let x = r.each_view id v at in let l = least_of v.numbers in
      let few : v.numbers.upto ≤ 8 = let k = x.few in let m = r.few in omega arith in
      let few' : v.numbers.from + 1 ≤ workers = let k = x.few in omega arith in
      let seats' : ℕ → ℕ = λ n. cond (is_among l n) (length s.views) (r.seats n) in record {
        frames = r.frames;
        seats = seats';
        few = r.few;
        sized = r.sized;
        each_frame = r.each_frame;
        began = λ j u look n h. ⊎_elim
            (λ old. ⊎_elim
            (λ t. ap (λ (z : View). map (λ (y : Leased). y.range) z.leases) (sym t.1) ∙ r.began id v at n (others_in v.numbers n (subst (λ (z : View). Has z n) (sym t.1) h)))
            (λ t. r.began j u t.1 n h)
            (at_set s.views id j (what_stays v) u old))
            (λ t. ap (λ (z : View). map (λ (y : Leased). y.range) z.leases) (sym t.1) ∙ r.began id v at n (least_in v.numbers some' n (subst (λ (z : View). Has z n) (sym t.1) h)))
            (at_end (set s.views id (what_stays v)) (what_goes v) u j look);
        each_view = λ j u look. ⊎_elim
            (λ old. ⊎_elim
            (λ t. subst (λ (p : ℕ × View). IsView workers r.frames s.words seats' p.0 p.1) (λ z. (sym t.0 z, t.1 z))
            (shared workers r.frames s.words r.seats id v x still seats' id (others_of v.numbers) v.met x.few (others_in v.numbers)
            (λ n h. ap (λ b. cond b (length s.views) (r.seats n)) (not_true (is_among l n) (λ k. not_both v.numbers few some' n k h)) ∙ x.mine n (others_in v.numbers n h))))
            (λ t. let y = r.each_view j u t.1 in reseated workers r.frames s.words r.seats seats' j u
            (λ n h. ap (λ b. cond b (length s.views) (r.seats n)) (not_true (is_among l n) (λ k. t.0 (sym (y.mine n h) ∙ x.mine n (least_in v.numbers some' n k))))) y)
            (at_set s.views id j (what_stays v) u old))
            (λ t. subst (λ (p : ℕ × View). IsView workers r.frames s.words seats' p.0 p.1) (λ z. (sym (t.0 ∙ length-set s.views id (what_stays v)) z, t.1 z))
            (shared workers r.frames s.words r.seats id v x still seats' (length s.views) l [] few' (least_in v.numbers some')
            (λ n h. ap (λ b. cond b (length s.views) (r.seats n)) h)))
            (at_end (set s.views id (what_stays v)) (what_goes v) u j look);
        each_number = λ n which.
            let y = r.each_number n which in let views = set s.views id (what_stays v) in
            let P : Bool → Type 0 = λ b. is_among l n ≡ b → (z : View) × (get_elem? (views ++ what_goes v ∷ []) (cond b (length s.views) (r.seats n)) ≡ some z) × Has z n in
            let all : (b : Bool) → P b = λ b. elim b as P [
              | true ↦ λ h. (what_goes v, at_last views (what_goes v) (length s.views) (length-set s.views id (what_stays v)), h)
              | false ↦ λ h. let z = seat_after s.views id (r.seats n) v (what_stays v) y.0 n at (λ has. stays_in v.numbers n has (λ k. true_not_false (sym k ∙ h))) y.1 y.2 in
                  (z.0, at_longer views (what_goes v ∷ []) (r.seats n) z.0 z.1, z.2)
            ] in all (is_among l n) refl;
      }

-- the first of two
abbrev or_else : {A : Type 0} → Option A → Option A → Option A
or_else None o = o
or_else (Some a) o = Some a

or_none : {A : Type 0} (o : Option A) → or_else o None ≡ o
or_none None = refl
or_none (Some a) = refl

pub entries_append : (es ds : List Entry) (n f : ℕ) → entry_at (es ++ ds) n f ≡ or_else (entry_at es n f) (entry_at ds n f)
entries_append [] ds n f = refl
entries_append (e ∷ es) ds n f =
    let P : Bool → Type 0 = λ b. cond b (Some e) (entry_at (es ++ ds) n f) ≡ or_else (cond b (Some e) (entry_at es n f)) (entry_at ds n f) in
    elim (eqb e.number n && eqb e.frame f) as P [ true ↦ refl | false ↦ entries_append es ds n f ]

first_in : {A : Type 0} (a b c : Option A) → b ≡ None → a ≡ c → or_else a b ≡ c
first_in a b c e h = ap (or_else a) e ∙ or_none a ∙ h

second_in : {A : Type 0} (a b c : Option A) → a ≡ None → b ≡ c → or_else a b ≡ c
second_in a b c e h = ap (λ o. or_else o b) e ∙ h

-- the numbers of two seats that follow one another
module _ (l m : Numbers) (follow : AreAdjacent m l) where
  abbrev pub both_of : Numbers
  both_of = record { from = m.from; upto = l.upto; flusher = l.flusher }

  pub either_in : (n : ℕ) → is_among both_of n ≡ true → (is_among l n ≡ true) ⊎ (is_among m n ≡ true)
  either_in n h = ⊎_elim
      (λ p. dite (dec_le l.from n) (λ a. inl (is_one l n (inl (a, p.1)))) (λ a. inr (is_one m n (inl (p.0, (let k = follow.meets in omega arith))))))
      (λ p. inl (is_one l n (inr p))) (among both_of n h)

  pub first_is : (n : ℕ) → is_among l n ≡ true → is_among both_of n ≡ true
  first_is n h = is_one both_of n (⊎_elim (λ p. inl ((let a = p.0 in let k = follow.meets in let j = follow.some in omega arith), p.1)) (λ p. inr p) (among l n h))

  pub second_is : (n : ℕ) → is_among m n ≡ true → is_among both_of n ≡ true
  second_is n h = is_one both_of n (⊎_elim (λ p. inl (p.0, (let a = p.1 in let k = follow.meets in let j = follow.rest in omega arith))) (λ p. absurd (true_not_false (sym p.1 ∙ follow.alone))) (among m n h))

  -- they share no number
  pub disjoint : (n : ℕ) → is_among l n ≡ true → is_among m n ≡ true → ⊥
  disjoint n a b = ⊎_elim
      (λ p. ⊎_elim (λ q. let k = q.0 in let j = p.1 in let e = follow.meets in omega arith) (λ q. let k = q.0 in let j = p.1 in let e = follow.meets in let o = follow.rest in let w = follow.few in omega arith) (among l n a))
      (λ p. true_not_false (sym p.1 ∙ follow.alone)) (among m n b)

  -- the flusher's number is the first's alone
  pub no_flusher : ¬ (is_among m 8 ≡ true) ⊎ (8 < m.upto)
  no_flusher = dite (dec_le m.upto 8) (λ a. inl (λ h. ⊎_elim (λ p. let b = p.1 in omega arith) (λ p. true_not_false (sym p.1 ∙ follow.alone)) (among m 8 h))) (λ a. inr (omega arith))

nobody_view : (workers : ℕ) (frames : ℕ → PageFrame) (words : List ℕ) (seats : ℕ → ℕ) (i : ℕ) → IsView workers frames words seats i nobody
nobody_view workers frames words seats i = record {
  staff = λ n h. absurd (nobody_has n h);
  few = omega arith;
  mine = λ n h. absurd (nobody_has n h);
  known = λ n f h. absurd (nobody_has n h);
  due = λ f h. absurd (nobody_has 8 h);
  foreign = λ n f no. refl;
  foreign_due = λ f no. refl;
  outs = λ f lt. sym (none_for nobody.numbers (get_or words f 0) (frames f).lease (nobody_has (holder_of (get_or words f 0))));
  hand = λ f lt h. absurd (nobody_has (holder_of (get_or words f 0)) h);
  left = λ whole f w lt is. absurd (none_word w is);
}

module _ {workers : ℕ} {ranges : List Range} where
  pub joins_it : (id : ℕ) (v : View) (other : ℕ) (w : View) → v.workers ≡ w.workers → AreAdjacent w.numbers v.numbers → IsStill v → IsStill w → Joins (IsLawful workers ranges) id v other w (joined v w) nobody
  joins_it id v other w same follow still still' s r at ne at' =
      let x = r.each_view id v at in
      let z = r.each_view other w (sym (set_else s.views id other (joined v w) ne) ∙ at') in
      let l = v.numbers in let m = w.numbers in
      let either' = either_in l m follow in
      let seats' : ℕ → ℕ = λ n. cond (is_among m n) id (r.seats n) in
      let apart' : (n : ℕ) → Has v n → ¬ Has w n = λ n a b. ne (sym (z.mine n b) ∙ x.mine n a) in
      let no8 : ¬ Has w 8 = λ h. ⊎_elim (λ no. no h) (λ k. let few = z.few in let e = r.few in omega arith) (no_flusher l m follow) in
      let away : (f : ℕ) → f < length s.words → ¬ Has (joined v w) (holder_of (get_or s.words f 0)) = λ f lt h. ⊎_elim (unheld workers r.frames s.words r.seats id v x still f lt) (unheld workers r.frames s.words r.seats other w z still' f lt) (either' _ h) in
      let both : IsView workers r.frames s.words seats' id (joined v w) = record {
        staff = λ n h. ⊎_elim (λ a. x.staff n a) (λ b. same ∙ z.staff n b) (either' n h);
        few = x.few;
        mine = λ n h. ⊎_elim (λ a. ap (λ b. cond b id (r.seats n)) (not_true (is_among m n) (apart' n a)) ∙ x.mine n a) (λ b. ap (λ k. cond k id (r.seats n)) b) (either' n h);
        known = λ n f h. entries_append v.entries w.entries n f ∙ ⊎_elim
            (λ a. first_in _ _ _ (z.foreign n f (apart' n a)) (x.known n f a))
            (λ b. second_in _ _ _ (x.foreign n f (λ a. apart' n a b)) (z.known n f b)) (either' n h);
        due = λ f h. ⊎_elim (λ a. x.due f a) (λ b. absurd (no8 b)) (either' 8 h);
        foreign = λ n f no. entries_append v.entries w.entries n f ∙ second_in _ _ _ (x.foreign n f (λ a. no (first_is l m follow n a))) (z.foreign n f (λ b. no (second_is l m follow n b)));
        foreign_due = λ f no. x.foreign_due f (λ a. no (first_is l m follow 8 a));
        outs = λ f lt. sym (none_for (joined v w).numbers (get_or s.words f 0) (r.frames f).lease (away f lt));
        hand = λ f lt h. absurd (away f lt h);
        left = λ whole f k lt is. absurd (none_word k is);
      } in record {
        frames = r.frames;
        seats = seats';
        few = r.few;
        sized = r.sized;
        each_frame = r.each_frame;
        began = λ j u look n h. ⊎_elim
            (λ t. absurd (nobody_has n (subst (λ (z : View). Has z n) (sym t.1) h)))
            (λ t. ⊎_elim
            (λ q. ap (λ (z : View). map (λ (y : Leased). y.range) z.leases) (sym q.1) ∙ r.began other w (sym (set_else s.views id other (joined v w) ne) ∙ at') m.from (is_one m m.from (inl (omega arith, follow.some))))
            (λ q. r.began j u q.1 n h)
            (at_set s.views id j (joined v w) u t.1))
            (at_set (set s.views id (joined v w)) other j nobody u look);
        each_view = λ j u look. ⊎_elim
            (λ t. subst (IsView workers r.frames s.words seats' j) t.1 (nobody_view workers r.frames s.words seats' j))
            (λ t. ⊎_elim
            (λ q. subst (λ (p : ℕ × View). IsView workers r.frames s.words seats' p.0 p.1) (λ k. (sym q.0 k, q.1 k)) both)
            (λ q. let y = r.each_view j u q.1 in reseated workers r.frames s.words r.seats seats' j u
            (λ n h. ap (λ b. cond b id (r.seats n)) (not_true (is_among m n) (λ b. t.0 (sym (y.mine n h) ∙ z.mine n b)))) y)
            (at_set s.views id j (joined v w) u t.1))
            (at_set (set s.views id (joined v w)) other j nobody u look);
        each_number = λ n which.
            let y = r.each_number n which in let views = set s.views id (joined v w) in
            let P : Bool → Type 0 = λ b. is_among m n ≡ b → (u : View) × (get_elem? (set views other nobody) (cond b id (r.seats n)) ≡ some u) × Has u n in
            let all : (b : Bool) → P b = λ b. elim b as P [
              | true ↦ λ h. (joined v w, set_else views other id nobody (λ e. ne (sym e)) ∙ set_over s.views id v (joined v w) at, second_is l m follow n h)
              | false ↦ λ h.
                  let u = seat_after s.views id (r.seats n) v (joined v w) y.0 n at (first_is l m follow n) y.1 y.2 in
                  seat_after views other (r.seats n) w nobody u.0 n at' (λ has. absurd (true_not_false (sym has ∙ h))) u.1 u.2
            ] in all (is_among m n) refl;
      }

pub share_alone : (l : Numbers) (v : View) (met : List Met) → IsOwnAlone (share_of l v met)
share_alone l v met = record {
  entries = λ n f no. no_entries l v.entries n f (not_true (is_among l n) no);
  dues = λ f no. no_dues l v.dues f (not_true (is_among l 8) no);
}

pub joined_alone : (v w : View) → AreAdjacent w.numbers v.numbers → IsOwnAlone v → IsOwnAlone w → IsOwnAlone (joined v w)
joined_alone v w follow x z = record {
  entries = λ n f no. entries_append v.entries w.entries n f ∙ second_in _ _ _ (x.entries n f (λ a. no (first_is v.numbers w.numbers follow n a))) (z.entries n f (λ b. no (second_is v.numbers w.numbers follow n b)));
  dues = λ f no. x.dues f (λ a. no (first_is v.numbers w.numbers follow 8 a));
}

pub joined_has : (v w : View) → AreAdjacent w.numbers v.numbers → IsOwnAlone v → IsOwnAlone w → HasBoth v w (joined v w)
joined_has v w follow x z =
    let apart' : (n : ℕ) → Has v n → ¬ Has w n = λ n a b. disjoint v.numbers w.numbers follow n a b in record {
      firsts = λ n f h. entries_append v.entries w.entries n f ∙ first_in _ _ _ (z.entries n f (apart' n h)) refl;
      seconds = λ n f h. entries_append v.entries w.entries n f ∙ second_in _ _ _ (x.entries n f (λ a. apart' n a h)) refl;
    }
