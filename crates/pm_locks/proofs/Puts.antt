-- A frame is put back by its worker, or stolen: both make an entry.
use Rattle.std.proofs.Common.{◌≡◌, ℕ, ◌+◌, ◌<◌, ◌≤◌, ◌≢◌, ◌⊎◌, Bool, true, false, cond, eqb, eq-eqb, ne_eqb, List, [], ◌∷◌, length, get_or, set, sym, refl, ap, ◌∙◌, subst, inl, inr, ⊎_elim, Option, Some, None, arith, length-set}
use Rattle.std.specs.Prelude.{◌&&◌}
use mathlib.Core.Option.{some, none}
use mathlib.Core.Option as maybe
use mathlib.Core.Logic.{dite}
use native.Mathlib.Decide.{ℕ_discrete}
use prog.Atomic.{either}
use lib.ListN.{get_elem?}
use Rattle.atomic_table.specs.Table.{State, step, Act, takes, gives, keeps, Valid, carried_after, stepped, rest, Allows}
use Rattle.atomic_table.specs.Table as table
use Rattle.atomic_table.proofs.Lists.{set_here, set_else, exchanged}
use Rattle.pm_types.specs.declared.flag.Flag.{Flag}
use Rattle.pm_types.specs.declared.flag.Flag.TheVariants as flag
use Rattle.pm_region.specs.Lease.{Range, Leased}
use Rattle.pm_locks.specs.Words.{LockWord, code_of, unpacked, packed, IsSpare, IsReachedFrom, CanBeStolen, put_as, stolen_as}
use Rattle.pm_locks.specs.declared.view.View.{View}
use Rattle.pm_locks.specs.declared.view.Entry.{Entry}
use Rattle.pm_locks.specs.declared.view.Out.{Out}
use Rattle.pm_locks.specs.declared.view.Numbers.{Numbers}
use Rattle.pm_locks.specs.Views.{entry_at, out_at, is_among, Has, is_hand}
use Rattle.pm_locks.specs.Rule.{PageFrame, Home, IsPageFrame, IsLawful, HasImage, HasTakenImage, vacant, frame_range, flag_of, holder_of, owner_of, tag_of}
use Rattle.pm_locks.specs.Answers.{IsSameLease, MayPut}
use Rattle.pm_locks.proofs.Numbering.{and_false, not_true, among, has_small}
use Rattle.pm_locks.proofs.Keeping.{updated, updated-here, updated-else, OwnView, keeps_at, out_is}
use Rattle.pm_locks.proofs.Takes.{self_eq}
use Rattle.pm_locks.proofs.Hands.{away_of}
use Rattle.pm_locks.proofs.Looks.{met_keeps, met_tells, word_found, word_past}
use Rattle.pm_locks.specs.Steps.{meets, put_back, stolen_out, entry_as, out_as}
use Rattle.pm_locks.specs.Kinds.{Seated, IsPut, IsSteal, carrying}

pub some_entry : (a b : Entry) → Some a ≡ Some b → a ≡ b
some_entry a b e = cc e

-- the entries of a frame with a new one
abbrev pub with_entry : (ℕ → Option Entry) → Entry → ℕ → Option Entry
with_entry k e = updated k e.number (Some e)

entry_found : (es : List Entry) (e : Entry) (k : ℕ → Option Entry) (n : ℕ) → entry_at es n e.frame ≡ k n → entry_at (e ∷ es) n e.frame ≡ with_entry k e n
entry_found es e k n old = dite (ℕ_discrete n e.number)
    (λ is. ap (λ b. cond (b && eqb e.frame e.frame) (Some e) (entry_at es n e.frame)) (eq-eqb e.number n (sym is)) ∙ ap (λ b. cond b (Some e) (entry_at es n e.frame)) (self_eq e.frame)
    ∙ sym (ap (λ b. cond b (Some e) (k n)) (eq-eqb n e.number is)))
    (λ ne. ap (λ b. cond (b && eqb e.frame e.frame) (Some e) (entry_at es n e.frame)) (ne_eqb e.number n (λ p. ne (sym p))) ∙ old ∙ sym (updated-else k e.number (Some e) n ne))

pub entry_foreign : (es : List Entry) (e : Entry) (n f : ℕ) → n ≢ e.number → entry_at (e ∷ es) n f ≡ entry_at es n f
entry_foreign es e n f ne = ap (λ b. cond (b && eqb e.frame f) (Some e) (entry_at es n f)) (ne_eqb e.number n (λ p. ne (sym p)))

pub entry_past : (es : List Entry) (e : Entry) (n f : ℕ) → f ≢ e.frame → entry_at (e ∷ es) n f ≡ entry_at es n f
entry_past es e n f ne = ap (λ b. cond (eqb e.number n && b) (Some e) (entry_at es n f)) (ne_eqb e.frame f (λ p. ne (sym p))) ∙ ap (λ b. cond b (Some e) (entry_at es n f)) (and_false (eqb e.number n))

-- a frame whose owner has a new entry
renewed : (workers : ℕ) (span : Range) (f w w' : ℕ) (home home' : Home) (g : PageFrame) (lease : Leased) (c : Bool) → IsPageFrame workers span f w home g
    → packed (unpacked w') ≡ w' → lease.number ≡ f → lease.range ≡ span
    → ((n : ℕ) (e : Entry) → g.entries n ≡ Some e → n ≢ owner_of w' → (e.tag ≤ tag_of w') × (e.tag ≡ tag_of w' → n ≡ owner_of w') × (e.tag < tag_of w' → IsSpare e.flag))
    → owner_of w' < workers → (flag_of w' ≡ flag.Due → HasImage g.due (tag_of w') lease.bytes) → (flag_of w' ≡ flag.Done → HasTakenImage g.due (tag_of w') lease.bytes)
    → (holder_of w' ≡ 255 → (home' ≡ some (some (Some lease))) × (c ≡ false)) → (¬ (holder_of w' ≡ 255) → (home' ≡ vacant c) × ((holder_of w' ≡ owner_of w') ⊎ (holder_of w' ≡ 8)))
    → IsPageFrame workers span f w' home' (record { entries = with_entry g.entries (entry_as f (unpacked w') lease.bytes); due = g.due; lease = lease; carried = c })
renewed workers span f w w' home home' g lease c x word number range_is old small due done here away =
    let new = entry_as f (unpacked w') lease.bytes in
    let split : (n : ℕ) (e : Entry) → with_entry g.entries new n ≡ Some e → ((n ≡ owner_of w') × (new ≡ e)) ⊎ ((n ≢ owner_of w') × (g.entries n ≡ Some e)) = λ n e is. dite (ℕ_discrete n (owner_of w'))
    (λ q. inl (q, some_entry new e (sym (ap (λ b. cond b (Some new) (g.entries n)) (eq-eqb n (owner_of w') q)) ∙ is)))
    (λ q. inr (q, sym (updated-else g.entries (owner_of w') (Some new) n q) ∙ is)) in record {
      word = word;
      number = number;
      range_is = range_is;
      here = here;
      away = away;
      below = λ n e is. ⊎_elim (λ t. (let k : new.tag ≡ e.tag = ap (λ (z : Entry). z.tag) t.1 in let m : new.tag ≡ tag_of w' = refl in omega arith, λ _. t.0)) (λ t. let o = old n e t.1 t.0 in (o.0, o.1)) (split n e is);
      worker = small;
      older = λ n e is l. ⊎_elim (λ t. let k : new.tag ≡ e.tag = ap (λ (z : Entry). z.tag) t.1 in let m : new.tag ≡ tag_of w' = refl in absurd (omega arith)) (λ t. (old n e t.1 t.0).2 l) (split n e is);
      owned = (new, updated-here g.entries (owner_of w') (Some new), refl, refl, inl refl);
      due = due;
      done = done;
    }

first_value : List (ℕ × Option Leased) → Option Leased
first_value [] = None
first_value (x ∷ xs) = x.1

some_lease : (y z : Leased) → Some y ≡ Some z → y ≡ z
some_lease y z e = cc e

pub same_lease : (f : ℕ) (y z : Leased) (a b : List (ℕ × Option Leased)) → (f, Some y) ∷ a ≡ (f, Some z) ∷ b → y ≡ z
unfolding first_value
same_lease f y z a b e = some_lease y z (ap first_value e)

-- who is at home is no number of a seat
pub nobody_home : (l : Numbers) (w : ℕ) → l.upto ≤ 8 → holder_of w ≡ 255 → is_among l (holder_of w) ≡ false
nobody_home l w few is = not_true (is_among l (holder_of w)) (λ h. let k : holder_of w < 9 = has_small l (holder_of w) few h in omega arith)

pub not_due : flag.Empty ≡ flag.Due → ⊥
not_due e = cc e

pub not_done : flag.Empty ≡ flag.Done → ⊥
not_done e = cc e

-- what led to Empty or Clean was so
spare_back : (was now : Flag) → IsSpare now → IsReachedFrom was now → IsSpare was
spare_back was now spare = ⊎_elim
    (λ e. subst IsSpare (sym e) spare)
    (λ p. ⊎_elim (λ e. let k : code_of now ≡ 0 = ap code_of e in let a = p.0 in let b = p.1 in absurd (omega arith)) (λ e. let k : code_of now ≡ 1 = ap code_of e in let a = p.0 in let b = p.1 in absurd (omega arith)) spare)

-- the word w' is this one, put back with this flag
pub record IsPutAs (word : LockWord) (told : Flag) (w' : ℕ) : Type 0 where
  pub fields : unpacked w' ≡ put_as told word
  pub exact : packed (unpacked w') ≡ w'

-- where the word's flag is Empty or Clean, so is that of each entry up to its tag
older_flag : (workers : ℕ) (span : Range) (f w : ℕ) (home : Home) (g : PageFrame) → IsPageFrame workers span f w home g → IsSpare (flag_of w) → (n : ℕ) (e : Entry) → g.entries n ≡ Some e → IsSpare e.flag
older_flag workers span f w home g x spare n e is =
    let b = x.below n e is in
    dite (ℕ_discrete e.tag (tag_of w))
    (λ same. let o = x.owned in let q : o.0 ≡ e = some_entry o.0 e (sym o.1 ∙ ap g.entries (sym (b.1 same)) ∙ is) in
    subst IsSpare (ap (λ (z : Entry). z.flag) q) (spare_back o.0.flag (flag_of w) spare o.4))
    (λ ne. x.older n e is (let k = b.0 in omega arith))

module _ {workers : ℕ} {ranges : List Range} where
  pub puts_it : (n id : ℕ) (me : Seated) (f w' : ℕ) (o : Out) (y : Leased) (told : Flag) → f < n → me.0.hand ≡ Some f → me.1 ≡ (f, Some y) ∷ rest me.1 → IsSameLease o.lease y → out_at me.0.outs f ≡ Some o
      → o.word.holder ≡ o.word.owner → IsPutAs o.word told w' → MayPut o told y.bytes → Allows (IsLawful workers ranges) n id me f (λ _. w') (λ _. IsPut (step n f w' 0 none) me w')
  puts_it n id me f w' o y told lt hand holds same out mine re may s r wide at fits =
      let b : f < length s.words = subst (λ k. f < k) (sym wide ∙ r.sized) lt in
      let c : f < length s.homes = subst (λ k. f < k) (sym wide) lt in
      let a = away_of s r id me.0 f o at b out in
      let w = get_or s.words f 0 in let g = r.frames f in let v = me.0 in let x = r.each_view id v at in let fr = r.each_frame f b in
      let u = unpacked w' in let v' = record (put_back v f u y.bytes) { hand = None } in let new = entry_as f u y.bytes in
      let g' : PageFrame = record { entries = with_entry g.entries new; due = g.due; lease = y; carried = false } in
      let owner' : owner_of w' ≡ owner_of w = ap (λ (k : LockWord). k.owner) (re.fields ∙ ap (put_as told) a.word) in
      let tag' : tag_of w' ≡ tag_of w = ap (λ (k : LockWord). k.tag) (re.fields ∙ ap (put_as told) a.word) in
      let flag' : flag_of w' ≡ told = ap (λ (k : LockWord). k.flag) re.fields in
      let home : holder_of w' ≡ 255 = ap (λ (k : LockWord). k.holder) re.fields in
      let was : o.word.flag ≡ flag_of w = ap (λ (k : LockWord). k.flag) a.word in
      let held : holder_of w ≡ owner_of w = ap (λ (k : LockWord). k.holder) (sym a.word) ∙ mine ∙ ap (λ (k : LockWord). k.owner) a.word in
      let has : Has v (owner_of w') = ap (is_among v.numbers) (owner' ∙ sym held) ∙ a.has in
      let kept : y.bytes ≡ o.lease.bytes → g.lease.bytes ≡ y.bytes = λ e. ap (λ (z : Leased). z.bytes) (sym a.same) ∙ sym e in
      let few : v.numbers.upto ≤ 8 = let k = x.few in let m = r.few in omega arith in
      let home' : get_elem? (set s.homes f (some (Some y))) f ≡ some (some (Some y)) = set_here s.homes f (some (Some y)) c in
      let frame' : IsPageFrame workers (frame_range ranges f) f w' (get_elem? (set s.homes f (some (Some y))) f) g' = renewed workers (frame_range ranges f) f w w' (get_elem? s.homes f) (get_elem? (set s.homes f (some (Some y))) f) g y false fr
      re.exact (same.number ∙ ap (λ (z : Leased). z.number) a.same ∙ fr.number) (same.range ∙ ap (λ (z : Leased). z.range) a.same ∙ fr.range_is)
      (λ n e is ne. let q = fr.below n e is in (subst (λ z. e.tag ≤ z) (sym tag') q.0, (λ t. q.1 (t ∙ tag') ∙ sym owner'), λ l. fr.older n e is (subst (λ z. e.tag < z) tag' l)))
      (subst (λ z. z < workers) (sym owner') fr.worker)
      (λ p. let k = may.as_due (sym flag' ∙ p) in let d = fr.due (sym was ∙ k.0) in (d.0, d.1, d.2 ∙ sym tag', d.3 ∙ kept k.1))
      (λ p. let k = may.as_done (sym flag' ∙ p) in let d = fr.done (sym was ∙ k.0) in (d.0, d.1, d.2 ∙ sym tag', d.3 ∙ kept k.1, d.4))
      (λ _. (home', refl)) (λ no. absurd (no home)) in
      let own : OwnView v v' f w w' g g' = record {
        same = refl;
        staff = refl;
        began = refl;
        known = λ n h. entry_found v.entries new g.entries n (x.known n f h);
        known_else = λ n k ne. entry_past v.entries new n k ne;
        out = ap (λ z. cond z None (out_at v.outs f)) (self_eq f) ∙ sym (ap (λ z. cond z (Some (out_as u y)) None) (nobody_home v.numbers w' few home));
        out_else = λ k ne. ap (λ z. cond z None (out_at v.outs k)) (ne_eqb f k (λ e. ne (sym e)));
        foreign = λ n no. entry_foreign v.entries new n f (λ e. no (ap (is_among v.numbers) e ∙ has)) ∙ x.foreign n f no;
        foreign_due = x.foreign_due f;
        due = x.due f;
        due_else = λ k ne. refl;
        due_others = λ no. refl;
        word = λ whole k is. word_found v.words f u k is;
        word_else = λ k ne. word_past v.words f u k ne;
        hand = λ _. refl;
        hand_else = λ k ne. sym (ap (λ h. is_hand h k) hand ∙ ne_eqb f k (λ e. ne (sym e)));
        others = λ n no. updated-else g.entries (owner_of w') (Some new) n (λ e. no (ap (is_among v.numbers) e ∙ has));
      } in (
        v',
        gives,
        tt,
        subst (λ (h : List (maybe.Option (Option Leased))). IsLawful workers ranges (record { words = set s.words f w'; homes = h; views = set s.views id v' })) (sym (ap (table.put_back s.homes) holds))
            (keeps_at s r id v v' f w' (set s.homes f (some (Some y))) g' at b (length-set s.homes f (some (Some y))) (λ k ne. set_else s.homes f k (some (Some y)) ne) frame' own
            (inr ((λ n e. ⊎_elim (λ p. inr (ap (is_among v.numbers) p ∙ a.has)) (λ p. inl (p ∙ home)) e), (holder_of w, a.has)))),
        λ z is. (ap (λ (l : Leased). record (put_back v f u l.bytes) { hand = None }) (same_lease f y z (rest me.1) (rest me.1) (sym holds ∙ is)), refl, has),
      )

  pub steals_it : (n id : ℕ) (me : Seated) (f w w' number : ℕ) → f < n → me.0.hand ≡ None → CanBeStolen (unpacked w) → number < 8 → Has me.0 number → unpacked w' ≡ stolen_as number (unpacked w) → packed (unpacked w') ≡ w'
      → Allows (IsLawful workers ranges) n id me f (λ x. either (eqb x w) w' x) (IsSteal (step n f w w' none) me)
  steals_it n id me f w w' number lt idle free small has re exact s r wide at fits =
      let b : f < length s.words = subst (λ k. f < k) (sym wide ∙ r.sized) lt in
      let c : f < length s.homes = subst (λ k. f < k) (sym wide) lt in
      let x = get_or s.words f 0 in let v = me.0 in let g = r.frames f in let t = r.each_view id v at in
      let st = step n f w w' none in
      exchanged x w w' (λ z. (u : View) × (a : Act (Option Leased)) × Valid s.homes me.1 a × IsLawful workers ranges (stepped s f z id me.1 u a) × IsSteal st me x (u, carried_after me.1 a))
      (λ hit.
      let fr = subst (λ z. IsPageFrame workers (frame_range ranges f) f z (get_elem? s.homes f) g) hit (r.each_frame f b) in
      let y = g.lease in let here = fr.here free.home in
      let u = unpacked w' in let new = entry_as f u y.bytes in
      let v' = carrying (stolen_out v f (unpacked w) u y) f in
      let g' : PageFrame = record { entries = with_entry g.entries new; due = g.due; lease = y; carried = true } in
      let owner' : owner_of w' ≡ number = ap (λ (k : LockWord). k.owner) re in
      let holder' : holder_of w' ≡ number = ap (λ (k : LockWord). k.holder) re in
      let tag' : tag_of w' ≡ tag_of w + 1 = ap (λ (k : LockWord). k.tag) re in
      let flag' : flag_of w' ≡ flag.Empty = ap (λ (k : LockWord). k.flag) re in
      let hasw : Has v (owner_of w') = ap (is_among v.numbers) owner' ∙ has in
      let who : Has v (holder_of w') = ap (is_among v.numbers) holder' ∙ has in
      let out' : holder_of w' ≢ 255 = λ e. let q = holder' in omega arith in
      let worker' : owner_of w' < workers = let k = t.few in ⊎_elim (λ p. let l = p.1 in omega arith) (λ p. let l = p.0 in absurd (omega arith)) (among v.numbers number has) in
      let frame' : IsPageFrame workers (frame_range ranges f) f w' (get_elem? (set s.homes f none) f) g' = renewed workers (frame_range ranges f) f w w' (get_elem? s.homes f) (get_elem? (set s.homes f none) f) g y true fr exact fr.number fr.range_is
      (λ n e is ne. let q = (fr.below n e is).0 in (omega arith, (λ p. absurd (omega arith)), λ l. older_flag workers (frame_range ranges f) f w (get_elem? s.homes f) g fr free.spare n e is))
      worker' (λ p. absurd (not_due (sym flag' ∙ p))) (λ p. absurd (not_done (sym flag' ∙ p))) (λ q. absurd (out' q)) (λ _. (set_here s.homes f none c, inl (holder' ∙ sym owner'))) in
      let own : OwnView v v' f w w' g g' = record {
        same = refl;
        staff = refl;
        began = refl;
        known = λ n h. entry_found v.entries new g.entries n (t.known n f h);
        known_else = λ n k ne. entry_past v.entries new n k ne;
        out = ap (λ z. cond z (Some (out_as u y)) (out_at v.outs f)) (self_eq f) ∙ sym (out_is v.numbers w' y who);
        out_else = λ k ne. ap (λ z. cond z (Some (out_as u y)) (out_at v.outs k)) (ne_eqb f k (λ e. ne (sym e)));
        foreign = λ n no. entry_foreign v.entries new n f (λ e. no (ap (is_among v.numbers) e ∙ hasw)) ∙ t.foreign n f no;
        foreign_due = t.foreign_due f;
        due = t.due f;
        due_else = λ k ne. refl;
        due_others = λ no. refl;
        word = λ whole k is. word_found v.words f u k is;
        word_else = λ k ne. word_past v.words f u k ne;
        hand = λ _. sym (self_eq f);
        hand_else = λ k ne. ne_eqb f k (λ e. ne (sym e)) ∙ ap (λ h. is_hand h k) (sym idle);
        others = λ n no. updated-else g.entries (owner_of w') (Some new) n (λ e. no (ap (is_among v.numbers) e ∙ hasw));
      } in (
        v',
        takes f (Some y),
        here.0,
        keeps_at s r id v v' f w' (set s.homes f none) g' at b (length-set s.homes f none) (λ k ne. set_else s.homes f k none ne) frame'
            (subst (λ z. OwnView v v' f z w' g g') (sym hit) own)
            (inr ((λ n. ⊎_elim (λ e. inl (e ∙ ap holder_of hit ∙ free.home)) (λ e. inr (ap (is_among v.numbers) e ∙ who))), (holder_of w', who))),
        ((λ _. (y, record { carried = refl; number = fr.number; range_is = fr.range_is ∙ ap (λ ps. frame_range ps f) (sym (r.began id v at (holder_of w') who)) }, refl)), λ no. absurd (no hit)),
      ))
      (λ miss. (meets v f (unpacked x), keeps, tt, met_keeps s r id me f at b, ((λ hit. absurd (miss hit)), λ _. met_tells s r id me st at b)))
