-- The flusher puts a frame back: its bytes are then its image of the frame.
use Rattle.std.proofs.Common.{◌≡◌, ℕ, ◌<◌, ◌≤◌, false, cond, ne_eqb, List, ◌∷◌, length, get_or, set, sym, refl, ap, ◌∙◌, subst, inl, inr, ⊎_elim, Option, Some, None, arith, length-set}
use mathlib.Core.Option.{some, none}
use mathlib.Core.Option as maybe
use lib.ListN.{get_elem?}
use Rattle.atomic_table.specs.Table.{State, step, gives, rest, Allows}
use Rattle.atomic_table.specs.Table as table
use Rattle.atomic_table.proofs.Lists.{set_here, set_else}
use Rattle.pm_types.specs.declared.flag.Flag.{Flag}
use Rattle.pm_region.specs.Lease.{Range, Leased}
use Rattle.pm_locks.specs.Words.{LockWord, code_of, unpacked, IsReachedFrom, IsNext, put_as}
use Rattle.pm_locks.specs.declared.view.Out.{Out}
use Rattle.pm_locks.specs.Views.{out_at, due_at, is_among, Has, is_hand}
use Rattle.pm_locks.specs.Rule.{PageFrame, IsPageFrame, IsLawful, frame_range, flag_of, holder_of, owner_of, tag_of}
use Rattle.pm_locks.proofs.Keeping.{OwnView, keeps_at}
use Rattle.pm_locks.proofs.Takes.{self_eq}
use Rattle.pm_locks.proofs.Hands.{away_of}
use Rattle.pm_locks.proofs.Looks.{word_found, word_past}
use Rattle.pm_locks.proofs.Puts.{IsPutAs, same_lease, nobody_home}
use Rattle.pm_locks.specs.Steps.{flushed_back, due_as, is_done, out_as}
use Rattle.pm_locks.specs.Kinds.{Seated, IsFlushPut}

-- what led to Dirty or Due leads to the flag after
reached : (was now told : Flag) → IsNext now told → IsReachedFrom was now → IsReachedFrom was told
reached was now told next =
    let steps : (2 ≤ code_of now) × (code_of now ≤ code_of told) = ⊎_elim
    (λ p. let a : code_of now ≡ 2 = ap code_of p.0 in let b : code_of told ≡ 3 = ap code_of p.1 in (omega arith, omega arith))
    (λ p. let a : code_of now ≡ 3 = ap code_of p.0 in let b : code_of told ≡ 4 = ap code_of p.1 in (omega arith, omega arith)) next in
    ⊎_elim
    (λ e. let k : code_of was ≡ code_of now = ap code_of e in let a = steps.0 in let b = steps.1 in inr (omega arith, omega arith))
    (λ p. let a = p.0 in let b = p.1 in let d = steps.1 in inr (a, omega arith))

module _ {workers : ℕ} {ranges : List Range} where
  pub flushes_it : (n id : ℕ) (me : Seated) (f w' : ℕ) (o : Out) (y : Leased) (told : Flag) → f < n → me.0.hand ≡ Some f → me.1 ≡ (f, Some y) ∷ rest me.1 → out_at me.0.outs f ≡ Some o
      → o.word.holder ≡ 8 → IsPutAs o.word told w' → y ≡ o.lease → IsNext o.word.flag told → Allows (IsLawful workers ranges) n id me f (λ _. w') (λ _. IsFlushPut (step n f w' 0 none) me w')
  flushes_it n id me f w' o y told lt hand holds out lent' re kept next s r wide at fits =
      let b : f < length s.words = subst (λ k. f < k) (sym wide ∙ r.sized) lt in
      let c : f < length s.homes = subst (λ k. f < k) (sym wide) lt in
      let a = away_of s r id me.0 f o at b out in
      let w = get_or s.words f 0 in let g = r.frames f in let v = me.0 in let x = r.each_view id v at in let fr = r.each_frame f b in
      let u = unpacked w' in let d = due_as u y.bytes in let v' = record (flushed_back v f u y.bytes) { hand = None } in
      let g' : PageFrame = record { entries = g.entries; due = Some d; lease = y; carried = false } in
      let same : y ≡ g.lease = kept ∙ a.same in
      let owner' : owner_of w' ≡ owner_of w = ap (λ (k : LockWord). k.owner) (re.fields ∙ ap (put_as told) a.word) in
      let tag' : tag_of w' ≡ tag_of w = ap (λ (k : LockWord). k.tag) (re.fields ∙ ap (put_as told) a.word) in
      let flag' : flag_of w' ≡ told = ap (λ (k : LockWord). k.flag) re.fields in
      let home : holder_of w' ≡ 255 = ap (λ (k : LockWord). k.holder) re.fields in
      let was : o.word.flag ≡ flag_of w = ap (λ (k : LockWord). k.flag) a.word in
      let has : Has v 8 = ap (is_among v.numbers) (sym (ap (λ (k : LockWord). k.holder) (sym a.word) ∙ lent')) ∙ a.has in
      let few : v.numbers.upto ≤ 8 = let k = x.few in let m = r.few in omega arith in
      let next' : IsNext (flag_of w) (flag_of w') = subst (λ (p : Flag × Flag). IsNext p.0 p.1) (λ i. (was i, sym flag' i)) next in
      let home' : get_elem? (set s.homes f (some (Some y))) f ≡ some (some (Some y)) = set_here s.homes f (some (Some y)) c in
      let frame' : IsPageFrame workers (frame_range ranges f) f w' (get_elem? (set s.homes f (some (Some y))) f) g' = record {
        word = re.exact;
        number = ap (λ (z : Leased). z.number) same ∙ fr.number;
        range_is = ap (λ (z : Leased). z.range) same ∙ fr.range_is;
        here = λ _. (home', refl);
        away = λ no. absurd (no home);
        below = λ n e is. let q = fr.below n e is in (subst (λ z. e.tag ≤ z) (sym tag') q.0, λ t. q.1 (t ∙ tag') ∙ sym owner');
        worker = subst (λ z. z < workers) (sym owner') fr.worker;
        older = λ n e is l. fr.older n e is (subst (λ z. e.tag < z) tag' l);
        owned = let q = fr.owned in (q.0, subst (λ z. g.entries z ≡ Some q.0) (sym owner') q.1, q.2 ∙ sym tag', q.3 ∙ sym (ap (λ (z : Leased). z.bytes) same), reached q.0.flag (flag_of w) (flag_of w') next' q.4);
        due = λ _. (d, refl, refl, refl);
        done = λ four. (d, refl, refl, refl, ap is_done four);
      } in
      let own : OwnView v v' f w w' g g' = record {
        same = refl;
        staff = refl;
        began = refl;
        known = λ n h. x.known n f h;
        known_else = λ n k ne. refl;
        out = ap (λ z. cond z None (out_at v.outs f)) (self_eq f) ∙ sym (ap (λ z. cond z (Some (out_as u y)) None) (nobody_home v.numbers w' few home));
        out_else = λ k ne. ap (λ z. cond z None (out_at v.outs k)) (ne_eqb f k (λ e. ne (sym e)));
        foreign = λ n no. x.foreign n f no;
        foreign_due = λ no. absurd (no has);
        due = λ _. ap (λ z. cond z (Some d) (due_at v.dues f)) (self_eq f);
        due_else = λ k ne. ap (λ z. cond z (Some d) (due_at v.dues k)) (ne_eqb f k (λ e. ne (sym e)));
        due_others = λ no. absurd (no has);
        word = λ whole k is. word_found v.words f u k is;
        word_else = λ k ne. word_past v.words f u k ne;
        hand = λ _. refl;
        hand_else = λ k ne. sym (ap (λ h. is_hand h k) hand ∙ ne_eqb f k (λ e. ne (sym e)));
        others = λ n no. refl;
      } in (
        v',
        gives,
        tt,
        subst (λ (h : List (maybe.Option (Option Leased))). IsLawful workers ranges (record { words = set s.words f w'; homes = h; views = set s.views id v' })) (sym (ap (table.put_back s.homes) holds))
            (keeps_at s r id v v' f w' (set s.homes f (some (Some y))) g' at b (length-set s.homes f (some (Some y))) (λ k ne. set_else s.homes f k (some (Some y)) ne) frame' own
            (inr ((λ n e. ⊎_elim (λ p. inr (ap (is_among v.numbers) p ∙ a.has)) (λ p. inl (p ∙ home)) e), (holder_of w, a.has)))),
        λ z is. (ap (λ (l : Leased). record (flushed_back v f u l.bytes) { hand = None }) (same_lease f y z (rest me.1) (rest me.1) (sym holds ∙ is)), refl, has),
      )
