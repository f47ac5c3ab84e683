-- A frame is taken by its owner or the flusher: it has the same word under another holder.
use Rattle.std.proofs.Common.{◌≡◌, ℕ, ◌<◌, ◌≤◌, ◌≢◌, ◌⊎◌, true, cond, eqb, eq-eqb, ne_eqb, List, length, get_or, set, sym, refl, ap, ◌∙◌, subst, inl, inr, ⊎_elim, Option, Some, None, arith, length-set}
use mathlib.Core.Option.{some, none}
use prog.Atomic.{either}
use lib.ListN.{get_elem?}
use Rattle.atomic_table.specs.Table.{State, step, Act, takes, keeps, Valid, carried_after, stepped, Allows}
use Rattle.atomic_table.proofs.Lists.{set_here, set_else, exchanged}
use Rattle.pm_region.specs.Lease.{Range, Leased}
use Rattle.pm_locks.specs.Words.{LockWord, unpacked, packed, IsReachedFrom, held_by}
use Rattle.pm_locks.specs.declared.view.Entry.{Entry}
use Rattle.pm_locks.specs.declared.view.Due.{Due}
use Rattle.pm_locks.specs.declared.view.View.{View}
use Rattle.pm_locks.specs.Views.{out_at, is_among, Has, is_hand}
use Rattle.pm_locks.specs.Rule.{PageFrame, Home, IsPageFrame, IsLawful, HasImage, HasTakenImage, vacant, frame_range, flag_of, holder_of, owner_of, tag_of}
use Rattle.pm_locks.specs.Steps.{meets, taken_out, out_as}
use Rattle.pm_locks.specs.Kinds.{Seated, IsTake, carrying}
use Rattle.pm_locks.proofs.Keeping.{OwnView, keeps_at, out_is}
use Rattle.pm_locks.proofs.Looks.{met_keeps, met_tells, backed_of, word_found, word_past}

-- the word w' is w, under another holder
pub record IsHeldBy (w w' h : ℕ) : Type 0 where
  pub fields : unpacked w' ≡ held_by h (unpacked w)
  pub word : packed (unpacked w') ≡ w'

pub self_eq : (f : ℕ) → eqb f f ≡ true
self_eq f = eq-eqb f f refl

-- the frame with its slot out
abbrev pub lifted : PageFrame → PageFrame
lifted g = record g { carried = true }

-- a frame whose holder changes, as its slot does
pub reheld : (workers : ℕ) (span : Range) (f w w' h : ℕ) (home home' : Home) (g g' : PageFrame) → IsHeldBy w w' h → IsPageFrame workers span f w home g
    → g'.entries ≡ g.entries → g'.lease ≡ g.lease → g'.due ≡ g.due
    → (h ≢ 255) → (home' ≡ vacant g'.carried) → (h ≡ owner_of w) ⊎ (h ≡ 8) → IsPageFrame workers span f w' home' g'
reheld workers span f w w' h home home' g g' re x same lease' due' away is who =
    let holder : holder_of w' ≡ h = ap (λ (u : LockWord). u.holder) re.fields in
    let t : tag_of w' ≡ tag_of w = ap (λ (u : LockWord). u.tag) re.fields in
    let o : owner_of w' ≡ owner_of w = ap (λ (u : LockWord). u.owner) re.fields in
    let fl : flag_of w' ≡ flag_of w = ap (λ (u : LockWord). u.flag) re.fields in
    let was : (n : ℕ) (e : Entry) → g'.entries n ≡ Some e → g.entries n ≡ Some e = λ n e at. ap (λ (k : ℕ → Option Entry). k n) (sym same) ∙ at in record {
      word = re.word;
      number = ap (λ (y : Leased). y.number) lease' ∙ x.number;
      range_is = ap (λ (y : Leased). y.range) lease' ∙ x.range_is;
      here = λ e. absurd (away (sym holder ∙ e));
      away = λ _. (is, ⊎_elim (λ e. inl (holder ∙ e ∙ sym o)) (λ e. inr (holder ∙ e)) who);
      below = λ n e at. let b = x.below n e (was n e at) in (subst (λ z. e.tag ≤ z) (sym t) b.0, λ q. b.1 (q ∙ t) ∙ sym o);
      worker = subst (λ z. z < workers) (sym o) x.worker;
      older = λ n e at l. x.older n e (was n e at) (subst (λ z. e.tag < z) t l);
      owned = let y = x.owned in (y.0, ap (λ (k : ℕ → Option Entry). k (owner_of w')) same ∙ subst (λ z. g.entries z ≡ Some y.0) (sym o) y.1, y.2 ∙ sym t, y.3 ∙ sym (ap (λ (z : Leased). z.bytes) lease'), subst (IsReachedFrom y.0.flag) (sym fl) y.4);
      due = λ e. subst (λ (p : Option Due × ℕ × List ℕ). HasImage p.0 p.1 p.2) (λ i. (sym due' i, sym t i, (sym lease' i).bytes)) (x.due (sym fl ∙ e));
      done = λ e. subst (λ (p : Option Due × ℕ × List ℕ). HasTakenImage p.0 p.1 p.2) (λ i. (sym due' i, sym t i, (sym lease' i).bytes)) (x.done (sym fl ∙ e));
    }

module _ {workers : ℕ} {ranges : List Range} where
  -- the view of a seat that takes a frame
  pub takes_own : (s : State (Option Leased) View) (r : IsLawful workers ranges s) (id : ℕ) (v : View) (f w w' : ℕ) → get_elem? s.views id ≡ some v → f < length s.words → get_or s.words f 0 ≡ w
      → (lease : Leased) → lease ≡ (r.frames f).lease → v.hand ≡ None → Has v (holder_of w')
      → OwnView v (carrying (taken_out v f (unpacked w) (unpacked w') lease) f) f w w' (r.frames f) (lifted (r.frames f))
  takes_own s r id v f w w' at lt is lease body idle has = let x = r.each_view id v at in record {
    same = refl;
    staff = refl;
    began = refl;
    known = λ n h. x.known n f h;
    known_else = λ n k ne. refl;
    out = ap (λ b. cond b (Some (out_as (unpacked w') lease)) (out_at v.outs f)) (self_eq f) ∙ ap (λ b. Some (out_as (unpacked w') b)) body ∙ sym (out_is v.numbers w' (r.frames f).lease has);
    out_else = λ k ne. ap (λ b. cond b (Some (out_as (unpacked w') lease)) (out_at v.outs k)) (ne_eqb f k (λ e. ne (sym e)));
    foreign = λ n no. x.foreign n f no;
    foreign_due = x.foreign_due f;
    due = x.due f;
    due_else = λ k ne. refl;
    due_others = λ no. refl;
    word = λ whole k is'. word_found v.words f (unpacked w') k is';
    word_else = λ k ne. word_past v.words f (unpacked w') k ne;
    hand = λ _. sym (self_eq f);
    hand_else = λ k ne. ne_eqb f k (λ e. ne (sym e)) ∙ ap (λ h. is_hand h k) (sym idle);
    others = λ n no. refl;
  }

  -- the step of an exchange that takes a frame at home, for a holder h of the seat
  taken : (s : State (Option Leased) View) (r : IsLawful workers ranges s) (n id : ℕ) (me : Seated) (f w w' h : ℕ) → get_elem? s.views id ≡ some me.0 → f < length s.words
      → get_or s.words f 0 ≡ w → me.0.hand ≡ None → holder_of w ≡ 255 → is_among me.0.numbers h ≡ true → (h ≢ 255) → (h ≡ owner_of w) ⊎ (h ≡ 8) → IsHeldBy w w' h
      → IsLawful workers ranges (stepped s f w' id me.1 (carrying (taken_out me.0 f (unpacked w) (unpacked w') (r.frames f).lease) f) (takes f (Some (r.frames f).lease)))
  taken s r n id me f w w' h at lt hit idle home has out who re =
      let fr = subst (λ z. IsPageFrame workers (frame_range ranges f) f z (get_elem? s.homes f) (r.frames f)) hit (r.each_frame f lt) in
      let holder : holder_of w' ≡ h = ap (λ (u : LockWord). u.holder) re.fields in
      let has' : Has me.0 (holder_of w') = ap (is_among me.0.numbers) holder ∙ has in
      let c : f < length s.homes = subst (λ k. f < k) (sym r.sized) lt in
      let v' = carrying (taken_out me.0 f (unpacked w) (unpacked w') (r.frames f).lease) f in
      keeps_at s r id me.0 v' f w' (set s.homes f none) (lifted (r.frames f)) at lt (length-set s.homes f none) (λ k ne. set_else s.homes f k none ne)
      (reheld workers (frame_range ranges f) f w w' h (get_elem? s.homes f) _ (r.frames f) (lifted (r.frames f)) re fr refl refl refl out (set_here s.homes f none c) who)
      (subst (λ z. OwnView me.0 v' f z w' (r.frames f) (lifted (r.frames f))) (sym hit) (takes_own s r id me.0 f w w' at lt hit (r.frames f).lease refl idle has'))
      (inr ((λ k. ⊎_elim (λ e. inl (e ∙ ap holder_of hit ∙ home)) (λ e. inr (ap (is_among me.0.numbers) e ∙ has'))), (holder_of w', has')))

  pub takes_it : (n id : ℕ) (me : Seated) (f w w' h : ℕ) → f < n → me.0.hand ≡ None → holder_of w ≡ 255 → is_among me.0.numbers h ≡ true → (h ≡ owner_of w) ⊎ (h ≡ 8) → IsHeldBy w w' h
      → Allows (IsLawful workers ranges) n id me f (λ x. either (eqb x w) w' x) (IsTake (step n f w w' none) me)
  takes_it n id me f w w' h lt idle home has who re s r wide at fits =
      let b : f < length s.words = subst (λ k. f < k) (sym wide ∙ r.sized) lt in
      let x = get_or s.words f 0 in
      let st = step n f w w' none in
      exchanged x w w' (λ z. (v : View) × (a : Act (Option Leased)) × Valid s.homes me.1 a × IsLawful workers ranges (stepped s f z id me.1 v a) × IsTake st me x (v, carried_after me.1 a))
      (λ hit.
      let fr = subst (λ z. IsPageFrame workers (frame_range ranges f) f z (get_elem? s.homes f) (r.frames f)) hit (r.each_frame f b) in
      let y = (r.frames f).lease in
      let out : h ≢ 255 = λ e. let small = fr.worker in let few = r.few in ⊎_elim (λ p. omega arith) (λ p. omega arith) who in (
        carrying (taken_out me.0 f (unpacked w) (unpacked w') y) f,
        takes f (Some y),
        (fr.here home).0,
        taken s r n id me f w w' h at b hit idle home has out who re,
        ((λ _. (y, record { carried = refl; number = fr.number; range_is = fr.range_is ∙ ap (λ ps. frame_range ps f) (sym (r.began id me.0 at h has)) }, refl, backed_of s r id me.0 f w at b hit)), λ no. absurd (no hit)),
      ))
      (λ miss. (meets me.0 f (unpacked x), keeps, tt, met_keeps s r id me f at b, ((λ hit. absurd (miss hit)), λ _. met_tells s r id me st at b)))
