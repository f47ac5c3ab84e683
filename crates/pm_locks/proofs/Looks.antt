-- A step that only meets a word keeps the rule.
use Rattle.std.proofs.Common.{◌≡◌, ℕ, ◌<◌, ◌≢◌, List, ◌∷◌, length, get_or, sym, refl, ap, cond, eq-eqb, ne_eqb, ◌∙◌, subst, inl, inr, ⊎_elim, Option, Some, arith}
use mathlib.Core.Option.{some, none}
use mathlib.Core.Logic.{dite}
use native.Mathlib.Decide.{ℕ_discrete}
use lib.ListN.{get_elem?}
use Rattle.atomic_table.specs.Table.{State, step, keeps, stepped, Allows}
use Rattle.pm_region.specs.Lease.{Range, Leased}
use Rattle.pm_locks.specs.Words.{LockWord, unpacked}
use Rattle.pm_locks.specs.declared.view.View.{View}
use Rattle.pm_locks.specs.Rule.{IsPageFrame, IsLawful, frame_range, holder_of, owner_of}
use Rattle.pm_locks.specs.Steps.{meets, IsTold, IsBacked, out_as}
use Rattle.pm_locks.specs.Kinds.{Seated, TableStep, IsLook}
use Rattle.pm_locks.specs.Views.{word_at}
use Rattle.pm_locks.proofs.Keeping.{OwnView, keeps_at, out_is, none_for}
use Rattle.pm_locks.proofs.Numbering.{whole_has, has_small}

pub some_word : (a b : LockWord) → Some a ≡ Some b → a ≡ b
some_word a b e = cc e

-- the word that was left is found first
pub word_found : (ws : List (ℕ × LockWord)) (f : ℕ) (w k : LockWord) → word_at ((f, w) ∷ ws) f ≡ Some k → w ≡ k
word_found ws f w k is = some_word w k (sym (ap (λ b. cond b (Some w) (word_at ws f)) (eq-eqb f f refl)) ∙ is)

pub word_past : (ws : List (ℕ × LockWord)) (f : ℕ) (w : LockWord) (k : ℕ) → k ≢ f → word_at ((f, w) ∷ ws) k ≡ word_at ws k
word_past ws f w k ne = ap (λ b. cond b (Some w) (word_at ws k)) (ne_eqb f k (λ e. ne (sym e)))

module _ {workers : ℕ} {ranges : List Range} (s : State (Option Leased) View) (r : IsLawful workers ranges s) (id : ℕ) where
  pub backed_of : (v : View) (f w : ℕ) → get_elem? s.views id ≡ some v → f < length s.words → get_or s.words f 0 ≡ w → IsBacked v f (unpacked w) (r.frames f).lease.bytes
  backed_of v f w at lt is =
      let x = r.each_view id v at in
      let fr = subst (λ z. IsPageFrame workers (frame_range ranges f) f z (get_elem? s.homes f) (r.frames f)) is (r.each_frame f lt) in
      let o = fr.owned in record {
        last = λ has. record { entry = o.0; at = x.known (owner_of w) f has ∙ o.1; tag = o.2; same = o.3; flag = o.4; alone = λ n e h is'. (fr.below n e (sym (x.known n f h) ∙ is')).1 };
        due = λ has e. let d = fr.due e in (d.0, x.due f has ∙ d.1, d.2, d.3);
        done = λ has e. let d = fr.done e in (d.0, x.due f has ∙ d.1, d.2, d.3, d.4);
      }

  pub told_of : (v : View) (f : ℕ) → get_elem? s.views id ≡ some v → f < length s.words → IsTold v f (unpacked (get_or s.words f 0))
  told_of v f at lt =
      let x = r.each_view id v at in let w = get_or s.words f 0 in let fr = r.each_frame f lt in record {
        held = λ h. (out_as (unpacked w) (r.frames f).lease, x.outs f lt ∙ out_is v.numbers w (r.frames f).lease h, refl);
        exact = λ whole known is. x.left whole f known lt is;
        home = λ whole. dite (ℕ_discrete (holder_of w) 255) (λ e. inl e)
            (λ out. inr (whole_has v (holder_of w) whole (⊎_elim
            (λ e. inl (let staff = x.staff 8 (whole_has v 8 whole (inr refl)) in let k = fr.worker in omega arith))
            (λ e. inr e) (fr.away out).1)));
        inside = λ home. x.outs f lt ∙ none_for v.numbers w (r.frames f).lease (λ h.
            let small = has_small v.numbers (holder_of w) (let few = x.few in let eight = r.few in omega arith) h in omega arith);
        worker = λ n h. subst (λ k. owner_of w < k) (sym (x.staff n h)) fr.worker;
        dated = λ n e h is.
            let at : (r.frames f).entries n ≡ Some e = sym (x.known n f h) ∙ is in
            record { at_most = (fr.below n e at).0; owner = (fr.below n e at).1; older = fr.older n e at };
        bytes = (r.frames f).lease.bytes;
        backed = backed_of v f w at lt refl;
      }

  met_own : (v : View) (f : ℕ) → get_elem? s.views id ≡ some v → f < length s.words
      → OwnView v (meets v f (unpacked (get_or s.words f 0))) f (get_or s.words f 0) (get_or s.words f 0) (r.frames f) (r.frames f)
  met_own v f at lt = let x = r.each_view id v at in record {
    same = refl;
    staff = refl;
    began = refl;
    known = λ n h. x.known n f h;
    known_else = λ n k ne. refl;
    out = x.outs f lt;
    out_else = λ k ne. refl;
    foreign = λ n no. x.foreign n f no;
    foreign_due = x.foreign_due f;
    due = x.due f;
    due_else = λ k ne. refl;
    due_others = λ no. refl;
    word = λ whole k is. word_found v.words f (unpacked (get_or s.words f 0)) k is;
    word_else = λ k ne. word_past v.words f (unpacked (get_or s.words f 0)) k ne;
    hand = x.hand f lt;
    hand_else = λ k ne. refl;
    others = λ n no. refl;
  }

  pub met_keeps : (me : Seated) (f : ℕ) → get_elem? s.views id ≡ some me.0 → f < length s.words
      → IsLawful workers ranges (stepped s f (get_or s.words f 0) id me.1 (meets me.0 f (unpacked (get_or s.words f 0))) keeps)
  met_keeps me f at lt = keeps_at s r id me.0 (meets me.0 f (unpacked (get_or s.words f 0))) f (get_or s.words f 0) s.homes (r.frames f) at lt refl (λ k ne. refl) (r.each_frame f lt) (met_own me.0 f at lt) (inl (refl, refl, refl))

  pub met_tells : (me : Seated) (st : TableStep) → get_elem? s.views id ≡ some me.0 → st.word < length s.words → IsLook st me (get_or s.words st.word 0) (meets me.0 st.word (unpacked (get_or s.words st.word 0)), me.1)
  met_tells me st at lt = record { view = refl; carried = refl; word = (r.each_frame st.word lt).word; told = told_of me.0 st.word at lt }

module _ {workers : ℕ} {ranges : List Range} where
  pub loads : (n id : ℕ) (me : Seated) (f : ℕ) → f < n → Allows (IsLawful workers ranges) n id me f (λ w. w) (IsLook (step n f 0 0 none) me)
  loads n id me f lt s r wide at fits = let b : f < length s.words = subst (λ k. f < k) (sym wide ∙ r.sized) lt in
      (meets me.0 f (unpacked (get_or s.words f 0)), keeps, tt, met_keeps s r id me f at b, met_tells s r id me (step n f 0 0 none) at b)
