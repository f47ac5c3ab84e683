-- The rule holds at the start.
use Rattle.std.proofs.Common.{◌≡◌, ℕ, zero, suc, ◌+◌, ◌<◌, ◌≤◌, ◌≢◌, ◌%◌, false, cond, eqb, eq-eqb, ne_eqb, List, [], ◌∷◌, map, length, get_or, sym, refl, ap, ◌∙◌, subst, inl, arith, Option, Some, None}
use Rattle.std.specs.Prelude.{◌&&◌}
use Rattle.std.proofs.lemmas.List.{length-map}
use Rattle.std.proofs.lemmas.Option.{slice_get-get_or}
use Rattle.std.proofs.Math.Nat.{mod-lt}
use mathlib.Core.Option.{some, some-injective, some-ne-none}
use mathlib.Core.Logic.{dite}
use native.Mathlib.Decide.{ℕ_discrete}
use lib.ListN.{get_elem?}
use Rattle.atomic_table.specs.Table.{opening}
use Rattle.pm_types.specs.declared.flag.Flag.TheVariants as flag
use Rattle.pm_region.specs.Lease.{Leased}
use Rattle.pm_locks.specs.Words.{LockWord}
use Rattle.pm_locks.specs.declared.view.View.{View}
use Rattle.pm_locks.specs.declared.view.Entry.{Entry}
use Rattle.pm_locks.specs.Views.{entry_at, word_at, Has, IsOwnAlone}
use Rattle.pm_locks.specs.Rule.{PageFrame, IsPageFrame, IsView, IsLawful, frame_range, nowhere, holder_of, owner_of, tag_of, flag_of}
use Rattle.pm_locks.specs.Steps.{entry_as}
use Rattle.pm_locks.specs.Opening.{first_word, first_entries, first_words, first_view, AreNumbered, AreFirst}
use Rattle.pm_locks.proofs.Numbering.{true_not_false, and_false, whole_has}
use Rattle.pm_locks.proofs.Keeping.{none_for}
use Rattle.pm_locks.proofs.Looks.{some_word}
use Rattle.pm_locks.proofs.Takes.{self_eq}
use Rattle.pm_locks.proofs.Puts.{not_due, not_done, some_entry, nobody_home}

-- no lease
abbrev pub no_lease : Leased
no_lease = record { number = 0; bytes = []; range = nowhere }

-- the lease of a frame
abbrev pub lease_at : List Leased → ℕ → Leased
lease_at leases f = get_or leases f no_lease

place_is : (leases : List Leased) (f : ℕ) → frame_range (map (λ y. y.range) leases) f ≡ (lease_at leases f).range
place_is [] zero = refl
place_is [] (suc f) = refl
place_is (y ∷ ys) zero = refl
place_is (y ∷ ys) (suc f) = place_is ys f

none_entry : (e : Entry) → None ≡ Some e → ⊥
none_entry e h = cc h

none_word : (w : LockWord) → None ≡ Some w → ⊥
none_word w h = cc h

module _ (k : ℕ) where
  skip : (y : Leased) (ys : List Leased) (g n f : ℕ) → g ≢ f → entry_at (first_entries k g (y ∷ ys)) n f ≡ entry_at (first_entries k (g + 1) ys) n f
  skip y ys g n f ne =
      let d = entry_as g (first_word k g) y.bytes in let rest' = entry_at (first_entries k (g + 1) ys) n f in
      ap (λ b. cond (eqb d.number n && b) (Some d) rest') (ne_eqb g f ne) ∙ ap (λ b. cond b (Some d) rest') (and_false (eqb d.number n))

  -- each entry is of the owner, with tag 0
  pub entry_is : (ys : List Leased) (g n f : ℕ) (e : Entry) → entry_at (first_entries k g ys) n f ≡ Some e → (e.tag ≡ 0) × (n ≡ f % k)
  entry_is [] g n f e h = absurd (none_entry e h)
  entry_is (y ∷ ys) g n f e h =
      let d = entry_as g (first_word k g) y.bytes in let rest' = entry_at (first_entries k (g + 1) ys) n f in
      dite (ℕ_discrete g f)
      (λ same. dite (ℕ_discrete d.number n)
      (λ mine. let q : d ≡ e = some_entry d e (sym (ap (λ b. cond (b && eqb g f) (Some d) rest') (eq-eqb d.number n mine) ∙ ap (λ b. cond b (Some d) rest') (eq-eqb g f same)) ∙ h) in
      (ap (λ (z : Entry). z.tag) (sym q), sym mine ∙ ap (λ z. z % k) same))
      (λ other. entry_is ys (g + 1) n f e (sym (ap (λ b. cond (b && eqb g f) (Some d) rest') (ne_eqb d.number n other)) ∙ h)))
      (λ past. entry_is ys (g + 1) n f e (sym (skip y ys g n f past) ∙ h))

  -- the owner's entry, and the lease in its slot
  present : (ys : List Leased) (g j f : ℕ) → j < length ys → f ≡ g + j
      → (get_elem? (map some (map Some ys)) j ≡ some (some (Some (lease_at ys j)))) × (entry_at (first_entries k g ys) (f % k) f ≡ Some (entry_as f (first_word k f) (lease_at ys j).bytes))
  present [] g j f lt is = absurd (omega arith)
  present (y ∷ ys) g zero f lt is =
      let same : g ≡ f = omega arith in
      let d = entry_as g (first_word k g) y.bytes in let rest' = entry_at (first_entries k (g + 1) ys) (g % k) g in (
        refl,
        subst (λ z. entry_at (first_entries k g (y ∷ ys)) (z % k) z ≡ Some (entry_as z (first_word k z) y.bytes)) same
            (ap (λ b. cond (b && eqb g g) (Some d) rest') (eq-eqb d.number (g % k) refl) ∙ ap (λ b. cond b (Some d) rest') (self_eq g)),
      )
  present (y ∷ ys) g (suc j) f lt is =
      let p = present ys (g + 1) j f (omega arith) (omega arith) in
      (p.0, skip y ys g (f % k) f (λ e. omega arith) ∙ p.1)

  word_is : (ys : List Leased) (g f : ℕ) (w : LockWord) → word_at (first_words k g ys) f ≡ Some w → first_word k f ≡ w
  word_is [] g f w h = absurd (none_word w h)
  word_is (y ∷ ys) g f w h =
      let rest' = word_at (first_words k (g + 1) ys) f in
      dite (ℕ_discrete g f)
      (λ same. ap (first_word k) (sym same) ∙ some_word (first_word k g) w (sym (ap (λ b. cond b (Some (first_word k g)) rest') (eq-eqb g f same)) ∙ h))
      (λ ne. word_is ys (g + 1) f w (sym (ap (λ b. cond b (Some (first_word k g)) rest') (ne_eqb g f ne)) ∙ h))

is_nothing : (o : Option Entry) → ((e : Entry) → o ≡ Some e → ⊥) → o ≡ None
is_nothing None h = refl
is_nothing (Some e) h = absurd (h e refl)

at_first : (u v : View) (j : ℕ) → get_elem? (v ∷ []) j ≡ some u → (j ≡ 0) × (v ≡ u)
at_first u v zero e = (refl, some-injective v u e)
at_first u v (suc j) e = absurd (some-ne-none u (sym e))

pub first_alone : (k : ℕ) (leases : List Leased) → 0 < k → IsOwnAlone (first_view k leases)
first_alone k leases pos = record {
  entries = λ n f no. is_nothing (entry_at (first_entries k 0 leases) n f) (λ d is. let q = (entry_is k leases 0 n f d is).1 in let small : f % k < k = mod-lt f pos in no (whole_has (first_view k leases) n refl (inl (omega arith))));
  dues = λ f no. refl;
}

pub opens : (k : ℕ) (words : List ℕ) (leases : List Leased) → 0 < k → k ≤ 8 → AreNumbered leases → AreFirst k (length leases) words → IsLawful k (map (λ y. y.range) leases) (opening words (map Some leases) (first_view k leases))
opens k words leases pos most numbered first =
    let frames : ℕ → PageFrame = λ f. record { entries = λ n. entry_at (first_entries k 0 leases) n f; due = None; lease = lease_at leases f; carried = false } in
    let v = first_view k leases in
    let alone = first_alone k leases pos in
    let below : (f : ℕ) → f < length words → f < length leases = λ f lt. subst (λ n. f < n) first.count lt in
    let frame : (f : ℕ) → f < length words → IsPageFrame k (frame_range (map (λ y. y.range) leases) f) f (get_or words f 0) (get_elem? (map some (map Some leases)) f) (frames f) = λ f lt.
    let lt' = below f lt in
    let w = get_or words f 0 in
    let p = present k leases 0 f f lt' (omega arith) in
    let is = (first.each f lt').fields in
    let owner : owner_of w ≡ f % k = ap (λ (u : LockWord). u.owner) is in
    let tag : tag_of w ≡ 0 = ap (λ (u : LockWord). u.tag) is in
    let empty : flag_of w ≡ flag.Empty = ap (λ (u : LockWord). u.flag) is in
    let home : holder_of w ≡ 255 = ap (λ (u : LockWord). u.holder) is in
    let small : f % k < k = mod-lt f pos in record {
      word = (first.each f lt').exact;
      number = numbered f (lease_at leases f) (slice_get-get_or leases f no_lease lt');
      range_is = sym (place_is leases f);
      here = λ _. (p.0, refl);
      away = λ no. absurd (no home);
      below = λ n d is'. let q = entry_is k leases 0 n f d is' in (let z = q.0 in omega arith, λ _. q.1 ∙ sym owner);
      worker = subst (λ z. z < k) (sym owner) small;
      older = λ n d is' l. absurd (omega arith);
      owned = (entry_as f (first_word k f) (lease_at leases f).bytes, ap (λ n. entry_at (first_entries k 0 leases) n f) owner ∙ p.1, sym tag, refl, inl (sym empty));
      due = λ e. absurd (not_due (sym empty ∙ e));
      done = λ e. absurd (not_done (sym empty ∙ e));
    } in
    let away : (f : ℕ) → f < length words → ¬ Has v (holder_of (get_or words f 0)) = λ f lt h. true_not_false (sym h ∙ nobody_home v.numbers (get_or words f 0) most (ap (λ (u : LockWord). u.holder) (first.each f (below f lt)).fields)) in
    let view : IsView k frames words (λ _. 0) 0 v = record {
      staff = λ n h. refl;
      few = omega arith;
      mine = λ n h. refl;
      known = λ n f h. refl;
      due = λ f h. refl;
      foreign = alone.entries;
      foreign_due = alone.dues;
      outs = λ f lt. sym (none_for v.numbers (get_or words f 0) (frames f).lease (away f lt));
      hand = λ f lt h. absurd (away f lt h);
      left = λ _ f w lt is. (first.each f (below f lt)).fields ∙ word_is k leases 0 f w is;
    } in record {
      frames = frames;
      seats = λ _. 0;
      few = most;
      sized = length-map (map Some leases) some ∙ length-map leases Some ∙ sym first.count;
      each_frame = frame;
      began = λ j u look n h. let t = at_first u v j look in ap (λ (z : View). map (λ (y : Leased). y.range) z.leases) (sym t.1);
      each_view = λ j u look. let t = at_first u v j look in subst (λ (p : ℕ × View). IsView k frames words (λ _. 0) p.0 p.1) (λ z. (sym t.0 z, t.1 z)) view;
      each_number = λ n which. (v, refl, whole_has v n refl which);
    }
