-- The slot of a frame that is out, carried and given back between two accesses.
use Rattle.std.proofs.Common.{◌≡◌, ℕ, ◌<◌, ◌≤◌, ◌≢◌, Bool, true, false, cond, ne_eqb, List, ◌∷◌, length, get_or, set, sym, refl, ap, ◌∙◌, subst, inr, ⊎_elim, Option, Some, None, arith, length-set}
use mathlib.Core.Option.{some, none}
use mathlib.Core.Option as maybe
use lib.ListN.{get_elem?}
use Rattle.atomic_table.specs.Table.{State, step, takes, gives, put_back, rest, Allows}
use Rattle.atomic_table.proofs.Lists.{set_here, set_else}
use Rattle.pm_region.specs.Lease.{Range, Leased}
use Rattle.pm_locks.specs.Words.{unpacked}
use Rattle.pm_locks.specs.declared.view.Numbers.{Numbers}
use Rattle.pm_locks.specs.declared.view.View.{View}
use Rattle.pm_locks.specs.declared.view.Out.{Out}
use Rattle.pm_locks.specs.Views.{out_at, is_among, Has, is_hand}
use Rattle.pm_locks.specs.Rule.{PageFrame, IsLawful, out_for, vacant, frame_range, holder_of}
use Rattle.pm_locks.proofs.Numbering.{has_small}
use Rattle.pm_locks.proofs.Keeping.{keeps_at}
use Rattle.pm_locks.proofs.Takes.{self_eq, reheld}
use Rattle.pm_locks.specs.Steps.{out_as}
use Rattle.pm_locks.specs.Kinds.{Seated, IsSlotLeft, IsSlotCarried, carrying}

some_out : (a b : Out) → Some a ≡ Some b → a ≡ b
some_out a b e = cc e

pub none_some : (a : Out) → None ≡ Some a → ⊥
none_some a e = cc e

-- what a view says is out
pub out_read : (l : Numbers) (w : ℕ) (lease : Leased) (o : Out) → out_for l w lease ≡ Some o → (is_among l (holder_of w) ≡ true) × (o.word ≡ unpacked w) × (o.lease ≡ lease)
out_read l w lease o =
    let P : Bool → Type 0 = λ b. is_among l (holder_of w) ≡ b → cond b (Some (out_as (unpacked w) lease)) None ≡ Some o → (is_among l (holder_of w) ≡ true) × (o.word ≡ unpacked w) × (o.lease ≡ lease) in
    let all : (b : Bool) → P b = λ b. elim b as P [ true ↦ λ h e. let q = some_out (out_as (unpacked w) lease) o e in (h, ap (λ (x : Out). x.word) (sym q), ap (λ (x : Out). x.lease) (sym q)) | false ↦ λ h e. absurd (none_some o e) ] in all (is_among l (holder_of w)) refl

-- the frame with its slot carried or not
abbrev carried_as : PageFrame → Bool → PageFrame
carried_as g b = record g { carried = b }

module _ {workers : ℕ} {ranges : List Range} where
  -- a frame that a seat has out
  pub record Away (s : State (Option Leased) View) (r : IsLawful workers ranges s) (v : View) (f : ℕ) (o : Out) : Type 0 where
    pub has : Has v (holder_of (get_or s.words f 0))
    pub word : o.word ≡ unpacked (get_or s.words f 0)
    pub same : o.lease ≡ (r.frames f).lease
    pub not_home : holder_of (get_or s.words f 0) ≢ 255
    pub home : get_elem? s.homes f ≡ vacant (is_hand v.hand f)
    pub carried : (r.frames f).carried ≡ is_hand v.hand f

  pub away_of : (s : State (Option Leased) View) (r : IsLawful workers ranges s) (id : ℕ) (v : View) (f : ℕ) (o : Out) → get_elem? s.views id ≡ some v → f < length s.words → out_at v.outs f ≡ Some o → Away s r v f o
  away_of s r id v f o at lt out =
      let x = r.each_view id v at in let w = get_or s.words f 0 in let a = out_read v.numbers w (r.frames f).lease o (sym (x.outs f lt) ∙ out) in
      let few : v.numbers.upto ≤ 8 = let k = x.few in let m = r.few in omega arith in
      let small : holder_of w < 9 = has_small v.numbers (holder_of w) few a.0 in
      let no : holder_of w ≢ 255 = λ e. omega arith in let c = x.hand f lt a.0 in
      record { has = a.0; word = a.1; same = a.2; not_home = no; home = ((r.each_frame f lt).away no).0 ∙ ap vacant c; carried = c }

  moves : (s : State (Option Leased) View) (r : IsLawful workers ranges s) (id : ℕ) (v : View) (f : ℕ) (o : Out) (hand' : Option ℕ) (b : Bool) (x : maybe.Option (Option Leased)) → get_elem? s.views id ≡ some v → f < length s.words → out_at v.outs f ≡ Some o
      → some x ≡ vacant b → b ≡ is_hand hand' f → ((k : ℕ) → k ≢ f → is_hand hand' k ≡ is_hand v.hand k) → IsLawful workers ranges (record { words = set s.words f (get_or s.words f 0); homes = set s.homes f x; views = set s.views id (record v { hand = hand' }) })
  moves s r id v f o hand' b x at lt out is here there =
      let y = r.each_view id v at in let w = get_or s.words f 0 in let a = away_of s r id v f o at lt out in let g' = carried_as (r.frames f) b in
      let c : f < length s.homes = subst (λ k. f < k) (sym r.sized) lt in
      keeps_at s r id v (record v { hand = hand' }) f w (set s.homes f x) g' at lt (length-set s.homes f x) (λ k ne. set_else s.homes f k x ne)
      (reheld workers (frame_range ranges f) f w w (holder_of w) (get_elem? s.homes f) _ (r.frames f) g' (record { fields = refl; word = (r.each_frame f lt).word }) (r.each_frame f lt) refl refl refl a.not_home (set_here s.homes f x c ∙ is) ((r.each_frame f lt).away a.not_home).1)
      (record {
        same = refl;
        staff = refl;
        began = refl;
        known = λ n h. y.known n f h;
        known_else = λ n k ne. refl;
        out = y.outs f lt;
        out_else = λ k ne. refl;
        foreign = λ n no. y.foreign n f no;
        foreign_due = y.foreign_due f;
        due = y.due f;
        due_else = λ k ne. refl;
        due_others = λ no. refl;
        word = λ whole k is'. y.left whole f k lt is';
        word_else = λ k ne. refl;
        hand = λ _. here;
        hand_else = there;
        others = λ n no. refl;
      })
      (inr ((λ n e. inr (⊎_elim (λ p. subst (Has v) (sym p) a.has) (λ p. subst (Has v) (sym p) a.has) e)), (holder_of w, a.has)))

  pub leaves_it : (n id : ℕ) (me : Seated) (f : ℕ) (o : Out) → f < n → me.0.hand ≡ Some f → me.1 ≡ (f, None) ∷ rest me.1 → out_at me.0.outs f ≡ Some o → Allows (IsLawful workers ranges) n id me f (λ x. x) (IsSlotLeft (step n f 0 0 none) me)
  leaves_it n id me f o lt hand holds out s r wide at fits =
      let b : f < length s.words = subst (λ k. f < k) (sym wide ∙ r.sized) lt in (
        record me.0 { hand = None },
        gives,
        tt,
        subst (λ (h : List (maybe.Option (Option Leased))). IsLawful workers ranges (record { words = set s.words f (get_or s.words f 0); homes = h; views = set s.views id (record me.0 { hand = None }) })) (sym (ap (put_back s.homes) holds))
            (moves s r id me.0 f o None false (some None) at b out refl refl (λ k ne. sym (ap (λ h. is_hand h k) hand ∙ ne_eqb f k (λ e. ne (sym e))))),
        (refl, refl),
      )

  pub grabs_it : (n id : ℕ) (me : Seated) (f : ℕ) (o : Out) → f < n → me.0.hand ≡ None → out_at me.0.outs f ≡ Some o → Allows (IsLawful workers ranges) n id me f (λ x. x) (IsSlotCarried (step n f 0 0 none) me)
  grabs_it n id me f o lt hand out s r wide at fits =
      let b : f < length s.words = subst (λ k. f < k) (sym wide ∙ r.sized) lt in
      let a = away_of s r id me.0 f o at b out in (
        carrying me.0 f,
        takes f None,
        a.home ∙ ap (λ h. vacant (is_hand h f)) hand,
        moves s r id me.0 f o (Some f) true none at b out refl (sym (self_eq f)) (λ k ne. ne_eqb f k (λ e. ne (sym e)) ∙ sym (ap (λ h. is_hand h k) hand)),
        (refl, refl, (r.each_frame f b).word, λ p is. sym (away_of s r id me.0 f p at b is).word),
      )
