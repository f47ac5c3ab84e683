-- Lists of pages and frames in hand.
use Rattle.std.proofs.Common.{eqb-true, ◌≡◌, ◌≢◌, ℕ, Bool, true, false, List, [], ◌∷◌, ◌++◌, ◌⊎◌, ⊎_elim, inl, inr, cond, eqb, Option, Some, None, sym, refl, ap, ◌∙◌, eq-eqb, ne_eqb, arith, ◌+◌}
use Rattle.std.specs.Prelude.{slice_get, zero, suc}
use Rattle.pm_types.specs.declared.flag.Flag.{Flag}
use Rattle.pm_types.specs.declared.flag.Flag.TheVariants as flag
use Rattle.pm_locks.proofs.Pushing.{slice_get-pushed}
use Rattle.pm_stripe.specs.declared.held.Held.{Held}
use Rattle.pm_stripe.specs.Kept.{held_at, read_one, read_count, AreOnce, stays}
use Rattle.std.specs.Prelude.{IsTrue}

-- one more with another number
pub once_push : {X : Type 0} (key : X → ℕ) (xs : List X) (y : X) → AreOnce key xs → ((i : ℕ) (x : X) → slice_get xs i ≡ Some x → key x ≢ key y) → AreOnce key (xs ++ y ∷ [])
once_push key xs y was other = record {
  once = λ i j a b p q e.
      ⊎_elim
      (λ pa. ⊎_elim (λ qb. was.once i j a b pa qb e) (λ qb. absurd (other i a pa (e ∙ sym (ap key qb.1)))) (slice_get-pushed xs y b j q))
      (λ pa. ⊎_elim (λ qb. absurd (other j b qb (sym e ∙ sym (ap key pa.1)))) (λ qb. pa.0 ∙ sym qb.0) (slice_get-pushed xs y b j q))
      (slice_get-pushed xs y a i p);
}

-- the first, or else the second
abbrev pub or_else : Option Held → Option Held → Option Held
or_else (Some h) o = Some h
or_else None o = o

step : (b : Bool) (x : Held) (p q r : Option Held) → p ≡ or_else q r → cond b (Some x) p ≡ or_else (cond b (Some x) q) r
step true x p q r e = refl
step false x p q r e = e

-- a page that is put behind the others is found where none of them is
pub held_push : (hs : List Held) (h : Held) (id : ℕ) → held_at (hs ++ h ∷ []) id ≡ or_else (held_at hs id) (held_at (h ∷ []) id)
held_push [] h id = refl
held_push (x ∷ hs) h id = step (eqb x.page.0 id) x _ (held_at hs id) (held_at (h ∷ []) id) (held_push hs h id)

pub one_here : (h : Held) (id : ℕ) → h.page.0 ≡ id → held_at (h ∷ []) id ≡ Some h
one_here h id e = ap (λ b. cond b (Some h) None) (eq-eqb h.page.0 id e)

pub one_else : (h : Held) (id : ℕ) → h.page.0 ≢ id → held_at (h ∷ []) id ≡ None
one_else h id ne = ap (λ b. cond b (Some h) None) (ne_eqb h.page.0 id ne)

none_step : (x : Held) (id : ℕ) (o : Option Held) (b : Bool) → eqb x.page.0 id ≡ b → cond b (Some x) o ≡ None → (x.page.0 ≢ id) × (o ≡ None)
none_step x id o true t e = absurd (let bad : Some x ≡ None = e in cc bad)
none_step x id o false t e = ((λ same. let bad : true ≡ false = sym (eq-eqb x.page.0 id same) ∙ t in cc bad), e)

-- a page that isn't found is none of those in hand
pub none_named : (hs : List Held) (id i : ℕ) (h : Held) → held_at hs id ≡ None → slice_get hs i ≡ Some h → h.page.0 ≢ id
none_named [] id i h none is = absurd (cc is)
none_named (x ∷ hs) id zero h none is = let e : x ≡ h = cc is in λ same. (none_step x id (held_at hs id) (eqb x.page.0 id) refl none).0 (ap (λ (z : Held). z.page.0) e ∙ same)
none_named (x ∷ hs) id (suc i) h none is = none_named hs id i h (none_step x id (held_at hs id) (eqb x.page.0 id) refl none).1 is

-- a flag that isn't Empty stays, or is Clean
pub stays_or_clean : (f : Flag) → f ≢ flag.Empty → IsTrue (stays f) ⊎ (f ≡ flag.Clean)
stays_or_clean flag.Empty some = absurd (some refl)
stays_or_clean flag.Clean some = inr refl
stays_or_clean flag.Dirty some = inl refl
stays_or_clean flag.Due some = inl refl
stays_or_clean flag.Done some = inl refl

-- a page that is found stands somewhere, under its name
pub found_at : (hs : List Held) (id : ℕ) (h : Held) → held_at hs id ≡ Some h → (i : ℕ) × (slice_get hs i ≡ Some h) × (h.page.0 ≡ id)
found_at [] id h is = absurd (cc is)
found_at (x ∷ hs) id h is = found_by (λ e. found_at hs id h e) (eqb x.page.0 id) refl is
  where
    found_by : (held_at hs id ≡ Some h → (i : ℕ) × (slice_get hs i ≡ Some h) × (h.page.0 ≡ id)) → (b : Bool) → eqb x.page.0 id ≡ b → cond b (Some x) (held_at hs id) ≡ Some h → (i : ℕ) × (slice_get (x ∷ hs) i ≡ Some h) × (h.page.0 ≡ id)
    found_by further true t e = let same : x ≡ h = cc e in (zero, e, ap (λ (z : Held). z.page.0) (sym same) ∙ eqb-true x.page.0 id t)
    found_by further false t e = let y = further e in (suc y.0, y.1, y.2)

pub or_none : (o : Option Held) → or_else o None ≡ o
or_none None = refl
or_none (Some h) = refl

-- beside the page that is put behind the others nothing else is found
pub held_push_else : (hs : List Held) (h : Held) (id : ℕ) → h.page.0 ≢ id → held_at (hs ++ h ∷ []) id ≡ held_at hs id
held_push_else hs h id ne = held_push hs h id ∙ ap (or_else (held_at hs id)) (one_else h id ne) ∙ or_none (held_at hs id)

-- and it is, where no other has its name
pub held_push_here : (hs : List Held) (h : Held) (id : ℕ) → h.page.0 ≡ id → held_at hs id ≡ None → held_at (hs ++ h ∷ []) id ≡ Some h
held_push_here hs h id e none = held_push hs h id ∙ ap (λ o. or_else o (held_at (h ∷ []) id)) none ∙ one_here h id e

pub read_push : (hs : List Held) (h : Held) → read_count (hs ++ h ∷ []) ≡ read_count hs + read_one h.is_read
read_push [] h = omega arith
read_push (g ∷ hs) h = omega (arith, read_push hs h)
