-- What a theft of a frame met, and what several met one after another.
use Rattle.std.proofs.Common.{◌≡◌, ℕ, zero, suc, true, false, List, [], ◌∷◌, ◌++◌, ◌⊎◌, ⊎_elim, inl, inr, length, Some, sym, refl, ap, subst, ◌∙◌, ◌+◌, ◌<◌, ◌≤◌, arith, append_assoc, append-nil}
use Rattle.std.specs.Prelude.{slice_get}
use Rattle.std.proofs.lemmas.Option.{slice_get_within}
use Rattle.pm_region.specs.Lease.{Leased}
use Rattle.pm_locks.specs.Words.{LockWord, CanBeStolen, stolen_as}
use Rattle.pm_locks.specs.declared.view.Met.{Met}
use Rattle.pm_locks.specs.declared.view.View.{View}
use Rattle.pm_locks.specs.declared.view.Numbers.{Numbers}
use Rattle.pm_locks.specs.Answers.{GotStolen, MetTwo}
use Rattle.pm_locks.specs.Sight.{LockTable}
use Rattle.pm_locks.specs.Steps.{met_as, IsMet, IsTold}
use Rattle.pm_locks.specs.Views.{is_among, word_at, Has}
use Rattle.pm_locks.proofs.Facts.{word_at-else}
use Rattle.pm_locks.proofs.Pushing.{slice_get-push, slice_get-front}
use Rattle.pm_stripe.specs.declared.held.Free.{Free}
use Rattle.pm_stripe.specs.declared.held.Held.{Held}
use Rattle.pm_stripe.specs.Kept.{Kept, IsInHand, Holds}
use Rattle.pm_stripe.specs.Met.{IsOtherBefore, IsRefused, EndsWithTheft, MeetsFrames, MeetsFrame, MeetsInOrder, last_of}
use Rattle.pm_stripe.specs.Steals.{AddsFrame}

-- the one, or one of the two
one_of : (m : Met) (i : ℕ) (x : Met) → slice_get (m ∷ []) i ≡ Some x → m ≡ x
one_of m zero x is = cc is
one_of m (suc i) x is = absurd (cc is)

two_of : (m n : Met) (i : ℕ) (x : Met) → slice_get (m ∷ n ∷ []) i ≡ Some x → (m ≡ x) ⊎ (n ≡ x)
two_of m n zero x is = inl (cc is)
two_of m n (suc i) x is = inr (one_of n i x is)

-- each is of the front or of what follows it
pub at_append : {X : Type 0} (xs ys : List X) (i : ℕ) (x : X) → slice_get (xs ++ ys) i ≡ Some x → (slice_get xs i ≡ Some x) ⊎ ((j : ℕ) × (slice_get ys j ≡ Some x))
at_append [] ys i x is = inr (i, is)
at_append (z ∷ zs) ys zero x is = inl is
at_append (z ∷ zs) ys (suc i) x is = at_append zs ys i x is

-- a frame in hand is so where more empty ones are
pub still_in : (held held' : List Held) (free free' more : List Free) (f : ℕ) → held' ≡ held → free' ≡ free ++ more → IsInHand held free f → IsInHand held' free' f
still_in held held' free free' more f same list is = ⊎_elim
    (λ p. inl (p.0, p.1, ap (λ hs. slice_get hs p.0) same ∙ p.2, p.3))
    (λ p. inr (p.0, p.1, ap (λ fs. slice_get fs p.0) list ∙ slice_get-front free more p.0 (slice_get_within free p.0 p.1 p.2) ∙ p.2, p.3))
    is

module _ (locks : LockTable) (k : Kept) (holds : Holds locks k) (f : ℕ) where
  abbrev v : View
  v = k.seat.view

  -- a word that is out at a number of the seat is of a frame in hand
  held_in : (word : LockWord) → IsTold v f word → Has v word.holder → IsInHand k.held k.free f
  held_in word told has = let x = told.held has in holds.apart.all f x.0 x.1

  -- a theft met the frame's word twice
  pub got_meets : (k' : Kept) (lease : Leased) (tag : ℕ) → GotStolen v k'.seat.view k.number f lease tag → AddsFrame k k' f → MeetsFrame k k' f true
  got_meets k' lease tag got added =
      let m = met_as f got.word in
      let new : IsInHand k'.held k'.free f = inr (length k.free, added.frame, ap (λ fs. slice_get fs (length k.free)) added.added ∙ slice_get-push k.free added.frame, added.is) in record {
        met = m ∷ m ∷ [];
        meets = record {
          added = ap (λ (u : View). u.met) got.view ∙ append_assoc v.met (m ∷ []) (m ∷ []);
          own = λ i x is has. subst (λ (y : Met). IsInHand k'.held k'.free y.frame) (⊎_elim (λ e. e) (λ e. e) (two_of m m i x is)) new;
        };
        some = omega arith;
        few = omega arith;
        all = λ i x is. ap (λ (y : Met). y.frame) (sym (⊎_elim (λ e. e) (λ e. e) (two_of m m i x is)));
        got = λ _. record { front = m ∷ []; word = got.word; is = refl; can = got.free };
        refused = λ no. absurd (let bad : true ≡ false = no in cc bad);
        numbers = ap (λ (u : View). u.numbers) got.view;
        words = λ g ne. ap (λ (u : View). word_at u.words g) got.view ∙ word_at-else ((f, got.word) ∷ v.words) f (stolen_as k.number got.word) g ne ∙ word_at-else v.words f got.word g ne;
      }

  module _ (k' : Kept) (held : k'.held ≡ k.held) (free : k'.free ≡ k.free) where
    here_still : (g : ℕ) → IsInHand k.held k.free g → IsInHand k'.held k'.free g
    here_still g is = subst (λ (p : List Held × List Free). IsInHand p.0 p.1 g) (λ i. (sym held i, sym free i)) is

    -- a theft was refused at the word that was looked at
    one_meets : (word : LockWord) → IsMet v k'.seat.view f word → (CanBeStolen word → ⊥) → MeetsFrame k k' f false
    one_meets word met not =
        let m = met_as f word in record {
          met = m ∷ [];
          meets = record {
            added = ap (λ (u : View). u.met) met.view;
            own = λ i x is has.
                let e = one_of m i x is in
                subst (λ (y : Met). IsInHand k'.held k'.free y.frame) e (here_still f (held_in word met.told (ap (λ (y : Met). is_among v.numbers y.word.holder) e ∙ has)));
          };
          some = omega arith;
          few = omega arith;
          all = λ i x is. ap (λ (y : Met). y.frame) (sym (one_of m i x is));
          got = λ yes. absurd (let bad : false ≡ true = yes in cc bad);
          refused = λ _. record { front = []; word = word; back = []; is = refl; why = inl not };
          numbers = ap (λ (u : View). u.numbers) met.view;
          words = λ g ne. ap (λ (u : View). word_at u.words g) met.view ∙ word_at-else v.words f word g ne;
        }

    -- or at another one after it
    two_meets : (word : LockWord) → MetTwo v k'.seat.view f word → MeetsFrame k k' f false
    two_meets word two =
        let m = met_as f two.before in
        let n = met_as f word in record {
          met = m ∷ n ∷ [];
          meets = record {
            added = ap (λ (u : View). u.met) two.last.view ∙ append_assoc v.met (m ∷ []) (n ∷ []);
            own = λ i x is has. ⊎_elim
                (λ e. subst (λ (y : Met). IsInHand k'.held k'.free y.frame) e (here_still f (held_in two.before two.first (ap (λ (y : Met). is_among v.numbers y.word.holder) e ∙ has))))
                (λ e.
                let told = two.last.told.held (ap (λ (y : Met). is_among v.numbers y.word.holder) e ∙ has) in
                subst (λ (y : Met). IsInHand k'.held k'.free y.frame) e (here_still f (holds.apart.all f told.0 told.1)))
                (two_of m n i x is);
          };
          some = omega arith;
          few = omega arith;
          all = λ i x is. ⊎_elim (λ e. ap (λ (y : Met). y.frame) (sym e)) (λ e. ap (λ (y : Met). y.frame) (sym e)) (two_of m n i x is);
          got = λ yes. absurd (let bad : false ≡ true = yes in cc bad);
          refused = λ _. record { front = m ∷ []; word = word; back = []; is = refl; why = inr (record { before = two.before; rest = []; is = refl; differs = two.differs }) };
          numbers = ap (λ (u : View). u.numbers) two.last.view;
          words = λ g ne. ap (λ (u : View). word_at u.words g) two.last.view ∙ word_at-else ((f, two.before) ∷ v.words) f word g ne ∙ word_at-else v.words f two.before g ne;
        }

    pub not_meets : (word : LockWord) → (IsMet v k'.seat.view f word × ¬ CanBeStolen word) ⊎ MetTwo v k'.seat.view f word → MeetsFrame k k' f false
    not_meets word met = ⊎_elim (λ a. one_meets word a.0 a.1) (two_meets word) met

-- what was refused is so whatever was met before and after it
pub refused_before : (front back : List Met) (f : ℕ) → IsRefused front f → IsRefused (front ++ back) f
refused_before front back f r = record {
  front = r.front;
  word = r.word;
  back = r.back ++ back;
  is = ap (λ l. l ++ back) r.is ∙ append_assoc r.front (met_as f r.word ∷ r.back) back;
  why = r.why;
}

pub refused_after : (front back : List Met) (f : ℕ) → IsRefused back f → IsRefused (front ++ back) f
refused_after front back f r = record {
  front = front ++ r.front;
  word = r.word;
  back = r.back;
  is = ap (λ l. front ++ l) r.is ∙ sym (append_assoc front r.front (met_as f r.word ∷ r.back));
  why = ⊎_elim
      (λ no. inl no)
      (λ (o : IsOtherBefore r.front f r.word). inr (record {
        before = o.before;
        rest = front ++ o.rest;
        is = ap (λ l. front ++ l) o.is ∙ sym (append_assoc front o.rest (met_as f o.before ∷ []));
        differs = o.differs;
      }))
      r.why;
}

-- and so does a theft that came last
pub theft_after : (front back : List Met) (f : ℕ) → EndsWithTheft back f → EndsWithTheft (front ++ back) f
theft_after front back f e = record {
  front = front ++ e.front;
  word = e.word;
  is = ap (λ l. front ++ l) e.is ∙ sym (append_assoc front e.front (met_as f e.word ∷ []));
  can = e.can;
}

-- one call after another
pub meets_then : (k k₁ k₂ : Kept) (met₁ met₂ : List Met) (more : List Free) → k₁.seat.view.numbers ≡ k.seat.view.numbers → k₂.held ≡ k₁.held → k₂.free ≡ k₁.free ++ more
    → MeetsFrames k k₁ met₁ → MeetsFrames k₁ k₂ met₂ → MeetsFrames k k₂ (met₁ ++ met₂)
meets_then k k₁ k₂ met₁ met₂ more numbers held free x y = record {
  added = y.added ∙ ap (λ l. l ++ met₂) x.added ∙ append_assoc k.seat.view.met met₁ met₂;
  own = λ i m is has. ⊎_elim
      (λ old. still_in k₁.held k₂.held k₁.free k₂.free more m.frame held free (x.own i m old has))
      (λ new. y.own new.0 m new.1 (ap (λ (l : Numbers). is_among l m.word.holder) numbers ∙ has))
      (at_append met₁ met₂ i m is);
}

pub meets_none : (k : Kept) → MeetsFrames k k []
meets_none k = record { added = sym (append-nil k.seat.view.met); own = λ i m is has. absurd (cc is) }

-- the last entry is one of them
last_at : (met : List Met) (m : Met) → last_of met ≡ Some m → (i : ℕ) × (slice_get met i ≡ Some m)
last_at [] m is = absurd (cc is)
last_at (x ∷ []) m is = (0, is)
last_at (x ∷ y ∷ ys) m is = let z = last_at (y ∷ ys) m is in (suc z.0, z.1)

pub front_nil : (us vs : List Met) → us ++ vs ≡ [] → us ≡ []
front_nil [] vs nil = refl
front_nil (u ∷ us) vs nil = absurd (cc nil)

pub back_nil : (us vs : List Met) → us ++ vs ≡ [] → vs ≡ []
back_nil [] vs nil = nil
back_nil (u ∷ us) vs nil = absurd (cc nil)

pub last_append : (xs : List Met) (y : Met) (ys : List Met) → last_of (xs ++ y ∷ ys) ≡ last_of (y ∷ ys)
last_append [] y ys = refl
last_append (x ∷ []) y ys = refl
last_append (x ∷ z ∷ zs) y ys = last_append (z ∷ zs) y ys

-- nothing was tried, one frame was, and others after some
pub order_none : (f : ℕ) → MeetsInOrder [] f f
order_none f = record { first = λ m is. absurd (cc is); last = λ m is. absurd (cc is); none = λ _. refl; idle = λ _. refl }

pub order_one : (met : List Met) (f : ℕ) → 0 < length met → ((i : ℕ) (m : Met) → slice_get met i ≡ Some m → m.frame ≡ f) → MeetsInOrder met f (f + 1)
order_one met f some all = record {
  first = λ m is. all 0 m is;
  last = λ m is. let x = last_at met m is in omega (arith, all x.0 m x.1);
  none = λ nil. absurd (omega (arith, some, ap length nil));
  idle = λ e. absurd (omega (arith, e));
}

pub order_then : (xs ys : List Met) (a b c : ℕ) → a ≤ b → b ≤ c → MeetsInOrder xs a b → MeetsInOrder ys b c → MeetsInOrder (xs ++ ys) a c
order_then xs ys a b c ab bc x y = record {
  first = first_by xs refl;
  last = last_by ys refl;
  none = λ nil. y.none (back_nil xs ys nil) ∙ x.none (front_nil xs ys nil);
  idle = λ e.
      let one = x.idle (omega (arith, e, ab, bc)) in
      let two = y.idle (omega (arith, e, ab, bc)) in
      (λ i. one i ++ two i);
}
  where
    first_by : (us : List Met) → xs ≡ us → (m : Met) → slice_get (xs ++ ys) 0 ≡ Some m → m.frame ≡ a
    first_by [] nil m is = y.first m (ap (λ us. slice_get (us ++ ys) 0) (sym nil) ∙ is) ∙ x.none nil
    first_by (u ∷ us) some m is = x.first m (ap (λ vs. slice_get vs 0) some ∙ sym (ap (λ vs. slice_get (vs ++ ys) 0) some) ∙ is)

    last_by : (vs : List Met) → ys ≡ vs → (m : Met) → last_of (xs ++ ys) ≡ Some m → m.frame + 1 ≡ c
    last_by [] nil m is = x.last m (ap last_of (sym (append-nil xs)) ∙ ap (λ vs. last_of (xs ++ vs)) (sym nil) ∙ is) ∙ sym (y.none nil)
    last_by (v ∷ vs) some m is = y.last m (ap last_of some ∙ sym (last_append xs v vs) ∙ ap (λ us. last_of (xs ++ us)) (sym some) ∙ is)
