-- Frames are tried one after another.
use Rattle.std.proofs.Common.{◌≡◌, ◌≢◌, ℕ, zero, suc, ◌+◌, ◌<◌, ◌≤◌, Bool, true, false, List, [], ◌∷◌, ◌++◌, ◌⊎◌, ⊎_elim, inl, inr, length, Some, None, sym, refl, ap, subst, ◌∙◌, ◌-◌, arith, append_assoc, append-nil, length-append, eq-eqb, ne_eqb}
use Rattle.std.specs.Prelude.{if◌then◌else◌, ◌↔◌, ◌==◌, ◌&&◌, nat_lt, slice_get}
use Rattle.std.proofs.lemmas.Bool.{cases_eq, cases_lt, lt-ltb, ltb-true, eqb-true}
use Rattle.pm_types.specs.declared.limits.TheConstants.{OP_PAGES}
use Rattle.pm_types.specs.declared.flag.Flag.{Flag}
use Rattle.pm_types.specs.declared.flag.Flag.TheVariants as flag
use Rattle.pm_locks.specs.Words.{LockWord, AT_HOME, TAG_LAST, IsSpare, CanBeStolen}
use Rattle.pm_locks.specs.declared.view.Met.{Met}
use Rattle.pm_locks.specs.declared.view.View.{View}
use Rattle.pm_locks.specs.Views.{known_at, word_at, word_or}
use Rattle.pm_locks.specs.Sight.{LockTable, IsFrameOf, KnowsAll}
use Rattle.pm_locks.proofs.Pushing.{slice_get-push}
use Rattle.pm_stripe.specs.Kept.{Kept, KeepsPages, Holds, IsInHand}
use Rattle.pm_stripe.specs.declared.held.Free.{Free}
use Rattle.pm_stripe.specs.Met.{IsRefused, EndsWithTheft, MeetsFrame, GoesOn, last_of, start_of}
use Rattle.pm_stripe.specs.Sights.{KeepsSight}
use Rattle.pm_stripe.specs.SightLaws.{sight_refl, sight_then}
use Rattle.pm_stripe.specs.Steals.{StealsFrame, IsExactly}
use Rattle.pm_stripe.specs.Sweeps.{is_spare, is_stealable, one_if, stealable, entries_of, EndsWithLast, GathersFrames, TriesFrames, TriesRange, SweepsFrames}
use Rattle.pm_stripe.proofs.MetFrames.{still_in, refused_before, refused_after, theft_after, meets_then, meets_none, order_none, order_one, order_then, last_append, front_nil, back_nil}

-- a word that can be stolen is counted
spare_is : (f : Flag) → IsSpare f → is_spare f ≡ true
spare_is flag.Empty spare = refl
spare_is flag.Clean spare = refl
spare_is flag.Dirty spare = absurd (⊎_elim (λ e. let z : flag.Dirty ≡ flag.Empty = e in cc z) (λ e. let z : flag.Dirty ≡ flag.Clean = e in cc z) spare)
spare_is flag.Due spare = absurd (⊎_elim (λ e. let z : flag.Due ≡ flag.Empty = e in cc z) (λ e. let z : flag.Due ≡ flag.Clean = e in cc z) spare)
spare_is flag.Done spare = absurd (⊎_elim (λ e. let z : flag.Done ≡ flag.Empty = e in cc z) (λ e. let z : flag.Done ≡ flag.Clean = e in cc z) spare)

spare_by : (f : Flag) → is_spare f ≡ true → IsSpare f
spare_by flag.Empty is = inl refl
spare_by flag.Clean is = inr refl
spare_by flag.Dirty is = absurd (cc is)
spare_by flag.Due is = absurd (cc is)
spare_by flag.Done is = absurd (cc is)

counted_if : (word : LockWord) → CanBeStolen word → is_stealable word ≡ true
counted_if word can = simp (eq-eqb word.holder AT_HOME can.home, spare_is word.flag can.spare, lt-ltb word.tag TAG_LAST can.below) refl

each_true : (a b c : Bool) → (a && b && c) ≡ true → (a ≡ true) × (b ≡ true) × (c ≡ true)
each_true true true true is = (refl, refl, refl)
each_true true true false is = absurd (cc is)
each_true true false c is = absurd (cc is)
each_true false b c is = absurd (cc is)

not_counted : (word : LockWord) → (CanBeStolen word → ⊥) → is_stealable word ≡ false
not_counted word not = by_value (is_stealable word) refl
  where
    by_value : (b : Bool) → is_stealable word ≡ b → is_stealable word ≡ false
    by_value false is = is
    by_value true is =
        let x = each_true (word.holder == AT_HOME) (is_spare word.flag) (nat_lt word.tag TAG_LAST) is in
        absurd (not (record { home = eqb-true word.holder AT_HOME x.0; spare = spare_by word.flag x.1; below = ltb-true word.tag TAG_LAST x.2 }))

-- by the same words as many are counted
pub same_low : (v v' : View) (n : ℕ) → ((f : ℕ) → f < n → word_at v'.words f ≡ word_at v.words f) → stealable v' n ≡ stealable v n
same_low v v' zero same = refl
same_low v v' (suc n) same =
    let here : one_if (is_stealable (known_at v' n)) ≡ one_if (is_stealable (known_at v n)) = ap (λ o. one_if (is_stealable (word_or o))) (same n (omega arith)) in
    let rest = same_low v v' n (λ f lt. same f (omega (arith, lt))) in
    (λ i. here i + rest i)

same_high : (v v' : View) (b n : ℕ) → ((f : ℕ) → b ≤ f → word_at v'.words f ≡ word_at v.words f) → stealable v' (b + n) + stealable v b ≡ stealable v (b + n) + stealable v' b
same_high v v' b zero same = let e : b ≡ b + 0 = omega arith in subst (λ n. stealable v' n + stealable v b ≡ stealable v n + stealable v' b) e (omega arith)
same_high v v' b (suc n) same =
    let here : one_if (is_stealable (known_at v' (b + n))) ≡ one_if (is_stealable (known_at v (b + n))) = ap (λ o. one_if (is_stealable (word_or o))) (same (b + n) (omega arith)) in
    let rest = same_high v v' b n same in
    let e : suc (b + n) ≡ b + suc n = omega arith in
    subst (λ m. stealable v' m + stealable v b ≡ stealable v m + stealable v' b) e (omega (arith, here, rest))

more_counted : (v : View) (b n : ℕ) → stealable v b ≤ stealable v (b + n)
more_counted v b zero = let e : b ≡ b + 0 = omega arith in subst (λ n. stealable v b ≤ stealable v n) e (omega arith)
more_counted v b (suc n) = let e : suc (b + n) ≡ b + suc n = omega arith in subst (λ m. stealable v b ≤ stealable v m) e (omega (arith, more_counted v b n))

-- how many entries of a frame there are
pub entries_append : (f : ℕ) (xs ys : List Met) → entries_of f (xs ++ ys) ≡ entries_of f xs + entries_of f ys
entries_append f [] ys = omega arith
entries_append f (x ∷ xs) ys = omega (arith, entries_append f xs ys)

one_most : (b : Bool) → one_if b ≤ 1
one_most true = omega arith
one_most false = omega arith

entries_most : (f : ℕ) (xs : List Met) → entries_of f xs ≤ length xs
entries_most f [] = omega arith
entries_most f (x ∷ xs) = omega (arith, one_most (x.frame == f), entries_most f xs)

entries_none : (f : ℕ) (xs : List Met) → ((i : ℕ) (m : Met) → slice_get xs i ≡ Some m → m.frame ≢ f) → entries_of f xs ≡ 0
entries_none f [] none = refl
entries_none f (x ∷ xs) none = omega (arith, ap one_if (ne_eqb x.frame f (none 0 x refl)), entries_none f xs (λ i m is. none (suc i) m is))

-- nothing is tried
keeps_none : (k : Kept) → KeepsPages k k
keeps_none k = record { known = λ id is. is; at_hand = λ file id is. refl; clean = λ file is. is; told = λ file id is. refl }

gathers_none : (locks : LockTable) (k : Kept) → Holds locks k → GathersFrames locks k k
gathers_none locks k holds = record {
  holds = holds;
  keeps = keeps_none k;
  shape = refl;
  number = refl;
  held = refl;
  more = [];
  free = sym (append-nil k.free);
  staying = λ id is. is;
  unmoved = λ id f tag e is at stay. (is, at);
  back = λ id is. is;
  sight = sight_refl locks k.seat.view;
}

pub tries_none : (locks : LockTable) (k : Kept) (f : ℕ) → Holds locks k → length k.free ≤ OP_PAGES → TriesFrames locks k k f f
tries_none locks k f holds few = record {
  gathers = gathers_none locks k holds;
  few = few;
  met = [];
  meets = meets_none k;
  order = order_none f;
  each = λ g from below. absurd (omega (arith, from, below));
  last = λ lt. absurd (omega (arith, lt));
  once = record { few = λ g. omega arith };
  within = λ g _. refl;
  words = λ g _. refl;
  counted = λ _. refl;
}

keeps_then : (k k₁ k₂ : Kept) → KeepsPages k k₁ → KeepsPages k₁ k₂ → KeepsPages k k₂
keeps_then k k₁ k₂ x y = record {
  known = λ id is. y.known id (x.known id is);
  at_hand = λ file id is. y.at_hand file id (x.known id is) ∙ x.at_hand file id is;
  clean = λ file is. y.clean file (x.clean file is);
  told = λ file id is. y.told file id (x.clean file is) ∙ x.told file id is;
}

gathers_then : (locks : LockTable) (k k₁ k₂ : Kept) → GathersFrames locks k k₁ → GathersFrames locks k₁ k₂ → GathersFrames locks k k₂
gathers_then locks k k₁ k₂ x y = record {
  holds = y.holds;
  keeps = keeps_then k k₁ k₂ x.keeps y.keeps;
  shape = y.shape ∙ x.shape;
  number = y.number ∙ x.number;
  held = y.held ∙ x.held;
  more = x.more ++ y.more;
  free = y.free ∙ ap (λ fs. fs ++ y.more) x.free ∙ append_assoc k.free x.more y.more;
  staying = λ id is. y.staying id (x.staying id is);
  unmoved = λ id f tag e is at stay. let p = x.unmoved id f tag e is at stay in y.unmoved id f tag e p.0 p.1 stay;
  back = λ id is. x.back id (y.back id is);
  sight = sight_then locks k.seat.view k₁.seat.view k₂.seat.view x.sight y.sight;
}

-- one frame is tried
module _ (locks : LockTable) (k k' : Kept) (f : ℕ) (found : Bool) (s : StealsFrame locks k k' f found) (m : MeetsFrame k k' f found) (room : length k.free < OP_PAGES)
    (exact : KnowsAll locks k.seat.view → IsExactly (known_at k.seat.view f) found) (sight : KeepsSight locks k.seat.view k'.seat.view) where
  gathers_by : (found ≡ true) ⊎ (found ≡ false) → GathersFrames locks k k'
  gathers_by cases = record {
    holds = s.holds;
    keeps = s.keeps;
    shape = s.shape;
    number = s.number;
    held = s.held;
    more = ⊎_elim (λ got. (s.added got).frame ∷ []) (λ lost. []) cases;
    free = free_by cases;
    staying = s.staying;
    unmoved = s.unmoved;
    back = s.back;
    sight = sight;
  }
    where
      free_by : (c : (found ≡ true) ⊎ (found ≡ false)) → k'.free ≡ k.free ++ ⊎_elim (λ got. (s.added got).frame ∷ []) (λ lost. []) c
      free_by (inl got) = (s.added got).added
      free_by (inr lost) = s.not_added lost ∙ sym (append-nil k.free)

  cases : (b : Bool) → (b ≡ true) ⊎ (b ≡ false)
  cases true = inl refl
  cases false = inr refl

  one_more : found ≡ true → length k'.free ≡ length k.free + 1
  one_more got = ap length (s.added got).added ∙ length-append k.free ((s.added got).frame ∷ [])

  here : (g : ℕ) → f ≤ g → g < f + 1 → IsInHand k'.held k'.free g ⊎ IsRefused m.met g
  here g from below =
      let same : f ≡ g = omega (arith, from, below) in
      subst (λ g. IsInHand k'.held k'.free g ⊎ IsRefused m.met g) same (⊎_elim
      (λ got. let x = s.added got in inl (inr (length k.free, x.frame, ap (λ fs. slice_get fs (length k.free)) x.added ∙ slice_get-push k.free x.frame, x.is)))
      (λ lost. inr (m.refused lost))
      (cases found))

  counts : KnowsAll locks k.seat.view → length k'.free + stealable k.seat.view f ≡ length k.free + stealable k.seat.view (f + 1)
  counts all =
      let next : suc f ≡ f + 1 = omega arith in
      subst (λ n. length k'.free + stealable k.seat.view f ≡ length k.free + stealable k.seat.view n) next (⊎_elim
      (λ got. let one = ap one_if (counted_if (known_at k.seat.view f) ((exact all).got got)) in omega (arith, one_more got, one))
      (λ lost. let none = ap one_if (not_counted (known_at k.seat.view f) ((exact all).not lost)) in omega (arith, ap length (s.not_added lost), none))
      (cases found))

  pub tries_one : TriesFrames locks k k' f (f + 1)
  tries_one = record {
    gathers = gathers_by (cases found);
    few = ⊎_elim (λ got. omega (arith, one_more got, room)) (λ lost. omega (arith, ap length (s.not_added lost), room)) (cases found);
    met = m.met;
    meets = m.meets;
    order = order_one m.met f m.some m.all;
    each = here;
    last = λ _ full. ⊎_elim
        (λ got. let x = s.added got in record { others = k.free; last = x.frame; free_is = x.added; ends = subst (EndsWithTheft m.met) (sym x.is) (m.got got) })
        (λ lost. absurd (omega (arith, full, room, ap length (s.not_added lost))))
        (cases found);
    once = record { few = λ g. omega (arith, entries_most g m.met, m.few) };
    within = λ g away. entries_none g m.met (λ i x is e. ⊎_elim (λ lt. omega (arith, lt, e, m.all i x is)) (λ le. omega (arith, le, e, m.all i x is)) away);
    words = λ g away. m.words g (λ e. ⊎_elim (λ lt. omega (arith, lt, e)) (λ le. omega (arith, le, e)) away);
    counted = counts;
  }

-- the last one is so whatever was met before it
last_after : (front back : List Met) (free : List Free) → EndsWithLast free back → EndsWithLast free (front ++ back)
last_after front back free e = record { others = e.others; last = e.last; free_is = e.free_is; ends = theft_after front back e.last.frame e.ends }

-- and then others
pub tries_then : (locks : LockTable) (k k₁ k₂ : Kept) (a b c : ℕ) → a ≤ b → b < c → TriesFrames locks k k₁ a b → TriesFrames locks k₁ k₂ b c → TriesFrames locks k k₂ a c
tries_then locks k k₁ k₂ a b c ab bc x y = record {
  gathers = gathers_then locks k k₁ k₂ x.gathers y.gathers;
  few = y.few;
  met = x.met ++ y.met;
  meets = meets_then k k₁ k₂ x.met y.met y.gathers.more x.gathers.sight.numbers y.gathers.held y.gathers.free x.meets y.meets;
  order = order_then x.met y.met a b c ab (omega (arith, bc)) x.order y.order;
  each = λ f from below. ⊎_elim
      (λ lt. ⊎_elim
      (λ here. inl (still_in k₁.held k₂.held k₁.free k₂.free y.gathers.more f y.gathers.held y.gathers.free here))
      (λ lost. inr (refused_before x.met y.met f lost))
      (x.each f from lt))
      (λ le. ⊎_elim (λ here. inl here) (λ lost. inr (refused_after x.met y.met f lost)) (y.each f le below))
      (cases_lt f b);
  last = λ _ full. last_after x.met y.met k₂.free (y.last bc full);
  once = record {
    few = λ g. ⊎_elim
        (λ lt. omega (arith, entries_append g x.met y.met, y.within g (inl lt), x.once.few g))
        (λ le. omega (arith, entries_append g x.met y.met, x.within g (inr le), y.once.few g))
        (cases_lt g b);
  };
  within = λ g away. ⊎_elim
      (λ lt. omega (arith, entries_append g x.met y.met, x.within g (inl lt), y.within g (inl (omega (arith, lt, ab)))))
      (λ le. omega (arith, entries_append g x.met y.met, x.within g (inr (omega (arith, le, bc))), y.within g (inr le)))
      away;
  words = λ f away. ⊎_elim
      (λ lt. y.words f (inl (omega (arith, lt, ab))) ∙ x.words f (inl lt))
      (λ le. y.words f (inr le) ∙ x.words f (inr (omega (arith, le, bc))))
      away;
  counted = λ all.
      let v = k.seat.view in
      let v₁ = k₁.seat.view in
      let first = x.counted all in
      let second = y.counted (x.gathers.sight.knows all) in
      let same = same_high v v₁ b (c - b) (λ f le. x.words f (inr le)) in
      let end : b + (c - b) ≡ c = omega (arith, bc) in
      let same' : stealable v₁ c + stealable v b ≡ stealable v c + stealable v₁ b = subst (λ n. stealable v₁ n + stealable v b ≡ stealable v n + stealable v₁ b) end same in
      omega (arith, first, second, same');
}

-- all were tried: those from some frame on, and then those before it
module _ (locks : LockTable) (k k₁ k₂ : Kept) (a n next next₁ next₂ : ℕ) (all : n ≡ length locks.ranges) (start : a ≡ start_of next n) (an : a ≤ n) (x : TriesRange locks k k₁ a n next next₁) (y : TriesRange locks k₁ k₂ 0 a next₁ next₂) where
  grown : length k₁.free ≤ length k₂.free
  grown = omega (arith, ap length y.tries.gathers.free, length-append k₁.free y.tries.gathers.more)

  second_end : length k₂.free < OP_PAGES → y.end ≡ a
  second_end lacks = ⊎_elim (λ e. e) (λ enough. absurd (omega (arith, enough, lacks))) y.stops

  first_end : length k₂.free < OP_PAGES → x.end ≡ n
  first_end lacks = ⊎_elim (λ e. e) (λ enough. absurd (omega (arith, enough, lacks, grown))) x.stops

  each_one : length k₂.free < OP_PAGES → (f : ℕ) → IsFrameOf locks f → IsInHand k₂.held k₂.free f ⊎ IsRefused (x.tries.met ++ y.tries.met) f
  each_one lacks f frame = ⊎_elim
      (λ lt. ⊎_elim (λ here. inl here) (λ lost. inr (refused_after x.tries.met y.tries.met f lost)) (y.tries.each f (omega arith) (omega (arith, lt, second_end lacks))))
      (λ le. ⊎_elim
      (λ here. inl (still_in k₁.held k₂.held k₁.free k₂.free y.tries.gathers.more f y.tries.gathers.held y.tries.gathers.free here))
      (λ lost. inr (refused_before x.tries.met y.tries.met f lost))
      (x.tries.each f le (omega (arith, frame, all, first_end lacks))))
      (cases_lt f a)

  module _ (knows : KnowsAll locks k.seat.view) where
    abbrev v : View
    v = k.seat.view

    first_count : length k₁.free + stealable v a ≡ length k.free + stealable v x.end
    first_count = x.tries.counted knows

    second_count : length k₂.free ≡ length k₁.free + stealable v y.end
    second_count =
        let counted = y.tries.counted (x.tries.gathers.sight.knows knows) in
        let same = same_low v k₁.seat.view y.end (λ f lt. x.tries.words f (inl (omega (arith, lt, y.before)))) in
        omega (arith, counted, same)

    up_to : (b c : ℕ) → b ≤ c → stealable v b ≤ stealable v c
    up_to b c le = let end : b + (c - b) ≡ c = omega (arith, le) in subst (λ n. stealable v b ≤ stealable v n) end (more_counted v b (c - b))

    lacks_then : length k₂.free < OP_PAGES → length k.free + stealable v n < OP_PAGES
    lacks_then lacks =
        let one : stealable v x.end ≡ stealable v n = ap (stealable v) (first_end lacks) in
        let two : stealable v y.end ≡ stealable v a = ap (stealable v) (second_end lacks) in
        omega (arith, lacks, first_count, second_count, one, two)

    then_lacks : length k.free + stealable v n < OP_PAGES → length k₂.free < OP_PAGES
    then_lacks lacks =
        let one = up_to x.end n x.before in
        let two = up_to y.end a y.before in
        omega (arith, lacks, first_count, second_count, one, two)

  -- it begins with this frame, though all were tried that come after it
  within : a ≡ n → n ≡ 0
  within e = by_test (nat_lt next n) refl
    where
      by_test : (b : Bool) → nat_lt next n ≡ b → n ≡ 0
      by_test true is = let below = ltb-true next n is in let e' : a ≡ next = start ∙ ap (λ b. if b then next else 0) is in absurd (omega (arith, e, e', below))
      by_test false is = let e' : a ≡ 0 = start ∙ ap (λ b. if b then next else 0) is in omega (arith, e, e')

  none_after : x.tries.met ≡ [] → y.tries.met ≡ []
  none_after nil = ⊎_elim
      (λ e. y.tries.order.idle (let zero : n ≡ 0 = within (sym (x.tries.order.none nil) ∙ e) in omega (arith, zero, an, y.before)))
      (λ full. y.tries.order.idle (y.enough full))
      x.stops

  begins_at : (us : List Met) → x.tries.met ≡ us → (m : Met) → slice_get (x.tries.met ++ y.tries.met) 0 ≡ Some m → m.frame ≡ start_of next n
  begins_at [] nil m is = absurd (let bad : None ≡ Some m = (λ i. slice_get (sym nil i ++ sym (none_after nil) i) 0) ∙ is in cc bad)
  begins_at (u ∷ us) some m is = x.tries.order.first m (ap (λ vs. slice_get vs 0) some ∙ sym (ap (λ vs. slice_get (vs ++ y.tries.met) 0) some) ∙ is) ∙ start

  ends_at : (vs : List Met) → y.tries.met ≡ vs → (m : Met) → last_of (x.tries.met ++ y.tries.met) ≡ Some m → next₂ ≡ m.frame + 1
  ends_at [] nil m is =
      let last : last_of x.tries.met ≡ Some m = ap last_of (sym (append-nil x.tries.met)) ∙ ap (λ vs. last_of (x.tries.met ++ vs)) (sym nil) ∙ is in
      let end = x.tries.order.last m last in
      let still : next₂ ≡ next₁ = y.idle (y.tries.order.none nil) in
      let some : a < x.end = ⊎_elim (λ e. absurd (let bad : None ≡ Some m = ap last_of (sym (x.tries.order.idle (sym e))) ∙ last in cc bad)) (λ ne. omega (arith, ne, x.after)) (cases_eq a x.end) in
      still ∙ x.moved some ∙ sym end
  ends_at (v ∷ vs) some m is =
      let last : last_of y.tries.met ≡ Some m = ap last_of some ∙ sym (last_append x.tries.met v vs) ∙ ap (λ us. last_of (x.tries.met ++ us)) (sym some) ∙ is in
      let end = y.tries.order.last m last in
      y.moved (omega (arith, end)) ∙ sym end

  idle_at : x.tries.met ++ y.tries.met ≡ [] → next₂ ≡ next
  idle_at nil = y.idle (y.tries.order.none (back_nil x.tries.met y.tries.met nil)) ∙ x.idle (x.tries.order.none (front_nil x.tries.met y.tries.met nil))

  none_tried : length k.free ≡ OP_PAGES → x.tries.met ++ y.tries.met ≡ []
  none_tried full =
      let first : x.end ≡ a = x.enough full in
      let one : x.tries.met ≡ [] = x.tries.order.idle first in
      let two : y.tries.met ≡ [] = y.tries.order.idle (y.enough (ap length (x.same first) ∙ full)) in
      (λ i. one i ++ two i)

  last_tried : length k.free < OP_PAGES → length k₂.free ≡ OP_PAGES → EndsWithLast k₂.free (x.tries.met ++ y.tries.met)
  last_tried few full = ⊎_elim by_second (λ le. by_first (omega (arith, le))) (cases_lt 0 y.end)
    where
      by_second : 0 < y.end → EndsWithLast k₂.free (x.tries.met ++ y.tries.met)
      by_second lt = last_after x.tries.met y.tries.met k₂.free (y.tries.last lt full)

      by_first : y.end ≡ 0 → EndsWithLast k₂.free (x.tries.met ++ y.tries.met)
      by_first e =
          let still : k₂.free ≡ k₁.free = y.same e in
          let more : a < x.end = ⊎_elim (λ q. absurd (omega (arith, few, full, ap length still, ap length (x.same (sym q))))) (λ ne. omega (arith, ne, x.after)) (cases_eq a x.end) in
          let nil : y.tries.met ≡ [] = y.tries.order.idle e in
          subst (λ (p : List Free × List Met). EndsWithLast p.0 p.1) (λ i. (sym still i, (sym (append-nil x.tries.met) ∙ ap (λ l. x.tries.met ++ l) (sym nil)) i)) (x.tries.last more (sym (ap length still) ∙ full))

  pub sweeps : SweepsFrames locks k k₂ next next₂
  sweeps = record {
    goes_on = subst (λ n. GoesOn n (x.tries.met ++ y.tries.met) next next₂) all (record { begins = begins_at x.tries.met refl; ends = ends_at y.tries.met refl; idle = idle_at });
    stops = record { none = none_tried; last = last_tried };
    once = record {
      few = λ g. ⊎_elim
          (λ lt. omega (arith, entries_append g x.tries.met y.tries.met, x.tries.within g (inl lt), y.tries.once.few g))
          (λ le. omega (arith, entries_append g x.tries.met y.tries.met, y.tries.within g (inr (omega (arith, le, y.before))), x.tries.once.few g))
          (cases_lt g a);
    };
    gathers = gathers_then locks k k₁ k₂ x.tries.gathers y.tries.gathers;
    few = y.tries.few;
    met = x.tries.met ++ y.tries.met;
    meets = meets_then k k₁ k₂ x.tries.met y.tries.met y.tries.gathers.more x.tries.gathers.sight.numbers y.tries.gathers.held y.tries.gathers.free x.tries.meets y.tries.meets;
    each = each_one;
    exact = λ knows. subst (λ n. (length k₂.free < OP_PAGES) ↔ (length k.free + stealable k.seat.view n < OP_PAGES)) all (lacks_then knows, then_lacks knows);
  }
