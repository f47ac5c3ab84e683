-- A range put among rising ranges: what they then hold, and that they still rise with gaps.
use Rattle.std.proofs.Common.{◌≡◌, ℕ, ◌+◌, ◌<◌, ◌≤◌, ◌⊎◌, Bool, true, false, cond, List, [], ◌∷◌, ◌++◌, length, take, drop, set, get_or, min, max, nat_lt, refl, sym, ap, subst, ◌∙◌, inl, inr, arith}
use Rattle.std.proofs.lemmas.Bool.{cases_lt}
use Rattle.std.proofs.lemmas.Bool.Decides.{nat_tests}
use Rattle.std.proofs.lemmas.List.{append_assoc, length-take-le, get_or-take, drop_more, drop_all, drop-set-lt, take_more, take_more_set}
use Rattle.std.proofs.Math.Seq.{take-set-lt}
use Rattle.pm_types.specs.declared.spans.Span.{Span}
use Rattle.pm_types.specs.Spans.{IsInSpan, IsInSpans, RiseFrom, Lists}

-- from where the first of the two begins to where the last ends
abbrev pub hull_of : Span → Span → Span
hull_of a b = record { start = min a.start b.start; end = max a.end b.end }

-- the ranges with one more: those that it meets become one with it
abbrev pub with_span : List Span → Span → List Span
with_span [] m = m ∷ []
with_span (s ∷ ss) m = cond (nat_lt s.end m.start) (s ∷ with_span ss m) (cond (nat_lt m.end s.start) (m ∷ with_span ss s) (with_span ss (hull_of m s)))

-- cases on where the first range stands
pub with_span_cases : (P : List Span → Type 0) (s m : Span) (ss : List Span) →
    (s.end < m.start → P (s ∷ with_span ss m)) → (m.start ≤ s.end → m.end < s.start → P (m ∷ with_span ss s)) →
    (m.start ≤ s.end → s.start ≤ m.end → P (with_span ss (hull_of m s))) → P (with_span (s ∷ ss) m)
with_span_cases P s m ss before after meets =
    elim (cases_lt s.end m.start) [
      | inl lt ↦ let e : nat_lt s.end m.start ≡ true = grind (arith, nat_tests) in subst (λ b. P (cond b (s ∷ with_span ss m) (cond (nat_lt m.end s.start) (m ∷ with_span ss s) (with_span ss (hull_of m s))))) (sym e) (before lt)
      | inr ge ↦ let e : nat_lt s.end m.start ≡ false = grind (arith, nat_tests) in
          elim (cases_lt m.end s.start) [
            | inl lt ↦ let f : nat_lt m.end s.start ≡ true = grind (arith, nat_tests) in subst (λ (p : Bool × Bool). P (cond p.0 (s ∷ with_span ss m) (cond p.1 (m ∷ with_span ss s) (with_span ss (hull_of m s))))) {x = (false, true)} {y = (nat_lt s.end m.start, nat_lt m.end s.start)} (λ i. (sym e i, sym f i)) (after ge lt)
            | inr le ↦ let f : nat_lt m.end s.start ≡ false = grind (arith, nat_tests) in subst (λ (p : Bool × Bool). P (cond p.0 (s ∷ with_span ss m) (cond p.1 (m ∷ with_span ss s) (with_span ss (hull_of m s))))) {x = (false, false)} {y = (nat_lt s.end m.start, nat_lt m.end s.start)} (λ i. (sym e i, sym f i)) (meets ge le)
          ]
    ]

pub rise_lower : (low high : ℕ) (xs : List Span) → low ≤ high → RiseFrom high xs → RiseFrom low xs
rise_lower low high [] le rise = tt
rise_lower low high (x ∷ xs) le rise = (omega (arith, rise.0), rise.1, rise.2)

pub with_span_rises : (xs : List Span) (low : ℕ) (m : Span) → RiseFrom low xs → low ≤ m.start → m.start < m.end → RiseFrom low (with_span xs m)
with_span_rises [] low m rise le some = (le, some, tt)
with_span_rises (s ∷ ss) low m rise le some =
    with_span_cases (RiseFrom low) s m ss
    (λ lt. (rise.0, rise.1, with_span_rises ss (s.end + 1) m rise.2 (omega arith) some))
    (λ _ lt. (le, some, with_span_rises ss (m.end + 1) s (rise_lower (m.end + 1) (s.end + 1) ss (omega (arith, rise.1)) rise.2) (omega arith) rise.1))
    (λ a b. with_span_rises ss low (hull_of m s) (rise_lower low (s.end + 1) ss (omega (arith, rise.0, rise.1)) rise.2) (omega (arith, rise.0)) (omega (arith, rise.1)))

pub with_span_has : (xs : List Span) (m : Span) (k : ℕ) → IsInSpans xs k ⊎ IsInSpan m k → IsInSpans (with_span xs m) k
with_span_has [] m k h = elim h [ inl none ↦ absurd none | inr here ↦ inl here ]
with_span_has (s ∷ ss) m k h =
    with_span_cases (λ t. IsInSpans t k) s m ss
    (λ lt. elim h [ inl old ↦ elim old [ inl here ↦ inl here | inr rest ↦ inr (with_span_has ss m k (inl rest)) ] | inr new ↦ inr (with_span_has ss m k (inr new)) ])
    (λ _ lt. elim h [ inl old ↦ elim old [ inl here ↦ inr (with_span_has ss s k (inr here)) | inr rest ↦ inr (with_span_has ss s k (inl rest)) ] | inr new ↦ inl new ])
    (λ a b. with_span_has ss (hull_of m s) k (elim h [ inl old ↦ elim old [ inl here ↦ inr (omega (arith, here.0), omega (arith, here.1)) | inr rest ↦ inl rest ] | inr new ↦ inr (omega (arith, new.0), omega (arith, new.1)) ]))

-- what the hull of two ranges that meet holds, one of them holds
hull_only : (m s : Span) (k : ℕ) → m.start ≤ s.end → s.start ≤ m.end → IsInSpan (hull_of m s) k → IsInSpan s k ⊎ IsInSpan m k
hull_only m s k a b h =
    elim (cases_lt k m.start) [
      | inl lt ↦ inl (omega (arith, h.0), omega arith)
      | inr ge ↦ elim (cases_lt k m.end) [
        | inl lt ↦ inr (ge, lt)
        | inr past ↦ inl (omega arith, omega (arith, h.1))
      ]
    ]

pub with_span_only : (xs : List Span) (m : Span) (k : ℕ) → IsInSpans (with_span xs m) k → IsInSpans xs k ⊎ IsInSpan m k
with_span_only [] m k = λ h. elim h [ inl here ↦ inr here | inr none ↦ absurd none ]
with_span_only (s ∷ ss) m k =
    with_span_cases (λ t. IsInSpans t k → IsInSpans (s ∷ ss) k ⊎ IsInSpan m k) s m ss
    (λ lt h. elim h [ inl here ↦ inl (inl here) | inr rest ↦ elim (with_span_only ss m k rest) [ inl old ↦ inl (inr old) | inr new ↦ inr new ] ])
    (λ _ lt h. elim h [ inl here ↦ inr here | inr rest ↦ elim (with_span_only ss s k rest) [ inl old ↦ inl (inr old) | inr new ↦ inl (inl new) ] ])
    (λ a b h. elim (with_span_only ss (hull_of m s) k h) [ inl old ↦ inl (inr old) | inr new ↦ elim (hull_only m s k a b new) [ inl here ↦ inl (inl here) | inr there ↦ inr there ] ])

-- so the ranges list what they held and what was added
pub with_span_lists : (xs : List Span) (m : Span) → RiseFrom 0 xs → m.start < m.end → Lists (with_span xs m) (λ k. IsInSpans xs k ⊎ IsInSpan m k)
with_span_lists xs m rise some = record {
  rise = with_span_rises xs 0 m rise (omega arith) some;
  all = λ k. with_span_has xs m k;
  only = λ k. with_span_only xs m k;
}

-- the first that isn't read yet, and the others, also where a range was written before it
pub next_span : (xs : List Span) (i count : ℕ) (d : Span) → i < count → count ≤ length xs → drop i (take count xs) ≡ get_or xs i d ∷ drop (i + 1) (take count xs)
next_span xs i count d lt le =
    let long : i < length (take count xs) = omega (arith, length-take-le count xs le) in
    drop_more (take count xs) i d long ∙ ap (λ (s : Span). s ∷ drop (i + 1) (take count xs)) (get_or-take count xs i d lt)

pub unread : (xs : List Span) (i placed count : ℕ) (y : Span) → placed ≤ i → i < count → drop (i + 1) (take count (set xs placed y)) ≡ drop (i + 1) (take count xs)
unread xs i placed count y le lt = ap (drop (i + 1)) (take-set-lt count xs placed y (omega arith)) ∙ drop-set-lt (i + 1) (take count xs) placed y (omega arith)

-- how far the walk over the first `count` ranges is: what is placed, and what the rest with the carried range gives, are the whole
pub record IsWalked (xs : List Span) (carried : Span) (placed i count : ℕ) (all : List Span) : Type 0 where
  pub after : placed ≤ i
  pub whole : take placed xs ++ with_span (drop i (take count xs)) carried ≡ all

placed_one : (xs : List Span) (y m : Span) (placed i count : ℕ) → placed ≤ i → i < count → count ≤ length xs →
    take (placed + 1) (set xs placed y) ++ with_span (drop (i + 1) (take count (set xs placed y))) m ≡ take placed xs ++ (y ∷ with_span (drop (i + 1) (take count xs)) m)
placed_one xs y m placed i count le lt fits =
    (λ j. take_more_set xs placed y (omega arith) j ++ with_span (unread xs i placed count y le lt j) m) ∙ append_assoc (take placed xs) (y ∷ []) (with_span (drop (i + 1) (take count xs)) m)

-- one step, by where the range stands that is read
pub step_before : (xs all : List Span) (m d : Span) (placed i count : ℕ) → IsWalked xs m placed i count all → i < count → count ≤ length xs → (get_or xs i d).end < m.start →
    IsWalked (set xs placed (get_or xs i d)) m (placed + 1) (i + 1) count all
step_before xs all m d placed i count walked lt fits before =
    let s = get_or xs i d in
    let ss = drop (i + 1) (take count xs) in
    let e : with_span (s ∷ ss) m ≡ s ∷ with_span ss m = with_span_cases (λ t. t ≡ s ∷ with_span ss m) s m ss (λ _. refl) (λ g l. absurd (omega arith)) (λ a b. absurd (omega arith)) in
    record {
      after = omega (arith, walked.after);
      whole = placed_one xs s m placed i count walked.after lt fits ∙ ap (λ (t : List Span). take placed xs ++ t) (sym e ∙ ap (λ (t : List Span). with_span t m) (sym (next_span xs i count d lt fits))) ∙ walked.whole;
    }

pub step_after : (xs all : List Span) (m d : Span) (placed i count : ℕ) → IsWalked xs m placed i count all → i < count → count ≤ length xs → m.start ≤ (get_or xs i d).end → m.end < (get_or xs i d).start →
    IsWalked (set xs placed m) (get_or xs i d) (placed + 1) (i + 1) count all
step_after xs all m d placed i count walked lt fits not_before after =
    let s = get_or xs i d in
    let ss = drop (i + 1) (take count xs) in
    let e : with_span (s ∷ ss) m ≡ m ∷ with_span ss s = with_span_cases (λ t. t ≡ m ∷ with_span ss s) s m ss (λ l. absurd (omega arith)) (λ _ _. refl) (λ a b. absurd (omega arith)) in
    record {
      after = omega (arith, walked.after);
      whole = placed_one xs m s placed i count walked.after lt fits ∙ ap (λ (t : List Span). take placed xs ++ t) (sym e ∙ ap (λ (t : List Span). with_span t m) (sym (next_span xs i count d lt fits))) ∙ walked.whole;
    }

pub step_meets : (xs all : List Span) (m d : Span) (placed i count : ℕ) → IsWalked xs m placed i count all → i < count → count ≤ length xs → m.start ≤ (get_or xs i d).end → (get_or xs i d).start ≤ m.end →
    IsWalked xs (hull_of m (get_or xs i d)) placed (i + 1) count all
step_meets xs all m d placed i count walked lt fits a b =
    let s = get_or xs i d in
    let ss = drop (i + 1) (take count xs) in
    let e : with_span (s ∷ ss) m ≡ with_span ss (hull_of m s) = with_span_cases (λ t. t ≡ with_span ss (hull_of m s)) s m ss (λ l. absurd (omega arith)) (λ g l. absurd (omega arith)) (λ _ _. refl) in
    record {
      after = omega (arith, walked.after);
      whole = ap (λ (t : List Span). take placed xs ++ t) (sym e ∙ ap (λ (t : List Span). with_span t m) (sym (next_span xs i count d lt fits))) ∙ walked.whole;
    }

-- after the last step the carried range is placed
pub walked_all : (xs all : List Span) (m : Span) (placed i count : ℕ) → IsWalked xs m placed i count all → count ≤ i → count < length xs → placed ≤ count → take (placed + 1) (set xs placed m) ≡ all
walked_all xs all m placed i count walked le fits few =
    let none : drop i (take count xs) ≡ [] = drop_all i (take count xs) (omega (arith, length-take-le count xs (omega arith))) in
    take_more_set xs placed m (omega arith) ∙ ap (λ (t : List Span). take placed xs ++ with_span t m) (sym none) ∙ walked.whole

pub any-append : (xs ys : List Span) (k : ℕ) → IsInSpans xs k ⊎ IsInSpans ys k → IsInSpans (xs ++ ys) k
any-append [] ys k = λ h. elim h [ inl none ↦ absurd none | inr there ↦ there ]
any-append (x ∷ xs) ys k = λ h. elim h [ inl first ↦ elim first [ inl here ↦ inl here | inr rest ↦ inr (any-append xs ys k (inl rest)) ] | inr there ↦ inr (any-append xs ys k (inr there)) ]

pub append-any : (xs ys : List Span) (k : ℕ) → IsInSpans (xs ++ ys) k → IsInSpans xs k ⊎ IsInSpans ys k
append-any [] ys k = λ h. inr h
append-any (x ∷ xs) ys k = λ h. elim h [ inl here ↦ inl (inl here) | inr rest ↦ elim (append-any xs ys k rest) [ inl first ↦ inl (inr first) | inr there ↦ inr there ] ]

-- what one range more holds
pub any_more : (xs : List Span) (i k : ℕ) (d : Span) → i < length xs → IsInSpans (take i xs) k ⊎ IsInSpan (get_or xs i d) k → IsInSpans (take (i + 1) xs) k
any_more xs i k d lt h = subst (λ (t : List Span). IsInSpans t k) (sym (take_more xs i d lt)) (any-append (take i xs) (get_or xs i d ∷ []) k (elim h [ inl early ↦ inl early | inr last ↦ inr (inl last) ]))

pub more_any : (xs : List Span) (i k : ℕ) (d : Span) → i < length xs → IsInSpans (take (i + 1) xs) k → IsInSpans (take i xs) k ⊎ IsInSpan (get_or xs i d) k
more_any xs i k d lt h = elim (append-any (take i xs) (get_or xs i d ∷ []) k (subst (λ (t : List Span). IsInSpans t k) (take_more xs i d lt) h)) [ inl early ↦ inl early | inr last ↦ elim last [ inl here ↦ inr here | inr none ↦ absurd none ] ]
