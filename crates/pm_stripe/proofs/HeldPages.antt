-- All pages in hand are put back, of an operation that isn't ended.
use Rattle.std.proofs.Common.{◌≡◌, ◌≢◌, ℕ, zero, suc, Bool, true, false, List, [], ◌∷◌, ◌++◌, Some, length, refl, sym, ap, subst, ◌∙◌, arith}
use Rattle.std.specs.Prelude.{slice_get, if◌then◌else◌}
use Rattle.std.proofs.lemmas.Option.{slice_get_within}
use Rattle.pm_types.specs.declared.flag.Flag.TheVariants as flag
use Rattle.pm_region.specs.Lease.{Leased}
use Rattle.pm_locks.specs.Words.{LockWord}
use Rattle.pm_locks.specs.Sight.{LockTable, Sight}
use Rattle.pm_stripe.specs.declared.held.Held.{Held}
use Rattle.pm_stripe.specs.Kept.{Kept, last_put, place_of, IsHeldIn, Holds}
use Rattle.pm_stripe.specs.Marks.{IsMarkedAt, MarksPages}
use Rattle.pm_stripe.specs.Puts.{put_flag, unended_flag, put_word, words_put, AreCovered, IsPutAs, PutsBack, PutsHeld}
use Rattle.pm_stripe.specs.Sights.{KeepsSight}
use Rattle.pm_stripe.proofs.PutPages.{empty_before}

-- each page in hand is covered by its patch, once those that were lent are marked
pub covered : (locks : LockTable) (k k₁ : Kept) → MarksPages locks (length k.held) k k₁ → AreCovered k₁.held
covered locks k k₁ marks i h is = marks.covered i h is (omega (arith, slice_get_within k₁.held i h is, marks.long))

-- marked pages leave the words that pages of an operation that isn't ended leave
words_marked : (n : ℕ) (xs ys : List Held) (words : List (ℕ × LockWord)) → length xs ≡ length ys → ((i : ℕ) (h : Held) → slice_get ys i ≡ Some h → IsMarkedAt xs i h)
    → words_put put_flag n xs words ≡ words_put unended_flag n ys words
words_marked n [] [] words long each = refl
words_marked n [] (y ∷ ys) words long each = absurd (omega (arith, long))
words_marked n (x ∷ xs) [] words long each = absurd (omega (arith, long))
words_marked n (x ∷ xs) (y ∷ ys) words long each =
    let m = each zero y refl in
    let e : x ≡ m.now = let there : Some x ≡ Some m.now = m.there in cc there in
    let rest = words_marked n xs ys words (omega (arith, long)) (λ i h is. let o = each (suc i) h is in record {
      now = o.now;
      there = o.there;
      page_is = o.page_is;
      frame_is = o.frame_is;
      tag_is = o.tag_is;
      lease_is = o.lease_is;
      flag_is = o.flag_is;
    }) in
    ap (λ (z : Held). (z.frame, put_word n z (put_flag z)) ∷ words_put put_flag n xs words) e
    ∙ (λ i. (m.frame_is i, record { tag = m.tag_is i; owner = n; holder = 255; flag = m.flag_is i }) ∷ rest i)

-- a page in hand isn't put back as Empty where its operation isn't ended
pub unended_some : (locks : LockTable) (k : Kept) (h : Held) → Holds locks k → IsHeldIn locks k h → unended_flag h ≢ flag.Empty
unended_some locks k h holds held e = by_case h.is_lent h.is_read refl refl
  where
    same : (lent read : Bool) → h.is_lent ≡ lent → h.is_read ≡ read → unended_flag h ≡ (if lent then flag.Dirty else if read then flag.Clean else h.flag)
    same lent read l r = λ i. if l i then flag.Dirty else if r i then flag.Clean else h.flag

    by_case : (lent read : Bool) → h.is_lent ≡ lent → h.is_read ≡ read → ⊥
    by_case true read l r = let bad : flag.Dirty ≡ flag.Empty = sym (same true read l r) ∙ e in cc bad
    by_case false true l r = let bad : flag.Clean ≡ flag.Empty = sym (same false true l r) ∙ e in cc bad
    by_case false false l r =
        let empty : h.flag ≡ flag.Empty = sym (same false false l r) ∙ e in
        let x = held.from_frame r in
        let y = holds.kept h.page h.frame h.tag x.kept in
        y.some (empty_before y.entry.flag h.flag (x.follows y.entry y.at) empty)

-- those that were lent were marked, and then all were put back
module _ (locks : LockTable) (k k₁ k₂ : Kept) (seat : k₁.seat ≡ k.seat) (marks : MarksPages locks (length k.held) k k₁) (puts : PutsBack locks k₁ k₂) (none : k₂.held ≡ []) where
  all_rest : k₁.held ≡ puts.rest
  all_rest = puts.held ∙ ap (λ hs. hs ++ puts.rest) none

  marked : (i : ℕ) (h : Held) → slice_get k.held i ≡ Some h → IsMarkedAt k₁.held i h
  marked i h is = marks.marked i h is (slice_get_within k.held i h is)

  put_one : (i : ℕ) (h : Held) → slice_get k.held i ≡ Some h → IsPutAs k₂ h (unended_flag h)
  put_one i h is =
      let m = marked i h is in
      let d : IsPutAs k₂ m.now (put_flag m.now) = puts.put i m.now (sym (ap (λ hs. slice_get hs i) all_rest) ∙ m.there) in record {
        entry = d.entry;
        at = ap (last_put k₂) (sym m.frame_is) ∙ d.at;
        flag_is = d.flag_is ∙ m.flag_is;
        bytes_are = d.bytes_are ∙ ap (λ (l : Leased). l.bytes) m.lease_is;
        kept = λ some. ap (place_of k₂) (sym m.page_is) ∙ d.kept (λ e. some (sym m.flag_is ∙ e)) ∙ (λ j. Some (m.frame_is j, m.tag_is j));
        gone = λ e. ap (place_of k₂) (sym m.page_is) ∙ d.gone (m.flag_is ∙ e);
      }

  pub puts_held : PutsHeld locks k k₂
  puts_held = record {
    holds = puts.holds;
    none_held = none;
    free = puts.free ∙ marks.free;
    shape = puts.shape ∙ marks.shape;
    number = puts.number ∙ marks.number;
    left = record {
      words = puts.left.words
          ∙ (λ i. words_put put_flag (marks.number i) (sym all_rest i) (seat i).view.words)
          ∙ words_marked k.number k₁.held k.held k.seat.view.words marks.long marked;
      met = puts.left.met ∙ ap (λ (s : Sight). s.view.met) seat;
      sight = subst (λ (s : Sight). KeepsSight locks s.view k₂.seat.view) seat puts.left.sight;
    };
    put = put_one;
    only = λ id away. puts.only id (marks.names id.0 away) ∙ marks.known id;
    staying = λ id is. puts.staying id (marks.staying id is);
    at_hand = λ file id is. puts.at_hand file id is ∙ marks.pages file id;
    clean = λ file is. puts.clean file (marks.clean file is) (covered locks k k₁ marks);
    told = λ file id is. puts.told file id (marks.clean file is) (covered locks k k₁ marks) ∙ marks.pages file id;
  }
