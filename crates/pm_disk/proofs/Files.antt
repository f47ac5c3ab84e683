-- What a file was after each of its changes, what of it is lasting, and what a crash keeps.
use Rattle.std.proofs.Common.{◌≡◌, ◌⊎◌, inl, inr, ℕ, zero, suc, ◌<◌, ◌≤◌, List, [], ◌∷◌, ◌++◌, length, take, Option, Some, None, refl, sym, ◌∙◌, ap, subst, arith, length-append}
use Rattle.std.specs.Prelude.{slice_get, IsNone}
use Rattle.std.proofs.lemmas.List.{take-append-le, take_all}
use Rattle.pm_disk.specs.Files.{File, Change, after, changed, at_change, content, bytes_of, with_change, all_forced}
use Rattle.pm_disk.specs.Images.{Touches, Untouched, Leaves, Lasting}

-- one change more
pub after-push : (changes : List Change) (change : Change) (file : Option (List ℕ)) → after (changes ++ change ∷ []) file ≡ changed change (after changes file)
after-push [] change file = refl
after-push (first ∷ changes) change file = after-push changes change (changed first file)

pub after-append : (xs ys : List Change) (file : Option (List ℕ)) → after (xs ++ ys) file ≡ after ys (after xs file)
after-append [] ys file = refl
after-append (x ∷ xs) ys file = after-append xs ys (changed x file)

pub content_change : (file : File) (change : Change) → content (with_change file change) ≡ changed change (content file)
content_change file change = after-push file.since change file.forced

pub at_change-old : (file : File) (change : Change) (k : ℕ) → k ≤ length file.since → at_change (with_change file change) k ≡ at_change file k
at_change-old file change k le = ap (λ (cs : List Change). after cs file.forced) (take-append-le k file.since (change ∷ []) le)

pub at_change-last : (file : File) (k : ℕ) → length file.since ≤ k → at_change file k ≡ content file
at_change-last file k le = ap (λ (cs : List Change). after cs file.forced) (take_all k file.since le)

-- what holds at each moment of a file, and after one change more
pub each_change : (file : File) (change : Change) (P : Option (List ℕ) → Type 0) → ((k : ℕ) → k ≤ length file.since → P (at_change file k)) → P (changed change (content file)) → (k : ℕ) → k ≤ length (with_change file change).since → P (at_change (with_change file change) k)
each_change file change P old new k le =
    elim (split k le) [
      | inl within ↦ subst P (sym (at_change-old file change k within)) (old k within)
      | inr past ↦ subst P (sym (at_change-last (with_change file change) k past ∙ content_change file change)) new
    ]
  where
    split : (k : ℕ) → k ≤ length (file.since ++ change ∷ []) → (k ≤ length file.since) ⊎ (length (file.since ++ change ∷ []) ≤ k)
    split k le = grind (arith, length-append file.since (change ∷ []))

-- a forced file has one moment
pub forced_change : (file : File) (P : Option (List ℕ) → Type 0) → P (content file) → (k : ℕ) → k ≤ length (all_forced file).since → P (at_change (all_forced file) k)
forced_change file P here k le = subst P (sym (at_change-last (all_forced file) k (omega arith))) here

pub untouched-push : (changes : List Change) (change : Change) (i : ℕ) → Untouched changes i → (Touches change i → ⊥) → Untouched (changes ++ change ∷ []) i
untouched-push [] change i all new = (new, tt)
untouched-push (first ∷ changes) change i all new = (all.0, untouched-push changes change i all.1 new)

-- what a crash left has the bytes below this offset
pub record Kept (file : File) (off : ℕ) (left : Option (List ℕ)) : Type 0 where
  pub long : off ≤ length (bytes_of left)
  pub same : (i : ℕ) → i < off → slice_get (bytes_of left) i ≡ slice_get (bytes_of file.forced) i

no_bytes : (file : Option (List ℕ)) → IsNone file → bytes_of file ≡ []
no_bytes None is = refl
no_bytes (Some bytes) is = cc

-- lasting bytes are kept
pub kept : (file : File) (off : ℕ) (left : Option (List ℕ)) → Lasting file 0 off → Leaves file left → Kept file off left
kept file off None below leaves =
    let none : bytes_of (at_change file leaves.0) ≡ [] = no_bytes (at_change file leaves.0) leaves.2 in
    let zero_off : off ≤ 0 = subst (λ (l : List ℕ). off ≤ length l) none (below.long leaves.0 leaves.1) in
    record { long = zero_off; same = λ i lt. absurd (omega (arith, lt, zero_off)) }
kept file off (Some left) below leaves =
    let long : off ≤ length left = omega (arith, leaves.no_shorter.2, below.long leaves.no_shorter.0 leaves.no_shorter.1) in
    record { long = long; same = λ i lt. leaves.kept i (omega (arith, lt, long)) (omega (arith, lt, below.forced)) (below.untouched i (omega arith) lt) }

-- what a crash left is no longer than the file was at each moment
pub no_longer : (file : File) (n : ℕ) (left : Option (List ℕ)) → ((k : ℕ) → k ≤ length file.since → length (bytes_of (at_change file k)) ≤ n) → Leaves file left → length (bytes_of left) ≤ n
no_longer file n None short leaves = omega arith
no_longer file n (Some left) short leaves = omega (arith, leaves.no_longer.2, short leaves.no_longer.0 leaves.no_longer.1)

-- with nothing pending all bytes are lasting
pub quiet_below : (file : File) → file.since ≡ [] → Lasting file 0 (length (bytes_of file.forced))
quiet_below file quiet = record {
  forced = omega arith;
  untouched = λ i from lt. subst (λ (cs : List Change). Untouched cs i) (sym quiet) tt;
  long = λ k le. subst (λ (cs : List Change). length (bytes_of file.forced) ≤ length (bytes_of (after (take k cs) file.forced))) (sym quiet) (long k);
  same = λ k le i from lt. subst (λ (cs : List Change). slice_get (bytes_of (after (take k cs) file.forced)) i ≡ slice_get (bytes_of file.forced) i) (sym quiet) (same k i);
}
  where
    long : (k : ℕ) → length (bytes_of file.forced) ≤ length (bytes_of (after (take k []) file.forced))
    long zero = omega arith
    long (suc k) = omega arith

    same : (k i : ℕ) → slice_get (bytes_of (after (take k []) file.forced)) i ≡ slice_get (bytes_of file.forced) i
    same zero i = refl
    same (suc k) i = refl

pub quiet_content : (file : File) → file.since ≡ [] → content file ≡ file.forced
quiet_content file quiet = ap (λ (cs : List Change). after cs file.forced) quiet

-- fewer bytes are lasting too
pub below_less : (file : File) (m n : ℕ) → m ≤ n → Lasting file 0 n → Lasting file 0 m
below_less file m n le below = record {
  forced = omega (arith, le, below.forced);
  untouched = λ i from lt. below.untouched i from (omega (arith, lt, le));
  long = λ k k_le. omega (arith, le, below.long k k_le);
  same = λ k k_le i from lt. below.same k k_le i from (omega (arith, lt, le));
}

-- what is lasting stands in the content
pub content_same : (file : File) (off : ℕ) → Lasting file 0 off → (i : ℕ) → i < off → slice_get (bytes_of (content file)) i ≡ slice_get (bytes_of file.forced) i
content_same file off below i lt = ap (λ (o : Option (List ℕ)). slice_get (bytes_of o) i) (sym (at_change-last file (length file.since) (omega arith))) ∙ below.same (length file.since) (omega arith) i (omega arith) lt

pub content_long : (file : File) (off : ℕ) → Lasting file 0 off → off ≤ length (bytes_of (content file))
content_long file off below = subst (λ (o : Option (List ℕ)). off ≤ length (bytes_of o)) (at_change-last file (length file.since) (omega arith)) (below.long (length file.since) (omega arith))

-- one change more, which keeps them
pub below_push : (file : File) (change : Change) (off : ℕ) → Lasting file 0 off → ((i : ℕ) → i < off → Touches change i → ⊥) → off ≤ length (bytes_of (changed change (content file)))
    → ((i : ℕ) → i < off → slice_get (bytes_of (changed change (content file))) i ≡ slice_get (bytes_of (content file)) i) → Lasting (with_change file change) 0 off
below_push file change off below apart long same = record {
  forced = below.forced;
  untouched = λ i from lt. untouched-push file.since change i (below.untouched i from lt) (apart i lt);
  long = each_change file change (λ o. off ≤ length (bytes_of o)) below.long long;
  same = each_change file change (λ o. (i : ℕ) → 0 ≤ i → i < off → slice_get (bytes_of o) i ≡ slice_get (bytes_of file.forced) i) below.same (λ i from lt. same i lt ∙ content_same file off below i lt);
}

-- what a crash left has the bytes between these offsets
pub record KeptRange (file : File) (low high : ℕ) (left : Option (List ℕ)) : Type 0 where
  pub long : high ≤ length (bytes_of left)
  pub same : (i : ℕ) → low ≤ i → i < high → slice_get (bytes_of left) i ≡ slice_get (bytes_of file.forced) i

pub kept_range : (file : File) (low high : ℕ) (left : Option (List ℕ)) → Lasting file low high → Leaves file left → KeptRange file low high left
kept_range file low high None lasting leaves =
    let none : bytes_of (at_change file leaves.0) ≡ [] = no_bytes (at_change file leaves.0) leaves.2 in
    let zero_off : high ≤ 0 = subst (λ (l : List ℕ). high ≤ length l) none (lasting.long leaves.0 leaves.1) in
    record { long = zero_off; same = λ i le lt. absurd (omega (arith, lt, zero_off)) }
kept_range file low high (Some left) lasting leaves =
    let long : high ≤ length left = omega (arith, leaves.no_shorter.2, lasting.long leaves.no_shorter.0 leaves.no_shorter.1) in
    record { long = long; same = λ i le lt. leaves.kept i (omega (arith, lt, long)) (omega (arith, lt, lasting.forced)) (lasting.untouched i le lt) }

-- one change more, which keeps them
pub lasting_push : (file : File) (change : Change) (low high : ℕ) → Lasting file low high → ((i : ℕ) → low ≤ i → i < high → Touches change i → ⊥) → high ≤ length (bytes_of (changed change (content file)))
    → ((i : ℕ) → low ≤ i → i < high → slice_get (bytes_of (changed change (content file))) i ≡ slice_get (bytes_of (content file)) i) → Lasting (with_change file change) low high
lasting_push file change low high lasting apart long same = record {
  forced = lasting.forced;
  untouched = λ i le lt. untouched-push file.since change i (lasting.untouched i le lt) (apart i le lt);
  long = each_change file change (λ o. high ≤ length (bytes_of o)) lasting.long long;
  same = each_change file change (λ o. (i : ℕ) → low ≤ i → i < high → slice_get (bytes_of o) i ≡ slice_get (bytes_of file.forced) i) lasting.same
      (λ i le lt. same i le lt ∙ ap (λ (o : Option (List ℕ)). slice_get (bytes_of o) i) (sym (at_change-last file (length file.since) (omega arith))) ∙ lasting.same (length file.since) (omega arith) i le lt);
}

-- with nothing pending each range is lasting
pub quiet_lasting : (file : File) (low high : ℕ) → file.since ≡ [] → high ≤ length (bytes_of file.forced) → Lasting file low high
quiet_lasting file low high quiet le =
    let below = quiet_below file quiet in
    record {
      forced = le;
      untouched = λ i i_le lt. below.untouched i (omega arith) (omega (arith, lt, le));
      long = λ k k_le. omega (arith, le, below.long k k_le);
      same = λ k k_le i i_le lt. below.same k k_le i (omega arith) (omega (arith, lt, le));
    }

-- lists that agree at each place
pub same_reads : (xs ys : List ℕ) → length xs ≡ length ys → ((i : ℕ) → i < length ys → slice_get xs i ≡ slice_get ys i) → xs ≡ ys
same_reads [] [] len same = refl
same_reads [] (y ∷ ys) len same = absurd (omega (arith, len))
same_reads (x ∷ xs) [] len same = absurd (omega (arith, len))
same_reads (x ∷ xs) (y ∷ ys) len same =
    let first : Some x ≡ Some y = same 0 (omega arith) in
    let is : x ≡ y = cc in
    ap (λ n. n ∷ xs) is ∙ ap (λ (l : List ℕ). y ∷ l) (same_reads xs ys (omega (arith, len)) (λ i lt. same (suc i) (omega (arith, lt))))

-- a crash leaves a file with nothing pending as it is
pub quiet_left : (file : File) (left : Option (List ℕ)) → file.since ≡ [] → Leaves file left → bytes_of left ≡ bytes_of file.forced
quiet_left file left quiet leaves =
    let n = length (bytes_of file.forced) in
    let whole = kept file n left (quiet_below file quiet) leaves in
    let le : length (bytes_of left) ≤ n = no_longer file n left (λ k k_le. subst (λ (cs : List Change). length (bytes_of (after (take k cs) file.forced)) ≤ n) (sym quiet) (short k)) leaves in
    same_reads (bytes_of left) (bytes_of file.forced) (omega (arith, le, whole.long)) whole.same
  where
    short : (k : ℕ) → length (bytes_of (after (take k []) file.forced)) ≤ length (bytes_of file.forced)
    short zero = omega arith
    short (suc k) = omega arith
