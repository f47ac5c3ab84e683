-- Entries in order: what is put after all others comes last.
use Rattle.std.proofs.Common.{◌≡◌, ℕ, List, [], ◌∷◌, ◌++◌, Less, Greater, refl, sym, ◌∙◌, ap, subst, arith, append_assoc}
use Rattle.std.specs.Ordering.{match_ordering, nat_cmp}
use Rattle.std.specs.BTreeMap.{insert_entry}
use Rattle.std.specs.Map.{keys_of}
use Rattle.std.specs.List.{AllByRecursion}
use Rattle.std.specs.List.Sorted.{IsStrictlySortedBy}
use Rattle.std.proofs.lemmas.Bool.Decides.{nat_tests}
use Rattle.std.proofs.lemmas.Map.Keys.{sorted_head, sorted_tail}
use Rattle.pm_disk_mem.specs.Disks.{seen}

-- a key that is after another one
greater : (m n : ℕ) → nat_cmp m n ≡ Less → nat_cmp n m ≡ Greater
greater m n less = grind (arith, nat_tests)

-- what holds of each key holds of one among them
head_below : {Y : Type 0} (first : ℕ) (es rest : List (ℕ × Y)) (e : ℕ × Y) → AllByRecursion (λ k. nat_cmp first k ≡ Less) (keys_of (es ++ e ∷ rest)) → nat_cmp first e.0 ≡ Less
head_below first [] rest e all = all.0
head_below first (x ∷ es) rest e all = head_below first es rest e all.1

-- an entry whose key is after all others is put at the end
pub insert_entry-last : {Y : Type 0} (es rest : List (ℕ × Y)) (k : ℕ) (y : Y) → IsStrictlySortedBy nat_cmp (keys_of (es ++ (k, y) ∷ rest)) → insert_entry nat_cmp es k y ≡ es ++ (k, y) ∷ []
insert_entry-last [] rest k y sorted = refl
insert_entry-last {Y} (e ∷ es) rest k y sorted =
    ap (λ o. match_ordering o ((k, y) ∷ e ∷ es) ((e.0, y) ∷ es) (e ∷ insert_entry nat_cmp es k y)) (greater e.0 k (head_below e.0 es rest (k, y) (sorted_head nat_cmp e.0 (keys_of (es ++ (k, y) ∷ rest)) sorted)))
    ∙ ap (λ (l : List (ℕ × Y)). e ∷ l) (insert_entry-last es rest k y (sorted_tail nat_cmp e.0 (keys_of (es ++ (k, y) ∷ rest)) sorted))

pub keys_of-seen : {X Y : Type 0} (f : X → Y) (es : List (ℕ × X)) → keys_of (seen f es) ≡ keys_of es
keys_of-seen f [] = refl
keys_of-seen f (e ∷ es) = ap (λ (l : List ℕ). e.0 ∷ l) (keys_of-seen f es)

-- A map is made of entries in order, one after the other.
pub made_more : {X Y : Type 0} (f : X → Y) (es new_es : List (ℕ × Y)) (left new_left : List (ℕ × X)) (all : List (ℕ × Y)) (k : ℕ) (x : X)
    → es ++ seen f left ≡ all → left ≡ (k, x) ∷ new_left → IsStrictlySortedBy nat_cmp (keys_of all) → new_es ≡ insert_entry nat_cmp es k (f x) → new_es ++ seen f new_left ≡ all
made_more {X} {Y} f es new_es left new_left all k x so_far is sorted put =
    let whole : es ++ (k, f x) ∷ seen f new_left ≡ all = ap (λ (l : List (ℕ × X)). es ++ seen f l) (sym is) ∙ so_far in
    let last = insert_entry-last es (seen f new_left) k (f x) (subst (λ (l : List (ℕ × Y)). IsStrictlySortedBy nat_cmp (keys_of l)) (sym whole) sorted) in
    ap (λ (l : List (ℕ × Y)). l ++ seen f new_left) (put ∙ last) ∙ append_assoc es ((k, f x) ∷ []) (seen f new_left) ∙ whole
