-- The entries of a map under pages' numbers, as pages.
use Rattle.std.proofs.Common.{◌≡◌, ℕ, List, [], ◌∷◌, length, Option, Some, None, Vec, Bool, true, false, Ordering, Less, Equal, Greater, refl, sym, ◌∙◌, ap, subst, arith, cond}
use Rattle.std.specs.declared.alloc.Global.{Global}
use Rattle.std.specs.Prelude.{◌&&◌, ◌==◌, if◌then◌else◌, option_map}
use Rattle.std.specs.Ordering.{nat_cmp, ordering_then, is_eq}
use Rattle.std.specs.Map.{lookup, set_value}
use Rattle.std.specs.BTreeMap.{is_at}
use Rattle.std.proofs.lemmas.Bool.Decides.{nat_tests}
use Rattle.std.proofs.lemmas.Map.Made.{lookup-map_values}
use Rattle.pm_types.specs.declared.page_id.PageId.{PageId}
use Rattle.pm_types.specs.Ids.{part_of_id, index_of_id}
use Rattle.pm_core.specs.BasePages.{Partitions, with_page}
use Rattle.pm_redo.specs.declared.rebuilt_pages.PageNumber.{PageNumber}
use Rattle.pm_redo.specs.PageMaps.{pages_in, seen, AreSized}

-- by partition, and then by index
abbrev pub number_cmp : PageNumber → PageNumber → Ordering
number_cmp a b = ordering_then (nat_cmp a.part b.part) (nat_cmp a.index b.index)

abbrev pub number : ℕ → ℕ → PageNumber
number part index = record { part = part; index = index }

abbrev pub number_named : PageId → PageNumber
number_named page = number (part_of_id page) (index_of_id page)

abbrev pub bytes_in : Vec ℕ Global → List ℕ
bytes_in v = v.items

-- ---- numbers that compare alike are one

eq_nat : (x y : ℕ) → is_eq (nat_cmp x y) ≡ (x == y)
eq_nat x y = grind (arith, nat_tests)

eq_then : (a b : Ordering) → is_eq (ordering_then a b) ≡ (is_eq a && is_eq b)
eq_then Less b = refl
eq_then Equal b = refl
eq_then Greater b = refl

eq_sym : (x y : ℕ) → (x == y) ≡ (y == x)
eq_sym x y = grind (arith, nat_tests)

pub at_number : (a b : PageNumber) → is_at (number_cmp a) b ≡ (a.part == b.part && a.index == b.index)
at_number a b = eq_then (nat_cmp a.part b.part) (nat_cmp a.index b.index) ∙ (λ i. eq_nat a.part b.part i && eq_nat a.index b.index i)

number_at : (a b : PageNumber) → is_at (number_cmp a) b ≡ (b.part == a.part && b.index == a.index)
number_at a b = at_number a b ∙ (λ i. eq_sym a.part b.part i && eq_sym a.index b.index i)

-- ---- look-ups

lookup_pages : (entries : List (PageNumber × List ℕ)) (part index : ℕ) → pages_in entries part index ≡ lookup (is_at (number_cmp (number part index))) entries
lookup_pages [] part index = refl
lookup_pages (e ∷ entries) part index =
    let one : (if part == e.0.part && index == e.0.index then Some e.1 else pages_in entries part index)
    ≡ (if part == e.0.part && index == e.0.index then Some e.1 else lookup (is_at (number_cmp (number part index))) entries) =
    ap (λ (o : Option (List ℕ)). if part == e.0.part && index == e.0.index then Some e.1 else o) (lookup_pages entries part index) in
    one ∙ ap (λ (b : Bool). if b then Some e.1 else lookup (is_at (number_cmp (number part index))) entries) (sym (at_number (number part index) e.0))

-- what is found among the entries is the page
pub found_page : (es : List (PageNumber × Vec ℕ Global)) (part index : ℕ) → pages_in (seen bytes_in es) part index ≡ option_map bytes_in (lookup (is_at (number_cmp (number part index))) es)
found_page es part index = lookup_pages (seen bytes_in es) part index ∙ lookup-map_values bytes_in (is_at (number_cmp (number part index))) es

-- ---- one entry more

pick : (t : Bool) (v : Vec ℕ Global) (o : Option (Vec ℕ Global)) (p : Option (List ℕ)) → p ≡ option_map bytes_in o
    → option_map bytes_in (cond t (Some v) o) ≡ (let r : Option (List ℕ) = if t then Some v.items else p in r)
pick true v o p is = refl
pick false v o p is = sym is

-- the entries have this one at a number, and are the same elsewhere
abbrev pub Puts : PageNumber → Vec ℕ Global → List (PageNumber × Vec ℕ Global) → List (PageNumber × Vec ℕ Global) → Type 0
Puts k v es fs = (q : PageNumber) → lookup (is_at (number_cmp q)) fs ≡ cond (is_at (number_cmp k) q) (Some v) (lookup (is_at (number_cmp q)) es)

pub put_page : (page : PageId) (k : PageNumber) (v : Vec ℕ Global) (es fs : List (PageNumber × Vec ℕ Global)) → k ≡ number_named page → Puts k v es fs
    → pages_in (seen bytes_in fs) ≡ with_page (pages_in (seen bytes_in es)) page v.items
put_page page k v es fs is puts = λ i part index. each part index i
  where
    there : Puts (number_named page) v es fs
    there = subst (λ (n : PageNumber). Puts n v es fs) is puts

    each : (part index : ℕ) → pages_in (seen bytes_in fs) part index ≡ with_page (pages_in (seen bytes_in es)) page v.items part index
    each part index =
        found_page fs part index
        ∙ ap (option_map bytes_in) (there (number part index))
        ∙ pick (is_at (number_cmp (number_named page)) (number part index)) v (lookup (is_at (number_cmp (number part index))) es) (pages_in (seen bytes_in es) part index) (found_page es part index)
        ∙ ap (λ (b : Bool). let r : Option (List ℕ) = if b then Some v.items else pages_in (seen bytes_in es) part index in r) (number_at (number_named page) (number part index))

-- and each page has the size
pub put_sized : (size : ℕ) (page : PageId) (k : PageNumber) (v : Vec ℕ Global) (es fs : List (PageNumber × Vec ℕ Global)) → k ≡ number_named page → Puts k v es fs → length v.items ≡ size → AreSized size (seen bytes_in es)
    → AreSized size (seen bytes_in fs)
put_sized size page k v es fs at puts sized are = record {
  may = are.may;
  each = λ part index bytes is. by part index bytes (part == part_of_id page && index == index_of_id page) (sym (ap (λ (pages : Partitions). pages part index) (put_page page k v es fs at puts)) ∙ is);
}
  where
    by : (part index : ℕ) (bytes : List ℕ) (b : Bool) → (let r : Option (List ℕ) = if b then Some v.items else pages_in (seen bytes_in es) part index in r) ≡ Some bytes → length bytes ≡ size
    by part index bytes true is = let same : v.items ≡ bytes = cc in ap length (sym same) ∙ sized
    by part index bytes false is = are.each part index bytes is

-- a value that is set to the same bytes
pub set_same : (test : PageNumber → Bool) (es : List (PageNumber × Vec ℕ Global)) (v w : Vec ℕ Global) → Some v ≡ lookup test es → w.items ≡ v.items → seen bytes_in (set_value test es w) ≡ seen bytes_in es
set_same test [] v w found same = refl
set_same test (e ∷ es) v w found same = by (λ there. set_same test es v w there same) (test e.0) found
  where
    by : (Some v ≡ lookup test es → seen bytes_in (set_value test es w) ≡ seen bytes_in es) → (b : Bool) → Some v ≡ cond b (Some e.1) (lookup test es)
        → seen bytes_in (cond b ((e.0, w) ∷ es) (e ∷ set_value test es w)) ≡ (e.0, e.1.items) ∷ seen bytes_in es
    by rest true found = let one : v ≡ e.1 = cc in ap (λ (bytes : List ℕ). (e.0, bytes) ∷ seen bytes_in es) (same ∙ ap bytes_in one)
    by rest false found = ap (λ (l : List (PageNumber × List ℕ)). (e.0, e.1.items) ∷ l) (rest found)

-- ---- an entry that is found

pub found_entry : (page : PageId) (k : PageNumber) (v : Vec ℕ Global) (es : List (PageNumber × Vec ℕ Global)) → k ≡ number_named page → Some v ≡ lookup (is_at (number_cmp k)) es
    → pages_in (seen bytes_in es) (part_of_id page) (index_of_id page) ≡ Some v.items
found_entry page k v es is found =
    found_page es (part_of_id page) (index_of_id page)
    ∙ ap (option_map bytes_in) (ap (λ (n : PageNumber). lookup (is_at (number_cmp n)) es) (sym is) ∙ sym found)

pub no_entry : (page : PageId) (k : PageNumber) (es : List (PageNumber × Vec ℕ Global)) → k ≡ number_named page → None ≡ lookup (is_at (number_cmp k)) es
    → pages_in (seen bytes_in es) (part_of_id page) (index_of_id page) ≡ None
no_entry page k es is found =
    found_page es (part_of_id page) (index_of_id page)
    ∙ ap (option_map bytes_in) (ap (λ (n : PageNumber). lookup (is_at (number_cmp n)) es) (sym is) ∙ sym found)
