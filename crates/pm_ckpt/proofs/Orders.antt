-- The same pages in another order.
use Rattle.std.proofs.Common.{◌≡◌, ℕ, ◌+◌, ◌≤◌, List, [], ◌∷◌, Bool, true, false, None, map, Result, Ok, refl, sym, ◌∙◌, ap, subst, arith}
use Rattle.std.specs.Prelude.{◌==◌, ◌&&◌, if◌then◌else◌, IsErr}
use Rattle.std.specs.List.{sum_by}
use Rattle.std.specs.List.Sorted.{IsPermutation}
use Rattle.std.proofs.lemmas.Bool.{eqb-true, eq-eqb}
use Rattle.std.proofs.lemmas.List.Sorted.{All-permutation, IsPermutation-sym, sum_by-IsPermutation}
use Rattle.std.proofs.lemmas.List.Sums.{sum_by-cons}
use Rattle.std.proofs.lemmas.Bool.Decides.{nat_tests}
use Rattle.pm_types.specs.declared.page_id.PageId.{PageId}
use Rattle.pm_types.specs.declared.shape.Mark.{Mark}
use Rattle.pm_types.specs.declared.shape.Shape.{Shape}
use Rattle.pm_types.specs.Ids.{part_of_id, index_of_id}
use Rattle.pm_disk.specs.Moments.{History}
use Rattle.pm_disk.specs.Worlds.{World}
use Rattle.pm_segments.specs.Ends.{LogEnd}
use Rattle.pm_core.specs.BasePages.{Partitions, page_in_file}
use Rattle.pm_core.proofs.Making.{broke_off}
use Rattle.pm_core.specs.PageSets.{AreOnce, has_index, has_page}
use Rattle.pm_core.specs.States.{State}
use Rattle.pm_ckpt.specs.Checkpoints.{CanCheckpoint, MayCheckpoint, MakesInOrder, MakesWhole, IsEnded, whole_steps}
use Rattle.pm_ckpt.specs.Writes.{Writing, written_page, IsOrderOf}

-- ---- how often a page stands among pages

same_name : PageId → PageId → ℕ
same_name page other = if other.0 == page.0 then 1 else 0

times : PageId → List PageId → ℕ
times page xs = sum_by (same_name page) xs

times_cons : (page x : PageId) (xs : List PageId) → times page (x ∷ xs) ≡ (if x.0 == page.0 then 1 else 0) + times page xs
unfolding times same_name
times_cons page x xs = sum_by-cons (same_name page) x xs

times_nil : (page : PageId) → times page [] ≡ 0
unfolding times
times_nil page = refl

times_same : (page : PageId) (xs ys : List PageId) → IsPermutation xs ys → times page ys ≡ times page xs
unfolding times
times_same page xs ys same = sum_by-IsPermutation (same_name page) xs ys same

-- a page that isn't there stands there no time, and one that is there once or more
none_times : (page : PageId) (xs : List PageId) → has_page page xs ≡ false → times page xs ≡ 0
none_times page [] none = times_nil page
none_times page (x ∷ xs) none = times_cons page x xs ∙ by (x.0 == page.0) none (none_times page xs)
  where
    by : (b : Bool) → (if b then true else has_page page xs) ≡ false → (has_page page xs ≡ false → times page xs ≡ 0) → (if b then 1 else 0) + times page xs ≡ 0
    by true is rest = absurd cc
    by false is rest = omega (arith, rest is)

some_times : (page : PageId) (xs : List PageId) → has_page page xs ≡ true → 1 ≤ times page xs
some_times page [] has = absurd cc
some_times page (x ∷ xs) has = subst (λ n. 1 ≤ n) (sym (times_cons page x xs)) (by (x.0 == page.0) has (some_times page xs))
  where
    by : (b : Bool) → (if b then true else has_page page xs) ≡ true → (has_page page xs ≡ true → 1 ≤ times page xs) → 1 ≤ (if b then 1 else 0) + times page xs
    by true is rest = omega arith
    by false is rest = omega (arith, rest is)

once_times : (xs : List PageId) → AreOnce xs → (page : PageId) → times page xs ≤ 1
once_times [] once page = omega (arith, times_nil page)
once_times (x ∷ xs) once page = subst (λ n. n ≤ 1) (sym (times_cons page x xs)) (by (x.0 == page.0) refl (once_times xs once.1 page))
  where
    by : (b : Bool) → (x.0 == page.0) ≡ b → times page xs ≤ 1 → (if b then 1 else 0) + times page xs ≤ 1
    by true is rest =
        let same : x.0 ≡ page.0 = eqb-true _ _ is in
        let none : has_page page xs ≡ false = subst (λ n. (let p : PageId = record { 0 = n } in has_page p xs) ≡ false) same once.0 in
        omega (arith, none_times page xs none)
    by false is rest = omega (arith, rest)

times_once : (xs : List PageId) → ((page : PageId) → times page xs ≤ 1) → AreOnce xs
times_once [] few = tt
times_once (x ∷ xs) few = (by (has_page x xs) refl, times_once xs (λ page. omega (arith, few page, times_cons page x xs)))
  where
    by : (b : Bool) → has_page x xs ≡ b → has_page x xs ≡ false
    by false is = is
    by true is =
        let here = ap (λ (b : Bool). let n : ℕ = if b then 1 else 0 in n) (eq-eqb x.0 x.0 refl) in
        absurd (omega (arith, few x, times_cons x x xs, here, some_times x xs is))

pub once_same : (xs ys : List PageId) → IsPermutation xs ys → AreOnce xs → AreOnce ys
once_same xs ys same once = times_once ys (λ page. omega (arith, times_same page xs ys same, once_times xs once page))

-- ---- whether a page is among them

is_it : ℕ → ℕ → PageId → Bool
is_it part index page = part_of_id page == part && index_of_id page == index

hits : ℕ → ℕ → List PageId → ℕ
hits part index xs = sum_by (λ page. if is_it part index page then 1 else 0) xs

hits_cons : (part index : ℕ) (x : PageId) (xs : List PageId) → hits part index (x ∷ xs) ≡ (if part_of_id x == part && index_of_id x == index then 1 else 0) + hits part index xs
unfolding hits is_it
hits_cons part index x xs = sum_by-cons (λ page. if is_it part index page then 1 else 0) x xs

hits_nil : (part index : ℕ) → hits part index [] ≡ 0
unfolding hits
hits_nil part index = refl

hits_same : (part index : ℕ) (xs ys : List PageId) → IsPermutation xs ys → hits part index ys ≡ hits part index xs
unfolding hits
hits_same part index xs ys same = sum_by-IsPermutation (λ page. if is_it part index page then 1 else 0) xs ys same

-- the answer goes by the number
index_hits : (part index : ℕ) (xs : List PageId) → has_index part index xs ≡ (if hits part index xs == 0 then false else true)
index_hits part index [] = ap (λ n. if n == 0 then false else true) (sym (hits_nil part index))
index_hits part index (x ∷ xs) =
    by (part_of_id x == part && index_of_id x == index) (index_hits part index xs) ∙ ap (λ n. if n == 0 then false else true) (sym (hits_cons part index x xs))
  where
    by : (b : Bool) → has_index part index xs ≡ (if hits part index xs == 0 then false else true)
        → (if b then true else has_index part index xs) ≡ (if ((if b then 1 else 0) + hits part index xs) == 0 then false else true)
    by true rest = let e : ((1 + hits part index xs) == 0) ≡ false = grind (arith, nat_tests) in ap (λ (b : Bool). if b then false else true) (sym e)
    by false rest = let e : 0 + hits part index xs ≡ hits part index xs = omega arith in rest ∙ ap (λ n. if n == 0 then false else true) (sym e)

pub index_same : (part index : ℕ) (xs ys : List PageId) → IsPermutation xs ys → has_index part index ys ≡ has_index part index xs
index_same part index xs ys same =
    index_hits part index ys ∙ ap (λ n. if n == 0 then false else true) (hits_same part index xs ys same) ∙ sym (index_hits part index xs)

-- ---- what is asked and left

module _ (log : LogEnd) (mark : Mark) (held : Partitions) (dirty order : List PageId) (same : IsPermutation dirty order) (w : World) where
  abbrev pub can_order : (wanted : Shape) (told : List ℕ → ℕ) (s : State) → CanCheckpoint wanted told s log mark held dirty w → CanCheckpoint wanted told s log mark held order w
  can_order wanted told s can = record {
    stands = can.stands;
    ends = can.ends;
    is_open = can.is_open;
    begun = can.begun;
    rebuilt = can.rebuilt;
    guard = can.guard;
    rebuilds = λ part index. can.rebuilds part index ∙ ap (λ (b : Bool). if b then held part index else None) (sym (index_same part index dirty order same));
  }

  pub may_order : MayCheckpoint log mark held dirty w → MayCheckpoint log mark held order w
  may_order may = record { wanted = may.wanted; told = may.told; state = may.state; can = can_order may.wanted may.told may.state may.can }

pub ended_order : (size : ℕ) (log : LogEnd) (mark : Mark) (held : Partitions) (dirty order : List PageId) (w : World) → IsPermutation dirty order → IsEnded size log mark held order w → IsEnded size log mark held dirty w
ended_order size log mark held dirty order w same ended =
    let back = IsPermutation-sym dirty order same in
    record {
      checkpoint = ended.checkpoint;
      home = record {
        quiet = All-permutation (λ page. (w.pages (part_of_id page)).since ≡ []) order dirty back ended.home.quiet;
        stand = All-permutation (λ page. page_in_file size (w.pages (part_of_id page)).forced (index_of_id page) ≡ held (part_of_id page) (index_of_id page)) order dirty back ended.home.stand;
      };
      gone = ended.gone;
    }

-- ---- what was made in an order is a whole checkpoint

-- what a call says that makes it in an order
abbrev pub MakesOrdered : {T E : Type 0} → (List ℕ → ℕ) → History → History → Result T E → LogEnd → Mark → Partitions → List PageId → Shape → State → Type 0
MakesOrdered {T} {E} told old new made log mark held order wanted s =
    (can : CanCheckpoint wanted told s log mark held order old.world) → MakesInOrder {T = T} {E = E} told old new made log mark can.rebuilt held order s

module _ (wanted : Shape) (told : List ℕ → ℕ) (old new : History) (log : LogEnd) (mark named : Mark) (held : Partitions) (dirty order placed : List PageId) (s : State)
    (is : IsOrderOf dirty order) (at : order ≡ placed) (mark_is : mark ≡ named) (can : CanCheckpoint wanted told s log named held dirty old.world) where
  ordered : {V E : Type 0} (made : Result V E) → MakesOrdered {T = V} {E = E} told old new made log mark held placed wanted s → MakesInOrder {T = V} {E = E} told old new made log named can.rebuilt held order s
  ordered {V} {E} made makes =
      let here = subst (λ (m : Mark). MakesOrdered {T = V} {E = E} told old new made log m held order wanted s) mark_is
      (subst (λ ps. MakesOrdered {T = V} {E = E} told old new made log mark held ps wanted s) (sym at) makes) in
      here (can_order log named held dirty order is.same old.world wanted told s can)

  in_order : (xs : List Writing) → map written_page xs ≡ order → IsOrderOf dirty (map written_page xs)
  in_order xs pages_are = subst (IsOrderOf dirty) (sym pages_are) is

  pub whole_err : {V T E : Type 0} (made : Result V E) (left : Result T E) → IsErr left → MakesOrdered {T = V} {E = E} told old new made log mark held placed wanted s
      → MakesWhole {T = T} {E = E} told old new left log named can.rebuilt held dirty s
  whole_err made left failed makes =
      let whole = ordered made makes in
      record {
        writings = whole.writings;
        order = in_order whole.writings whole.pages_are;
        guards = whole.guards;
        leaves = whole.leaves;
        makes = broke_off old new left (whole_steps log named can.rebuilt held whole.writings s old.world) s failed whole.makes.moments;
      }

  pub whole_ok : {V T E F : Type 0} (x : V) (y : T) → MakesOrdered {T = V} {E = E} told old new (Ok x) log mark held placed wanted s
      → MakesWhole {T = T} {E = F} told old new (Ok y) log named can.rebuilt held dirty s
  whole_ok {V} {T} {E} {F} x y makes =
      let whole = ordered {E = E} (Ok x) makes in
      record {
        writings = whole.writings;
        order = in_order whole.writings whole.pages_are;
        guards = whole.guards;
        leaves = whole.leaves;
        makes = record { all = whole.makes.all; moments = whole.makes.moments };
      }
