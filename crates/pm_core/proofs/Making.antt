-- How steps of the machine that calls make follow each other.
use Rattle.std.proofs.Common.{◌≡◌, ℕ, zero, suc, ◌+◌, List, [], ◌∷◌, ◌++◌, length, take, refl, sym, ◌∙◌, ap, subst, arith, length-append, append_assoc, Result, Ok, Err, Bool, true, false}
use Rattle.std.specs.Prelude.{OnOk, IsErr, if◌then◌else◌}
use Rattle.std.proofs.Common.{inl, inr}
use Rattle.std.proofs.lemmas.List.{take-append-le}
use Rattle.std.proofs.Math.Seq.{take-append-add, take-length}
use Rattle.pm_types.specs.declared.page_id.PageId.{PageId}
use Rattle.pm_types.specs.declared.shape.Mark.{Mark}
use Rattle.pm_disk.specs.declared.mark.MarkFile.TheVariants as mark_file
use Rattle.pm_disk.specs.Worlds.{World}
use Rattle.pm_disk.specs.Moments.{History, IsHistory, Does, AllMoments}
use Rattle.pm_disk.proofs.Chain.{started, does, joined, weaker}
use Rattle.pm_marks.specs.MarkWrites.{WritesMarkSoFar}
use Rattle.pm_core.specs.BasePages.{Partitions}
use Rattle.pm_core.specs.Machine.{DiskStep, ForcePages, next_state, next_world, states, worlds}
use Rattle.pm_core.specs.Calls.{MakesPrefix, MakesSteps, begin_steps, end_steps, force_steps}
use Rattle.pm_core.specs.PageSets.{has_part}
use Rattle.pm_core.specs.States.{State}

pub worlds_join : (xs ys : List DiskStep) (s : State) (w : World) → worlds (xs ++ ys) s w ≡ worlds ys (states xs s w) (worlds xs s w)
worlds_join [] ys s w = refl
worlds_join (x ∷ xs) ys s w = worlds_join xs ys (next_state x s w) (next_world x s w)

-- ---- a prefix of steps

pub prefix_none : (steps : List DiskStep) (s : State) (old : World) → MakesPrefix steps s old old
prefix_none steps s old = (0, omega arith, refl)

pub prefix_all : (steps : List DiskStep) (s : State) (old : World) → MakesPrefix steps s old (worlds steps s old)
prefix_all steps s old = (length steps, omega arith, ap (λ ss. worlds ss s old) (sym (take-length steps)))

pub prefix_first : (xs ys : List DiskStep) (s : State) (old now : World) → MakesPrefix xs s old now → MakesPrefix (xs ++ ys) s old now
prefix_first xs ys s old now some = (some.0, omega (arith, some.1, length-append xs ys), some.2 ∙ ap (λ ss. worlds ss s old) (sym (take-append-le some.0 xs ys some.1)))

pub prefix_more : (xs ys : List DiskStep) (s : State) (old now : World) → MakesPrefix ys (states xs s old) (worlds xs s old) now → MakesPrefix (xs ++ ys) s old now
prefix_more xs ys s old now some = (
  length xs + some.0,
  omega (arith, some.1, length-append xs ys),
  some.2 ∙ sym (worlds_join xs (take some.0 ys) s old) ∙ ap (λ ss. worlds ss s old) (sym (take-append-add xs ys some.0)),
)

-- ---- their moments

pub makes_none : (old : History) (steps : List DiskStep) (s : State) → IsHistory old → AllMoments old old (MakesPrefix steps s old.world)
makes_none old steps s sound = started old (MakesPrefix steps s old.world) sound (prefix_none steps s old.world)

-- one call
pub moments_one : {T E : Type 0} (old new : History) (result : Result T E) (step : DiskStep) (s : State) → IsHistory old → Does {T = T} {E = E} old new result (next_world step s old.world)
    → AllMoments old new (MakesPrefix (step ∷ []) s old.world)
moments_one old new result step s sound call =
    let P : World → Type 0 = MakesPrefix (step ∷ []) s old.world in
    does old old new result (next_world step s old.world) P (makes_none old (step ∷ []) s sound) call (prefix_none (step ∷ []) s old.world) (prefix_all (step ∷ []) s old.world)

pub makes_one : {T E : Type 0} (old new : History) (result : Result T E) (step : DiskStep) (s : State) → IsHistory old → Does {T = T} {E = E} old new result (next_world step s old.world)
    → MakesSteps {T = T} {E = E} old new result (step ∷ []) s
makes_one old new result step s sound call = record { all = call.ok; moments = moments_one old new result step s sound call }

-- the first of more steps
pub moments_first : (old mid : History) (xs ys : List DiskStep) (s : State) → AllMoments old mid (MakesPrefix xs s old.world) → AllMoments old mid (MakesPrefix (xs ++ ys) s old.world)
moments_first old mid xs ys s first = weaker old mid (MakesPrefix xs s old.world) (MakesPrefix (xs ++ ys) s old.world) (λ w some. prefix_first xs ys s old.world w some) first

-- and the others after them
pub moments_joined : (old mid new : History) (xs ys : List DiskStep) (s : State) → AllMoments old mid (MakesPrefix xs s old.world) → mid.world ≡ worlds xs s old.world
    → AllMoments mid new (MakesPrefix ys (states xs s old.world) mid.world) → AllMoments old new (MakesPrefix (xs ++ ys) s old.world)
moments_joined old mid new xs ys s first is second =
    let P : World → Type 0 = MakesPrefix (xs ++ ys) s old.world in
    let t = states xs s old.world in
    joined old mid new P (moments_first old mid xs ys s first)
    (weaker mid new (MakesPrefix ys t mid.world) P (λ w some. prefix_more xs ys s old.world w (subst (λ v. MakesPrefix ys t v w) is some)) second)

pub world_joined : (old mid new : World) (xs ys : List DiskStep) (s : State) → mid ≡ worlds xs s old → new ≡ worlds ys (states xs s old) mid → new ≡ worlds (xs ++ ys) s old
world_joined old mid new xs ys s first second = second ∙ ap (worlds ys (states xs s old)) first ∙ sym (worlds_join xs ys s old)

-- a call that failed
on_ok-err : {T E : Type 0} (result : Result T E) (P : Type 0) → IsErr result → OnOk result P
on_ok-err (Ok x) P is = absurd cc
on_ok-err (Err e) P is = tt

pub broke_off : {T E : Type 0} (old new : History) (result : Result T E) (steps : List DiskStep) (s : State) → IsErr result → AllMoments old new (MakesPrefix steps s old.world) → MakesSteps {T = T} {E = E} old new result steps s
broke_off old new result steps s is moments = record { all = on_ok-err result (new.world ≡ worlds steps s old.world) is; moments = moments }

-- ---- markers

start_so_far : (mark : Mark) (rebuilt : Partitions) (s : State) (old now : World) → WritesMarkSoFar mark_file.Start mark old now → MakesPrefix (begin_steps mark rebuilt) s old now
start_so_far mark rebuilt s old now (inl same) = (0, omega arith, same)
start_so_far mark rebuilt s old now (inr (inl first)) = (1, omega arith, first)
start_so_far mark rebuilt s old now (inr (inr (inl written))) = (2, omega arith, written)
start_so_far mark rebuilt s old now (inr (inr (inr forced))) = (3, omega arith, forced)

pub start_moments : (old new : History) (mark : Mark) (rebuilt : Partitions) (s : State) → AllMoments old new (WritesMarkSoFar mark_file.Start mark old.world) → AllMoments old new (MakesPrefix (begin_steps mark rebuilt) s old.world)
start_moments old new mark rebuilt s moments =
    weaker old new (WritesMarkSoFar mark_file.Start mark old.world) (MakesPrefix (begin_steps mark rebuilt) s old.world) (λ w some. start_so_far mark rebuilt s old.world w some) moments

end_so_far : (mark : Mark) (s : State) (old now : World) → WritesMarkSoFar mark_file.End mark old now → MakesPrefix (end_steps mark) s old now
end_so_far mark s old now (inl same) = (0, omega arith, same)
end_so_far mark s old now (inr (inl first)) = (1, omega arith, first)
end_so_far mark s old now (inr (inr (inl written))) = (2, omega arith, written)
end_so_far mark s old now (inr (inr (inr forced))) = (3, omega arith, forced)

pub end_moments : (old new : History) (mark : Mark) (s : State) → AllMoments old new (WritesMarkSoFar mark_file.End mark old.world) → AllMoments old new (MakesPrefix (end_steps mark) s old.world)
end_moments old new mark s moments =
    weaker old new (WritesMarkSoFar mark_file.End mark old.world) (MakesPrefix (end_steps mark) s old.world) (λ w some. end_so_far mark s old.world w some) moments

-- ---- forces

pub forces-append : (from a b : ℕ) (pages : List PageId) → force_steps from (a + b) pages ≡ force_steps from a pages ++ force_steps (from + a) b pages
unfolding force_steps
forces-append from zero b pages =
    let e : 0 + b ≡ b = omega arith in
    let f : from ≡ from + 0 = omega arith in
    ap (λ n. force_steps from n pages) e ∙ ap (λ n. force_steps n b pages) f
forces-append from (suc a) b pages =
    let e : suc a + b ≡ suc (a + b) = omega arith in
    let f : from + 1 + a ≡ from + suc a = omega arith in
    let here : List DiskStep = if has_part from pages then ForcePages from ∷ [] else [] in
    ap (λ n. force_steps from n pages) e
    ∙ ap (λ rest. here ++ rest) (forces-append (from + 1) a b pages ∙ ap (λ n. force_steps (from + 1) a pages ++ force_steps n b pages) f)
    ∙ sym (append_assoc here (force_steps (from + 1) a pages) (force_steps (from + suc a) b pages))

-- of one partition
pub forces_one : (part : ℕ) (pages : List PageId) → has_part part pages ≡ true → force_steps part 1 pages ≡ ForcePages part ∷ []
unfolding force_steps
forces_one part pages is = ap (λ (b : Bool). let l : List DiskStep = (if b then ForcePages part ∷ [] else []) ++ [] in l) is

pub forces_no : (part : ℕ) (pages : List PageId) → has_part part pages ≡ false → force_steps part 1 pages ≡ []
unfolding force_steps
forces_no part pages is = ap (λ (b : Bool). let l : List DiskStep = (if b then ForcePages part ∷ [] else []) ++ [] in l) is

pub forces_none : (pages : List PageId) → force_steps 0 0 pages ≡ []
unfolding force_steps
forces_none pages = refl

pub forces_more : (n : ℕ) (pages : List PageId) → force_steps 0 (n + 1) pages ≡ force_steps 0 n pages ++ force_steps n 1 pages
forces_more n pages = let e : 0 + n ≡ n = omega arith in forces-append 0 n 1 pages ∙ ap (λ k. force_steps 0 n pages ++ force_steps k 1 pages) e
