-- How steps of the log's writer follow each other.
use Rattle.std.proofs.Common.{◌≡◌, ◌+◌, List, [], ◌∷◌, ◌++◌, length, take, refl, sym, ◌∙◌, ap, subst, arith, length-append, Result, Ok, Err}
use Rattle.std.specs.Prelude.{OnOk, IsErr}
use Rattle.std.proofs.lemmas.List.{take-append-le}
use Rattle.std.proofs.lemmas.Result.{on_ok_weaker}
use Rattle.std.proofs.Math.Seq.{take-append-add, take-length}
use Rattle.pm_types.specs.declared.place.Place.{Place}
use Rattle.pm_disk.specs.Worlds.{World}
use Rattle.pm_disk.specs.Moments.{History, IsHistory, Does, AllMoments}
use Rattle.pm_disk.proofs.Chain.{started, does, joined, weaker}
use Rattle.pm_records.specs.LogSteps.{Step, step_end, step_world, end_after, world_after, DoesPrefix, DoesSteps}

pub end_after-append : (xs ys : List Step) (end : Place) → end_after (xs ++ ys) end ≡ end_after ys (end_after xs end)
end_after-append [] ys end = refl
end_after-append (x ∷ xs) ys end = end_after-append xs ys (step_end x end)

pub world_after-append : (xs ys : List Step) (end : Place) (world : World) → world_after (xs ++ ys) end world ≡ world_after ys (end_after xs end) (world_after xs end world)
world_after-append [] ys end world = refl
world_after-append (x ∷ xs) ys end world = world_after-append xs ys (step_end x end) (step_world x end world)

-- ---- a prefix of steps

pub prefix_none : (steps : List Step) (end : Place) (old : World) → DoesPrefix steps end old old
prefix_none steps end old = (0, omega arith, refl)

pub prefix_all : (steps : List Step) (end : Place) (old : World) → DoesPrefix steps end old (world_after steps end old)
prefix_all steps end old = (length steps, omega arith, ap (λ ss. world_after ss end old) (sym (take-length steps)))

pub prefix_first : (xs ys : List Step) (end : Place) (old now : World) → DoesPrefix xs end old now → DoesPrefix (xs ++ ys) end old now
prefix_first xs ys end old now some = (some.0, omega (arith, some.1, length-append xs ys), some.2 ∙ ap (λ ss. world_after ss end old) (sym (take-append-le some.0 xs ys some.1)))

pub prefix_more : (xs ys : List Step) (end : Place) (old now : World) → DoesPrefix ys (end_after xs end) (world_after xs end old) now → DoesPrefix (xs ++ ys) end old now
prefix_more xs ys end old now some = (
  length xs + some.0,
  omega (arith, some.1, length-append xs ys),
  some.2 ∙ sym (world_after-append xs (take some.0 ys) end old) ∙ ap (λ ss. world_after ss end old) (sym (take-append-add xs ys some.0)),
)

-- ---- their moments

-- nothing was done
pub steps_none : (old : History) (steps : List Step) (end : Place) → IsHistory old → AllMoments old old (DoesPrefix steps end old.world)
steps_none old steps end sound = started old (DoesPrefix steps end old.world) sound (prefix_none steps end old.world)

-- one step
pub moments_one : {T E : Type 0} (old new : History) (result : Result T E) (step : Step) (end : Place) (next : World) → IsHistory old → next ≡ step_world step end old.world → Does {T = T} {E = E} old new result next
    → AllMoments old new (DoesPrefix (step ∷ []) end old.world)
moments_one old new result step end next sound is call =
    let P : World → Type 0 = DoesPrefix (step ∷ []) end old.world in
    does old old new result next P (steps_none old (step ∷ []) end sound) call (prefix_none (step ∷ []) end old.world) (subst P (sym is) (prefix_all (step ∷ []) end old.world))

pub steps_one : {T E : Type 0} (old new : History) (result : Result T E) (step : Step) (end : Place) → IsHistory old → Does {T = T} {E = E} old new result (step_world step end old.world)
    → DoesSteps {T = T} {E = E} old new result (step ∷ []) end
steps_one old new result step end sound call = record { all = call.ok; moments = moments_one old new result step end (step_world step end old.world) sound refl call }

-- the first of more steps
pub moments_first : (old mid : History) (xs ys : List Step) (end : Place) → AllMoments old mid (DoesPrefix xs end old.world) → AllMoments old mid (DoesPrefix (xs ++ ys) end old.world)
moments_first old mid xs ys end first = weaker old mid (DoesPrefix xs end old.world) (DoesPrefix (xs ++ ys) end old.world) (λ w some. prefix_first xs ys end old.world w some) first

-- and the others after them
pub moments_joined : (old mid new : History) (xs ys : List Step) (end : Place) → AllMoments old mid (DoesPrefix xs end old.world) → mid.world ≡ world_after xs end old.world
    → AllMoments mid new (DoesPrefix ys (end_after xs end) mid.world) → AllMoments old new (DoesPrefix (xs ++ ys) end old.world)
moments_joined old mid new xs ys end first is second =
    let P : World → Type 0 = DoesPrefix (xs ++ ys) end old.world in
    let mid_end = end_after xs end in
    joined old mid new P (moments_first old mid xs ys end first)
    (weaker mid new (DoesPrefix ys mid_end mid.world) P (λ w some. prefix_more xs ys end old.world w (subst (λ v. DoesPrefix ys mid_end v w) is some)) second)

-- the world after both
pub world_joined : (old mid new : World) (xs ys : List Step) (end : Place) → mid ≡ world_after xs end old → new ≡ world_after ys (end_after xs end) mid → new ≡ world_after (xs ++ ys) end old
world_joined old mid new xs ys end first second = second ∙ ap (world_after ys (end_after xs end)) first ∙ sym (world_after-append xs ys end old)

-- a call that failed
on_ok-err : {T E : Type 0} (result : Result T E) (P : Type 0) → IsErr result → OnOk result P
on_ok-err (Ok x) P is = absurd cc
on_ok-err (Err e) P is = tt

pub broke_off : {T E : Type 0} (old new : History) (result : Result T E) (steps : List Step) (end : Place) → IsErr result → AllMoments old new (DoesPrefix steps end old.world) → DoesSteps {T = T} {E = E} old new result steps end
broke_off old new result steps end is moments = record { all = on_ok-err result (new.world ≡ world_after steps end old.world) is; moments = moments }

-- a call that did the others
pub steps_joined : {T E : Type 0} (old mid new : History) (result : Result T E) (xs ys : List Step) (end : Place) → AllMoments old mid (DoesPrefix xs end old.world) → mid.world ≡ world_after xs end old.world
    → DoesSteps {T = T} {E = E} mid new result ys (end_after xs end) → DoesSteps {T = T} {E = E} old new result (xs ++ ys) end
steps_joined old mid new result xs ys end first is second = record {
  all = on_ok_weaker result (λ all. world_joined old.world mid.world new.world xs ys end is all) second.all;
  moments = moments_joined old mid new xs ys end first is second.moments;
}
