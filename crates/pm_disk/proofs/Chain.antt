-- How a run of calls goes on.
use Rattle.std.proofs.Common.{◌≡◌, inl, inr, ⊎_elim, ℕ, ◌≤◌, List, length, take, sym, subst, arith, Result}
use Rattle.pm_disk.specs.Worlds.{World, with_said}
use Rattle.pm_disk.specs.Moments.{History, IsHistory, Elapses, Does, Says, AllMoments}
use Rattle.pm_disk.specs.Lending.{IsPaired, Joins}

-- before the first call
pub started : (h : History) (P : World → Type 0) → IsHistory h → P h.world → AllMoments h h P
started h P sound here = record {
  later = omega arith;
  each = λ w now. subst P (sym (sound.only_now w now)) here;
  before = λ t w le left. inl left;
}

-- one call more, after which the world has P
pub goes_on : (old mid new : History) (P : World → Type 0) → AllMoments old mid P → Elapses mid new → P new.world → AllMoments old new P
goes_on old mid new P so_far time here = record {
  later = omega (arith, so_far.later, time.later);
  each = λ w now. ⊎_elim (so_far.each w) (λ is. subst P (sym is) here) (time.nothing_else old.clock w so_far.later now);
  before = λ t w le now. ⊎_elim (so_far.before t w le) (λ is. inr (subst P (sym is) here)) (time.nothing_else t w (omega (arith, le, so_far.later)) now);
}

-- the same, where the call may fail
pub does : {T E : Type 0} (old mid new : History) (result : Result T E) (next : World) (P : World → Type 0) → AllMoments old mid P → Does mid new result next → P mid.world → P next → AllMoments old new P
does old mid new result next P so_far call before now =
    goes_on old mid new P so_far call.time (⊎_elim (λ same. subst P (sym same) before) (λ is. subst P (sym is) now) call.either)

-- the same, where bytes are said
pub says : {T E : Type 0} (old mid new : History) (result : Result T E) (bytes : List ℕ) (P : World → Type 0) → AllMoments old mid P → Says mid new result bytes → ((k : ℕ) → k ≤ length bytes → P (with_said (take k bytes) mid.world)) → AllMoments old new P
says old mid new result bytes P so_far call each =
    goes_on old mid new P so_far call.time (subst P (sym call.part.2) (each call.part.0 call.part.1))

-- one run after another
pub joined : (old mid new : History) (P : World → Type 0) → AllMoments old mid P → AllMoments mid new P → AllMoments old new P
joined old mid new P first second = record {
  later = omega (arith, first.later, second.later);
  each = λ w now. ⊎_elim (first.each w) (λ is. is) (second.before old.clock w first.later now);
  before = λ t w le now. ⊎_elim (first.before t w le) inr (second.before t w (omega (arith, le, first.later)) now);
}

-- a weaker promise
pub weaker : (old new : History) (P Q : World → Type 0) → ((w : World) → P w → Q w) → AllMoments old new P → AllMoments old new Q
weaker old new P Q gives all = record {
  later = all.later;
  each = λ w now. gives w (all.each w now);
  before = λ t w le now. ⊎_elim inl (λ is. inr (gives w is)) (all.before t w le now);
}

-- a run that is over says so of the world now
pub at_last : (old new : History) (P : World → Type 0) → IsHistory new → AllMoments old new P → P new.world
at_last old new P sound all = all.each new.world (sound.counts_now old.clock all.later)

-- the parts are back, and each pair of their moments has P
pub joins : (old mid new log pages : History) (P : World → Type 0) → AllMoments old mid P → Joins mid new log pages → ((w : World) → IsPaired mid.world log pages w → P w) → AllMoments old new P
joins old mid new log pages P so_far back paired = record {
  later = omega (arith, so_far.later, back.later);
  each = λ w now. ⊎_elim (so_far.each w) (paired w) (back.nothing_else old.clock w so_far.later now);
  before = λ t w le now. ⊎_elim (so_far.before t w le) (λ pair. inr (paired w pair)) (back.nothing_else t w (omega (arith, le, so_far.later)) now);
}

-- at each moment of a part since it was lent the world has what it has since a clock that began then
pub since_lent : (old new : History) (P : World → Type 0) → old.clock ≡ 0 → AllMoments old new P → (w : World) → new.was 0 w → P w
since_lent old new P begins all w was = all.each w (subst (λ t. new.was t w) (sym begins) was)
