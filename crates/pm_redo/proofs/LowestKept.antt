-- The lowest segment that is kept.
use Rattle.std.proofs.Common.{◌≡◌, inl, inr, ℕ, ◌-◌, ◌<◌, ◌≤◌, Option, Some, None, true, false, List, length, refl, sym, ◌∙◌, ap, subst, arith, Result}
use Rattle.std.specs.Prelude.{◌≢◌, IsSome, is_some, IfOk, OnOk, Ok, Err}
use Rattle.std.proofs.lemmas.Bool.{cases_eq}
use Rattle.pm_types.specs.declared.place.Place.{Place}
use Rattle.pm_disk.specs.Files.{File, Cut, content, bytes_of}
use Rattle.pm_disk.specs.Worlds.{World, segment_in}
use Rattle.pm_disk.proofs.Families.{changed_there, forced_there}
use Rattle.pm_records.specs.LogSteps.{cut_steps, cut_at, world_after}
use Rattle.pm_segments.specs.Drops.{is_there}
use Rattle.pm_segments.specs.Ends.{LogEnd, EndsThere, fresh_log}
use Rattle.pm_redo.specs.Restoring.{IsLowestKept, HasSegments}

is_some_there : (o : Option (List ℕ)) → is_some o ≡ true → IsSome o
is_some_there None is = absurd cc
is_some_there (Some bytes) is = search

is_none_there : (o : Option (List ℕ)) → is_some o ≡ false → o ≡ None
is_none_there None is = refl
is_none_there (Some bytes) is = absurd cc

-- the segment right below isn't there
pub gone_below : (world : World) (seg : ℕ) → is_there seg world ≡ false → segment_in world seg ≡ None
gone_below world seg is = is_none_there (segment_in world seg) is

-- one segment more is there
pub one_lower : (world : World) (needed lowest : ℕ) → is_there (lowest - 1) world ≡ true → ((seg : ℕ) → lowest ≤ seg → seg < needed → IsSome (segment_in world seg)) → (seg : ℕ) → lowest - 1 ≤ seg → seg < needed → IsSome (segment_in world seg)
one_lower world needed lowest is there seg from to = elim (cases_eq seg (lowest - 1)) [
  | inl same ↦ subst (λ n. IsSome (segment_in world n)) (sym same) (is_some_there (segment_in world (lowest - 1)) is)
  | inr apart ↦ there seg (omega (arith, from, apart)) to
]

-- of two worlds that have the same segments below one, it is kept in both
pub lowest_stays : (old new : World) (needed lowest : ℕ) → ((seg : ℕ) → seg < needed → segment_in new seg ≡ segment_in old seg) → IsLowestKept old needed lowest → IsLowestKept new needed lowest
lowest_stays old new needed lowest same is = record {
  below = is.below;
  from_one = is.from_one;
  there = λ seg from to. subst IsSome (sym (same seg to)) (is.there seg from to);
  gone = λ more. same (lowest - 1) (omega (arith, is.below, more)) ∙ is.gone more;
}

-- a log that is cut at its end has the segments below that as before
pub cut_keeps : (end : Place) (world : World) (seg : ℕ) → seg < end.seg → segment_in (world_after cut_steps end world) seg ≡ segment_in world seg
cut_keeps end world seg below =
    let apart : seg ≢ end.seg = λ is. omega (arith, is, below) in
    ap content (forced_there end.seg seg (cut_at end world) apart ∙ changed_there end.seg seg (Cut end.off) world apart)

-- the log that was cut has these segments
pub cut_has : {E : Type 0} (result : Result LogEnd E) (needed lowest size : ℕ) (end : Place) (old new : World) → needed ≤ end.seg → IsLowestKept old needed lowest → IfOk result (λ log. log ≡ fresh_log lowest end size)
    → IfOk result (λ log. EndsThere log new) → OnOk result (new ≡ world_after cut_steps end old) → IfOk result (HasSegments needed new)
cut_has (Ok log) needed lowest size end old new below is log_is ends done = record {
  ends = ends;
  lowest = subst (λ n. IsLowestKept new needed n) (sym (ap (λ (l : LogEnd). l.first) log_is))
      (lowest_stays old new needed lowest (λ seg lt. ap (λ (w : World). segment_in w seg) done ∙ cut_keeps end old seg (omega (arith, lt, below))) is);
}
cut_has (Err fault) needed lowest size end old new below is log_is ends done = tt

-- where no segment of the log has changed, it has the same
pub segments_stay : (old new : World) (needed : ℕ) (log : LogEnd) → new.log ≡ old.log → HasSegments needed old log → HasSegments needed new log
segments_stay old new needed log same has = record {
  ends = record { kept = has.ends.kept; ends = ap (λ (files : ℕ → File). length (bytes_of (content (files log.end.seg)))) same ∙ has.ends.ends };
  lowest = lowest_stays old new needed log.first (λ seg lt. ap (λ (files : ℕ → File). content (files seg)) same) has.lowest;
}
