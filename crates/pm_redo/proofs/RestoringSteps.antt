-- A restart's calls are steps of the disk machine that meet their guards.
use Rattle.std.proofs.Common.{◌≡◌, ◌⊎◌, inl, inr, ℕ, ◌≤◌, List, [], ◌++◌, length, Some, refl, sym, ◌∙◌, ap, subst, arith, append-nil, Result}
use Rattle.std.specs.Prelude.{OnOk, IsErr, Ok, Err}
use Rattle.std.proofs.lemmas.Option.{same_Some}
use Rattle.std.proofs.lemmas.Result.{on_ok_weaker}
use Rattle.pm_types.specs.declared.page_id.PageId.{PageId}
use Rattle.pm_types.specs.declared.place.Place.{Place}
use Rattle.pm_types.specs.declared.shape.Mark.{Mark}
use Rattle.pm_types.specs.declared.shape.Shape.{Shape}
use Rattle.pm_disk.specs.Moments.{History, IsHistory, Does, AllMoments}
use Rattle.pm_disk.specs.Worlds.{World}
use Rattle.pm_disk.proofs.Chain.{started, does, joined, weaker}
use Rattle.pm_records.specs.LogFiles.{contents}
use Rattle.pm_records.specs.LogSteps.{cut_steps, DoesPrefix, DoesSteps, world_after}
use Rattle.pm_records.specs.Logs.{all_frames, after_frames}
use Rattle.pm_records.proofs.OpeningLaw.{run_within}
use Rattle.pm_records.proofs.Runs.{one_log}
use Rattle.pm_marks.specs.InForce.{Checkpoint, NoStart, Started, Ended}
use Rattle.pm_core.specs.BasePages.{Partitions, no_pages, pages_of, laid_over, Rebuilds, rebuilt_of}
use Rattle.pm_core.specs.Calls.{MakesPrefix, AreRebuilt}
use Rattle.pm_core.specs.Machine.{DiskStep, CanAll, map_or, states, worlds}
use Rattle.pm_core.specs.Prefixes.{last_number}
use Rattle.pm_core.specs.Replays.{all_replayed}
use Rattle.pm_core.specs.Rounds.{on_log}
use Rattle.pm_core.specs.Stands.{Stands}
use Rattle.pm_core.specs.Starts.{appended}
use Rattle.pm_core.specs.States.{State}
use Rattle.pm_core.proofs.CrashLaw.{run_stands}
use Rattle.pm_core.proofs.Joins.{can-append}
use Rattle.pm_core.proofs.LogCalls.{log_worlds, prefix}
use Rattle.pm_core.proofs.Making.{moments_joined, world_joined}
use Rattle.pm_redo.specs.Ending.{BeginsSteps, MayEnd, EndsCheckpoint, ended_state}
use Rattle.pm_redo.specs.LogEnds.{LogEndsAt}
use Rattle.pm_redo.specs.PageMaps.{PageMap, kept_pages}
use Rattle.pm_redo.specs.Pictures.{files_in, AreOfFiles}
use Rattle.pm_redo.specs.Rebuilding.{IsSame}
use Rattle.pm_redo.specs.Restoring.{IsLeft, KeepsMarks, Restores, with_end}
use Rattle.pm_redo.proofs.EndingSteps.{states_join}
use Rattle.pm_redo.proofs.RangeReads.{same_range}

-- ---- the log

-- a log ends at one place
pub one_end : (log : ℕ → List ℕ) (from one other : Place) → LogEndsAt log from one → LogEndsAt log from other → one ≡ other
one_end log from one other a b = a.ends ∙ ap (after_frames from) (one_log all_frames log from a.frames b.frames a.is_log b.is_log) ∙ sym b.ends

-- and within its segment's file
pub end_within : (log : ℕ → List ℕ) (from end : Place) → from.off ≤ length (log from.seg) → LogEndsAt log from end → end.off ≤ length (log end.seg)
end_within log from end within e = subst (λ (p : Place). p.off ≤ length (log p.seg)) (sym e.ends) (run_within log from e.frames within e.is_log.run)

-- one call that changes nothing, and then more of them
pub read_then : {T E : Type 0} (old mid new : History) (result : Result T E) → IsHistory old → Does {T = T} {E = E} old mid result old.world → AllMoments mid new (IsSame mid.world) → AllMoments old new (IsSame old.world)
read_then old mid new result sound call rest =
    let same : mid.world ≡ old.world = unmoved call.either in
    joined old mid new (IsSame old.world) (does old old mid result old.world (IsSame old.world) (started old (IsSame old.world) sound refl) call refl refl)
    (weaker mid new (IsSame mid.world) (IsSame old.world) (λ w is. is ∙ same) rest)
  where
    unmoved : (mid.world ≡ old.world) ⊎ (mid.world ≡ old.world) → mid.world ≡ old.world
    unmoved (inl is) = is
    unmoved (inr is) = is

-- a call that reads, whatever comes of it
pub read_one : {T E : Type 0} (old mid : History) (result : Result T E) → IsHistory old → Does {T = T} {E = E} old mid result old.world → AllMoments old mid (IsSame old.world)
read_one old mid result sound call = does old old mid result old.world (IsSame old.world) (started old (IsSame old.world) sound refl) call refl refl

-- nothing of the cut is done yet
pub cut_soon : (old new : History) (end : Place) → AllMoments old new (IsSame old.world) → AllMoments old new (DoesPrefix cut_steps end old.world)
cut_soon old new end same = weaker old new (IsSame old.world) (DoesPrefix cut_steps end old.world) (λ w is. (0, omega arith, is)) same

-- the log was read, and then cut
pub read_and_cut : {T E : Type 0} (old mid new : History) (result : Result T E) (end : Place) → mid.world ≡ old.world → AllMoments old mid (IsSame old.world) → DoesSteps {T = T} {E = E} mid new result cut_steps end
    → AllMoments old new (DoesPrefix cut_steps end old.world)
read_and_cut old mid new result end same first cuts =
    let P : World → Type 0 = DoesPrefix cut_steps end old.world in
    joined old mid new P (cut_soon old mid end first) (subst (λ w. AllMoments mid new (DoesPrefix cut_steps end w)) same cuts.moments)

-- ---- as steps of the machine

keeps_marks : (checkpoint : Checkpoint) (old now : World) → now.starts ≡ old.starts → now.ends ≡ old.ends → KeepsMarks checkpoint old now
keeps_marks NoStart old now starts ends = (starts, ends)
keeps_marks (Started mark) old now starts ends = tt
keeps_marks (Ended mark) old now starts ends = tt

module _ (wanted : Shape) (told : List ℕ → ℕ) (checkpoint : Checkpoint) (s : State) (old : History) (left : IsLeft wanted told checkpoint s old.world) where
  abbrev pub cuts : List DiskStep
  cuts = on_log cut_steps

  abbrev pub cut_state : State
  cut_state = states cuts s old.world

  pub cut_can : CanAll told cuts s old.world
  cut_can = (left.uncut, (inr refl, tt))

  cut_at : cut_state.at ≡ s.at
  cut_at = ap (after_frames s.at) left.nothing_pending

  cut_order : cut_state.order ≡ s.order
  cut_order = ap (λ fs. s.order ++ fs) left.nothing_pending ∙ append-nil s.order

  cut_map : cut_state.map ≡ s.map
  cut_map = ap (λ fs. map_or (all_replayed s.shape fs (Some s.map)) s.map) left.nothing_pending

  cut_appended : appended cut_state ≡ appended s
  cut_appended = append-nil (s.order ++ s.pending)

  -- without rebuilt pages the base pages are those of the files
  base_is : s.now.rebuilt ≡ no_pages → (part index : ℕ) → laid_over s.now.rebuilt s.files part index ≡ pages_of s.shape.page_size (files_in old.world) part index
  base_is none part index = ap (λ (r : Partitions). laid_over r s.files part index) none ∙ ap (λ (f : Partitions). f part index) left.files

  -- nothing is done yet
  pub begins_none : (new : History) → AllMoments old new (IsSame old.world) → BeginsSteps told s old new
  begins_none new same = record {
    steps = [];
    can = tt;
    moments = weaker old new (IsSame old.world) (MakesPrefix [] s old.world) (λ w is. (0, omega arith, is)) same;
    added = refl;
    number = refl;
  }

  module _ {T E : Type 0} (mid new : History) (result : Result T E) (same : mid.world ≡ old.world) (first : AllMoments old mid (IsSame old.world)) (cut : DoesSteps {T = T} {E = E} mid new result cut_steps s.at) where
    prefixes : AllMoments old new (MakesPrefix cuts s old.world)
    prefixes =
        weaker old new (DoesPrefix cut_steps s.at old.world) (MakesPrefix cuts s old.world)
        (λ w some. prefix cut_steps s old.world w (subst (λ p. DoesPrefix cut_steps p old.world w) (sym left.at_end) some))
        (read_and_cut old mid new result s.at same first cut)

    pub begins_cut : BeginsSteps told s old new
    begins_cut = record { steps = cuts; can = cut_can; moments = prefixes; added = cut_appended; number = refl }

    pub cut_world : OnOk result (new.world ≡ worlds cuts s old.world)
    cut_world = on_ok_weaker result
        (λ done. done ∙ ap (world_after cut_steps s.at) same ∙ ap (λ p. world_after cut_steps p old.world) (sym left.at_end) ∙ sym (log_worlds cut_steps s old.world))
        cut.all

    cut_log : new.world ≡ worlds cuts s old.world → new.world.log ≡ (world_after cut_steps s.at old.world).log
    cut_log is = ap (λ (w : World). w.log) (is ∙ log_worlds cut_steps s old.world) ∙ ap (λ p. (world_after cut_steps p old.world).log) left.at_end

    -- where no checkpoint is to be ended, that is all
    pub cut_restores : with_end checkpoint ≡ checkpoint → s.now.rebuilt ≡ no_pages → new.world ≡ worlds cuts s old.world → Restores told checkpoint s old new
    cut_restores ended none is = record {
      steps = cuts;
      can = cut_can;
      moments = prefixes;
      is = is;
      restored = record {
        now = λ i. record { checkpoint = (left.now ∙ sym ended) i; rebuilt = none i };
        alone = left.alone;
        ready = refl;
        at = cut_at;
        at_end = left.at_end;
        nothing_pending = refl;
        shape = refl;
        files = (files_in old.world, left.files);
        map = cut_map;
        order = cut_order;
      };
      marks = keeps_marks checkpoint old.world new.world (ap (λ (w : World). w.starts) is) (ap (λ (w : World). w.ends) is);
      log = cut_log is;
      pages = λ part. record {
        stays = λ index bytes was. ap (λ (w : World). pages_of s.shape.page_size (files_in w) part index) is ∙ sym (base_is none part index) ∙ was;
        comes = λ index absent. inl (ap (λ (w : World). pages_of s.shape.page_size (files_in w) part index) is ∙ sym (base_is none part index) ∙ absent);
      };
    }

    -- and else the checkpoint is ended after it
    module _ (is : new.world ≡ worlds cuts s old.world) where
      pub begins_then : (last : History) → BeginsSteps told cut_state new last → BeginsSteps told s old last
      begins_then last begun = record {
        steps = cuts ++ begun.steps;
        can = can-append told cuts begun.steps s old.world cut_can (subst (λ (w : World). CanAll told begun.steps cut_state w) is begun.can);
        moments = moments_joined old new last cuts begun.steps s prefixes is begun.moments;
        added = ap appended state_then ∙ begun.added ∙ cut_appended;
        number = ap last_number state_then ∙ begun.number;
      }
        where
          state_then : states (cuts ++ begun.steps) s old.world ≡ states begun.steps cut_state new.world
          state_then = states_join cuts begun.steps s old.world ∙ ap (λ (w : World). states begun.steps cut_state w) (sym is)

      pub restores_then : (last : History) (mark : Mark) → checkpoint ≡ Started mark → EndsCheckpoint told mark cut_state new last → last.world.log ≡ new.world.log → Restores told checkpoint s old last
      restores_then last mark started ends log =
          let state : states (cuts ++ ends.steps) s old.world ≡ ended_state mark ends.files cut_state =
          states_join cuts ends.steps s old.world ∙ ap (λ (w : World). states ends.steps cut_state w) (sym is) ∙ ends.state in
          record {
            steps = cuts ++ ends.steps;
            can = can-append told cuts ends.steps s old.world cut_can (subst (λ (w : World). CanAll told ends.steps cut_state w) is ends.can);
            moments = moments_joined old new last cuts ends.steps s prefixes is ends.moments;
            is = world_joined old.world new.world last.world cuts ends.steps s is ends.is;
            restored = record {
              now = ap (λ (t : State). t.now) state ∙ (λ i. record { checkpoint = (ap with_end (sym started)) i; rebuilt = no_pages });
              alone = ap (λ (t : State). t.soon) state;
              ready = ap (λ (t : State). t.tail) state;
              at = ap (λ (t : State). t.at) state ∙ cut_at;
              at_end = ap (λ (t : State). t.end) state ∙ left.at_end;
              nothing_pending = ap (λ (t : State). t.pending) state;
              shape = ap (λ (t : State). t.shape) state;
              files = subst (λ (t : State). AreOfFiles t.shape.page_size t.files) (sym state) ends.of_files;
              map = ap (λ (t : State). t.map) state ∙ cut_map;
              order = ap (λ (t : State). t.order) state ∙ cut_order;
            };
            marks = subst (λ (c : Checkpoint). KeepsMarks c old.world last.world) (sym started) tt;
            log = log ∙ cut_log is;
            pages = ends.pages;
          }

-- ---- a checkpoint without its end marker

-- the pages that the log rebuilds are one
pub rebuilds_once : (mark : Mark) (log : ℕ → List ℕ) (one other : Partitions) → Rebuilds mark log one → Rebuilds mark log other → one ≡ other
rebuilds_once mark log one other a b =
    let same = same_range log mark.from mark.begin a.frames b.frames a.run b.run a.reaches b.reaches in
    same_Some one other (sym a.rebuilt ∙ ap (rebuilt_of mark.shape) same ∙ b.rebuilt)

pub may_end : (wanted : Shape) (told : List ℕ → ℕ) (mark : Mark) (kept : PageMap) (pages : List PageId) (s : State) (old new : History) (left : IsLeft wanted told (Started mark) s old.world)
    → new.world ≡ worlds (on_log cut_steps) s old.world → Rebuilds mark (contents old.world.log) (kept_pages kept) → kept.shape ≡ mark.shape → AreRebuilt pages (kept_pages kept)
    → MayEnd wanted told mark kept pages (states (on_log cut_steps) s old.world) new.world
may_end wanted told mark kept pages s old new left is rebuilds shaped pages_are = record {
  stands = subst (λ (w : World). Stands wanted told (states (on_log cut_steps) s old.world) w) (sym is)
      (run_stands wanted told (on_log cut_steps) s old.world left.stands (cut_can wanted told (Started mark) s old left));
  unended = record {
    runs = left.now;
    alone = left.alone;
    rebuilt = rebuilds_once mark (contents old.world.log) s.now.rebuilt (kept_pages kept) left.rebuilt rebuilds;
    shaped = sym left.shaped ∙ sym shaped;
  };
  pages_are = pages_are;
}

-- a call that failed
pub on_err : {T E : Type 0} (result : Result T E) (P : Type 0) → IsErr result → OnOk result P
on_err (Ok x) P is = absurd cc
on_err (Err e) P is = tt
