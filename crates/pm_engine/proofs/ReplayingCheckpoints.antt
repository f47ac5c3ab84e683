-- A checkpoint of a store that applies its log again: a restart applies the log from this place on then.
use Rattle.std.proofs.Common.{◌≡◌, ℕ, ◌+◌, ◌^◌, ◌<◌, inl, inr, List, [], ◌++◌, Option, Some, None, refl, sym, ap, ◌∙◌, subst, arith, append_assoc, append-nil}
use Rattle.std.specs.Prelude.{IsSome}
use Rattle.std.proofs.lemmas.Bool.{false≢true}
use Rattle.pm_types.specs.declared.page_id.PageId.{PageId}
use Rattle.pm_types.specs.declared.place.Place.{Place}
use Rattle.pm_types.specs.declared.shape.Mark.{Mark}
use Rattle.pm_types.specs.declared.shape.Shape.{Shape}
use Rattle.pm_frame.specs.Frames.{Frame}
use Rattle.pm_disk.specs.Worlds.{World}
use Rattle.pm_model.specs.Eval.{Pairs}
use Rattle.pm_records.specs.LogFiles.{HasLasting}
use Rattle.pm_records.specs.LogSteps.{frames_in}
use Rattle.pm_records.specs.Logs.{all_frames}
use Rattle.pm_marks.specs.Slots.{IsMarkPlace}
use Rattle.pm_pages.specs.Rows.{Partition}
use Rattle.pm_pages.specs.WellFormed.{IsWellFormed}
use Rattle.pm_core.specs.BasePages.{Partitions, counted, no_pages}
use Rattle.pm_core.specs.Calls.{MakesPrefix}
use Rattle.pm_core.specs.Machine.{DiskStep, CanAll, states, worlds}
use Rattle.pm_core.specs.PageLaws.{Grows}
use Rattle.pm_core.specs.PageSets.{AreOnce}
use Rattle.pm_core.specs.Prefixes.{last_number}
use Rattle.pm_core.specs.Replays.{all_replayed}
use Rattle.pm_core.specs.Stands.{IsGood, IsViewOf, RebuiltIsLasting}
use Rattle.pm_core.specs.Starts.{appended}
use Rattle.pm_core.specs.States.{State}
use Rattle.pm_core.proofs.Junk.{counted_same, pairs_same}
use Rattle.pm_core.proofs.Replaying.{replayed-append}
use Rattle.pm_ckpt.specs.Checkpoints.{CanCheckpoint, IsStateAfter, whole_steps}
use Rattle.pm_ckpt.specs.Marked.{number_after, begin_frame, begin_log}
use Rattle.pm_ckpt.specs.Writes.{Writing}
use Rattle.pm_engine.specs.LineChains.{NameTheSame, renamed}
use Rattle.pm_engine.specs.RunningStores.{number_of}
use Rattle.pm_engine.specs.Replays.{AreLasting, CrashHoldsMap}
use Rattle.pm_engine.specs.RunningLines.{KeepsLines}
use Rattle.pm_engine.specs.RunningStores.{StoreState, RunsOver, HasSegmentsFor, MakesNewest, map_of, mark_at, checkpointed_at, ended_with}
use Rattle.pm_engine.proofs.CheckpointedLines.{begin_no_map}
use Rattle.pm_engine.proofs.CheckpointedStores.{store_checkpointed, leads_after, t_first, t_appended, t_pending}
use Rattle.pm_engine.proofs.GrownStores.{unlogged, log_grown, first_grown}
use Rattle.pm_engine.proofs.LineChains.{tracks_renamed, log_renamed}
use Rattle.pm_engine.proofs.RisenNumbers.{mark_rises}
use Rattle.pm_engine.proofs.ReplayingStores.{newest, between_holds}
use Rattle.pm_engine.proofs.RisenLogs.{grown_rises}
use Rattle.pm_engine.proofs.RunningCheckpoints.{is_mark, may_checkpoint, leads_begun}
use Rattle.pm_engine.proofs.RunningLines.{keeps_still, map_further, no_map_all, number_at_rest}

-- ---- whatever the newest map is

-- the logged pages are named in another order
pub over_renamed : (wanted : Shape) (told : List ℕ → ℕ) (store : StoreState) (pairs : Pairs) (s : State) (w : World) (names : List PageId) → RunsOver wanted told store pairs s w → NameTheSame store.logged names → AreOnce names → RunsOver wanted told (renamed store names) pairs s w
over_renamed wanted told store pairs s w names runs same once = record {
  is_shape = runs.is_shape;
  is_mark = runs.is_mark;
  frames = runs.frames;
  log = log_renamed wanted told store names runs.frames pairs s w runs.log;
  files = runs.files;
  tracks = tracks_renamed store.shape runs.frames runs.files store.pages store.logged names same runs.tracks;
  grows = runs.grows;
  holds = record { well_formed = runs.holds.well_formed; first_pages = runs.holds.first_pages; once = once };
}

-- no page of a file is pending while no checkpoint runs
module _ (wanted : Shape) (told : List ℕ → ℕ) (store : StoreState) (pairs : Pairs) (s : State) (w : World) (runs : RunsOver wanted told store pairs s w) where
  pub good_now : IsGood wanted s w.log w.pages s.now
  good_now = runs.log.stands.good s.now (subst (λ o. IsViewOf s.now o s.now) (sym runs.log.alone) refl)

  pub none_rebuilt : s.now.rebuilt ≡ no_pages
  none_rebuilt = by store.mark runs.log.checkpoint
    where
      by : (m : Option Mark) → s.now.checkpoint ≡ ended_with m → s.now.rebuilt ≡ no_pages
      by None is = subst (λ c. RebuiltIsLasting c w.log s.low s.at s.now.rebuilt) is good_now.rebuilt_lasts
      by (Some m) is = subst (λ c. RebuiltIsLasting c w.log s.low s.at s.now.rebuilt) is good_now.rebuilt_lasts

  pub files_settled : (part : ℕ) → (w.pages part).since ≡ []
  files_settled part = elim (good_now.calm part) [
    | inl none ↦ none
    | inr there ↦ let some : IsSome (no_pages part there.0) = subst (λ (p : Partitions). IsSome (p part there.0)) none_rebuilt there.1 in absurd cc
  ]

-- without logged pages it runs also with more of what the partitions' files have
module _ (wanted : Shape) (told : List ℕ → ℕ) (store : StoreState) (was now : Partitions) (pairs : Pairs) (s : State) (w : World) (grows : (part : ℕ) → part < store.shape.partitions → Grows (was part) (now part))
    (within : (part : ℕ) → part < store.shape.partitions → Grows (now part) (s.files part)) (runs : RunsOver wanted told (unlogged store was) pairs s w) where
  same : (part : ℕ) → part < store.shape.partitions → counted (now part) ≡ counted (was part)
  same part inside = counted_same store.shape part (was part) (now part) (runs.holds.well_formed part inside) (grows part inside)

  pub over_map : map_of (unlogged store now) ≡ map_of (unlogged store was)
  over_map = pairs_same store.shape.partitions was now same

  pub over_grown : RunsOver wanted told (unlogged store now) pairs s w
  over_grown = record {
    is_shape = runs.is_shape;
    is_mark = runs.is_mark;
    frames = runs.frames;
    log = log_grown wanted told store was now runs.frames pairs s w runs.log;
    files = now;
    tracks = record {
      rebuilt = runs.tracks.rebuilt;
      is = runs.tracks.is;
      each = runs.tracks.each;
      there = λ part index has. absurd (false≢true has);
      clean = λ part index inside none. refl;
    };
    grows = within;
    holds = record {
      well_formed = λ part inside. subst (λ (pages : Partition). IsWellFormed store.shape part pages) (sym (same part inside)) (runs.holds.well_formed part inside);
      first_pages = λ part index inside some. first_grown (was part) (now part) index (grows part inside) (runs.holds.first_pages part index inside) some;
      once = tt;
    };
  }

-- ---- its checkpoint

module _ (wanted : Shape) (told : List ℕ → ℕ) (pairs : Pairs) (store : StoreState) (from : Place) (left : List Frame) (s : State) (w : World) (runs : RunsOver wanted told store pairs s w) (keeps : KeepsLines store.shape 0 pairs [] s.first (appended s))
    (lasts : AreLasting from left store.shape pairs s w) (makes : all_replayed store.shape left (Some (map_of store)) ≡ Some pairs) (fits : IsMarkPlace from) (numbered : number_after store.mark < 2 ^ 64) (segments : HasSegmentsFor store.log 1) where
  abbrev shape : Shape
  shape = store.shape

  abbrev mark : Mark
  mark = mark_at store (Some from)

  -- the frames from its place on make the newest map of the map of the pages
  pub newest_from : MakesNewest (Some from) store pairs s w
  newest_from = record {
    fits = fits;
    frames = left ++ lasts.later;
    leads = lasts.leads;
    makes = ap (λ (l : List Frame). all_replayed shape l (Some (map_of store))) (append_assoc left lasts.later s.pending)
        ∙ replayed-append shape left (lasts.later ++ s.pending) (Some (map_of store))
        ∙ ap (all_replayed shape (lasts.later ++ s.pending)) makes ∙ lasts.stays;
  }

  pub can_check : CanCheckpoint wanted told s store.log mark store.pages store.logged w
  can_check = may_checkpoint wanted told store pairs (Some from) s w runs newest_from numbered segments

  module _ (can : CanCheckpoint wanted told s store.log mark store.pages store.logged w) (xs : List Writing) (guards : CanAll told (whole_steps store.log mark can.rebuilt store.pages xs s w) s w)
      (leaves : IsStateAfter store.log mark (states (whole_steps store.log mark can.rebuilt store.pages xs s w) s w)) where
    abbrev whole : List DiskStep
    whole = whole_steps store.log mark can.rebuilt store.pages xs s w

    abbrev t : State
    t = states whole s w

    abbrev v : World
    v = worlds whole s w

    abbrev begins : List Frame
    begins = frames_in (begin_log store.log mark)

    no_map : (p : Pairs) → all_replayed shape begins (Some p) ≡ Some p
    no_map p = no_map_all shape begins p (begin_no_map shape store.log mark (is_mark wanted told store pairs (Some from) s w runs newest_from numbered))

    keeps_all : KeepsLines shape 0 pairs [] s.first (appended t)
    keeps_all =
        subst (λ (l : List Frame). KeepsLines shape 0 pairs [] s.first l) (sym (t_appended wanted told store pairs (Some from) s w runs newest_from numbered segments can xs guards leaves))
        (keeps_still shape 0 pairs [] s.first pairs (appended s) begins keeps (newest wanted told pairs store s w runs keeps) refl
        (begin_no_map shape store.log mark (is_mark wanted told store pairs (Some from) s w runs newest_from numbered)))

    pub keeps_then : KeepsLines shape 0 pairs [] t.first (appended t)
    keeps_then = subst (λ (p : Pairs). KeepsLines shape 0 pairs [] p (appended t)) (sym (t_first wanted told store pairs (Some from) s w runs newest_from numbered segments can xs guards leaves)) keeps_all

    pub lasts_then : AreLasting from left shape pairs t v
    lasts_then =
        let after_left : List Frame = (lasts.later ++ s.pending) ++ begins in
        let whole_is : ((left ++ lasts.later) ++ s.pending) ++ begins ≡ left ++ after_left =
        ap (λ (l : List Frame). l ++ begins) (append_assoc left lasts.later s.pending) ∙ append_assoc left (lasts.later ++ s.pending) begins in
        let none : t.pending ≡ [] = t_pending wanted told store pairs (Some from) s w runs newest_from numbered segments can xs guards leaves in
        record {
          later = after_left;
          leads = subst (λ (l : List Frame). HasLasting all_frames v.log t.low t.at from l) whole_is
              (leads_after wanted told store pairs (Some from) s w runs newest_from numbered segments can xs guards leaves (((left ++ lasts.later) ++ s.pending) ++ begins)
              (leads_begun wanted told store pairs (Some from) s w runs newest_from numbered segments from (left ++ lasts.later) lasts.leads));
          stays = ap (λ (l : List Frame). all_replayed shape (after_left ++ l) (Some pairs)) none ∙ ap (λ (l : List Frame). all_replayed shape l (Some pairs)) (append-nil after_left)
              ∙ replayed-append shape (lasts.later ++ s.pending) begins (Some pairs) ∙ ap (all_replayed shape begins) lasts.stays ∙ no_map pairs;
        }

    pub runs_then : RunsOver wanted told (checkpointed_at store (Some from)) pairs t v
    runs_then = store_checkpointed wanted told store pairs (Some from) s w runs newest_from numbered segments can xs guards leaves

    -- whatever a crash leaves meanwhile
    pub checks_hold : (now : World) → MakesPrefix whole s w now → CrashHoldsMap (store.log.end.seg + 2) (number_of store.mark + 1) wanted shape pairs now
    checks_hold now some =
        map_further (t.end.seg + 1) (last_number t) (store.log.end.seg + 2) (number_of store.mark + 1) wanted shape pairs now
        (omega (arith, ap (λ (p : Place). p.seg) leaves.ends, grown_rises store.log (begin_frame mark)))
        (omega (arith, number_at_rest t (Some mark) leaves.alone leaves.checkpoint, mark_rises store.mark)) (between_holds wanted told pairs store s w runs keeps whole guards keeps_all now some)
